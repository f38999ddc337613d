-- A file with a normal form has no fault in a method.
use Rattle.std.proofs.Common.{◌≡◌, ◌∙◌, ap, ℕ, ◌+◌, suc, zero, inl, inr, Bool, true, false, nat_eq, List, [], Some, None, get_or, length, refl, sym, subst, arith}
use Rattle.std.specs.Prelude.{slice_get}
use Rattle.std.proofs.lemmas.Option.{slice_get_within}
use Rattle.text_source.specs.declared.span.Span.{Span}
use Rattle.text_tree.specs.declared.tree.Bound.{Bound}
use Rattle.text_tree.specs.declared.tree.Encoding.{Encoding as TreeEncoding}
use Rattle.text_tree.specs.declared.tree.Encoding.TheVariants as trees
use Rattle.text_tree.specs.declared.tree.Expr.{Expr as Tree}
use Rattle.text_tree.specs.declared.tree.Method.{Method as TreeMethod}
use Rattle.text_tree.specs.declared.tree.Part.{Part}
use Rattle.text_tree.specs.declared.tree.Section.{Section}
use Rattle.sem_library.specs.Methods.{Spells}
use Rattle.sem_profile.specs.declared.fault.ProfileFault.{ProfileFault}
use Rattle.sem_profile.specs.declared.profile.Format.{Format}
use Rattle.sem_profile.specs.declared.profile.Method.{Method}
use Rattle.sem_profile.specs.Words.{word}
use Rattle.sem_profile.proofs.FieldsRuling.{there}
use Rattle.sem_graph.proofs.OrderPushing.{some_is, get_pushed}
use Rattle.text_statements.specs.Constants.{IsValue}
use Rattle.text_statements.specs.Names.{Names, names}
use Rattle.text_sections.specs.declared.mention.Mention.{Mention}
use Rattle.text_sections.specs.declared.mention.Group.TheVariants as groups
use Rattle.text_sections.specs.Mentions.{is_in}
use Rattle.text_sections.specs.Names.{NameCause, FieldCause, field}
use Rattle.text_statements.specs.declared.callee.Methods.{Methods}
use Rattle.text_statements.specs.Initial.{IsInitial, IsEncoded, is_encoded, AreArguments, are_arguments, is_uncompressed_value, IsNoInitial, has_bracket, other_encoding, IsNotEncoded, bit_text, other_method, other_arguments, AreNoArguments, wrong_count, bad_length, bad_value, does_not_fit, no_constant, not_spelled}
use Rattle.text_statements.specs.Initials.{bounds_in, AreInitials, no_values, first, again, HasNoValue, has_no_value}
use Rattle.text_methods.specs.declared.drafts.Setting.{Setting}
use Rattle.text_methods.specs.Formats.{IsFormat}
use Rattle.text_methods.specs.declared.methods.FileSetting.{FileSetting}
use Rattle.text_methods.specs.MethodFormats.{AreFormats, no_sections, gives, gives_none, FormatCause}
use Rattle.text_methods.specs.MethodFormats as listing
use Rattle.text_methods.specs.Methods.{bare_scope, distinct_words, IsSetting, IsMethod, MethodCause, in_names, in_body, in_initial, in_format, in_default}
use Rattle.text_resolve.specs.Excluded.{NoCauseOfMethods}
use Rattle.text_resolve.specs.Methods.{constant_mentions, IsFile, form_cause, in_method}
use Rattle.text_resolve.specs.Parts.{constants_of, constant_names, methods_of}
use Rattle.text_resolve.proofs.MethodsBridging.{method_formed, as_many}
use Rattle.text_resolve.proofs.ExcludedFileNames.{value_right}
use Rattle.text_resolve.proofs.MethodsOneFaults.{SameMethods, TellTheSame, same_format_faults, same_default_fault}
use Rattle.text_resolve.proofs.PlainForms.{value_one, values_one}
use Rattle.text_resolve.proofs.MethodsRightFormats.{NamesAreRight, format_right}

-- ---- INITIAL

-- the value of the statement at the place
value_there : (s : Names) (bs : List Bound) (ns : List (List ℕ)) (vs : List (List Bool)) → AreInitials s bs ns vs → (k : ℕ) (b : Bound) → slice_get bs k ≡ Some b → (bits : List Bool) × IsInitial s b bits
value_there s bs ns vs no_values k b at = let wrong : None ≡ Some b = at in absurd cc
value_there s bs ns vs (first {bs = before} {names = n} {values = v} c bits are new is) k b at = elim (get_pushed before c k b at) as (λ _. (bits : List Bool) × IsInitial s b bits) [
  | inl earlier ↦ value_there s before n v are k b earlier
  | inr last ↦ (bits, subst (λ z. IsInitial s z bits) last.1 is)
]
value_there s bs ns vs (again {bs = before} {names = n} {values = v} c bits are old is) k b at = elim (get_pushed before c k b at) as (λ _. (bits : List Bool) × IsInitial s b bits) [
  | inl earlier ↦ value_there s before n v are k b earlier
  | inr last ↦ (bits, subst (λ z. IsInitial s z bits) last.1 is)
]

no_arguments : (s : Names) (at : Span) (xs ys : List Tree) (bits : List Bool) (f : ProfileFault) → xs ≡ ys → AreArguments s xs bits → AreNoArguments s at ys f → ⊥
no_arguments s at xs ys bits f e (are_arguments count value is_count is_value spelled) (wrong_count other) =
    let wrong : true ≡ false = ap (λ (l : List Tree). nat_eq (length l) 2) e ∙ other in absurd cc
no_arguments s at xs ys bits f e (are_arguments {x = x} {y = y} count value is_count is_value spelled) (bad_length {x = z} (no_constant {f = g} fault)) =
    let same : x ≡ z = ap (λ l. get_or l 0 x) e in value_right s z count g (subst (λ t. IsValue s t count) same is_count) fault
no_arguments s at xs ys bits f e (are_arguments {x = x} {y = y} count value is_count is_value spelled) (bad_value {y = z} (no_constant {f = g} fault)) =
    let same : y ≡ z = ap (λ l. get_or l 1 y) e in value_right s z value g (subst (λ t. IsValue s t value) same is_value) fault
no_arguments s at xs ys bits f e (are_arguments {x = x} {y = y} count value is_count is_value spelled) (does_not_fit {x = z} {y = w} other_count other_value is_other is_other_value (not_spelled none)) =
    let first_same : x ≡ z = ap (λ l. get_or l 0 x) e in
    let second_same : y ≡ w = ap (λ l. get_or l 1 y) e in
    let counts = value_one s z count other_count (subst (λ t. IsValue s t count) first_same is_count) is_other in
    let values = value_one s w value other_value (subst (λ t. IsValue s t value) second_same is_value) is_other_value in
    none bits (subst (λ z. Spells z other_value bits) counts (subst (λ z. Spells count z bits) values spelled))

abbrev name_in : Span → TreeEncoding → Span
name_in d (trees.Call name arguments) = name
name_in d (trees.Bits at count value) = d

abbrev arguments_in : TreeEncoding → List Tree
arguments_in (trees.Call name arguments) = arguments
arguments_in (trees.Bits at count value) = []

no_encoding : (s : Names) (at : Span) (e g : TreeEncoding) (bits : List Bool) (f : ProfileFault) → e ≡ g → IsEncoded s e bits → IsNotEncoded s at g f → ⊥
no_encoding s at e g bits f same (is_encoded {name = name} {arguments = xs} named are) (bit_text {at = place} {count = count} {value = value}) =
    let wrong : trees.Call name xs ≡ trees.Bits place count value = same in absurd cc
no_encoding s at e g bits f same (is_encoded {name = name} {arguments = xs} named are) (other_method {name = other} is) =
    let one_name : name ≡ other = ap (name_in name) same in
    let wrong : true ≡ false = sym named ∙ (ap (λ n. is_uncompressed_value (word s.text n)) one_name ∙ is) in
    absurd cc
no_encoding s at e g bits f same (is_encoded {name = name} {arguments = xs} named are) (other_arguments {arguments = ys} none) = no_arguments s at xs ys bits f (ap arguments_in same) are none

no_initial : (s : Names) (b : Bound) (bits : List Bool) (f : ProfileFault) → IsInitial s b bits → IsNoInitial s b f → ⊥
no_initial s b bits f is (has_bracket bracket there_is) = let wrong : None ≡ Some bracket = sym is.no_bracket ∙ there_is in absurd cc
no_initial s b bits f is (other_encoding none) = no_encoding s b.name b.encoding b.encoding bits f refl is.encoded none

initials_right : (s : Names) (bs : List Bound) (ns : List (List ℕ)) (vs : List (List Bool)) → AreInitials s bs ns vs → (f : ProfileFault) → HasNoValue s bs f → ⊥
initials_right s bs ns vs are f (has_no_value k b at none first_of_all) = let value = value_there s bs ns vs are k b at in no_initial s b value.0 f value.1 none

-- ---- formats

format_there : (x : Setting) (n : ℕ) (sections : List Section) (fs : List Format) → AreFormats x n sections fs → (k : ℕ) (section : Section) → slice_get sections k ≡ Some section
    → is_in groups.Formats section.kind ≡ true → (f : Format) × IsFormat x (n + k) section f
format_there x n sections fs no_sections k section at kind = let wrong : None ≡ Some section = at in absurd cc
format_there x n sections fs (gives {section = s} {format = f} is form rest) zero section at kind =
    let here : n ≡ n + 0 = omega arith in (f, subst (λ j. IsFormat x j section f) here (subst (λ z. IsFormat x n z f) (some_is at) form))
format_there x n sections fs (gives_none {section = s} is rest) zero section at kind =
    let wrong : true ≡ false = sym kind ∙ (ap (λ (z : Section). is_in groups.Formats z.kind) (sym (some_is at)) ∙ is) in absurd cc
format_there x n sections fs (gives {sections = more} {formats = others} is form rest) (suc k) section at kind =
    let next : n + 1 + k ≡ n + suc k = omega arith in
    let found = format_there x (n + 1) more others rest k section at kind in
    (found.0, subst (λ j. IsFormat x j section found.0) next found.1)
format_there x n sections fs (gives_none {sections = more} is rest) (suc k) section at kind =
    let next : n + 1 + k ≡ n + suc k = omega arith in
    let found = format_there x (n + 1) more fs rest k section at kind in
    (found.0, subst (λ j. IsFormat x j section found.0) next found.1)

-- ---- a method

-- two settings of a file tell the same of it
record TellOneFile (file other : FileSetting) : Type 0 where
  text : file.text.now ≡ other.text.now
  constants : file.constants.now ≡ other.constants.now
  values : file.values.now ≡ other.values.now
  methods : SameMethods file.methods.now other.methods.now

settings_alike : (file other : FileSetting) (m : TreeMethod) (x y : Setting) → TellOneFile file other → IsSetting file m x → IsSetting other m y → TellTheSame x y
settings_alike file other m x y same a b = record {
  text = a.text_is ∙ (same.text ∙ sym b.text_is);
  constants = a.constants_are ∙ (same.constants ∙ sym b.constants_are);
  values = a.values_are ∙ (same.values ∙ sym b.values_are);
  parameters = a.parameters_are ∙ (ap (λ t. distinct_words t m.parameters) same.text ∙ sym b.parameters_are);
  sections = a.sections_are ∙ sym b.sections_are;
  methods = record {
    names = ap (λ (z : Methods). z.names.now) a.methods_are ∙ (same.methods.names ∙ ap (λ (z : Methods). z.names.now) (sym b.methods_are));
    arities = ap (λ (z : Methods). z.arities.now) a.methods_are ∙ (same.methods.arities ∙ ap (λ (z : Methods). z.arities.now) (sym b.methods_are));
  };
}

method_right : (file other : FileSetting) (constants : List Mention) (m : TreeMethod) (is_top : Bool) (r : Method) → TellOneFile file other → IsMethod file constants m is_top r
    → (f : ProfileFault) → MethodCause other constants m f → ⊥
method_right file other constants m is_top r same is f (in_names cause) = is.named f (subst (λ t. NameCause t constants m f) (sym same.text) cause)
method_right file other constants m is_top r same is f (in_body (in_initial cause)) =
    let scopes : bare_scope other m ≡ bare_scope file m =
    λ i. names (sym same.text i) (sym same.constants i) (sym same.values i) (distinct_words (sym same.text i) m.parameters) [] in
    initials_right (bare_scope file m) (bounds_in m.sections) is.body.givens.names is.body.givens.values is.body.given.initials f (subst (λ s. HasNoValue s (bounds_in m.sections) f) scopes cause)
method_right file other constants m is_top r same is f (in_body (in_format {x = y} setting (listing.in_format {section = section} k at kind e))) =
    let x = is.body.setting in
    let alike = settings_alike file other m x y same is.body.is_setting setting in
    let section_at : slice_get x.sections.now k ≡ Some section = ap (λ l. slice_get l k) alike.sections ∙ at in
    let own : slice_get m.sections k ≡ Some section = ap (λ l. slice_get l k) (sym is.body.is_setting.sections_are) ∙ section_at in
    let names_right : NamesAreRight x = λ g cause. is.named g (field (subst (λ t. FieldCause t m.sections g) is.body.is_setting.text_is (subst (λ l. FieldCause x.text.now l g) is.body.is_setting.sections_are cause))) in
    let zero_k : 0 + k ≡ k = omega arith in
    let form = format_there x 0 m.sections r.formats is.body.formats_are k section own kind in
    let fine = format_right x k section form.0 names_right section_at kind (subst (λ j. IsFormat x j section form.0) zero_k form.1) in
    let wrong : None ≡ Some f = sym fine ∙ (same_format_faults x y alike k section ∙ e) in
    absurd cc
method_right file other constants m is_top r same is f (in_body (in_default {x = y} setting e)) =
    let alike = settings_alike file other m is.body.setting y same is.body.is_setting setting in
    let wrong : None ≡ Some f = sym is.body.defaults ∙ (same_default_fault is.body.setting y alike ∙ e) in
    absurd cc

one_file : (text : List ℕ) (parts : List Part) (file other : FileSetting) → IsFile text parts file → IsFile text parts other → TellOneFile file other
one_file text parts file other a b = record {
  text = a.text_is ∙ sym b.text_is;
  constants = a.constants_are ∙ sym b.constants_are;
  values = values_one text (constant_names text parts) (constants_of parts) (constants_of parts) file.values.now other.values.now refl a.values_are b.values_are;
  methods = record { names = a.methods_are ∙ sym b.methods_are; arities = a.arities_are ∙ sym b.arities_are };
}

pub no_cause_of_methods : NoCauseOfMethods
no_cause_of_methods text parts name p form f (form_cause {file = other} is_file (in_method {m = m} k at cause)) =
    let have = form.forms in
    let many = as_many have.file (constant_mentions parts) (Some p.top) 0 (methods_of parts) form.all have.are_methods in
    let r = there form.all k (omega (arith, slice_get_within (methods_of parts) k m at, many)) in
    let formed = method_formed have.file (constant_mentions parts) (Some p.top) 0 (methods_of parts) form.all have.are_methods k r.0 r.1 in
    let same : formed.tree ≡ m = some_is (sym formed.at ∙ at) in
    method_right have.file other (constant_mentions parts) formed.tree _ r.0 (one_file text parts have.file other have.is_file is_file) formed.is_method f
    (subst (λ z. MethodCause other (constant_mentions parts) z f) (sym same) cause)
