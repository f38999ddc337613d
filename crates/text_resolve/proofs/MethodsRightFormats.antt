-- A section that gives a format has no fault, nor has a statement of it that no field is encoded by.
use Rattle.std.proofs.Common.{◌≡◌, ◌∙◌, ap, ℕ, ◌+◌, suc, zero, true, false, List, [], ◌∷◌, ◌++◌, Option, Some, None, fold, refl, sym, subst, arith}
use Rattle.std.specs.Prelude.{slice_get, is_some, option_and_then}
use Rattle.std.specs.List.{AllZip, cons_option}
use Rattle.std.specs.Option.{option_map, option_or}
use Rattle.std.proofs.lemmas.Option.{slice_get-map}
use Rattle.text_tree.specs.declared.tree.Bound.{Bound}
use Rattle.text_tree.specs.declared.tree.Item.{Item}
use Rattle.text_tree.specs.declared.tree.Item.TheVariants as items
use Rattle.text_tree.specs.declared.tree.Section.{Section}
use Rattle.text_tree.specs.declared.tree.SectionKind.{SectionKind}
use Rattle.text_tree.specs.declared.tree.SectionKind.TheVariants as kinds
use Rattle.sem_profile.specs.declared.fault.ProfileFault.{ProfileFault}
use Rattle.sem_profile.specs.declared.profile.Encoding.{Encoding}
use Rattle.sem_profile.specs.declared.profile.Format.{Format}
use Rattle.sem_profile.specs.Precedence.{earlier}
use Rattle.sem_profile.specs.Words.{word}
use Rattle.sem_graph.proofs.OrderPushing.{some_is}
use Rattle.text_statements.specs.Names.{Names}
use Rattle.text_sections.specs.declared.mention.Mention.{Mention}
use Rattle.text_sections.specs.declared.mention.Group.TheVariants as groups
use Rattle.text_sections.specs.Causes.{is_one_of}
use Rattle.text_sections.specs.Fields.{in_field_order, encoding as encoding_by, encoding_of}
use Rattle.text_sections.specs.Mentions.{is_in, needs_context, mention_of, mentions_from, mentions_in, first_of, encoded}
use Rattle.text_sections.specs.Names.{FieldCause, encoding, section as section_cause, in_format_too, in_section, second_in_section}
use Rattle.text_statements.specs.declared.callee.Methods.{Methods}
use Rattle.text_methods.specs.declared.drafts.Setting.{Setting}
use Rattle.text_methods.specs.Drafts.{base, default, own, fields, scope, chosen, encodings_fault, constraints_fault}
use Rattle.text_methods.specs.Encodings.{FieldMeans, given, given_fault, field_fault, own_fault, format_fault}
use Rattle.text_methods.specs.Constraints.{statements}
use Rattle.text_methods.specs.Formats.{IsFormat}
use Rattle.text_resolve.proofs.MethodsMentioned.{get_right, from_filter, into_filter, found, is_found, some_of, each_once, firsts_find}
use Rattle.text_resolve.proofs.MethodsRightStatements.{given_right, numbered_right}
use Rattle.text_resolve.proofs.MethodsStanding.{in_group}

-- ---- lists

pub fold_none : {X : Type 0} (judge : X → Option ProfileFault) (xs : List X) → ((i : ℕ) (x : X) → slice_get xs i ≡ Some x → judge x ≡ None) → (o : Option ProfileFault) → o ≡ None
    → fold (λ found x. earlier found (judge x)) o xs ≡ None
fold_none judge [] each o e = e
fold_none judge (x ∷ xs) each o e = fold_none judge xs (λ i y at. each (suc i) y at) (earlier o (judge x)) (λ i. earlier (e i) (each 0 x refl i))

after_option : {X : Type 0} (o : Option X) (xs : List X) (j : ℕ) (x : X) → slice_get xs j ≡ Some x → (i : ℕ) × (slice_get (cons_option o xs) i ≡ Some x)
after_option (Some y) xs j x at = (suc j, at)
after_option None xs j x at = (j, at)

-- ---- the statement that encodes a field

abbrev mention_at : List ℕ → ℕ → ℕ → Bound → Mention
mention_at text section place b = record { name = b.name; section = section; item = place; is_encoded = true; needs_context = needs_context text b.encoding }

bound_mentioned : (text : List ℕ) (section first : ℕ) (xs : List Item) (q : ℕ) (b : Bound) → slice_get xs q ≡ Some (items.Bound b)
    → (j : ℕ) × (slice_get (mentions_from text section first xs) j ≡ Some (mention_at text section (first + q) b))
bound_mentioned text section first [] q b at = let wrong : None ≡ Some (items.Bound b) = at in absurd cc
bound_mentioned text section first (x ∷ xs) zero b at =
    let here : first ≡ first + 0 = omega arith in
    (0, ap (λ item. slice_get (cons_option (mention_of text section first item) (mentions_from text section (first + 1) xs)) 0) (some_is at) ∙ ap (λ n. Some (mention_at text section n b)) here)
bound_mentioned text section first (x ∷ xs) (suc q) b at =
    let next : first + 1 + q ≡ first + suc q = omega arith in
    let rest = bound_mentioned text section (first + 1) xs q b at in
    after_option (mention_of text section first x) (mentions_from text section (first + 1) xs) rest.0 (mention_at text section (first + suc q) b)
    (rest.1 ∙ ap (λ n. Some (mention_at text section n b)) next)

no_base : (kind : SectionKind) → is_in groups.Formats kind ≡ true → is_in groups.Base kind ≡ false
no_base kinds.Uncompressed e = absurd cc
no_base kinds.Control e = absurd cc
no_base kinds.Initial e = absurd cc
no_base kinds.Default e = absurd cc
no_base (kinds.Compressed name) e = refl

-- nothing is wrong with the names of the setting's method
abbrev pub NamesAreRight : Setting → Type 0
NamesAreRight x = (f : ProfileFault) → FieldCause x.text.now x.sections.now f → ⊥

-- a statement of a format's section that gives an encoding
pub record Gives (x : Setting) (k : ℕ) (section : Section) (q : ℕ) (b : Bound) : Type 0 where
  pub names : NamesAreRight x
  pub section_at : slice_get x.sections.now k ≡ Some section
  pub kind : is_in groups.Formats section.kind ≡ true
  pub at : slice_get section.items q ≡ Some (items.Bound b)

own_there : (x : Setting) (k : ℕ) (section : Section) (q : ℕ) (b : Bound) → Gives x k section q b → (j : ℕ) × (slice_get (own x k section) j ≡ Some (mention_at x.text.now k q b))
own_there x k section q b gives =
    let zero_q : 0 + q ≡ q = omega arith in
    let there = bound_mentioned x.text.now k 0 section.items q b gives.at in
    (there.0, there.1 ∙ ap (λ n. Some (mention_at x.text.now k n b)) zero_q)

first_own : (x : Setting) (k : ℕ) (section : Section) (q : ℕ) (b : Bound) → Gives x k section q b → first_of x.text.now (encoded (own x k section)) (word x.text.now b.name) ≡ Some (mention_at x.text.now k q b)
first_own x k section q b gives =
    let text = x.text.now in
    let mine = mention_at text k q b in
    let there = own_there x k section q b gives in
    let kept = into_filter (λ (m : Mention). m.is_encoded) (own x k section) there.0 mine there.1 refl in
    let one_there = some_of (first_of text (encoded (own x k section)) (word text b.name)) (is_found text (encoded (own x k section)) kept.0 mine kept.1) in
    let is = found text (encoded (own x k section)) (word text b.name) one_there.0 one_there.1 in
    let stands = from_filter (λ (m : Mention). m.is_encoded) (own x k section) is.place one_there.0 is.at in
    let once = each_once text (own x k section) (λ f second. gives.names f (section_cause (in_section k gives.section_at (second_in_section (no_base section.kind gives.kind) second))))
    stands.0 there.0 one_there.0 mine stands.1 there.1 (sym is.named) in
    let same : one_there.0 ≡ mine = some_is (sym stands.1 ∙ (ap (slice_get (own x k section)) once ∙ there.1)) in
    one_there.1 ∙ ap Some same

none_before : (x : Setting) (k : ℕ) (section : Section) (q : ℕ) (b : Bound) → Gives x k section q b → first_of x.text.now (base x) (word x.text.now b.name) ≡ None
none_before x k section q b gives = by (first_of x.text.now (base x) (word x.text.now b.name)) refl
  where
    by : (o : Option Mention) → first_of x.text.now (base x) (word x.text.now b.name) ≡ o → first_of x.text.now (base x) (word x.text.now b.name) ≡ None
    by None e = e
    by (Some s) e =
        let mine = mention_at x.text.now k q b in
        let there = own_there x k section q b gives in
        let stands = in_group x.text.now groups.Formats x.sections.now k section there.0 mine gives.section_at gives.kind there.1 in
        let kept = into_filter (λ (m : Mention). m.is_encoded) (mentions_in x.text.now groups.Formats 0 x.sections.now) stands.0 mine stands.1 refl in
        absurd (gives.names _ (encoding (in_format_too (is_one_of kept.0 kept.1 (ap (option_map _) e)))))

-- what encodes a field of its name
chosen_for : (x : Setting) (k : ℕ) (section : Section) (q : ℕ) (b : Bound) → Gives x k section q b → (name : List ℕ) → word x.text.now b.name ≡ name
    → option_or (option_or (first_of x.text.now (base x) name) (first_of x.text.now (encoded (own x k section)) name)) (first_of x.text.now (default x) name) ≡ Some (mention_at x.text.now k q b)
chosen_for x k section q b gives name named =
    let looked = λ (n : List ℕ). option_or (option_or (first_of x.text.now (base x) n) (first_of x.text.now (encoded (own x k section)) n)) (first_of x.text.now (default x) n) in
    subst (λ n. looked n ≡ Some (mention_at x.text.now k q b)) named
    (λ i. option_or (option_or (none_before x k section q b gives i) (first_own x k section q b gives i)) (first_of x.text.now (default x) (word x.text.now b.name)))

-- a field of the format is encoded by it
own_chosen : (x : Setting) (k : ℕ) (section : Section) (q : ℕ) (b : Bound) → Gives x k section q b → (i : ℕ) × (slice_get (chosen x k section) i ≡ Some (Some (mention_at x.text.now k q b)))
own_chosen x k section q b gives =
    let text = x.text.now in
    let name = word text b.name in
    let mine = mention_at text k q b in
    let there = own_there x k section q b gives in
    let before = mentions_in text groups.Header 0 x.sections.now ++ mentions_in text groups.Control 0 x.sections.now in
    let in_order = get_right before (own x k section) there.0 mine there.1 in
    let known : is_some (first_of text (fields x k section) name) ≡ true =
    ap is_some (firsts_find text (in_field_order text x.sections.now (own x k section)) name) ∙ is_found text (in_field_order text x.sections.now (own x k section)) in_order.0 mine in_order.1 in
    let one_there = some_of (first_of text (fields x k section) name) known in
    let is = found text (fields x k section) name one_there.0 one_there.1 in
    (is.place, placed_at is.place one_there.0 is.at is.named)
  where
    choice : Mention → Option Mention
    choice = encoding_by x.text.now (first_of x.text.now (base x)) (first_of x.text.now (encoded (own x k section))) (first_of x.text.now (default x))

    placed_at : (i : ℕ) (m : Mention) → slice_get (fields x k section) i ≡ Some m → word x.text.now b.name ≡ word x.text.now m.name → slice_get (chosen x k section) i ≡ Some (Some (mention_at x.text.now k q b))
    placed_at i m at named = slice_get-map choice (fields x k section) i ∙ (ap (option_map choice) at ∙ ap Some (chosen_for x k section q b gives (word x.text.now m.name) named))

-- ---- a format

each_right : (s : Names) → s.has_attributes ≡ true → (methods : Methods) (sections : List Section) (choices : List (Option Mention)) (es : List Encoding) → AllZip (FieldMeans s methods sections) choices es
    → (i : ℕ) (c : Option Mention) → slice_get choices i ≡ Some c → field_fault s methods sections c ≡ None
each_right s has methods sections [] es all i c at = let wrong : None ≡ Some c = at in absurd cc
each_right s has methods sections (d ∷ ds) [] all i c at = absurd all
each_right s has methods sections (d ∷ ds) (e ∷ es) all zero c at = ap (field_fault s methods sections) (sym (some_is at)) ∙ given_right s has methods (given sections d) e all.0
each_right s has methods sections (d ∷ ds) (e ∷ es) all (suc i) c at = each_right s has methods sections ds es all.1 i c at

own_right : (x : Setting) (k : ℕ) (section : Section) (f : Format) → NamesAreRight x → slice_get x.sections.now k ≡ Some section → is_in groups.Formats section.kind ≡ true → IsFormat x k section f
    → (q : ℕ) (item : Item) → slice_get section.items q ≡ Some item → own_fault (scope x k section) x.methods.now item ≡ None
own_right x k section f names section_at kind form q (items.Bound b) at =
    let gives : Gives x k section q b = record { names = names; section_at = section_at; kind = kind; at = at } in
    let by_own = own_chosen x k section q b gives in
    let right_choice = each_right (scope x k section) refl x.methods.now x.sections.now (chosen x k section) form.encodings form.encoded by_own.0 (Some (mention_at x.text.now k q b)) by_own.1 in
    let is : given x.sections.now (Some (mention_at x.text.now k q b)) ≡ Some b.encoding =
    ap (option_and_then (λ (s : Section). option_and_then encoding_of (slice_get s.items q))) section_at ∙ ap (option_and_then encoding_of) at in
    sym (ap (given_fault (scope x k section) x.methods.now) is) ∙ right_choice
own_right x k section f names section_at kind form q (items.Field name bracket) at = refl
own_right x k section f names section_at kind form q (items.Enforce place condition) at = refl

encodings_right : (x : Setting) (k : ℕ) (section : Section) (f : Format) → NamesAreRight x → slice_get x.sections.now k ≡ Some section → is_in groups.Formats section.kind ≡ true → IsFormat x k section f
    → encodings_fault x k section ≡ None
unfolding format_fault
encodings_right x k section f names section_at kind form =
    let s = scope x k section in
    let of_fields = fold_none (field_fault s x.methods.now x.sections.now) (chosen x k section) (each_right s refl x.methods.now x.sections.now (chosen x k section) form.encodings form.encoded) None refl in
    let of_own = fold_none (own_fault s x.methods.now) section.items (own_right x k section f names section_at kind form) None refl in
    λ i. earlier (of_fields i) (of_own i)

pub format_right : (x : Setting) (k : ℕ) (section : Section) (f : Format) → NamesAreRight x → slice_get x.sections.now k ≡ Some section → is_in groups.Formats section.kind ≡ true → IsFormat x k section f
    → earlier (encodings_fault x k section) (constraints_fault x k section) ≡ None
format_right x k section f names section_at kind form =
    let s = scope x k section in
    let of_encodings = encodings_right x k section f names section_at kind form in
    let of_constraints = numbered_right s refl (statements s (chosen x k section) x.sections.now section.items) f.constraints form.constraints_are None refl in
    λ i. earlier (of_encodings i) (of_constraints i)
