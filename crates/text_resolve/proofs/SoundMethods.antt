-- The methods of a file in their normal form are well formed.
use Rattle.std.proofs.Common.{◌≡◌, ◌∙◌, ap, ℕ, ◌+◌, ◌<◌, ◌≤◌, suc, zero, List, [], ◌∷◌, ◌++◌, length, refl, sym, subst, arith}
use Rattle.std.specs.Prelude.{Bool, true, false, cond, Option, Some, None, fold, slice_get, unwrap_or}
use Rattle.std.specs.List.{list_any}
use Rattle.std.specs.Str.{bytes_eq}
use Rattle.std.proofs.lemmas.List.{length-map, length-append}
use Rattle.std.proofs.lemmas.Option.{slice_get-map}
use Rattle.std.specs.Option.{option_map}
use Rattle.text_source.specs.declared.span.Span.{Span}
use Rattle.text_tree.specs.declared.tree.Method.{Method as TreeMethod}
use Rattle.text_tree.specs.declared.tree.Part.{Part}
use Rattle.text_tree.specs.declared.tree.Section.{Section}
use Rattle.sem_profile.specs.declared.profile.Format.{Format}
use Rattle.sem_profile.specs.declared.profile.Method.{Method}
use Rattle.sem_profile.specs.Words.{word, with_word}
use Rattle.text_sections.specs.declared.mention.Group.TheVariants as groups
use Rattle.text_sections.specs.declared.mention.Mention.{Mention}
use Rattle.text_sections.specs.Mentions.{is_in}
use Rattle.text_sections.specs.Names.{FieldCause, field}
use Rattle.text_statements.specs.Initials.{AreInitials, bounds_in}
use Rattle.sem_graph.proofs.OrderPushing.{some_is}
use Rattle.text_methods.specs.declared.drafts.Setting.{Setting}
use Rattle.text_methods.specs.Formats.{IsFormat}
use Rattle.text_methods.specs.declared.methods.FileSetting.{FileSetting}
use Rattle.text_methods.specs.MethodFormats.{AreFormats, no_sections, gives, gives_none}
use Rattle.text_methods.specs.Methods.{IsMethod, bare_scope, distinct_words}
use Rattle.text_resolve.specs.Methods.{constant_mentions, IsFile, AreMethods, no_methods, a_method}
use Rattle.text_resolve.specs.Parts.{methods_of}
use Rattle.sem_profile.specs.WellFormed.{FormatIsSound}
use Rattle.text_resolve.specs.WellFormed.{FormIsWellFormed}
use Rattle.text_resolve.proofs.MethodsFielded.{IsJudged}
use Rattle.text_resolve.proofs.MethodsSoundFormats.{AreThere, format_is_sound}

-- ---- parameters

few_more : (names : List (List ℕ)) (name : List ℕ) → length (with_word names name) ≤ suc (length names)
few_more names name = by (list_any (bytes_eq name) names)
  where
    by : (b : Bool) → length (cond b names (names ++ name ∷ [])) ≤ suc (length names)
    by true = omega arith
    by false = omega (arith, length-append names (name ∷ []))

few_from : (text : List ℕ) (names : List (List ℕ)) (parameters : List Span) → length (fold (λ kept p. with_word kept (word text p)) names parameters) ≤ length names + length parameters
few_from text names [] = omega arith
few_from text names (p ∷ ps) =
    let first = few_more names (word text p) in
    let rest = few_from text (with_word names (word text p)) ps in
    omega (arith, first, rest)

few_words : (text : List ℕ) (parameters : List Span) → length (distinct_words text parameters) ≤ length parameters
few_words text parameters = omega (arith, few_from text [] parameters)

-- ---- formats

-- the section that gives a format
pub record GivesFormat (x : Setting) (k : ℕ) (sections : List Section) (f : Format) : Type 0 where
  pub place : ℕ
  pub section : Section
  pub at : slice_get sections place ≡ Some section
  pub kind : is_in groups.Formats section.kind ≡ true
  pub is : IsFormat x (k + place) section f

given_later : (x : Setting) (k : ℕ) (s : Section) (sections : List Section) (f : Format) → GivesFormat x (k + 1) sections f → GivesFormat x k (s ∷ sections) f
given_later x k s sections f g =
    let number : k + 1 + g.place ≡ k + suc g.place = omega arith in
    record { place = suc g.place; section = g.section; at = g.at; kind = g.kind; is = subst (λ n. IsFormat x n g.section f) number g.is }

pub format_from : (x : Setting) (k : ℕ) (sections : List Section) (fs : List Format) → AreFormats x k sections fs → (n : ℕ) (f : Format) → slice_get fs n ≡ Some f → GivesFormat x k sections f
format_from x k sections fs no_sections n f at = let wrong : None ≡ Some f = at in absurd cc
format_from x k sections fs (gives {section = section} {format = g} kind form rest) zero f at =
    let number : k ≡ k + 0 = omega arith in
    record { place = 0; section = section; at = refl; kind = kind; is = subst (λ n. IsFormat x n section f) number (subst (IsFormat x k section) (some_is at) form) }
format_from x k sections fs (gives {section = section} {sections = more} {formats = gs} kind form rest) (suc n) f at = given_later x k section more f (format_from x (k + 1) more gs rest n f at)
format_from x k sections fs (gives_none {section = section} {sections = more} kind rest) n f at = given_later x k section more f (format_from x (k + 1) more fs rest n f at)

-- ---- methods

-- the method of the tree that has a normal form
pub record HasForm (file : FileSetting) (constants : List Mention) (r : Method) : Type 0 where
  pub tree : TreeMethod
  pub is_top : Bool
  pub is : IsMethod file constants tree is_top r

pub form_from : (file : FileSetting) (constants : List Mention) (top : Option ℕ) (k : ℕ) (ms : List TreeMethod) (rs : List Method) → AreMethods file constants top k ms rs → (i : ℕ) (r : Method) → slice_get rs i ≡ Some r
    → HasForm file constants r
form_from file constants top k ms rs no_methods i r at = let wrong : None ≡ Some r = at in absurd cc
form_from file constants top k ms rs (a_method {m = m} is rest) zero r at = record { tree = m; is_top = _; is = subst (IsMethod file constants m _) (some_is at) is }
form_from file constants top k ms rs (a_method {ms = more} {rs = others} is rest) (suc i) r at = form_from file constants top (k + 1) more others rest i r at

-- the normal form of a method of the tree
form_of : (file : FileSetting) (constants : List Mention) (top : Option ℕ) (k : ℕ) (ms : List TreeMethod) (rs : List Method) → AreMethods file constants top k ms rs → (i : ℕ) → i < length ms
    → (m : TreeMethod) × (r : Method) × (slice_get ms i ≡ Some m) × (slice_get rs i ≡ Some r) × (length r.parameters ≡ length m.parameters)
form_of file constants top k ms rs no_methods i lt = absurd (omega arith)
form_of file constants top k ms rs (a_method {m = m} {r = r} is rest) zero lt = (m, r, refl, refl, ap length is.parameters_are ∙ length-map m.parameters (word file.text.now))
form_of file constants top k ms rs (a_method {ms = more} {rs = others} is rest) (suc i) lt = form_of file constants top (k + 1) more others rest i (omega arith)

all_there : (text : List ℕ) (parts : List Part) (top : Option ℕ) (file : FileSetting) (methods : List Method) → IsFile text parts file
    → AreMethods file (constant_mentions parts) top 0 (methods_of parts) methods → AreThere file.methods.now methods
all_there text parts top file methods is_file are k lt =
    let names = file.methods.now.names.now in
    let within : k < length (methods_of parts) = omega (arith, lt, ap length is_file.methods_are, length-map (methods_of parts) (λ (m : TreeMethod). word text m.name)) in
    let form = form_of file (constant_mentions parts) top 0 (methods_of parts) methods are k within in
    let count = λ (m : TreeMethod). length m.parameters in
    let taken : unwrap_or (slice_get file.methods.now.arities.now k) 0 ≡ length form.0.parameters =
    ap (λ ns. unwrap_or (slice_get ns k) 0) is_file.arities_are ∙ ap (λ o. unwrap_or o 0) (slice_get-map count (methods_of parts) k ∙ ap (option_map count) form.2) in
    (form.1, form.3, taken ∙ sym form.4)

-- the judge of names accepted the method, and INITIAL gives these values
judged_of : (file : FileSetting) (constants : List Mention) (m : TreeMethod) (is_top : Bool) (r : Method) (form : IsMethod file constants m is_top r) → IsJudged form.body.setting
judged_of file constants m is_top r form =
    let x = form.body.setting in
    let same = form.body.is_setting in
    let givens = form.body.has_givens in
    let s = bare_scope file m in
    record {
      names = λ f cause. form.named f (field (subst (λ ss. FieldCause file.text.now ss f) same.sections_are (subst (λ t. FieldCause t x.sections.now f) same.text_is cause)));
      scope = s;
      text = sym same.text_is;
      initials = subst (λ vs. AreInitials s (bounds_in x.sections.now) x.initial_names.now vs) (sym givens.values_are)
          (subst (λ ns. AreInitials s (bounds_in x.sections.now) ns form.body.givens.values) (sym givens.names_are)
          (subst (λ ss. AreInitials s (bounds_in ss) form.body.givens.names form.body.givens.values) (sym same.sections_are) form.body.given.initials));
    }

method_is_sound : (file : FileSetting) (constants : List Mention) (methods : List Method) (r : Method) → AreThere file.methods.now methods → HasForm file constants r → (n : ℕ) (f : Format)
    → slice_get r.formats n ≡ Some f → FormatIsSound methods (length r.parameters) f
method_is_sound file constants methods r there form n f at =
    let m = form.tree in
    let x = form.is.body.setting in
    let same = form.is.body.is_setting in
    let here = format_from x 0 m.sections r.formats form.is.body.formats_are n f at in
    let number : 0 + here.place ≡ here.place = omega arith in
    let few : length x.parameters.now ≤ length r.parameters =
    omega (arith, ap length same.parameters_are, few_words file.text.now m.parameters, ap length form.is.parameters_are, length-map m.parameters (word file.text.now)) in
    format_is_sound x here.place here.section f methods (length r.parameters) few (subst (λ named. AreThere named methods) (sym same.methods_are) there)
    (judged_of file constants m form.is_top r form.is) (ap (λ ss. slice_get ss here.place) same.sections_are ∙ here.at) here.kind (subst (λ n. IsFormat x n here.section f) number here.is)

pub well_formed : FormIsWellFormed
well_formed text parts top methods form =
    let there = all_there text parts top form.file methods form.is_file form.are_methods in
    record {
      formats = λ k n m f at here.
          method_is_sound form.file (constant_mentions parts) methods m there (form_from form.file (constant_mentions parts) top 0 (methods_of parts) methods form.are_methods k m at) n f here;
    }
