-- The methods of a file in their normal form have each name once.
use Rattle.std.proofs.Common.{◌≡◌, ◌∙◌, ap, ℕ, suc, zero, ◌+◌, ◌<◌, ◌≤◌, ◌⊎◌, inl, inr, Bool, true, false, cond, List, [], ◌∷◌, ◌&&◌, ◌||◌, map, length, refl, sym, subst, arith}
use Rattle.std.specs.Prelude.{Option, Some, None, slice_get, filter, nat_eq, nat_lt}
use Rattle.std.specs.List.{cons_option, filter_map}
use Rattle.std.specs.Option.{option_map}
use Rattle.std.specs.Str.{bytes_eq}
use Rattle.std.proofs.lemmas.Bool.{cases_order, eqb-true, ltb-true}
use Rattle.std.proofs.lemmas.List.{length-map}
use Rattle.std.proofs.lemmas.List.Quantifiers.{position-Some}
use Rattle.std.proofs.lemmas.Option.{slice_get-map, slice_get_within, get_or_from_slice_get}
use Rattle.text_source.specs.declared.span.Span.{Span}
use Rattle.text_tree.specs.declared.tree.Method.{Method as TreeMethod}
use Rattle.text_tree.specs.declared.tree.Part.{Part}
use Rattle.text_tree.specs.declared.tree.Section.{Section}
use Rattle.text_tree.specs.declared.tree.SectionKind.{SectionKind}
use Rattle.text_tree.specs.declared.tree.SectionKind.TheVariants as kinds
use Rattle.sem_profile.specs.declared.fault.ProfileFault.{ProfileFault}
use Rattle.sem_profile.specs.declared.fault.ProfileFaultKind.TheVariants as faults
use Rattle.sem_profile.specs.declared.profile.Field.{Field}
use Rattle.sem_profile.specs.declared.profile.Format.{Format}
use Rattle.sem_profile.specs.declared.profile.Method.{Method}
use Rattle.sem_profile.specs.Faults.{about}
use Rattle.sem_profile.specs.Words.{word}
use Rattle.text_sections.specs.declared.mention.Group.{Group}
use Rattle.text_sections.specs.declared.mention.Group.TheVariants as groups
use Rattle.text_sections.specs.declared.mention.Mention.{Mention}
use Rattle.text_sections.specs.Mentions.{is_in, listed}
use Rattle.text_sections.specs.Names.{head, parameter, second_parameter, second_format, lacks_sections, name_of_format, format_name}
use Rattle.text_sections.specs.Sections.{count_in, are_complete, incomplete}
use Rattle.sem_graph.proofs.OrderPushing.{some_is}
use Rattle.text_methods.specs.declared.drafts.Setting.{Setting}
use Rattle.text_methods.specs.Formats.{IsFormat, name as given_name}
use Rattle.text_methods.specs.Drafts.{own, fields, scope}
use Rattle.text_sections.specs.Fields.{in_field_order}
use Rattle.text_methods.specs.declared.methods.FileSetting.{FileSetting}
use Rattle.text_methods.specs.MethodFormats.{AreFormats, no_sections, gives, gives_none}
use Rattle.sem_profile.specs.Named.{FormatIsNamed, MethodIsNamed, AreNamed}
use Rattle.sem_profile.specs.Rooted.{IsPlain, HaveFormats}
use Rattle.text_resolve.specs.Methods.{constant_mentions, AreMethods, no_methods, a_method, HaveForm}
use Rattle.text_resolve.specs.Parts.{methods_of, method_names}
use Rattle.text_resolve.specs.Resolved.{top_of}
use Rattle.text_resolve.specs.Top.{is_top}
use Rattle.text_resolve.specs.Twice.{AreDistinct}
use Rattle.text_resolve.proofs.MethodsMentioned.{each_once, once_distinct, firsts_once}
use Rattle.text_resolve.proofs.MethodsChosen.{field_of}
use Rattle.text_resolve.proofs.MethodsFielded.{choice, from_map}
use Rattle.text_resolve.proofs.SoundMethods.{HasForm, form_from, format_from}

-- ---- the names of formats

-- a section's mention of the name of its format, among those of all sections
record IsNamedAt (text : List ℕ) (sections : List Section) (name : List ℕ) : Type 0 where
  place : ℕ
  mention : Mention
  at : slice_get (filter_map format_name sections) place ≡ Some mention
  named : word text mention.name ≡ name

-- two of them, the first before the second
record AreNamedAt (text : List ℕ) (sections : List Section) (name : List ℕ) : Type 0 where
  one : IsNamedAt text sections name
  other : IsNamedAt text sections name
  apart : one.place < other.place

after_place : Option Mention → ℕ → ℕ
after_place (Some m) p = suc p
after_place None p = p

after_at : (o : Option Mention) (ms : List Mention) (p : ℕ) (m : Mention) → slice_get ms p ≡ Some m → slice_get (cons_option o ms) (after_place o p) ≡ Some m
unfolding after_place
after_at (Some t) ms p m at = at
after_at None ms p m at = at

after_less : (o : Option Mention) (p q : ℕ) → p < q → after_place o p < after_place o q
unfolding after_place
after_less (Some t) p q lt = omega arith
after_less None p q lt = lt

named_later : (text : List ℕ) (s : Section) (sections : List Section) (name : List ℕ) → IsNamedAt text sections name → IsNamedAt text (s ∷ sections) name
named_later text s sections name n =
    record { place = after_place (format_name s) n.place; mention = n.mention; at = after_at (format_name s) (filter_map format_name sections) n.place n.mention n.at; named = n.named }

both_later : (text : List ℕ) (s : Section) (sections : List Section) (name : List ℕ) → AreNamedAt text sections name → AreNamedAt text (s ∷ sections) name
unfolding named_later
both_later text s sections name b =
    record { one = named_later text s sections name b.one; other = named_later text s sections name b.other; apart = after_less (format_name s) b.one.place b.other.place b.apart }

-- the name of a section's format, as the section tells it
kind_named : (text : List ℕ) (kind : SectionKind) (name : List ℕ) → given_name text kind ≡ Some name → (n : Span) × (name_of_format kind ≡ Some (listed n)) × (word text n ≡ name)
kind_named text kinds.Uncompressed name e = let wrong : None ≡ Some name = e in absurd cc
kind_named text kinds.Control name e = let wrong : None ≡ Some name = e in absurd cc
kind_named text kinds.Initial name e = let wrong : None ≡ Some name = e in absurd cc
kind_named text kinds.Default name e = let wrong : None ≡ Some name = e in absurd cc
kind_named text (kinds.Compressed None) name e = let wrong : None ≡ Some name = e in absurd cc
kind_named text (kinds.Compressed (Some n)) name e = (n, refl, some_is e)

named_first : (text : List ℕ) (s : Section) (sections : List Section) (name : List ℕ) (n : Span) → name_of_format s.kind ≡ Some (listed n) → word text n ≡ name
    → slice_get (cons_option (format_name s) (filter_map format_name sections)) 0 ≡ Some (listed n)
named_first text s sections name n e same = ap (λ o. slice_get (cons_option o (filter_map format_name sections)) 0) e

one_named : (x : Setting) (k : ℕ) (sections : List Section) (fs : List Format) → AreFormats x k sections fs → (i : ℕ) (f : Format) (name : List ℕ) → slice_get fs i ≡ Some f → f.name ≡ Some name
    → IsNamedAt x.text.now sections name
one_named x k sections fs no_sections i f name at is = let wrong : None ≡ Some f = at in absurd cc
one_named x k sections fs (gives {section = s} {sections = more} {format = g} kind form rest) zero f name at is =
    let n = kind_named x.text.now s.kind name (sym form.name_is ∙ (ap (λ (z : Format). z.name) (some_is at) ∙ is)) in
    record { place = 0; mention = listed n.0; at = named_first x.text.now s more name n.0 n.1 n.2; named = n.2 }
one_named x k sections fs (gives {section = s} {sections = more} {formats = gs} kind form rest) (suc i) f name at is = named_later x.text.now s more name (one_named x (k + 1) more gs rest i f name at is)
one_named x k sections fs (gives_none {section = s} {sections = more} kind rest) i f name at is = named_later x.text.now s more name (one_named x (k + 1) more fs rest i f name at is)

two_named : (x : Setting) (k : ℕ) (sections : List Section) (fs : List Format) → AreFormats x k sections fs → (i j : ℕ) (f g : Format) (name : List ℕ) → i < j → slice_get fs i ≡ Some f → slice_get fs j ≡ Some g
    → f.name ≡ Some name → g.name ≡ Some name → AreNamedAt x.text.now sections name
two_named x k sections fs no_sections i j f g name lt at_i at_j is_f is_g = let wrong : None ≡ Some f = at_i in absurd cc
two_named x k sections fs (gives kind form rest) i zero f g name lt at_i at_j is_f is_g = absurd (omega arith)
two_named x k sections fs (gives {section = s} {sections = more} {format = h} {formats = gs} kind form rest) zero (suc j) f g name lt at_i at_j is_f is_g =
    let n = kind_named x.text.now s.kind name (sym form.name_is ∙ (ap (λ (z : Format). z.name) (some_is at_i) ∙ is_f)) in
    let other = one_named x (k + 1) more gs rest j g name at_j is_g in
    record {
      one = record { place = 0; mention = listed n.0; at = named_first x.text.now s more name n.0 n.1 n.2; named = n.2 };
      other = record { place = suc other.place; mention = other.mention; at = ap (λ o. slice_get (cons_option o (filter_map format_name more)) (suc other.place)) n.1 ∙ other.at; named = other.named };
      apart = omega arith;
    }
two_named x k sections fs (gives {section = s} {sections = more} {formats = gs} kind form rest) (suc i) (suc j) f g name lt at_i at_j is_f is_g =
    both_later x.text.now s more name (two_named x (k + 1) more gs rest i j f g name (omega arith) at_i at_j is_f is_g)
two_named x k sections fs (gives_none {section = s} {sections = more} kind rest) i j f g name lt at_i at_j is_f is_g =
    both_later x.text.now s more name (two_named x (k + 1) more fs rest i j f g name lt at_i at_j is_f is_g)

-- ---- how many formats there are

record Counts (sections : List Section) (fs : List Format) : Type 0 where
  all : length fs ≡ count_in groups.Formats sections
  unnamed : (i : ℕ) (f : Format) → slice_get fs i ≡ Some f → f.name ≡ None → 0 < count_in groups.Unnamed sections

count_one : (group : Group) (s : Section) (sections : List Section) → is_in group s.kind ≡ true → count_in group (s ∷ sections) ≡ suc (count_in group sections)
count_one group s sections e = ap (λ b. length (cond b (s ∷ filter (λ (z : Section). is_in group z.kind) sections) (filter (λ (z : Section). is_in group z.kind) sections))) e

count_none : (group : Group) (s : Section) (sections : List Section) → is_in group s.kind ≡ false → count_in group (s ∷ sections) ≡ count_in group sections
count_none group s sections e = ap (λ b. length (cond b (s ∷ filter (λ (z : Section). is_in group z.kind) sections) (filter (λ (z : Section). is_in group z.kind) sections))) e

count_more : (group : Group) (s : Section) (sections : List Section) → count_in group sections ≤ count_in group (s ∷ sections)
count_more group s sections = by (is_in group s.kind) refl
  where
    by : (b : Bool) → is_in group s.kind ≡ b → count_in group sections ≤ count_in group (s ∷ sections)
    by true e = omega (arith, count_one group s sections e)
    by false e = omega (arith, count_none group s sections e)

kind_unnamed : (text : List ℕ) (kind : SectionKind) → is_in groups.Formats kind ≡ true → given_name text kind ≡ None → is_in groups.Unnamed kind ≡ true
kind_unnamed text kinds.Uncompressed e none = absurd cc
kind_unnamed text kinds.Control e none = absurd cc
kind_unnamed text kinds.Initial e none = absurd cc
kind_unnamed text kinds.Default e none = absurd cc
kind_unnamed text (kinds.Compressed None) e none = refl
kind_unnamed text (kinds.Compressed (Some n)) e none = let wrong : Some (word text n) ≡ None = none in absurd cc

counted : (x : Setting) (k : ℕ) (sections : List Section) (fs : List Format) → AreFormats x k sections fs → Counts sections fs
counted x k sections fs no_sections = record { all = refl; unnamed = λ i f at is. let wrong : None ≡ Some f = at in absurd cc }
counted x k sections fs (gives {section = s} {sections = more} {format = g} {formats = gs} kind form rest) =
    let c = counted x (k + 1) more gs rest in
    record {
      all = omega (arith, c.all, count_one groups.Formats s more kind);
      unnamed = λ i f at is. by c i f at is;
    }
  where
    by : Counts more gs → (i : ℕ) (f : Format) → slice_get (g ∷ gs) i ≡ Some f → f.name ≡ None → 0 < count_in groups.Unnamed (s ∷ more)
    by c zero f at is = omega (arith, count_one groups.Unnamed s more (kind_unnamed x.text.now s.kind kind (sym form.name_is ∙ (ap (λ (z : Format). z.name) (some_is at) ∙ is))))
    by c (suc i) f at is = omega (arith, c.unnamed i f at is, count_more groups.Unnamed s more)
counted x k sections fs (gives_none {section = s} {sections = more} kind rest) =
    let c = counted x (k + 1) more fs rest in
    record {
      all = omega (arith, c.all, count_none groups.Formats s more kind);
      unnamed = λ i f at is. omega (arith, c.unnamed i f at is, count_more groups.Unnamed s more);
    }

both_true : (a b : Bool) → a && b ≡ true → (a ≡ true) × (b ≡ true)
both_true true b e = (refl, e)
both_true false b e = absurd cc

either_true : (a b : Bool) → a || b ≡ true → (a ≡ true) ⊎ (b ≡ true)
either_true true b e = inl refl
either_true false b e = inr e

-- one format, or several with names
complete_means : (header formats unnamed : ℕ) → nat_eq header 1 && (nat_eq formats 1 || nat_lt 1 formats && nat_eq unnamed 0) ≡ true → (formats ≡ 1) ⊎ ((1 < formats) × (unnamed ≡ 0))
complete_means header formats unnamed e =
    let b = both_true (nat_eq header 1) (nat_eq formats 1 || nat_lt 1 formats && nat_eq unnamed 0) e in
    elim (either_true (nat_eq formats 1) (nat_lt 1 formats && nat_eq unnamed 0) b.1) as (λ _. (formats ≡ 1) ⊎ ((1 < formats) × (unnamed ≡ 0))) [
      | inl single ↦ inl (eqb-true formats 1 single)
      | inr several ↦ let c = both_true (nat_lt 1 formats) (nat_eq unnamed 0) several in inr (ltb-true 1 formats c.0, eqb-true unnamed 0 c.1)
    ]

complete_there : (m : TreeMethod) → ((f : ProfileFault) → incomplete m ≡ Some f → ⊥) → are_complete m.sections ≡ true
complete_there m none = by (are_complete m.sections) refl
  where
    by : (b : Bool) → are_complete m.sections ≡ b → b ≡ true
    by true e = refl
    by false e = absurd (none (about faults.Sections m.name) (ap (λ b. cond b None (Some (about faults.Sections m.name))) e))

-- ---- one method

record IsAccepted (file : FileSetting) (constants : List Mention) (r : Method) : Type 0 where
  form : HasForm file constants r
  several : (count_in groups.Formats form.tree.sections ≡ 1) ⊎ ((1 < count_in groups.Formats form.tree.sections) × (count_in groups.Unnamed form.tree.sections ≡ 0))
  counts : Counts form.tree.sections r.formats

accepted : (file : FileSetting) (constants : List Mention) (r : Method) → HasForm file constants r → IsAccepted file constants r
accepted file constants r form =
    let m = form.tree in
    record {
      form = form;
      several = complete_means (count_in groups.Header m.sections) (count_in groups.Formats m.sections) (count_in groups.Unnamed m.sections)
          (complete_there m (λ f e. form.is.named f (head (lacks_sections e))));
      counts = counted form.is.body.setting 0 m.sections r.formats form.is.body.formats_are;
    }

has_format : (file : FileSetting) (constants : List Mention) (r : Method) → IsAccepted file constants r → 0 < length r.formats
has_format file constants r a = elim a.several as (λ _. 0 < length r.formats) [ inl single ↦ omega (arith, single, a.counts.all) | inr more ↦ omega (arith, more.0, a.counts.all) ]

stands_alone : (file : FileSetting) (constants : List Mention) (r : Method) → IsAccepted file constants r → (i j : ℕ) (f g : Format) → slice_get r.formats i ≡ Some f → f.name ≡ None → slice_get r.formats j ≡ Some g → i ≡ j
stands_alone file constants r a i j f g at_i is at_j = elim a.several as (λ _. i ≡ j) [
  | inl single ↦ omega (arith, single, a.counts.all, slice_get_within r.formats i f at_i, slice_get_within r.formats j g at_j)
  | inr more ↦ absurd (omega (arith, more.1, a.counts.unnamed i f at_i is))
]

format_once : (file : FileSetting) (constants : List Mention) (r : Method) → IsAccepted file constants r → (i j : ℕ) (f g : Format) → i < j → slice_get r.formats i ≡ Some f → slice_get r.formats j ≡ Some g → f.name ≡ g.name → ⊥
format_once file constants r a i j f g lt at_i at_j same = by f.name refl
  where
    sections : List Section
    sections = a.form.tree.sections

    text : List ℕ
    text = a.form.is.body.setting.text.now

    by : (o : Option (List ℕ)) → f.name ≡ o → ⊥
    by None e = let one = stands_alone file constants r a i j f g at_i e at_j in omega (arith, one)
    by (Some name) e =
        let b = two_named a.form.is.body.setting 0 sections r.formats a.form.is.body.formats_are i j f g name lt at_i at_j e (sym same ∙ e) in
        let text_is : text ≡ file.text.now = a.form.is.body.is_setting.text_is in
        let once = each_once file.text.now (filter_map format_name sections) (λ f second. a.form.is.named f (head (second_format second))) b.one.place b.other.place b.one.mention b.other.mention b.one.at b.other.at
        (subst (λ t. word t b.one.mention.name ≡ word t b.other.mention.name) text_is (b.one.named ∙ sym b.other.named)) in
        omega (arith, once, b.apart)

formats_once : (file : FileSetting) (constants : List Mention) (r : Method) → IsAccepted file constants r → (i j : ℕ) (f g : Format) → slice_get r.formats i ≡ Some f → slice_get r.formats j ≡ Some g → f.name ≡ g.name → i ≡ j
formats_once file constants r a i j f g at_i at_j same = elim (cases_order i j) as (λ _. i ≡ j) [
  | inl e ↦ e
  | inr other ↦ elim other as (λ _. i ≡ j) [
    | inl less ↦ absurd (format_once file constants r a i j f g less at_i at_j same)
    | inr more ↦ absurd (format_once file constants r a j i g f more at_j at_i (sym same))
  ]
]

parameters_once : (file : FileSetting) (constants : List Mention) (r : Method) → HasForm file constants r → (i j : ℕ) (name : List ℕ) → slice_get r.parameters i ≡ Some name → slice_get r.parameters j ≡ Some name → i ≡ j
parameters_once file constants r form i j name at_i at_j =
    let spans = form.tree.parameters in
    let text = file.text.now in
    let s = from_map (word text) spans i name (ap (λ ns. slice_get ns i) (sym form.is.parameters_are) ∙ at_i) in
    let t = from_map (word text) spans j name (ap (λ ns. slice_get ns j) (sym form.is.parameters_are) ∙ at_j) in
    each_once text (map listed spans) (λ f second. form.is.named f (head (parameter (second_parameter second)))) i j (listed s.0) (listed t.0)
    (slice_get-map listed spans i ∙ ap (option_map listed) s.1) (slice_get-map listed spans j ∙ ap (option_map listed) t.1) (s.2 ∙ sym t.2)

fields_once : (x : Setting) (number : ℕ) (section : Section) (f : Format) → IsFormat x number section f → FormatIsNamed f
fields_once x number section f form i j d e at_d at_e same =
    let text = x.text.now in
    let each = λ (i : ℕ) (d : Field) (here : slice_get f.fields i ≡ Some d). field_of x (scope x number section) x.methods.now x.sections.now (choice x number section) (fields x number section) form.encodings form.encoded i d
    (ap (λ ds. slice_get ds i) (sym form.fields_are) ∙ here) in
    let first = each i d at_d in
    let second = each j e at_e in
    let named = λ (z : Field). z.declared.name in
    firsts_once text (in_field_order text x.sections.now (own x number section)) i j first.mention second.mention first.at second.at (sym (ap named first.is) ∙ (same ∙ ap named second.is))

method_named : (file : FileSetting) (constants : List Mention) (r : Method) → HasForm file constants r → MethodIsNamed r
method_named file constants r form =
    let a = accepted file constants r form in
    record {
      parameters = λ i j name at_i at_j. parameters_once file constants r form i j name at_i at_j;
      formats = λ i j f g at_i at_j same. formats_once file constants r a i j f g at_i at_j same;
      alone = λ i j f g at_i is at_j. stands_alone file constants r a i j f g at_i is at_j;
      fields = λ k f at.
          let here = format_from form.is.body.setting 0 form.tree.sections r.formats form.is.body.formats_are k f at in
          fields_once form.is.body.setting (0 + here.place) here.section f here.is;
    }

-- ---- all methods of a file

-- the method of the tree at the place of a normal form
tree_at : (file : FileSetting) (constants : List Mention) (top : Option ℕ) (k : ℕ) (ms : List TreeMethod) (rs : List Method) → AreMethods file constants top k ms rs → (i : ℕ) (r : Method) → slice_get rs i ≡ Some r
    → (m : TreeMethod) × (slice_get ms i ≡ Some m) × (r.name ≡ word file.text.now m.name) × (length r.parameters ≡ length m.parameters)
tree_at file constants top k ms rs no_methods i r at = let wrong : None ≡ Some r = at in absurd cc
tree_at file constants top k ms rs (a_method {m = m} {r = q} is rest) zero r at =
    let same : q ≡ r = some_is at in
    (m, refl, ap (λ (z : Method). z.name) (sym same) ∙ is.name_is, ap (λ (z : Method). length z.parameters) (sym same) ∙ (ap length is.parameters_are ∙ length-map m.parameters (word file.text.now)))
tree_at file constants top k ms rs (a_method {ms = more} {rs = others} is rest) (suc i) r at = tree_at file constants top (k + 1) more others rest i r at

pub are_named : (text : List ℕ) (parts : List Part) (top : Option ℕ) (methods : List Method) → AreDistinct text parts → HaveForm text parts top methods → AreNamed methods
are_named text parts top methods distinct form =
    let constants = constant_mentions parts in
    let name = λ (m : TreeMethod). word text m.name in
    let named_at = λ (i : ℕ) (r : Method) (at : slice_get methods i ≡ Some r).
    let t = tree_at form.file constants top 0 (methods_of parts) methods form.are_methods i r at in
    let here : slice_get (method_names text parts) i ≡ Some r.name = slice_get-map name (methods_of parts) i
    ∙ (ap (option_map name) t.1 ∙ ap Some (ap (λ z. word z t.0.name) (sym form.is_file.text_is) ∙ sym t.2)) in
    here in
    record {
      once = λ i j m n at_i at_j same. once_distinct (method_names text parts) i j m.name distinct.methods (named_at i m at_i) (named_at j n at_j ∙ ap Some (sym same));
      each = λ k m at. method_named form.file constants m (form_from form.file constants top 0 (methods_of parts) methods form.are_methods k m at);
    }

pub have_formats : (text : List ℕ) (parts : List Part) (top : Option ℕ) (methods : List Method) → HaveForm text parts top methods → HaveFormats methods
have_formats text parts top methods form = λ k m at.
    let constants = constant_mentions parts in
    has_format form.file constants m (accepted form.file constants m (form_from form.file constants top 0 (methods_of parts) methods form.are_methods k m at))

none_left : (names : List (List ℕ)) → length names ≡ 0 → names ≡ []
none_left [] e = refl
none_left (n ∷ ns) e = absurd (omega (arith, e))

pub is_plain : (text : List ℕ) (parts : List Part) (name : List ℕ) (top : ℕ) (methods : List Method) → top_of text parts name ≡ Some top → HaveForm text parts (Some top) methods → IsPlain methods top
is_plain text parts name top methods place form m at =
    let t = tree_at form.file (constant_mentions parts) (Some top) 0 (methods_of parts) methods form.are_methods top m at in
    let p = position-Some (is_top text name) (methods_of parts) top t.0 place in
    let is : is_top text name t.0 ≡ true = ap (is_top text name) (sym (get_or_from_slice_get (methods_of parts) top t.0 t.0 t.1)) ∙ p.1 in
    let b = both_true (bytes_eq name (word text t.0.name)) (nat_eq (length t.0.parameters) 0) is in
    none_left m.parameters (t.3 ∙ eqb-true (length t.0.parameters) 0 b.1)
