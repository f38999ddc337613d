-- The fields of a format in its normal form keep what the judge of names asks for.
use Rattle.std.proofs.Common.{◌≡◌, ◌∙◌, ap, ℕ, suc, zero, ◌≤◌, ◌⊎◌, inl, inr, Bool, true, false, cond, List, [], ◌∷◌, ◌++◌, map, length, refl, sym, subst}
use Rattle.std.specs.Prelude.{Option, Some, None, is_some, slice_get, option_and_then}
use Rattle.std.specs.Option.{option_or}
use Rattle.std.specs.Str.{bytes_eq}
use Rattle.std.proofs.lemmas.List.Elements.{filter-append}
use Rattle.std.proofs.lemmas.List.Folds.{find-append}
use Rattle.text_tree.specs.declared.tree.Encoding.{Encoding as TreeEncoding}
use Rattle.text_tree.specs.declared.tree.Section.{Section}
use Rattle.text_tree.specs.declared.tree.SectionKind.{SectionKind}
use Rattle.text_tree.specs.declared.tree.SectionKind.TheVariants as kinds
use Rattle.sem_profile.specs.declared.fault.ProfileFault.{ProfileFault}
use Rattle.sem_profile.specs.declared.fault.ProfileFaultKind.{ProfileFaultKind}
use Rattle.sem_profile.specs.declared.fault.ProfileFaultKind.TheVariants as faults
use Rattle.sem_profile.specs.declared.profile.Encoding.TheVariants as encoding
use Rattle.sem_profile.specs.declared.profile.Field.{Field}
use Rattle.sem_profile.specs.declared.profile.Part.TheVariants as parts
use Rattle.sem_profile.specs.Faults.{about}
use Rattle.sem_profile.specs.Words.{word}
use Rattle.text_statements.specs.Names.{Names}
use Rattle.text_sections.specs.declared.mention.Mention.{Mention}
use Rattle.text_sections.specs.declared.mention.Group.TheVariants as groups
use Rattle.text_sections.specs.Causes.{IsOneOf, is_one_of, not_found, not_kept, unknown, look_in}
use Rattle.text_sections.specs.Fields.{encoding as encoding_by, encoding_at, place, in_field_order, PointsAt}
use Rattle.text_sections.specs.Mentions.{is_in, mentions_in, needs_context, encoded, first_of, names_of}
use Rattle.text_sections.specs.Names.{FieldCause, second_in_section, unencoded_in_format, in_section, section as section_cause, context, known, local_in_format, local_in_default, unknown_initial, for_all_formats}
use Rattle.text_sections.proofs.MentionsPointing.{mentions_point}
use Rattle.text_statements.specs.Initials.{AreInitials, bounds_in}
use Rattle.text_methods.specs.declared.drafts.Setting.{Setting}
use Rattle.text_methods.specs.Drafts.{base, default, own, fields, scope}
use Rattle.sem_profile.specs.WellFormed.{refers, initial_limit}
use Rattle.sem_graph.proofs.OrderPushing.{some_is}
use Rattle.text_resolve.proofs.MethodsMentioned.{nothing, get_right, from_filter, into_filter, found, is_found, is_there, some_of, each_once, firsts_find, placed}
use Rattle.text_resolve.proofs.MethodsStanding.{not_local, in_group, initial_there}
use Rattle.text_resolve.proofs.MethodsChosen.{IsFieldOf, given_needs, given_none, points_at_encoding, initial_has, initial_short}

-- nothing is wrong with the names of the setting's method, and INITIAL gives these values
pub record IsJudged (x : Setting) : Type 0 where
  pub names : (f : ProfileFault) → FieldCause x.text.now x.sections.now f → ⊥
  pub scope : Names
  pub text : scope.text ≡ x.text.now
  pub initials : AreInitials scope (bounds_in x.sections.now) x.initial_names.now x.initial_values.now

-- ---- what the absence of faults says

is_fault : (text : List ℕ) (look : List ℕ → Option Mention) (kind : ProfileFaultKind) (m : Mention) → look (word text m.name) ≡ None → not_found text look kind m ≡ Some (about kind m.name)
is_fault text look kind m e = λ i. cond (is_some (e i)) None (Some (about kind m.name))

kept_there : (text : List ℕ) (look : List ℕ → Option Mention) (ms : List Mention) → ((f : ProfileFault) → IsOneOf (not_kept text look) ms f → ⊥) → (k : ℕ) (m : Mention) → slice_get ms k ≡ Some m
    → m.needs_context ≡ true → is_some (look (word text m.name)) ≡ true
kept_there text look ms none k m at needs = by (look (word text m.name)) refl
  where
    by : (o : Option Mention) → look (word text m.name) ≡ o → is_some o ≡ true
    by (Some t) e = refl
    by None e = absurd (none _ (is_one_of k at ((λ i. cond (needs i) (not_found text look faults.NoContext m) None) ∙ is_fault text look faults.NoContext m e)))

known_there : (text : List ℕ) (look : List ℕ → Option Mention) (ms : List Mention) → ((f : ProfileFault) → IsOneOf (unknown text look) ms f → ⊥) → (k : ℕ) (m : Mention) → slice_get ms k ≡ Some m
    → is_some (look (word text m.name)) ≡ true
known_there text look ms none k m at = by (look (word text m.name)) refl
  where
    by : (o : Option Mention) → look (word text m.name) ≡ o → is_some o ≡ true
    by (Some t) e = refl
    by None e = absurd (none _ (is_one_of k at (is_fault text look faults.UnknownName m e)))

-- ---- the statement that encodes a field

record IsChosen (text : List ℕ) (sections : List Section) (name : List ℕ) (t : Mention) : Type 0 where
  encoded : t.is_encoded ≡ true
  points : PointsAt text sections t
  -- if it refers to the context, then UNCOMPRESSED or CONTROL has the field
  kept : t.needs_context ≡ true → is_some (first_of text (mentions_in text groups.Base 0 sections) name) ≡ true

one_of_three : {X : Type 0} (a b c : Option X) (t : X) → option_or (option_or a b) c ≡ Some t → (a ≡ Some t) ⊎ ((b ≡ Some t) ⊎ (c ≡ Some t))
one_of_three (Some x) b c t e = inl e
one_of_three None (Some x) c t e = inr (inl e)
one_of_three None None c t e = inr (inr e)

chosen_is : (x : Setting) (number : ℕ) (section : Section) (name : List ℕ) (t : Mention) → IsJudged x → slice_get x.sections.now number ≡ Some section → is_in groups.Formats section.kind ≡ true
    → option_or (option_or (first_of x.text.now (base x) name) (first_of x.text.now (encoded (own x number section)) name)) (first_of x.text.now (default x) name) ≡ Some t
    → IsChosen x.text.now x.sections.now name t
chosen_is x number section name t judged at kind e = elim (one_of_three (first_of x.text.now (base x) name) (first_of x.text.now (encoded (own x number section)) name) (first_of x.text.now (default x) name) t e) as (λ _. IsChosen x.text.now x.sections.now name t) [
  | inl of_base ↦ in_base of_base
  | inr other ↦ elim other as (λ _. IsChosen x.text.now x.sections.now name t) [ inl of_own ↦ in_own of_own | inr of_default ↦ in_default of_default ]
]
  where
    all : List Mention
    all = mentions_in x.text.now groups.Base 0 x.sections.now

    in_base : first_of x.text.now (base x) name ≡ Some t → IsChosen x.text.now x.sections.now name t
    in_base e =
        let f = found x.text.now (base x) name t e in
        let g = from_filter (λ (m : Mention). m.is_encoded) all f.place t f.at in
        record { encoded = g.2; points = mentions_point x.text.now groups.Base x.sections.now g.0 t g.1; kept = λ needs. is_there x.text.now all name g.0 t g.1 (sym f.named) }

    in_own : first_of x.text.now (encoded (own x number section)) name ≡ Some t → IsChosen x.text.now x.sections.now name t
    in_own e =
        let f = found x.text.now (encoded (own x number section)) name t e in
        let g = from_filter (λ (m : Mention). m.is_encoded) (own x number section) f.place t f.at in
        let there = in_group x.text.now groups.Formats x.sections.now number section g.0 t at kind g.1 in
        record {
          encoded = g.2;
          points = mentions_point x.text.now groups.Formats x.sections.now there.0 t there.1;
          kept = λ needs. subst (λ n. is_some (first_of x.text.now all n) ≡ true) (sym f.named)
              (kept_there x.text.now (first_of x.text.now all) (mentions_in x.text.now groups.Formats 0 x.sections.now) (λ f one. judged.names f (context (local_in_format one))) there.0 t there.1 needs);
        }

    in_default : first_of x.text.now (default x) name ≡ Some t → IsChosen x.text.now x.sections.now name t
    in_default e =
        let f = found x.text.now (default x) name t e in
        let g = from_filter (λ (m : Mention). m.is_encoded) (mentions_in x.text.now groups.Default 0 x.sections.now) f.place t f.at in
        record {
          encoded = g.2;
          points = mentions_point x.text.now groups.Default x.sections.now g.0 t g.1;
          kept = λ needs. subst (λ n. is_some (first_of x.text.now all n) ≡ true) (sym f.named)
              (kept_there x.text.now (first_of x.text.now all) (mentions_in x.text.now groups.Default 0 x.sections.now) (λ f one. judged.names f (context (local_in_default one))) g.0 t g.1 needs);
        }

-- ---- one field

abbrev pub choice : Setting → ℕ → Section → Mention → Option Mention
choice x number section = encoding_by x.text.now (first_of x.text.now (base x)) (first_of x.text.now (encoded (own x number section))) (first_of x.text.now (default x))

abbrev pub IsOwn : Setting → ℕ → Section → ℕ → Field → Type 0
IsOwn x number section i d = IsFieldOf x (scope x number section) x.methods.now x.sections.now (choice x number section) (fields x number section) i d

pub refers_kept : (x : Setting) (number : ℕ) (section : Section) (i : ℕ) (d : Field) → IsJudged x → slice_get x.sections.now number ≡ Some section → is_in groups.Formats section.kind ≡ true → IsOwn x number section i d
    → refers d.encoding ≡ true → d.declared.part ≡ parts.Local → ⊥
refers_kept x number section i d judged at kind f refer local =
    let needs = given_needs (scope x number section) x.methods.now (option_and_then (encoding_at x.sections.now) (choice x number section f.mention)) d.encoding f.means refer in
    by needs.0 needs.2 (choice x number section f.mention) refl needs.1
  where
    by : (e : TreeEncoding) → needs_context x.text.now e ≡ true → (o : Option Mention) → choice x number section f.mention ≡ o → option_and_then (encoding_at x.sections.now) o ≡ Some e → ⊥
    by e needs (Some t) is there =
        let c = chosen_is x number section (word x.text.now f.mention.name) t judged at kind is in
        let points = points_at_encoding x.text.now x.sections.now t c.points c.encoded in
        let same : points.0 ≡ e = some_is (sym points.1 ∙ there) in
        not_local x.text.now x.sections.now (own x number section) i f.mention f.at (c.kept (points.2 ∙ (ap (needs_context x.text.now) same ∙ needs))) (sym (ap (λ (z : Field). z.declared.part) f.is) ∙ local)
    by e needs None is there = let wrong : None ≡ Some e = there in absurd cc

pub initial_kept : (x : Setting) (number : ℕ) (section : Section) (i : ℕ) (d : Field) (bits : List Bool) → IsJudged x → IsOwn x number section i d → d.initial ≡ Some bits
    → (length bits ≤ initial_limit) × (d.declared.part ≡ parts.Local → ⊥)
initial_kept x number section i d bits judged f is =
    let text = x.text.now in
    let sections = x.sections.now in
    let has = initial_has judged.scope (bounds_in sections) x.initial_names.now x.initial_values.now judged.initials (word text f.mention.name) bits (sym (ap (λ (z : Field). z.initial) f.is) ∙ is) in
    let named : word text has.bound.name ≡ word text f.mention.name = subst (λ t. word t has.bound.name ≡ word text f.mention.name) judged.text has.named in
    let here = some_of (first_of text (mentions_in text groups.Initial 0 sections) (word text has.bound.name)) (initial_there text sections has.place has.bound has.at) in
    let stated = found text (mentions_in text groups.Initial 0 sections) (word text has.bound.name) here.0 here.1 in
    let there = known_there text (first_of text (mentions_in text groups.Base 0 sections)) (mentions_in text groups.Initial 0 sections) (λ f one. judged.names f (known (unknown_initial one))) stated.place here.0 stated.at in
    let in_base = subst (λ n. is_some (first_of text (mentions_in text groups.Base 0 sections) n) ≡ true) (sym stated.named ∙ named) there in (
      initial_short judged.scope has.bound bits has.is,
      λ local. not_local text sections (own x number section) i f.mention f.at in_base (sym (ap (λ (z : Field). z.declared.part) f.is) ∙ local),
    )

-- ---- what the format lists

pub from_map : {X Y : Type 0} (g : X → Y) (xs : List X) (k : ℕ) (y : Y) → slice_get (map g xs) k ≡ Some y → (t : X) × (slice_get xs k ≡ Some t) × (g t ≡ y)
from_map g [] k y at = let wrong : None ≡ Some y = at in absurd cc
from_map g (x ∷ xs) zero y at = (x, refl, some_is at)
from_map g (x ∷ xs) (suc k) y at = from_map g xs k y at

-- a listed field with the statement that lists it
record IsListed (x : Setting) (number : ℕ) (section : Section) (n i : ℕ) : Type 0 where
  stated : Mention
  at : slice_get (own x number section) n ≡ Some stated
  mention : Mention
  field_at : slice_get (fields x number section) i ≡ Some mention
  named : word x.text.now stated.name ≡ word x.text.now mention.name

listed_is : (x : Setting) (number : ℕ) (section : Section) (n i : ℕ) → slice_get (map (place x.text.now (names_of x.text.now (fields x number section))) (own x number section)) n ≡ Some i
    → IsListed x number section n i
listed_is x number section n i at =
    let text = x.text.now in
    let all = fields x number section in
    let order = in_field_order text x.sections.now (own x number section) in
    let from = from_map (place text (names_of text all)) (own x number section) n i at in
    let stands = get_right (mentions_in text groups.Header 0 x.sections.now ++ mentions_in text groups.Control 0 x.sections.now) (own x number section) n from.0 from.1 in
    let there : is_some (first_of text all (word text from.0.name)) ≡ true = ap is_some (firsts_find text order (word text from.0.name)) ∙ is_found text order stands.0 from.0 stands.1 in
    let p = placed text all from.0 there in
    let f = found text all (word text from.0.name) p.0 p.2 in
    record { stated = from.0; at = from.1; mention = p.0; field_at = ap (slice_get all) (sym from.2) ∙ p.1; named = f.named }

no_base : (kind : SectionKind) → is_in groups.Formats kind ≡ true → is_in groups.Base kind ≡ false
no_base kinds.Uncompressed e = absurd cc
no_base kinds.Control e = absurd cc
no_base kinds.Initial e = absurd cc
no_base kinds.Default e = absurd cc
no_base (kinds.Compressed name) e = refl

pub listed_once : (x : Setting) (number : ℕ) (section : Section) (n m i : ℕ) → IsJudged x → slice_get x.sections.now number ≡ Some section → is_in groups.Formats section.kind ≡ true
    → slice_get (map (place x.text.now (names_of x.text.now (fields x number section))) (own x number section)) n ≡ Some i
    → slice_get (map (place x.text.now (names_of x.text.now (fields x number section))) (own x number section)) m ≡ Some i → n ≡ m
listed_once x number section n m i judged at kind at_n at_m =
    let s = listed_is x number section n i at_n in
    let t = listed_is x number section m i at_m in
    let one : s.mention ≡ t.mention = some_is (sym s.field_at ∙ t.field_at) in
    each_once x.text.now (own x number section) (λ f second. judged.names f (section_cause (in_section number at (second_in_section (no_base section.kind kind) second)))) n m s.stated t.stated s.at t.at
    (s.named ∙ (ap (λ (z : Mention). word x.text.now z.name) one ∙ sym t.named))

no_first : {X : Type 0} (o p : Option X) → option_or o p ≡ None → o ≡ None
no_first (Some x) p e = e
no_first None p e = refl

no_second : {X : Type 0} (o p : Option X) → option_or o p ≡ None → p ≡ None
no_second (Some x) p e = let wrong : Some x ≡ None = e in absurd cc
no_second None p e = e

-- a name with no statement that encodes it is listed nowhere
encoded_there : (x : Setting) (number : ℕ) (section : Section) (n : ℕ) (t : Mention) → IsJudged x → slice_get x.sections.now number ≡ Some section → is_in groups.Formats section.kind ≡ true
    → slice_get (own x number section) n ≡ Some t
    → option_or (option_or (first_of x.text.now (base x) (word x.text.now t.name)) (first_of x.text.now (encoded (own x number section)) (word x.text.now t.name))) (first_of x.text.now (default x) (word x.text.now t.name)) ≡ None
    → ⊥
encoded_there x number section n t judged at kind here none = by t.is_encoded refl
  where
    name : List ℕ
    name = word x.text.now t.name

    in_both : option_or (first_of x.text.now (base x) name) (first_of x.text.now (encoded (own x number section)) name) ≡ None
    in_both = no_first (option_or (first_of x.text.now (base x) name) (first_of x.text.now (encoded (own x number section)) name)) (first_of x.text.now (default x) name) none

    in_own : first_of x.text.now (encoded (own x number section)) name ≡ None
    in_own = no_second (first_of x.text.now (base x) name) (first_of x.text.now (encoded (own x number section)) name) in_both

    in_base : first_of x.text.now (base x) name ≡ None
    in_base = no_first (first_of x.text.now (base x) name) (first_of x.text.now (encoded (own x number section)) name) in_both

    in_default : first_of x.text.now (default x) name ≡ None
    in_default = no_second (option_or (first_of x.text.now (base x) name) (first_of x.text.now (encoded (own x number section)) name)) (first_of x.text.now (default x) name) none

    in_all : first_of x.text.now (for_all_formats x.text.now x.sections.now) name ≡ None
    in_all =
        ap (λ ms. first_of x.text.now ms name) (filter-append (λ (m : Mention). m.is_encoded) (mentions_in x.text.now groups.Base 0 x.sections.now) (mentions_in x.text.now groups.Default 0 x.sections.now))
        ∙ (find-append (λ (m : Mention). bytes_eq name (word x.text.now m.name)) (base x) (default x)
        ∙ (λ i. option_or (in_base i) (in_default i)))

    look : List ℕ → Option Mention
    look = look_in (first_of x.text.now (for_all_formats x.text.now x.sections.now)) (first_of x.text.now (encoded (own x number section)))

    by : (b : Bool) → t.is_encoded ≡ b → ⊥
    by true e =
        let there = into_filter (λ (m : Mention). m.is_encoded) (own x number section) n t here e in
        nothing _ in_own (is_found x.text.now (encoded (own x number section)) there.0 t there.1)
    by false e =
        let found_none : look name ≡ None = λ i. option_or (in_all i) (in_own i) in
        judged.names _ (section_cause (in_section number at (unencoded_in_format kind (is_one_of n here
        ((λ i. cond (e i) None (not_found x.text.now look faults.NoEncoding t)) ∙ is_fault x.text.now look faults.NoEncoding t found_none)))))

pub listed_encoded : (x : Setting) (number : ℕ) (section : Section) (n i : ℕ) (d : Field) → IsJudged x → slice_get x.sections.now number ≡ Some section → is_in groups.Formats section.kind ≡ true
    → slice_get (map (place x.text.now (names_of x.text.now (fields x number section))) (own x number section)) n ≡ Some i → IsOwn x number section i d → d.encoding ≡ encoding.Bare → ⊥
listed_encoded x number section n i d judged at kind at_n f bare =
    let s = listed_is x number section n i at_n in
    let same : f.mention ≡ s.mention = some_is (sym f.at ∙ s.field_at) in
    let named : word x.text.now f.mention.name ≡ word x.text.now s.stated.name = ap (λ (z : Mention). word x.text.now z.name) same ∙ sym s.named in
    by s.stated s.at named (choice x number section f.mention) refl
    (given_none (scope x number section) x.methods.now (option_and_then (encoding_at x.sections.now) (choice x number section f.mention)) d.encoding f.means bare)
  where
    by : (t : Mention) → slice_get (own x number section) n ≡ Some t → word x.text.now f.mention.name ≡ word x.text.now t.name
        → (o : Option Mention) → choice x number section f.mention ≡ o → option_and_then (encoding_at x.sections.now) o ≡ None → ⊥
    by t here named (Some c) is none =
        let chosen = chosen_is x number section (word x.text.now f.mention.name) c judged at kind is in
        let points = points_at_encoding x.text.now x.sections.now c chosen.points chosen.encoded in
        let wrong : Some points.0 ≡ None = sym points.1 ∙ none in
        absurd cc
    by t here named None is none =
        encoded_there x number section n t judged at kind here
        (subst (λ name. option_or (option_or (first_of x.text.now (base x) name) (first_of x.text.now (encoded (own x number section)) name)) (first_of x.text.now (default x) name) ≡ None) named is)
