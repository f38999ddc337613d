-- The causes of a method's faults, as sums.
use Rattle.std.proofs.Common.{◌≡◌, ◌∙◌, ap, ℕ, ◌<◌, ◌≤◌, ◌+◌, ◌⊎◌, inl, inr, Bool, true, false, cond, List, [], map, refl, sym, Some, None, Option, arith, subst, length}
use Rattle.std.specs.Prelude.{slice_get, is_some}
use Rattle.std.specs.Option.{option_or}
use Rattle.std.proofs.lemmas.Option.{slice_get_within}
use Rattle.std.proofs.lemmas.Bool.{cases_order}
use Rattle.text_source.specs.declared.span.Span.{Span}
use Rattle.text_tree.specs.declared.tree.Section.{Section}
use Rattle.sem_profile.specs.declared.fault.ProfileFault.{ProfileFault}
use Rattle.sem_profile.specs.declared.fault.ProfileFaultKind.TheVariants as kinds
use Rattle.sem_profile.specs.Faults.{about}
use Rattle.sem_profile.specs.Precedence.{earlier}
use Rattle.sem_profile.specs.Words.{word}
use Rattle.text_sections.specs.declared.mention.Mention.{Mention}
use Rattle.text_sections.specs.declared.mention.Group.TheVariants as groups
use Rattle.text_sections.specs.declared.names.Lists.{Lists}
use Rattle.text_sections.specs.declared.table.Table.{Table}
use Rattle.text_sections.specs.Mentions.{first_of, encoded, listed, is_in, mentions_of}
use Rattle.text_sections.specs.Tables.{IsTable, find_in}
use Rattle.text_sections.specs.Causes.{Answers, IsSecond, IsOneOf, is_one_of, defined_before, encoded_before, unknown, not_encoded, not_kept, look_in, earliest}
use Rattle.text_sections.specs.Names.{ParameterCause, second_parameter, constant_too, EncodingCause, in_format_too, in_default_too, KnownCause, unknown_initial, unknown_default, ContextCause, local_in_format, local_in_default, SectionCause, second_in_section, unencoded_in_format, SectionsCause, in_section}
use Rattle.text_sections.proofs.CausesFolding.{answers_as, answers_join, one_answers, finds, nothing}

pub both_looks : (text : List ℕ) (first more : List Mention) (table other : Table) → IsTable text first table → IsTable text more other → look_in (find_in table) (find_in other) ≡ look_in (first_of text first) (first_of text more)
both_looks text first more table other is also = λ i name. option_or (is.finds name i) (also.finds name i)

or_nothing : {X : Type 0} (o : Option X) → option_or o None ≡ o
or_nothing None = refl
or_nothing (Some x) = refl

pub one_look : (text : List ℕ) (first : List Mention) (table other : Table) → IsTable text first table → IsTable text [] other → look_in (find_in table) (find_in other) ≡ first_of text first
one_look text first table other is empty = both_looks text first [] table other is empty ∙ (λ i name. or_nothing (first_of text first name) i)

pub parameters_judged : (text : List ℕ) (constants : List Mention) (parameters : List Span) (table : Table) {a b o : Option ProfileFault} → IsTable text constants table → Answers (IsSecond text (map listed parameters)) a
    → b ≡ earliest (defined_before text (find_in table)) (map listed parameters) → o ≡ earlier a b → Answers (ParameterCause text constants parameters) o
parameters_judged text constants parameters table is second shared joined =
    answers_join {C = IsSecond text (map listed parameters)} {D = IsOneOf (defined_before text (first_of text constants)) (map listed parameters)}
    (λ f c. elim c as (λ _. ParameterCause text constants parameters f) [ inl x ↦ second_parameter x | inr y ↦ constant_too y ]) cases second
    (one_answers (defined_before text) (map listed parameters) (find_in table) (first_of text constants) _ (finds text constants table is) shared) joined
  where
    cases : (f : ProfileFault) → ParameterCause text constants parameters f → IsSecond text (map listed parameters) f ⊎ IsOneOf (defined_before text (first_of text constants)) (map listed parameters) f
    cases f (second_parameter x) = inl x
    cases f (constant_too y) = inr y

pub encodings_judged : (text : List ℕ) (lists : Lists) (table : Table) {a b o : Option ProfileFault} → IsTable text (encoded lists.base) table → a ≡ earliest (encoded_before text (find_in table)) (encoded lists.formats)
    → b ≡ earliest (encoded_before text (find_in table)) (encoded lists.default) → o ≡ earlier a b → Answers (EncodingCause text lists) o
encodings_judged text lists table is formats defaults joined =
    let look = finds text (encoded lists.base) table is in
    answers_join {C = IsOneOf (encoded_before text (first_of text (encoded lists.base))) (encoded lists.formats)} {D = IsOneOf (encoded_before text (first_of text (encoded lists.base))) (encoded lists.default)}
    (λ f c. elim c as (λ _. EncodingCause text lists f) [ inl x ↦ in_format_too x | inr y ↦ in_default_too y ]) cases
    (one_answers (encoded_before text) (encoded lists.formats) (find_in table) (first_of text (encoded lists.base)) _ look formats)
    (one_answers (encoded_before text) (encoded lists.default) (find_in table) (first_of text (encoded lists.base)) _ look defaults) joined
  where
    cases : (f : ProfileFault) → EncodingCause text lists f
        → IsOneOf (encoded_before text (first_of text (encoded lists.base))) (encoded lists.formats) f ⊎ IsOneOf (encoded_before text (first_of text (encoded lists.base))) (encoded lists.default) f
    cases f (in_format_too x) = inl x
    cases f (in_default_too y) = inr y

-- both look-ups find nothing for a name in DEFAULT
pub defaults_among : (text : List ℕ) (lists : Lists) (base : Table) {o : Option ProfileFault} → IsTable text lists.base base
    → o ≡ earliest (unknown text (look_in (find_in base) (first_of text lists.formats))) lists.default
    → Answers (IsOneOf (unknown text (look_in (first_of text lists.base) (first_of text lists.formats))) lists.default) o
defaults_among text lists base base_is is =
    one_answers (unknown text) lists.default (look_in (find_in base) (first_of text lists.formats)) (look_in (first_of text lists.base) (first_of text lists.formats)) _
    (ap (λ look. look_in look (first_of text lists.formats)) (finds text lists.base base base_is)) is

pub defaults_judged : (text : List ℕ) (lists : Lists) (base formats : Table) {o : Option ProfileFault} → IsTable text lists.base base → IsTable text lists.formats formats
    → o ≡ earliest (unknown text (look_in (find_in base) (find_in formats))) lists.default → Answers (IsOneOf (unknown text (look_in (first_of text lists.base) (first_of text lists.formats))) lists.default) o
defaults_judged text lists base formats base_is formats_are defaults =
    one_answers (unknown text) lists.default (look_in (find_in base) (find_in formats)) (look_in (first_of text lists.base) (first_of text lists.formats)) _
    (both_looks text lists.base lists.formats base formats base_is formats_are) defaults

known_by_more : (o p : Option Mention) (v f : ProfileFault) → cond (is_some (option_or o p)) None (Some v) ≡ Some f → cond (is_some o) None (Some v) ≡ Some f
known_by_more None None v f h = h
known_by_more None (Some y) v f h = let wrong : None ≡ Some f = h in absurd cc
known_by_more (Some x) p v f h = h

-- where the first look-up finds all names, both do
pub none_unknown : (text : List ℕ) (lists : Lists) (base none : Table) {o : Option ProfileFault} → IsTable text lists.base base → IsTable text [] none
    → o ≡ earliest (unknown text (look_in (find_in base) (find_in none))) lists.default → o ≡ None
    → Answers (IsOneOf (unknown text (look_in (first_of text lists.base) (first_of text lists.formats))) lists.default) None
none_unknown text lists base none {o} base_is none_is defaults no_fault =
    let judged : Answers (IsOneOf (unknown text (first_of text lists.base)) lists.default) o =
    one_answers (unknown text) lists.default (look_in (find_in base) (find_in none)) (first_of text lists.base) o (one_look text lists.base base none base_is none_is) defaults in
    record {
      fine = λ e f wrong. judged.fine no_fault f (fewer f wrong);
      cause = λ f e. let wrong : None ≡ Some f = e in absurd cc;
    }
  where
    fewer : (f : ProfileFault) → IsOneOf (unknown text (look_in (first_of text lists.base) (first_of text lists.formats))) lists.default f → IsOneOf (unknown text (first_of text lists.base)) lists.default f
    fewer f (is_one_of k {x} at h) =
        is_one_of k at (known_by_more (first_of text lists.base (word text x.name)) (first_of text lists.formats (word text x.name)) (about kinds.UnknownName x.name) f h)

pub known_judged : (text : List ℕ) (lists : Lists) (base none : Table) {a b o : Option ProfileFault} → IsTable text lists.base base → IsTable text [] none
    → a ≡ earliest (unknown text (look_in (find_in base) (find_in none))) lists.initial → Answers (IsOneOf (unknown text (look_in (first_of text lists.base) (first_of text lists.formats))) lists.default) b → o ≡ earlier a b
    → Answers (KnownCause text lists) o
known_judged text lists base none base_is none_is initial defaults joined =
    answers_join {C = IsOneOf (unknown text (first_of text lists.base)) lists.initial} {D = IsOneOf (unknown text (look_in (first_of text lists.base) (first_of text lists.formats))) lists.default}
    (λ f c. elim c as (λ _. KnownCause text lists f) [ inl x ↦ unknown_initial x | inr y ↦ unknown_default y ]) cases
    (one_answers (unknown text) lists.initial (look_in (find_in base) (find_in none)) (first_of text lists.base) _ (one_look text lists.base base none base_is none_is) initial)
    defaults joined
  where
    cases : (f : ProfileFault) → KnownCause text lists f
        → IsOneOf (unknown text (first_of text lists.base)) lists.initial f ⊎ IsOneOf (unknown text (look_in (first_of text lists.base) (first_of text lists.formats))) lists.default f
    cases f (unknown_initial x) = inl x
    cases f (unknown_default y) = inr y

pub contexts_judged : (text : List ℕ) (lists : Lists) (base : Table) {a b o : Option ProfileFault} → IsTable text lists.base base → a ≡ earliest (not_kept text (find_in base)) lists.formats
    → b ≡ earliest (not_kept text (find_in base)) lists.default → o ≡ earlier a b → Answers (ContextCause text lists) o
contexts_judged text lists base is formats defaults joined =
    let look = finds text lists.base base is in
    answers_join {C = IsOneOf (not_kept text (first_of text lists.base)) lists.formats} {D = IsOneOf (not_kept text (first_of text lists.base)) lists.default}
    (λ f c. elim c as (λ _. ContextCause text lists f) [ inl x ↦ local_in_format x | inr y ↦ local_in_default y ]) cases
    (one_answers (not_kept text) lists.formats (find_in base) (first_of text lists.base) _ look formats)
    (one_answers (not_kept text) lists.default (find_in base) (first_of text lists.base) _ look defaults) joined
  where
    cases : (f : ProfileFault) → ContextCause text lists f → IsOneOf (not_kept text (first_of text lists.base)) lists.formats f ⊎ IsOneOf (not_kept text (first_of text lists.base)) lists.default f
    cases f (local_in_format x) = inl x
    cases f (local_in_default y) = inr y

-- a section that is no format
pub plain_judged : (text : List ℕ) (encodings : List Mention) (place : ℕ) (s : Section) {a : Option ProfileFault} → is_in groups.Base s.kind ≡ false → is_in groups.Formats s.kind ≡ false
    → Answers (IsSecond text (mentions_of text place s.items)) a → Answers (SectionCause text encodings place s) a
plain_judged text encodings place s base format second = answers_as (λ f c. second_in_section base c) cases second
  where
    cases : (f : ProfileFault) → SectionCause text encodings place s f → IsSecond text (mentions_of text place s.items) f
    cases f (second_in_section b c) = c
    cases f (unencoded_in_format yes_format c) = let wrong : false ≡ true = sym format ∙ yes_format in absurd cc

-- both look-ups find nothing for a listed field
pub bare_judged : (text : List ℕ) (encodings own : List Mention) (shared table : Table) {o : Option ProfileFault} → IsTable text encodings shared → IsTable text (encoded own) table
    → o ≡ earliest (not_encoded text (look_in (find_in shared) (find_in table))) own → Answers (IsOneOf (not_encoded text (look_in (first_of text encodings) (first_of text (encoded own)))) own) o
bare_judged text encodings own shared table shared_is own_is bare =
    one_answers (not_encoded text) own (look_in (find_in shared) (find_in table)) (look_in (first_of text encodings) (first_of text (encoded own))) _ (both_looks text encodings (encoded own) shared table shared_is own_is) bare

found_by_more : (b : Bool) (o p : Option Mention) (v f : ProfileFault) → cond b None (cond (is_some (option_or o p)) None (Some v)) ≡ Some f → cond b None (cond (is_some o) None (Some v)) ≡ Some f
found_by_more true o p v f h = h
found_by_more false None None v f h = h
found_by_more false None (Some y) v f h = let wrong : None ≡ Some f = h in absurd cc
found_by_more false (Some x) p v f h = h

-- where the first look-up leaves no field bare, both leave none
pub none_bare : (text : List ℕ) (encodings own : List Mention) (shared none : Table) (more : List ℕ → Option Mention) {o : Option ProfileFault} → IsTable text encodings shared → IsTable text [] none
    → o ≡ earliest (not_encoded text (look_in (find_in shared) (find_in none))) own → o ≡ None → Answers (IsOneOf (not_encoded text (look_in (first_of text encodings) more)) own) None
none_bare text encodings own shared none more {o} shared_is none_is bare no_fault =
    let judged : Answers (IsOneOf (not_encoded text (first_of text encodings)) own) o =
    one_answers (not_encoded text) own (look_in (find_in shared) (find_in none)) (first_of text encodings) o (one_look text encodings shared none shared_is none_is) bare in
    record {
      fine = λ e f wrong. judged.fine no_fault f (fewer f wrong);
      cause = λ f e. let wrong : None ≡ Some f = e in absurd cc;
    }
  where
    fewer : (f : ProfileFault) → IsOneOf (not_encoded text (look_in (first_of text encodings) more)) own f → IsOneOf (not_encoded text (first_of text encodings)) own f
    fewer f (is_one_of k {x} at h) =
        is_one_of k at (found_by_more x.is_encoded (first_of text encodings (word text x.name)) (more (word text x.name)) (about kinds.NoEncoding x.name) f h)

pub format_judged : (text : List ℕ) (encodings : List Mention) (place : ℕ) (s : Section) {a b o : Option ProfileFault} → is_in groups.Base s.kind ≡ false → is_in groups.Formats s.kind ≡ true
    → Answers (IsSecond text (mentions_of text place s.items)) a
    → Answers (IsOneOf (not_encoded text (look_in (first_of text encodings) (first_of text (encoded (mentions_of text place s.items))))) (mentions_of text place s.items)) b → o ≡ earlier a b → Answers (SectionCause text encodings place s) o
format_judged text encodings place s base format second bare joined =
    answers_join {C = IsSecond text (mentions_of text place s.items)} {D = IsOneOf (not_encoded text (look_in (first_of text encodings) (first_of text (encoded (mentions_of text place s.items))))) (mentions_of text place s.items)}
    (λ f c. elim c as (λ _. SectionCause text encodings place s f) [ inl x ↦ second_in_section base x | inr y ↦ unencoded_in_format format y ]) cases second bare joined
  where
    cases : (f : ProfileFault) → SectionCause text encodings place s f
        → IsSecond text (mentions_of text place s.items) f ⊎ IsOneOf (not_encoded text (look_in (first_of text encodings) (first_of text (encoded (mentions_of text place s.items))))) (mentions_of text place s.items) f
    cases f (second_in_section b c) = inl c
    cases f (unencoded_in_format b c) = inr c

-- a cause in a section below the place
pub record CauseBelow (text : List ℕ) (encodings : List Mention) (sections : List Section) (below : ℕ) (f : ProfileFault) : Type 0 where
  pub place : ℕ
  pub section : Section
  pub earlier_one : place < below
  pub at : slice_get sections place ≡ Some section
  pub cause : SectionCause text encodings place section f

pub none_below : (text : List ℕ) (encodings : List Mention) (sections : List Section) → Answers (CauseBelow text encodings sections 0) None
none_below text encodings sections = answers_as (λ f wrong. absurd wrong) (λ f c. let below = c.earlier_one in absurd (omega arith)) nothing

pub one_below : (text : List ℕ) (encodings : List Mention) (sections : List Section) (i : ℕ) (s : Section) {found next new : Option ProfileFault} → slice_get sections i ≡ Some s → Answers (SectionCause text encodings i s) next
    → Answers (CauseBelow text encodings sections i) found → new ≡ earlier found next → Answers (CauseBelow text encodings sections (i + 1)) new
one_below text encodings sections i s here judged before is =
    answers_join {C = CauseBelow text encodings sections i} {D = SectionCause text encodings i s}
    (λ f c. elim c as (λ _. CauseBelow text encodings sections (i + 1) f) [
      | inl b ↦ let below = b.earlier_one in record { place = b.place; section = b.section; earlier_one = omega arith; at = b.at; cause = b.cause }
      | inr d ↦ record { place = i; section = s; earlier_one = omega arith; at = here; cause = d }
    ])
    (λ f b. elim (cases_order b.place i) as (λ _. CauseBelow text encodings sections i f ⊎ SectionCause text encodings i s f) [
      | inl e ↦
          let both : Some b.section ≡ Some s = sym (subst (λ n. slice_get sections n ≡ Some b.section) e b.at) ∙ here in
          let same : b.section ≡ s = cc in
          inr (subst (λ n. SectionCause text encodings n s f) e (subst (λ t. SectionCause text encodings b.place t f) same b.cause))
      | inr o ↦ elim o as (λ _. CauseBelow text encodings sections i f ⊎ SectionCause text encodings i s f) [
        | inl l ↦ inl (record { place = b.place; section = b.section; earlier_one = l; at = b.at; cause = b.cause })
        | inr g ↦ let below = b.earlier_one in absurd (omega arith)
      ]
    ])
    before judged is

pub all_below : (text : List ℕ) (encodings : List Mention) (sections : List Section) (i : ℕ) {found : Option ProfileFault} → length sections ≤ i → Answers (CauseBelow text encodings sections i) found
    → Answers (SectionsCause text encodings sections) found
all_below text encodings sections i past before = answers_as (λ f b. in_section b.place b.at b.cause) cases before
  where
    cases : (f : ProfileFault) → SectionsCause text encodings sections f → CauseBelow text encodings sections i f
    cases f (in_section k {s} at cause) = let lt : k < length sections = slice_get_within sections k s at in record { place = k; section = s; earlier_one = omega arith; at = at; cause = cause }
