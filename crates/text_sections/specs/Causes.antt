-- What stands behind a fault of a method's names and sections.
pub use Rattle.sem_profile.specs.Precedence.{earliest}
use Rattle.std.specs.Prelude.{◌≡◌, ◌&&◌, ℕ, List, slice_get, take, Option, Some, None, option_map, is_some, if◌then◌else◌, nat_lt, nat_eq}
use Rattle.std.specs.Option.{option_or}
use Rattle.text_source.specs.declared.span.Span.{Span}
use Rattle.sem_profile.specs.declared.fault.ProfileFault.{ProfileFault}
use Rattle.sem_profile.specs.declared.fault.ProfileFaultKind.{ProfileFaultKind}
use Rattle.sem_profile.specs.declared.fault.ProfileFaultKind.TheVariants as kinds
use Rattle.sem_profile.specs.Faults.{about}
use Rattle.sem_profile.specs.Precedence.{Judged}
use Rattle.sem_profile.specs.Words.{word}
use Rattle.text_sections.specs.declared.mention.Mention.{Mention}
use Rattle.text_sections.specs.Mentions.{first_of}

-- where no fault is answered none has a cause, and what is answered has one
abbrev pub Answers : (ProfileFault → Type 0) → Option ProfileFault → Type 0
Answers Causes found = Judged ((f : ProfileFault) → Causes f → ⊥) Causes found

abbrev pub later : Span → Span → Span
later s t = if nat_lt s.from t.from then t else s

-- a second encoding where both statements of one section give one
abbrev pub second_kind : Mention → Mention → ProfileFaultKind
second_kind s t = if nat_eq s.section t.section && s.is_encoded && t.is_encoded then kinds.SecondEncoding else kinds.DefinedTwice

abbrev pub second_statement : Mention → Mention → ProfileFault
second_statement s t = about (second_kind s t) t.name

-- a mention of a name that an earlier one of the list has
pub data IsSecond (text : List ℕ) (mentions : List Mention) : ProfileFault → Type 0 where
  is_second : (k : ℕ) {s t : Mention} → slice_get mentions k ≡ Some t → first_of text (take k mentions) (word text t.name) ≡ Some s → IsSecond text mentions (second_statement s t)

-- a fault that some element of the list has
pub data IsOneOf {X : Type 0} (f : X → Option ProfileFault) (xs : List X) : ProfileFault → Type 0 where
  is_one_of : (k : ℕ) {x : X} {fault : ProfileFault} → slice_get xs k ≡ Some x → f x ≡ Some fault → IsOneOf f xs fault

-- a name that is looked up among others and found: it is defined twice, at the later of the two
abbrev pub defined_before : List ℕ → (List ℕ → Option Mention) → Mention → Option ProfileFault
defined_before text look m = option_map (λ s. about kinds.DefinedTwice (later s.name m.name)) (look (word text m.name))

-- a field that has an encoding for all formats, and another one
abbrev pub encoded_before : List ℕ → (List ℕ → Option Mention) → Mention → Option ProfileFault
encoded_before text look m = option_map (λ s. about kinds.SecondEncoding (later s.name m.name)) (look (word text m.name))

-- a name that isn't found
abbrev pub not_found : List ℕ → (List ℕ → Option Mention) → ProfileFaultKind → Mention → Option ProfileFault
not_found text look kind m = if is_some (look (word text m.name)) then None else Some (about kind m.name)

-- a listed field that has no encoding
abbrev pub not_encoded : List ℕ → (List ℕ → Option Mention) → Mention → Option ProfileFault
not_encoded text look m = if m.is_encoded then None else not_found text look kinds.NoEncoding m

-- a field with static or lsb that no context has
abbrev pub not_kept : List ℕ → (List ℕ → Option Mention) → Mention → Option ProfileFault
not_kept text look m = if m.needs_context then not_found text look kinds.NoContext m else None

-- what either finds, the first before the second
abbrev pub look_in : (List ℕ → Option Mention) → (List ℕ → Option Mention) → List ℕ → Option Mention
look_in look more name = option_or (look name) (more name)

abbrev pub unknown : List ℕ → (List ℕ → Option Mention) → Mention → Option ProfileFault
unknown text look m = not_found text look kinds.UnknownName m
