-- What it is to be a certificate of a profile: what it names by index is there, and its names are those of the profile (docs/FORMATS.md, The text of a certificate).
use Rattle.std.specs.Prelude.{◌≡◌, ℕ, ◌<◌, Bool, false, ◌&&◌, ◌||◌, ◌==◌, List, [], ◌∷◌, map, length, Option, Some, None, slice_get, IsTrue}
use Rattle.std.specs.Char.{is_ascii_alphabetic, is_ascii_alphanumeric}
use Rattle.std.specs.List.{AllByRecursion, AllZip, list_all}
use Rattle.sem_profile.specs.declared.profile.Part.TheVariants.{Local}
use Rattle.sem_profile.specs.declared.profile.Field.{Field}
use Rattle.sem_profile.specs.declared.profile.Format.{Format}
use Rattle.sem_profile.specs.declared.profile.Method.{Method}
use Rattle.cert_types.specs.declared.certificate.Step.{Step}
use Rattle.cert_types.specs.declared.certificate.Step.TheVariants.{ConstraintLength, Solve}
use Rattle.cert_types.specs.declared.certificate.Node.{Node}
use Rattle.cert_types.specs.declared.certificate.Node.TheVariants.{Bit, Parameter, Reference, Leaf, Nowhere}
use Rattle.cert_types.specs.declared.certificate.Plans.{Plans}
use Rattle.cert_types.specs.declared.certificate.FormatPlans.{FormatPlans}
use Rattle.cert_types.specs.declared.certificate.MethodPlans.{MethodPlans}
use Rattle.cert_types.specs.Kept.{Entries}
use Rattle.cert_types.specs.Steps.{field_of}

-- the names of a format's fields
abbrev pub field_names : Format → List (List ℕ)
field_names format = map (λ d. d.declared.name) format.fields

-- what is said of a format with these plans, if any
abbrev pub of_format : Format → Option Plans → FormatPlans
of_format format plans = record { name = format.name; fields = field_names format; plans = plans }

-- of a method with this tree, where this is said of its formats
abbrev pub of_method : Method → List Node → List FormatPlans → MethodPlans
of_method method tree formats = record { name = method.name; parameters = method.parameters; tree = tree; formats = formats }

-- the constraint of a step is one of so many
abbrev pub IsConstraintBelow : ℕ → Step → Type 0
IsConstraintBelow constraints (ConstraintLength i side n) = n < constraints
IsConstraintBelow constraints (Solve i n) = n < constraints
IsConstraintBelow constraints _ = Unit {0}

-- a step on a field of the format, by a constraint of the format
pub record IsStepOf (format : Format) (step : Step) : Type 0 where
  pub field : field_of step < length format.fields
  pub constraint : IsConstraintBelow (length format.constraints) step

pub record ArePlansOf (format : Format) (plans : Plans) : Type 0 where
  pub read : AllByRecursion (IsStepOf format) plans.read
  pub write : AllByRecursion (IsStepOf format) plans.write

-- what it says of a format: with its names, and plans of its steps
pub record IsFormatOf (format : Format) (entry : FormatPlans) : Type 0 where
  pub name : entry.name ≡ format.name
  pub fields : entry.fields ≡ field_names format
  pub plans : (plans : Plans) → entry.plans ≡ Some plans → ArePlansOf format plans

-- a format has at that place a header or control field
pub record IsKeptField (format : Format) (i : ℕ) : Type 0 where
  pub field : Field
  pub field_at : slice_get format.fields i ≡ Some field
  pub kept : field.declared.part ≡ Local → ⊥

-- the first format has
abbrev pub IsFirstKept : List Format → ℕ → Type 0
IsFirstKept [] i = ⊥
IsFirstKept (format ∷ formats) i = IsKeptField format i

-- a node that names a parameter of the method, a header or control field, or a format of it
abbrev pub IsNodeOf : Method → Node → Type 0
IsNodeOf method (Bit o) = Unit {0}
IsNodeOf method (Parameter i c) = i < length method.parameters
IsNodeOf method (Reference i c) = IsFirstKept method.formats i
IsNodeOf method (Leaf n) = n < length method.formats
IsNodeOf method Nowhere = Unit {0}

-- what it says of a method, which has formats
pub record IsMethodOf (method : Method) (entry : MethodPlans) : Type 0 where
  pub used : 0 < length method.formats
  pub name : entry.name ≡ method.name
  pub parameters : entry.parameters ≡ method.parameters
  pub tree : AllByRecursion (IsNodeOf method) entry.tree
  pub formats : AllZip IsFormatOf method.formats entry.formats

-- what it says of a method, if anything
abbrev pub IsEntryOf : Method → Option MethodPlans → Type 0
IsEntryOf method None = Unit {0}
IsEntryOf method (Some entry) = IsMethodOf method entry

-- it says something of these methods, one by one
abbrev pub IsOf : List Method → Entries → Type 0
IsOf methods entries = AllZip IsEntryOf methods entries

-- ---- names

-- a letter, then letters, digits and underscores (RFC 4997)
abbrev pub is_word : List ℕ → Bool
is_word [] = false
is_word (b ∷ bs) = is_ascii_alphabetic b && list_all (λ c. is_ascii_alphanumeric c || c == 95) bs

abbrev pub IsWord : List ℕ → Type 0
IsWord name = IsTrue (is_word name)

-- all names of a profile's methods are words
pub record AreWords (methods : List Method) : Type 0 where
  pub methods_are : (k : ℕ) (m : Method) → slice_get methods k ≡ Some m → IsWord m.name
  pub parameters : (k i : ℕ) (m : Method) (name : List ℕ) → slice_get methods k ≡ Some m → slice_get m.parameters i ≡ Some name → IsWord name
  pub formats : (k n : ℕ) (m : Method) (f : Format) (name : List ℕ) → slice_get methods k ≡ Some m → slice_get m.formats n ≡ Some f → f.name ≡ Some name → IsWord name
  pub fields : (k n i : ℕ) (m : Method) (f : Format) (d : Field) → slice_get methods k ≡ Some m → slice_get m.formats n ≡ Some f → slice_get f.fields i ≡ Some d → IsWord d.declared.name
