-- The asked fields of a profile (docs/NOTATION.md): control fields of the top of one constant length, whose values the packer is given.
use Rattle.std.specs.Prelude.{◌≡◌, ℕ, suc, ℤ, Bool, true, List, [], ◌∷◌, Option, Some, None, filter, map, nat_eq, slice_get, if◌then◌else◌}
use Rattle.std.specs.List.{cons_option}
use Rattle.std.specs.Option.{option_map, option_or, unwrap_or}
use Rattle.sem_expr.specs.declared.expr.Expr.{Expr}
use Rattle.sem_expr.specs.declared.expr.Side.TheVariants.{Uncompressed, Compressed}
use Rattle.sem_profile.specs.declared.profile.Constraint.{Constraint}
use Rattle.sem_profile.specs.declared.profile.Constraint.TheVariants.{Bracket, Enforce}
use Rattle.sem_profile.specs.declared.profile.Field.{Field}
use Rattle.sem_profile.specs.declared.profile.Format.{Format}
use Rattle.sem_profile.specs.declared.profile.Method.{Method}
use Rattle.sem_profile.specs.declared.profile.Part.TheVariants as parts
use Rattle.sem_profile.specs.Constants.{constant}
use Rattle.sem_profile.specs.declared.asked.AskedField.{AskedField}

-- ---- how many bits the constraints give a field

-- the value of the one expression, where it is a constant
abbrev pub constant_alone : List Expr → Option ℤ
constant_alone [] = None
constant_alone (e ∷ []) = constant e
constant_alone (e ∷ f ∷ es) = None

-- the constant of a bracket of one on the field's uncompressed side
abbrev pub length_by : ℕ → Constraint → Option ℤ
length_by i (Bracket k Uncompressed lengths place) = if nat_eq k i then constant_alone lengths else None
length_by i (Bracket k Compressed lengths place) = None
length_by i (Enforce c place) = None

-- that of the first such bracket
abbrev pub length_of : List Constraint → ℕ → Option ℤ
length_of [] i = None
length_of (c ∷ cs) i = option_or (length_by i c) (length_of cs i)

-- a constraint of the format gives the field this length
pub record HasLength (f : Format) (i : ℕ) (bits : ℤ) : Type 0 where
  pub number : ℕ
  pub constraint : Constraint
  pub at : slice_get f.constraints number ≡ Some constraint
  pub gives : length_by i constraint ≡ Some bits

-- ---- the asked fields

abbrev pub is_asked : Field → Bool
is_asked d = d.declared.asked

-- the field with its length, if it is asked
abbrev pub asked_at : List Constraint → ℕ → Field → Option AskedField
asked_at cs i d = if is_asked d then option_map (λ n. record { name = d.declared.name; length = n }) (length_of cs i) else None

abbrev pub asked_from : List Constraint → ℕ → List Field → List AskedField
asked_from cs i [] = []
asked_from cs i (d ∷ ds) = cons_option (asked_at cs i d) (asked_from cs (suc i) ds)

-- those of a format, in field order
abbrev pub asked_in : Format → List AskedField
asked_in f = asked_from f.constraints 0 f.fields

-- those of the first format
abbrev pub asked_by : List Format → List AskedField
asked_by [] = []
asked_by (f ∷ fs) = asked_in f

-- those of the top's first format
abbrev pub asked_of : List Method → ℕ → List AskedField
asked_of methods top = unwrap_or (option_map (λ (m : Method). asked_by m.formats) (slice_get methods top)) []

-- the names of the fields of a format that are asked, in field order
abbrev pub asked_names : Format → List (List ℕ)
asked_names f = map (λ (d : Field). d.declared.name) (filter is_asked f.fields)

-- the format asks for these fields and for no other: its asked fields have their names, in their order, and are control fields of their lengths
pub record Asks (asked : List AskedField) (f : Format) : Type 0 where
  pub names : asked_names f ≡ map (λ (a : AskedField). a.name) asked
  pub control : (i : ℕ) (d : Field) → slice_get f.fields i ≡ Some d → is_asked d ≡ true → d.declared.part ≡ parts.Control
  pub lengths : (i n : ℕ) (d : Field) (a : AskedField) → slice_get f.fields i ≡ Some d → slice_get asked n ≡ Some a → d.declared.name ≡ a.name → HasLength f i a.length

-- the asked fields of a profile
pub record AreAsked (methods : List Method) (top : ℕ) (asked : List AskedField) : Type 0 where
  -- they are those of the top's first format
  pub first : asked ≡ asked_of methods top
  -- each format of the top asks for them
  pub each : (k : ℕ) (m : Method) (f : Format) → slice_get methods top ≡ Some m → slice_get m.formats k ≡ Some f → Asks asked f
  -- and no other method asks for any
  pub alone : (j k i : ℕ) (m : Method) (f : Format) (d : Field) → slice_get methods j ≡ Some m → slice_get m.formats k ≡ Some f → slice_get f.fields i ≡ Some d → is_asked d ≡ true → j ≡ top
