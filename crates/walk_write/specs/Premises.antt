-- What the arguments and the choices tell of a format's fields, before a plan is followed.
use Rattle.std.specs.Prelude.{◌≡◌, ℕ, ℤ, pos, Bool, true, false, List, [], ◌∷◌, nat_eq, slice_get, Option, Some, None, option_map, if◌then◌else◌}
use Rattle.sem_bits.specs.Number.{num}
use Rattle.sem_expr.specs.declared.expr.Attribute.{Attribute}
use Rattle.sem_expr.specs.declared.expr.Measure.{Measure}
use Rattle.sem_expr.specs.declared.expr.Measure.TheVariants as measure
use Rattle.sem_expr.specs.declared.expr.Side.{Side}
use Rattle.sem_expr.specs.declared.expr.Side.TheVariants.{Uncompressed, Compressed}
use Rattle.sem_expr.specs.declared.expr.Subject.{Subject}
use Rattle.sem_expr.specs.declared.expr.Subject.TheVariants.{This}
use Rattle.sem_expr.specs.declared.expr.Subject.TheVariants as subject
use Rattle.sem_expr.specs.Values.{Assignment}
use Rattle.sem_profile.specs.declared.profile.Encoding.{Encoding}
use Rattle.sem_profile.specs.declared.profile.Encoding.TheVariants as encoding
use Rattle.sem_profile.specs.declared.profile.Library.TheVariants as library
use Rattle.sem_profile.specs.declared.profile.Field.{Field}
use Rattle.sem_profile.specs.declared.profile.Format.{Format}
use Rattle.sem_filling.specs.declared.filling.Filling.{Filling}
use Rattle.cert_rules.specs.Views.{view, side_at}
use Rattle.walk_write.specs.declared.premises.Chosen.{Chosen}
use Rattle.walk_write.specs.declared.premises.Premises.{Premises}

-- the number of the uncompressed bits of each of these fields is its digit
abbrev pub HasChosen : Filling → List Chosen → Type 0
HasChosen f [] = Unit {0}
HasChosen f (x ∷ xs) = (num (side_at (view f) x.field Uncompressed) ≡ x.digit) × HasChosen f xs

-- the digit of a field, that of the first choice of it
abbrev pub digit_of : List Chosen → ℕ → Option ℕ
digit_of [] i = None
digit_of (x ∷ xs) i = (if nat_eq x.field i then Some x.digit else digit_of xs i)

-- the two sides are equal under it
abbrev pub is_irregular : Encoding → Bool
is_irregular (encoding.Library (library.Irregular len)) = true
is_irregular _ = false

-- the side is the uncompressed one, or equal to it
abbrev pub shows_choice : Option Field → Side → Bool
shows_choice o Uncompressed = true
shows_choice None Compressed = false
shows_choice (Some d) Compressed = is_irregular d.encoding

-- the value of a side that shows a choice
abbrev pub told_value : Format → List Chosen → Subject → Measure → Side → Option ℤ
told_value format choices (subject.Field i) measure.Value side = (if shows_choice (slice_get format.fields i) side then option_map pos (digit_of choices i) else None)
told_value format choices (subject.Field i) measure.Length side = None
told_value format choices This m side = None

abbrev pub told_attribute : Format → List Chosen → Attribute → Option ℤ
told_attribute format choices t = told_value format choices t.subject t.measure t.side

-- the numbers that are known before a plan is followed: these, and the parameters
abbrev pub told_numbers : Format → List ℤ → List Chosen → Assignment
told_numbers format args choices = record { attribute = told_attribute format choices; parameter = λ i. slice_get args i }

abbrev pub numbers : Premises → Assignment
numbers t = told_numbers t.format.now t.arguments.now t.choices.now
