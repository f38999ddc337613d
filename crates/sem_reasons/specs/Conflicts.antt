-- What a look at a field goes by.
use Rattle.std.specs.Prelude.{◌≡◌, ℕ, ◌<◌, ◌≤◌, List, Bool, true, false, Option, Some, None, drop, length, slice_get}
use Rattle.std.specs.Option.{option_copied}
use Rattle.sem_expr.specs.declared.expr.Side.{Side}
use Rattle.sem_expr.specs.Bounds.{bounding_of}
use Rattle.sem_profile.specs.BoundsLaws.{encoding_exprs}
use Rattle.sem_library.specs.Methods as lib
use Rattle.sem_library.specs.Methods.{IsOnly}
use Rattle.sem_lint.specs.Undefined.{first_undefined}
use Rattle.sem_profile.specs.declared.profile.Encoding.TheVariants as encoding
use Rattle.sem_profile.specs.declared.profile.Field.{Field}
use Rattle.sem_reasons.specs.Across.{method_of, with_values}
use Rattle.sem_reasons.specs.Full.{IsFullView}
use Rattle.sem_reasons.specs.Looks.{IsLook}
use Rattle.sem_reasons.specs.Places.{BeginsAt, length_in}
use Rattle.sem_reasons.specs.Reasons.{HasMethod, Stands}
use Rattle.sem_reasons.specs.Settings.{Setting, setting_of}
use Rattle.sem_reasons.specs.Told.{Covers, Related, base_ranges, opposite, ranges_seen, reference_in, seen_at}
use Rattle.sem_reasons.specs.declared.conflict.Coded.{Coded}
use Rattle.sem_reasons.specs.declared.conflict.Sighted.{Sighted}
use Rattle.sem_filling.specs.declared.reason.Reason.{Reason}
use Rattle.sem_filling.specs.declared.reason.Reason.TheVariants.{Dead, Short, Long, Cut, NoReference, Differs, NoSide, Untrue, Undefined, Inside, Nothing}

-- all that is seen of the look's format, and the ranges by that
pub record IsSighted (k : Sighted) : Type 0 where
  pub look : IsLook k.look k.number
  pub seen : IsFullView (setting_of k.look.question) k.number k.look.format.now k.look.sizes.now k.seen.now
  pub ranges_are : k.ranges.now ≡ ranges_seen k.seen.now (base_ranges (setting_of k.look.question) k.look.sizes.now)

abbrev pub StandsIn : Sighted → Reason → Type 0
StandsIn k r = Stands (setting_of k.look.question) k.number r

abbrev pub reference_of : Sighted → Field → Option (List Bool)
reference_of k d = reference_in (setting_of k.look.question) d

-- a field of the format with its library method
pub record IsCoded (k : Sighted) (c : Coded) : Type 0 where
  pub at : slice_get k.look.format.now.fields c.index ≡ Some c.field.now
  pub encoding_is : c.field.now.encoding ≡ encoding.Library c.library.now
  pub covers : Covers k.seen.now c.library.now c.covered.now
  pub method_is : with_values (bounding_of k.ranges.now) c.library.now ≡ Some c.method
  pub reference_is : option_copied c.reference ≡ reference_of k c.field.now

-- ---- where nothing is wrong with a field

-- to what is seen on that side the method relates no other bits than are seen on the other one
abbrev pub GoesWith : Sighted → Coded → Side → Type 0
GoesWith k c side = (own found due : List Bool) → seen_at k.seen.now.fields c.index side ≡ Some own → IsOnly (Related (method_of c.method c.covered.now) (option_copied c.reference) side own) (Some due)
    → seen_at k.seen.now.fields c.index (opposite side) ≡ Some found → found ≡ due

-- it relates some
abbrev pub HasOther : Sighted → Coded → Side → Type 0
HasOther k c side = (own : List Bool) → seen_at k.seen.now.fields c.index side ≡ Some own → IsOnly (Related (method_of c.method c.covered.now) (option_copied c.reference) side own) None → ⊥

abbrev pub MethodAt : Sighted → ℕ → Field → lib.Method → Type 0
MethodAt k i d m = HasMethod (setting_of k.look.question) k.look.format.now k.look.sizes.now k.seen.now i d m

-- so it is of each side of the field i
pub record Agrees (k : Sighted) (i : ℕ) (d : Field) : Type 0 where
  pub no_difference : (side : Side) (m : lib.Method) (own found due : List Bool) → MethodAt k i d m → seen_at k.seen.now.fields i side ≡ Some own → IsOnly (Related m (reference_of k d) side own) (Some due)
      → seen_at k.seen.now.fields i (opposite side) ≡ Some found → found ≡ due
  pub has_other : (side : Side) (m : lib.Method) (own : List Bool) → MethodAt k i d m → seen_at k.seen.now.fields i side ≡ Some own → IsOnly (Related m (reference_of k d) side own) None → ⊥

-- where the field i begins within the bits, as many are left as are due
abbrev pub IsUncut : Sighted → ℕ → Type 0
IsUncut k i = (offset due : ℕ) → offset ≤ length k.look.question.bits.now → BeginsAt k.look.order.now (length_in k.look.lengths.now) i offset → length_in k.look.lengths.now i ≡ Some due → length (drop offset k.look.question.bits.now) < due → ⊥

-- each argument of the field has a value
abbrev pub HasValues : Sighted → Field → Type 0
HasValues k d = first_undefined (bounding_of k.ranges.now) (encoding_exprs d.encoding) ≡ None

-- nothing is wrong with the field i
pub record IsClearAt (k : Sighted) (i : ℕ) : Type 0 where
  pub uncut : IsUncut k i
  pub has_values : (d : Field) → slice_get k.look.format.now.fields i ≡ Some d → HasValues k d
  pub agrees : (d : Field) → slice_get k.look.format.now.fields i ≡ Some d → Agrees k i d

-- nor with any
abbrev pub AreClear : Sighted → Type 0
AreClear k = (i : ℕ) → IsClearAt k i

-- ---- where nothing that is seen stands against a format

-- such a reason goes by what is seen of the fields
abbrev pub goes_by_sight : Reason → Bool
goes_by_sight (Dead o) = false
goes_by_sight (Short length least) = false
goes_by_sight (Long length most) = false
goes_by_sight (Cut i left due) = true
goes_by_sight (NoReference i path) = false
goes_by_sight (Differs i side found due) = true
goes_by_sight (NoSide i side found) = true
goes_by_sight (Untrue j figures) = true
goes_by_sight (Undefined at part) = true
goes_by_sight (Inside i) = false
goes_by_sight Nothing = false

-- no such reason stands against the format n
abbrev pub SeesNone : Setting → ℕ → Type 0
SeesNone s n = (r : Reason) → goes_by_sight r ≡ true → Stands s n r → ⊥
