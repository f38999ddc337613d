-- The lengths of a level, and the numbers that fit in a side of it, lie in the ranges that expressions go by.
use Rattle.std.proofs.Common.{◌≡◌, ◌∙◌, refl, sym, ap, subst, ℕ, suc, zero, ◌<◌, ◌≤◌, ◌-◌, ◌^◌, min, map, length, List, [], ◌∷◌, arith}
use Rattle.std.specs.Prelude.{slice_get, Some, IfSome, ℤ, pos}
use Rattle.std.specs.Option.{option_map, unwrap_or}
use Rattle.std.proofs.lemmas.Int.{ints}
use Rattle.std.proofs.lemmas.Option.{slice_get-map}
use Rattle.std.proofs.Math.Pow.{pow_mono}
use Rattle.sem_expr.specs.declared.expr.Measure.TheVariants.{Length}
use Rattle.sem_expr.specs.declared.expr.Side.{Side}
use Rattle.sem_expr.specs.declared.expr.Side.TheVariants.{Uncompressed, Compressed}
use Rattle.sem_expr.specs.declared.expr.Subject.{Subject}
use Rattle.sem_expr.specs.declared.expr.Subject.TheVariants as subject
use Rattle.sem_expr.specs.declared.interval.Interval.{Interval}
use Rattle.sem_expr.specs.declared.ranges.SideIntervals.{SideIntervals}
use Rattle.sem_expr.specs.Bounds.{bounding_of, every_of_side}
use Rattle.sem_expr.specs.Known.{assignment_of, side_numbers, numbers_at, measured}
use Rattle.sem_expr.specs.Ranged.{Bounding}
use Rattle.sem_expr.specs.Rules.{IsIn}
use Rattle.sem_expr.specs.Spread.{LieIn}
use Rattle.sem_profile.specs.declared.profile.Bounds.{Bounds}
use Rattle.sem_profile.specs.declared.profile.Sizes.{Sizes}
use Rattle.sem_profile.specs.declared.profile.FormatSizes.{FormatSizes}
use Rattle.sem_profile.specs.BoundsFaults.{side_bounds}
use Rattle.sem_profile.specs.Ranging as ranging
use Rattle.sem_filling.specs.declared.filling.Filling.{Filling}
use Rattle.sem_filling.specs.Fillings.{Sides, listing_of, level, packed_bits}
use Rattle.sem_filling.specs.Bounded.{LiesBetween}
use Rattle.sem_filling.specs.Fits.{side_of, field_side}
use Rattle.sem_filling.specs.Numbers.{known_level, numbers_of}
use Rattle.sem_lint.specs.Attributes.{length_range, value_range}

-- ---- lengths

known_length : (fs : List Sides) (i : ℕ) (z : Side) → i < length fs → measured (side_numbers (numbers_at (map numbers_of fs) i) z) Length ≡ Some (pos (length (field_side (slice_get fs i) z)))
known_length [] i z lt = absurd (omega (arith, lt))
known_length (f ∷ fs) zero Uncompressed lt = refl
known_length (f ∷ fs) zero Compressed lt = refl
known_length (f ∷ fs) (suc i) z lt = known_length fs i z (omega (arith, lt))

module _ (f : Filling) (args : List ℤ) (listing : List ℕ) (listing_is : listing_of f ≡ listing) where
  length_is : (x : Subject) (z : Side) → ((i : ℕ) → x ≡ subject.Field i → i < length (level f))
      → (assignment_of (known_level f args)).attribute (record { subject = x; side = z; measure = Length }) ≡ Some (pos (length (side_of listing (level f) x z)))
  length_is (subject.Field i) z within = known_length (level f) i z (within i refl)
  length_is subject.This Uncompressed within = refl
  length_is subject.This Compressed within = ap (λ l. Some (pos (length (packed_bits l (level f))))) listing_is

  pub length_lies : (r : Bounding) → LieIn (assignment_of (known_level f args)) r → (x : Subject) (z : Side) → ((i : ℕ) → x ≡ subject.Field i → i < length (level f))
      → IsIn (length_range r x z) (pos (length (side_of listing (level f) x z)))
  length_lies r lie x z within = subst (λ o. IfSome o (IsIn (length_range r x z))) (length_is x z within) (lie.attributes (record { subject = x; side = z; measure = Length }))

-- ---- numbers that fit

fitting : (b : Bounds) (n count : ℕ) → LiesBetween b count → count ≤ 64 → n < 2 ^ count → IsIn (ranging.value_range b.most) (pos n)
fitting b n count lies short small =
    let most = lies.most in
    let up : count ≤ min b.most 126 = omega (arith, most, short) in
    let power : 2 ^ count ≤ 2 ^ min b.most 126 = pow_mono up in
    let le : n ≤ 2 ^ min b.most 126 - 1 = omega (arith, small, power) in
    record { above = omega (arith, ints); below = omega (arith, ints) }

module _ (sizes : FormatSizes) (parameters : List Interval) where
  abbrev R : Bounding
  R = bounding_of (ranging.format_ranges sizes parameters)

  intervals_is : (i : ℕ) (b : Sizes) → slice_get sizes.fields i ≡ Some b
      → unwrap_or (slice_get (map ranging.side_ranges sizes.fields) i) (record { uncompressed = every_of_side; compressed = every_of_side }) ≡ ranging.side_ranges b
  intervals_is i b at = ap (λ o. unwrap_or o (record { uncompressed = every_of_side; compressed = every_of_side })) (slice_get-map ranging.side_ranges sizes.fields i ∙ ap (option_map ranging.side_ranges) at)

  range_is : (i : ℕ) (b : Sizes) (z : Side) → slice_get sizes.fields i ≡ Some b → value_range R (subject.Field i) z ≡ ranging.value_range (side_bounds z b).most
  range_is i b Uncompressed at = ap (λ (s : SideIntervals). s.uncompressed.value) (intervals_is i b at)
  range_is i b Compressed at = ap (λ (s : SideIntervals). s.compressed.value) (intervals_is i b at)

  pub number_lies : (i : ℕ) (b : Sizes) (z : Side) → slice_get sizes.fields i ≡ Some b → (n count : ℕ) → LiesBetween (side_bounds z b) count → count ≤ 64 → n < 2 ^ count
      → IsIn (value_range R (subject.Field i) z) (pos n)
  number_lies i b z at n count lies short small = subst (λ w. IsIn w (pos n)) (sym (range_is i b z at)) (fitting (side_bounds z b) n count lies short small)
