-- The numbers of a filling lie in the ranges by what is seen of its fields.
use Rattle.std.proofs.Common.{◌≡◌, ◌∙◌, refl, sym, ap, subst, ℕ, zero, suc, ◌+◌, Bool, true, false, cond, nat_le, List, [], ◌∷◌, ◌++◌, length, map, flat_map, arith}
use Rattle.std.specs.Prelude.{ℤ, pos, Option, Some, None, IfSome, slice_get}
use Rattle.std.specs.Option.{option_map}
use Rattle.std.proofs.lemmas.Int.{ints}
use Rattle.sem_bits.specs.Number.{num}
use Rattle.sem_expr.specs.declared.expr.Measure.{Measure}
use Rattle.sem_expr.specs.declared.expr.Measure.TheVariants as measure
use Rattle.sem_expr.specs.declared.expr.Side.{Side}
use Rattle.sem_expr.specs.declared.expr.Side.TheVariants.{Uncompressed, Compressed}
use Rattle.sem_expr.specs.declared.ranges.Intervals.{Intervals}
use Rattle.sem_expr.specs.declared.ranges.SideIntervals.{SideIntervals}
use Rattle.sem_expr.specs.Bounds.{interval_of, intervals_at, side_intervals}
use Rattle.sem_expr.specs.Known.{measured, numbers_at, side_numbers}
use Rattle.sem_expr.specs.Rules.{IsIn}
use Rattle.sem_filling.specs.Fillings.{Sides}
use Rattle.sem_filling.specs.Fits.{field_side}
use Rattle.sem_filling.specs.Numbers.{numbers, numbers_of}
use Rattle.sem_filling.proofs.FitsSized.{map_some, and_then_some}
use Rattle.sem_reasons.specs.Told.{fields_from, joined, seen_at, seen_intervals, seen_numbers, only_number}
use Rattle.sem_reasons.specs.declared.sight.ObservedSides.{ObservedSides}
use Rattle.sem_reasons.proofs.PlacesOrdered.{piece}

itself : (v : ℤ) → IsIn (record { from = v; to = v }) v
itself v = record { above = omega (arith, ints); below = omega (arith, ints) }

-- what is seen of one side
point : (r : Intervals) (bits : List Bool) (m : Measure) → IfSome (measured (numbers bits) m) (IsIn (interval_of r m)) → IfSome (measured (numbers bits) m) (IsIn (interval_of (seen_numbers r (Some bits)) m))
point r bits measure.Length lies = itself (pos (length bits))
point r bits measure.Value lies = by (nat_le (length bits) 64) lies
  where
    by : (b : Bool) → IfSome (cond b (Some (pos (num bits))) None) (IsIn r.value) → IfSome (cond b (Some (pos (num bits))) None) (IsIn (cond b (only_number (num bits)) r.value))
    by true lies = itself (pos (num bits))
    by false lies = tt

pub one_side : (r : Intervals) (o : Option (List Bool)) (bits : List Bool) (m : Measure) → ((b : List Bool) → o ≡ Some b → bits ≡ b)
    → IfSome (measured (numbers bits) m) (IsIn (interval_of r m)) → IfSome (measured (numbers bits) m) (IsIn (interval_of (seen_numbers r o) m))
one_side r None bits m same lies = lies
one_side r (Some b) bits m same lies =
    subst (λ z. IfSome (measured (numbers bits) m) (IsIn (interval_of (seen_numbers r (Some z)) m))) (same b refl) (point r bits m lies)

two_sides : (r : SideIntervals) (up down : Option (List Bool)) (s : Sides) (z : Side) (m : Measure) → ((b : List Bool) → up ≡ Some b → s.uncompressed ≡ b) → ((b : List Bool) → down ≡ Some b → s.compressed ≡ b)
    → IfSome (measured (side_numbers (numbers_of s) z) m) (IsIn (interval_of (side_intervals r z) m)) → IfSome (measured (side_numbers (numbers_of s) z) m) (IsIn (interval_of (side_intervals (seen_intervals r up down) z) m))
two_sides r up down s Uncompressed m u c lies = one_side r.uncompressed up s.uncompressed m u lies
two_sides r up down s Compressed m u c lies = one_side r.compressed down s.compressed m c lies

none_lies : (i : SideIntervals) (z : Side) (m : Measure) → IfSome (measured (side_numbers (numbers_at [] zero) z) m) (IsIn (interval_of (side_intervals i z) m))
none_lies i Uncompressed measure.Value = tt
none_lies i Uncompressed measure.Length = tt
none_lies i Compressed measure.Value = tt
none_lies i Compressed measure.Length = tt

module _ (sights : List ObservedSides) where
  pub fields_lie : (xs : List Sides) (rs : List SideIntervals) (k i : ℕ) (z : Side) (m : Measure) → length rs ≡ length xs → ((y : Side) (b : List Bool) → seen_at sights (k + i) y ≡ Some b → field_side (slice_get xs i) y ≡ b)
      → IfSome (measured (side_numbers (numbers_at (map numbers_of xs) i) z) m) (IsIn (interval_of (side_intervals (intervals_at rs i) z) m))
      → IfSome (measured (side_numbers (numbers_at (map numbers_of xs) i) z) m) (IsIn (interval_of (side_intervals (intervals_at (fields_from sights k rs) i) z) m))
  fields_lie [] [] k i z m same seen lies = none_lies _ z m
  fields_lie [] (r ∷ rs) k i z m same seen lies = absurd (omega (arith, same))
  fields_lie (x ∷ xs) [] k i z m same seen lies = absurd (omega (arith, same))
  fields_lie (x ∷ xs) (r ∷ rs) k zero z m same seen lies =
      let here : k ≡ k + zero = omega arith in
      two_sides r (seen_at sights k Uncompressed) (seen_at sights k Compressed) x z m
      (λ b e. seen Uncompressed b (ap (λ q. seen_at sights q Uncompressed) (sym here) ∙ e))
      (λ b e. seen Compressed b (ap (λ q. seen_at sights q Compressed) (sym here) ∙ e)) lies
  fields_lie (x ∷ xs) (r ∷ rs) k (suc i) z m same seen lies =
      let there : k + suc i ≡ (k + 1) + i = omega arith in
      fields_lie xs rs (k + 1) i z m (omega (arith, same)) (λ y b e. seen y b (ap (λ q. seen_at sights q y) there ∙ e)) lies

  -- the sides that are joined
  pub joined_is : (xs : List Sides) (side : Side) (order : List ℕ) → ((i : ℕ) (b : List Bool) → seen_at sights i side ≡ Some b → piece xs side i ≡ b) → (whole : List Bool) → joined sights side order ≡ Some whole
      → flat_map (piece xs side) order ≡ whole
  joined_is xs side [] each whole e = cc
  joined_is xs side (i ∷ is) each whole e =
      let x = and_then_some (λ b. option_map (λ more. b ++ more) (joined sights side is)) (seen_at sights i side) whole e in
      let y = map_some (λ more. x.0 ++ more) (joined sights side is) whole x.2 in
      (λ j. each i x.0 x.1 j ++ joined_is xs side is each y.0 y.1 j) ∙ y.2
