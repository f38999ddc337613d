-- The end points of an interval speak for its numbers.
use Rattle.std.proofs.Common.{◌≡◌, true, ⊎_elim, ℤ, pos, ◌≤ℤ◌, ◌<ℤ◌, arith}
use Rattle.std.specs.Prelude.{int_lt}
use Rattle.std.specs.Int.Signed.{≤ℤ_refl}
use Rattle.std.proofs.lemmas.Int.{ints}
use Rattle.std.proofs.lemmas.Bool.{or_cases, or_left, or_right, and_from}
use Rattle.sem_expr.specs.declared.interval.Interval.{Interval}
use Rattle.sem_expr.specs.Rules.{IsIn, is_within, has_negative, passes}
use Rattle.sem_expr.specs.Laws.{EndPointsDecide}
use Rattle.sem_expr.proofs.RulesLimits.{lt_true, true_lt, within_between}

first_in : (i : Interval) → i.from ≤ℤ i.to → IsIn i i.from
first_in i h = record { above = ≤ℤ_refl i.from; below = h }

last_in : (i : Interval) → i.from ≤ℤ i.to → IsIn i i.to
last_in i h = record { above = h; below = ≤ℤ_refl i.to }

some_negative : (i : Interval) → i.from ≤ℤ i.to → has_negative i ≡ true → (v : ℤ) × IsIn i v × (v <ℤ pos 0)
some_negative i h e = (
  i.from,
  first_in i h,
  ⊎_elim (λ t. lt_true i.from (pos 0) t) (λ t. let b = lt_true i.to (pos 0) t in omega (arith, ints)) (or_cases (int_lt i.from (pos 0)) (int_lt i.to (pos 0)) e),
)

negative_some : (i : Interval) → (v : ℤ) × IsIn i v × (v <ℤ pos 0) → has_negative i ≡ true
negative_some i w =
    let p = w.1 in
    let q = w.2 in
    or_left (int_lt i.from (pos 0)) (int_lt i.to (pos 0)) (true_lt i.from (pos 0) (omega (arith, ints)))

some_above : (n : ℤ) (i : Interval) → i.from ≤ℤ i.to → passes n i ≡ true → (v : ℤ) × IsIn i v × (n <ℤ v)
some_above n i h e = (
  i.to,
  last_in i h,
  ⊎_elim (λ t. let b = lt_true n i.from t in omega (arith, ints)) (λ t. lt_true n i.to t) (or_cases (int_lt n i.from) (int_lt n i.to) e),
)

above_some : (n : ℤ) (i : Interval) → (v : ℤ) × IsIn i v × (n <ℤ v) → passes n i ≡ true
above_some n i w =
    let p = w.1 in
    let q = w.2 in
    or_right (int_lt n i.from) (int_lt n i.to) (true_lt n i.to (omega (arith, ints)))

pub end_points_decide : EndPointsDecide
end_points_decide i h = (
  (some_negative i h, negative_some i),
  (λ n. (some_above n i h, above_some n i)),
  (λ e v p. within_between i v e p, λ f. and_from (is_within i.from) (is_within i.to) (f i.from (first_in i h)) (f i.to (last_in i h))),
)
