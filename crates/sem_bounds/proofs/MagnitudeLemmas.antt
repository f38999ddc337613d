-- How far the ranges of an operator reach, by those of its operands.
use Rattle.std.proofs.Common.{◌≡◌, ◌∙◌, ap, sym, refl, subst, ℕ, ◌+◌, ◌*◌, ◌≤◌, ◌^◌, Bool, true, false, List, IfSome, arith}
use Rattle.std.specs.Prelude.{ℤ, pos, negsuc, ◌*ℤ◌, unsigned_abs, Option, Some, None, Result, ◌||◌, if◌then◌else◌}
use Rattle.std.specs.Int.{int_min, int_max}
use Rattle.std.proofs.lemmas.Int.{ints, clamps, unsigned_abs-mul}
use Rattle.std.proofs.lemmas.Bool.{and_from}
use Rattle.std.proofs.Math.Nat.{mul-le-mul_left, mul-le-mul_right}
use Rattle.std.proofs.lemmas.Option.{IfSome_then}
use Rattle.text_source.specs.declared.span.Span.{Span}
use Rattle.sem_expr.specs.declared.expr.Operator.{Operator}
use Rattle.sem_expr.specs.declared.expr.Operator.TheVariants.{Add, Subtract, Multiply, Divide, Remainder}
use Rattle.sem_expr.specs.declared.interval.Interval.{Interval}
use Rattle.sem_expr.specs.declared.fault.RangeFault.{RangeFault}
use Rattle.sem_expr.specs.Rules.{is_within, is_limited, rule, refuses, has_negative, up_to_size, greatest_size}
use Rattle.sem_expr.specs.Ranged.{joined, both_ranged, ranged}
use Rattle.sem_expr.proofs.RulesLimits.{is_within_by}
use Rattle.sem_expr.proofs.RulesParts.{joined_ok, limited_ok}
use Rattle.sem_expr.specs.declared.expr.Attribute.{Attribute}
use Rattle.sem_expr.specs.declared.expr.Side.{Side}
use Rattle.sem_expr.specs.declared.expr.Side.TheVariants.{Uncompressed, Compressed}
use Rattle.sem_expr.specs.declared.expr.Expr.{Expr}
use Rattle.sem_expr.specs.declared.expr.Expr.TheVariants as expr
use Rattle.sem_expr.specs.Bounds.{side_intervals, interval_of}
use Rattle.sem_profile.specs.declared.profile.Bounds.{Bounds}
use Rattle.sem_profile.specs.declared.profile.Sizes.{Sizes}
use Rattle.sem_profile.specs.declared.profile.FormatSizes.{FormatSizes}
use Rattle.sem_profile.specs.Ranging.{side_ranges, intervals_of}
use Rattle.sem_profile.specs.declared.profile.Format.{Format}
use Rattle.sem_profile.specs.Precedence.{earlier}
use Rattle.sem_profile.specs.BoundsFaults.{side_bounds, is_wide_by, wide_in, wide_value}
use Rattle.sem_bounds.specs.Magnitude.{bounding, LiesUpTo, IsUpTo, HasRange, IsFound, IsNarrow, Combines, Reaches, ReachesBeyond, HasOperands, TakesOn}

size-of : (m : ℕ) (z : ℤ) → LiesUpTo m z → unsigned_abs z ≤ m
size-of m (pos n) h = omega (arith, ints, h.high)
size-of m (negsuc n) h = omega (arith, ints, h.low)

of-size : (m : ℕ) (z : ℤ) → unsigned_abs z ≤ m → LiesUpTo m z
of-size m (pos n) h = record { low = omega (arith, ints); high = omega (arith, ints) }
of-size m (negsuc n) h = record { low = omega (arith, ints); high = omega (arith, ints) }

-- both end points lie there
record Spans (m : ℕ) (i : Interval) : Type 0 where
  from : LiesUpTo m i.from
  to : LiesUpTo m i.to

up-to-limited : (i : Interval) (m : ℕ) → IsUpTo i m → is_limited i ≡ true
up-to-limited i m u =
    let limit = u.limit in
    let a = u.from in
    let b = u.to in
    and_from (is_within i.from) (is_within i.to) (is_within_by i.from record { low = omega (arith, ints, limit, a.low); high = omega (arith, ints, limit, a.high) })
    (is_within_by i.to record { low = omega (arith, ints, limit, b.low); high = omega (arith, ints, limit, b.high) })

-- ---- the rules

add-spans : (l r : ℕ) (i j : Interval) → IsUpTo i l → IsUpTo j r → Spans (l + r) (rule Add i j)
add-spans l r i j u v =
    let a = u.from in
    let b = u.to in
    let c = v.from in
    let d = v.to in
    record {
      from = record { low = omega (arith, ints, a.low, c.low); high = omega (arith, ints, a.high, c.high) };
      to = record { low = omega (arith, ints, b.low, d.low); high = omega (arith, ints, b.high, d.high) };
    }

subtract-spans : (l r : ℕ) (i j : Interval) → IsUpTo i l → IsUpTo j r → Spans (l + r) (rule Subtract i j)
subtract-spans l r i j u v =
    let a = u.from in
    let b = u.to in
    let c = v.from in
    let d = v.to in
    record {
      from = record { low = omega (arith, ints, a.low, d.high); high = omega (arith, ints, a.high, d.low) };
      to = record { low = omega (arith, ints, b.low, c.high); high = omega (arith, ints, b.high, c.low) };
    }

product-lies : (l r : ℕ) (x y : ℤ) → LiesUpTo l x → LiesUpTo r y → LiesUpTo (l * r) (x *ℤ y)
product-lies l r x y h k =
    of-size (l * r) (x *ℤ y) (subst (λ n. n ≤ l * r) (sym (unsigned_abs-mul x y))
    (let first : unsigned_abs x * unsigned_abs y ≤ l * unsigned_abs y = mul-le-mul_right (unsigned_abs y) (size-of l x h) in
    let second : l * unsigned_abs y ≤ l * r = mul-le-mul_left l (size-of r y k) in
    omega (arith, first, second)))

min-lies : (m : ℕ) (x y : ℤ) → LiesUpTo m x → LiesUpTo m y → LiesUpTo m (int_min x y)
min-lies m x y h k = record { low = omega (arith, ints, clamps, h.low, k.low); high = omega (arith, ints, clamps, h.high, k.high) }

max-lies : (m : ℕ) (x y : ℤ) → LiesUpTo m x → LiesUpTo m y → LiesUpTo m (int_max x y)
max-lies m x y h k = record { low = omega (arith, ints, clamps, h.low, k.low); high = omega (arith, ints, clamps, h.high, k.high) }

multiply-spans : (l r : ℕ) (i j : Interval) → IsUpTo i l → IsUpTo j r → Spans (l * r) (rule Multiply i j)
multiply-spans l r i j u v =
    let m = l * r in
    let a = product-lies l r i.from j.from u.from v.from in
    let b = product-lies l r i.from j.to u.from v.to in
    let c = product-lies l r i.to j.from u.to v.from in
    let d = product-lies l r i.to j.to u.to v.to in
    record {
      from = min-lies m _ _ (min-lies m _ _ a b) (min-lies m _ _ c d);
      to = max-lies m _ _ (max-lies m _ _ a b) (max-lies m _ _ c d);
    }

size-spans : (m n : ℕ) (negative : Bool) → n ≤ m → Spans m (up_to_size negative n)
size-spans m n true h = record { from = record { low = omega (arith, ints); high = omega (arith, ints) }; to = record { low = omega (arith, ints); high = omega (arith, ints) } }
size-spans m n false h = record { from = record { low = omega (arith, ints); high = omega (arith, ints) }; to = record { low = omega (arith, ints); high = omega (arith, ints) } }

greatest-within : (m : ℕ) (i : Interval) → IsUpTo i m → greatest_size i ≤ m
greatest-within m i u =
    let a = size-of m i.from u.from in
    let b = size-of m i.to u.to in
    omega (arith, a, b)

-- ---- an operator's part

up-by : (m n : ℕ) (i : Interval) → m ≡ n → m ≤ 2 ^ 120 → Spans n i → IsUpTo i m
up-by m n i e limit s = let t = subst (λ k. Spans k i) (sym e) s in record { from = t.from; to = t.to; limit = limit }

joined-range : (op : Operator) (l r m : ℕ) → ((i j : Interval) → refuses op i j ≡ false) → ((i j : Interval) → IsUpTo i l → IsUpTo j r → IsUpTo (rule op i j) m)
    → Combines op l r m
joined-range op l r m accepted reaches = record { joins = by }
  where
    by : (at : Span) (o u : Result Interval RangeFault) → HasRange o l → HasRange u r → HasRange (both_ranged (joined at op) o u) m
    by at o u h k =
        let up = reaches h.range k.range h.up_to k.up_to in
        record {
          range = rule op h.range k.range;
          is = (λ t. both_ranged (joined at op) (h.is t) (k.is t)) ∙ joined_ok at op h.range k.range (accepted h.range k.range) (up-to-limited (rule op h.range k.range) m up);
          up_to = up;
        }

pub combines-add : (o : Option ℕ) (l r : ℕ) → IfSome o (λ m. (m ≡ l + r) × (m ≤ 2 ^ 120)) → IfSome o (Combines Add l r)
combines-add o l r h = IfSome_then o h (λ m e. joined-range Add l r m (λ i j. refl) (λ i j u v. up-by m (l + r) (rule Add i j) e.0 e.1 (add-spans l r i j u v)))

pub combines-subtract : (o : Option ℕ) (l r : ℕ) → IfSome o (λ m. (m ≡ l + r) × (m ≤ 2 ^ 120)) → IfSome o (Combines Subtract l r)
combines-subtract o l r h = IfSome_then o h (λ m e. joined-range Subtract l r m (λ i j. refl) (λ i j u v. up-by m (l + r) (rule Subtract i j) e.0 e.1 (subtract-spans l r i j u v)))

pub combines-multiply : (o : Option ℕ) (l r : ℕ) → IfSome o (λ m. (m ≡ l * r) × (m ≤ 2 ^ 120)) → IfSome o (Combines Multiply l r)
combines-multiply o l r h = IfSome_then o h (λ m e. joined-range Multiply l r m (λ i j. refl) (λ i j u v. up-by m (l * r) (rule Multiply i j) e.0 e.1 (multiply-spans l r i j u v)))

pub combines-divide : (l r : ℕ) → Combines Divide l r l
combines-divide l r =
    joined-range Divide l r l (λ i j. refl)
    (λ i j u v. up-by l l (rule Divide i j) refl u.limit (size-spans l (greatest_size i) (has_negative i || has_negative j) (greatest-within l i u)))

pub combines-remainder : (l r : ℕ) → Combines Remainder l r r
combines-remainder l r =
    joined-range Remainder l r r (λ i j. refl) (λ i j u v. up-by r r (rule Remainder i j) refl v.limit (size-spans r (greatest_size j) (has_negative j) (greatest-within r j v)))

-- ---- an attribute

sides-are : (side : Side) (z : Sizes) → side_intervals (side_ranges z) side ≡ intervals_of (side_bounds side z)
sides-are Uncompressed z = refl
sides-are Compressed z = refl

pub narrow-by : (o : Option ℕ) (s : FormatSizes) (t : Attribute) (z : Sizes) (b : Bounds) → IsFound s t.subject z → b ≡ side_bounds t.side z
    → IfSome o (λ m. (is_wide_by t.measure b ≡ false) × IsUpTo (interval_of (intervals_of b) t.measure) m) → IfSome o (IsNarrow s t)
narrow-by o s t z b found e h =
    IfSome_then o h (λ m k. record {
      narrow = ap (λ y. is_wide_by t.measure (side_bounds t.side y)) found.sizes ∙ ap (is_wide_by t.measure) (sym e) ∙ k.0;
      up_to = λ parameters.
          let same : (bounding s parameters).attribute t ≡ interval_of (intervals_of b) t.measure =
          ap (λ i. interval_of (side_intervals i t.side) t.measure) (found.ranges parameters) ∙ ap (λ i. interval_of i t.measure) (sides-are t.side z ∙ ap intervals_of (sym e)) in
          subst (λ i. IsUpTo i m) (sym same) k.1;
    })

pub attribute-reaches : (o : Option ℕ) (s : FormatSizes) (parameters : List Interval) (at : Span) (t : Attribute) → IfSome o (IsNarrow s t)
    → IfSome o (Reaches s parameters (expr.Attribute at t))
attribute-reaches o s parameters at t h =
    IfSome_then o h (λ m k. record {
      wide = λ format. ap (λ b. if b then Some (wide_value format.fields at t.subject) else None) k.narrow;
      ranged =
          let up = k.up_to parameters in
          record { range = (bounding s parameters).attribute t; is = limited_ok at ((bounding s parameters).attribute t) (up-to-limited ((bounding s parameters).attribute t) m up); up_to = up };
    })

-- the same of two operands, where both reach so far
pub binary-reaches : (o : Option ℕ) (s : FormatSizes) (parameters : List Interval) (at : Span) (op : Operator) (e x y : Expr) (l r : ℕ)
    → ((format : Format) → wide_in format s e ≡ earlier (wide_in format s x) (wide_in format s y))
    → ranged (bounding s parameters) e ≡ both_ranged (joined at op) (ranged (bounding s parameters) x) (ranged (bounding s parameters) y)
    → Reaches s parameters x l → Reaches s parameters y r → IfSome o (Combines op l r) → IfSome o (Reaches s parameters e)
binary-reaches o s parameters at op e x y l r wide is left right h =
    IfSome_then o h (λ m k. record {
      wide = λ format. wide format ∙ (λ i. earlier (left.wide format i) (right.wide format i));
      ranged =
          let joined = k.joins at (ranged (bounding s parameters) x) (ranged (bounding s parameters) y) left.ranged right.ranged in
          record { range = joined.range; is = is ∙ joined.is; up_to = joined.up_to };
    })

-- ---- a long sum

both-reach : (s : FormatSizes) (parameters : List Interval) (op : Operator) (e x y : Expr) (l r m : ℕ)
    → HasOperands s parameters op e x y → Reaches s parameters x l → Reaches s parameters y r → Combines op l r m → Reaches s parameters e m
both-reach s parameters op e x y l r m has left right k =
    record {
      wide = λ format. has.wide format ∙ (λ i. earlier (left.wide format i) (right.wide format i));
      ranged =
          let joined = k.joins has.at (ranged (bounding s parameters) x) (ranged (bounding s parameters) y) left.ranged right.ranged in
          record { range = joined.range; is = has.ranged_is ∙ joined.is; up_to = joined.up_to };
    }

adds : (l r : ℕ) → l + r ≤ 2 ^ 120 → Combines Add l r (l + r)
adds l r h = joined-range Add l r (l + r) (λ i j. refl) (λ i j u v. up-by (l + r) (l + r) (rule Add i j) refl h (add-spans l r i j u v))

subtracts : (l r : ℕ) → l + r ≤ 2 ^ 120 → Combines Subtract l r (l + r)
subtracts l r h = joined-range Subtract l r (l + r) (λ i j. refl) (λ i j u v. up-by (l + r) (l + r) (rule Subtract i j) refl h (subtract-spans l r i j u v))

takes-on : (op : Operator) (y : Expr) (n r k : ℕ) → ((l : ℕ) → l + r ≤ 2 ^ 120 → Combines op l r (l + r)) → ((s : FormatSizes) (parameters : List Interval) → Reaches s parameters y r) → k ≡ n + r → TakesOn op n y k
takes-on op y n r k combines right same =
    record {
      on = λ s parameters e x m has b.
          let a = b.sum in
          let limit = b.limit in
          let within : b.part + r ≤ 2 ^ 120 = omega (arith, same, a, limit) in
          record {
            part = b.part + r;
            reaches = both-reach s parameters op e x y b.part r (b.part + r) has b.reaches (right s parameters) (combines b.part within);
            sum = omega (arith, same, a);
            limit = limit;
          };
    }

pub with-sum : (o : Option ℕ) (y : Expr) (n r : ℕ) → ((s : FormatSizes) (parameters : List Interval) → Reaches s parameters y r) → IfSome o (λ m. (m ≡ n + r) × (m ≤ 2 ^ 120)) → IfSome o (TakesOn Add n y)
with-sum o y n r right h = IfSome_then o h (λ k e. takes-on Add y n r k (λ l. adds l r) right e.0)

pub with-difference : (o : Option ℕ) (y : Expr) (n r : ℕ) → ((s : FormatSizes) (parameters : List Interval) → Reaches s parameters y r) → IfSome o (λ m. (m ≡ n + r) × (m ≤ 2 ^ 120)) → IfSome o (TakesOn Subtract n y)
with-difference o y n r right h = IfSome_then o h (λ k e. takes-on Subtract y n r k (λ l. subtracts l r) right e.0)

-- what is left and the number are the whole
pub at-last : (o : Option ℕ) (s : FormatSizes) (parameters : List Interval) (e x : Expr) (n l : ℕ)
    → ((m : ℕ) → ReachesBeyond s parameters x n m → ReachesBeyond s parameters e 0 m) → Reaches s parameters x l → IfSome o (λ m. (m ≡ l + n) × (m ≤ 2 ^ 120)) → IfSome o (Reaches s parameters e)
at-last o s parameters e x n l on left h =
    IfSome_then o h (λ m k.
    let all = on m (record { part = l; reaches = left; sum = k.0; limit = k.1 }) in
    let whole : all.part ≡ m = (let a = all.sum in omega (arith, a)) in
    subst (Reaches s parameters e) whole all.reaches)
