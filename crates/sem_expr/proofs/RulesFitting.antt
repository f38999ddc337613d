-- What 128 bits hold of the rules' numbers.
use Rattle.std.proofs.Common.{◌≡◌, ◌≢◌, sym, ◌∙◌, subst, ap, ℕ, zero, suc, ◌^◌, true, false, ℤ, pos, negsuc, ◌+ℤ◌, ◌-ℤ◌, ◌*ℤ◌, ◌≤ℤ◌, neg_ℤ, Option, Some, None, arith, FitsSigned, to_z, of_z}
use mir.Syntax.{w128}
use Rattle.std.specs.Prelude.{int_lt}
use Rattle.std.specs.Int.{int_min, int_max, int_pow}
use Rattle.std.specs.Ordering.{int_eq}
use Rattle.std.proofs.lemmas.Int.{ints, clamps, by_lt_z, to_z-of_z}
use Rattle.std.proofs.lemmas.Bool.{cond_both, cond-false, false_from_ne_true}
use Rattle.std.proofs.lemmas.Bool.Decides.{Decides-int_eq}
use Rattle.std.specs.Option.{option_map}
use Rattle.sem_expr.specs.declared.interval.Interval.{Interval}
use Rattle.sem_expr.specs.Rules.{IsIn, from_to, is_within, is_limited, multiply_rule, power_rule, exponent, rule}
use Rattle.sem_expr.specs.declared.expr.Operator.{Operator}
use Rattle.sem_expr.specs.declared.expr.Operator.TheVariants.{Add, Subtract}
use Rattle.sem_expr.specs.Values.{quotient, remainder, floor_by}
use Rattle.sem_expr.specs.Laws.{IsFloor}
use Rattle.sem_expr.proofs.ValuesFloors.{is_floor}
use Rattle.sem_expr.specs.Spread.{Gives}
use Rattle.sem_expr.proofs.RulesLimits.{Within, within, is_within_by, fits, limited_is, not_limited}

-- a number as the code holds it
abbrev pub held : ℤ → ℤ
held z = to_z w128 (of_z w128 z)

pub held_is : (z : ℤ) → FitsSigned w128 z → held z ≡ z
held_is z f = to_z-of_z w128 z f

pub gives_none : (o : Option Interval) (i : Interval) → o ≡ None → is_limited i ≡ false → Gives o i
gives_none None i e h = h
gives_none (Some j) i e h = absurd (cc)

-- a number of the interval that 128 bits can't hold is beyond the limit, so the interval is
pub beyond : (i : Interval) (z : ℤ) → IsIn i z → (FitsSigned w128 z → ⊥) → is_limited i ≡ false
beyond i z p h = not_limited i (λ l. h (fits z (is_within_by z (record { low = omega (arith, ints); high = omega (arith, ints) }))))

pub record Corners (i j : Interval) : Type 0 where
  pub lowest : IsIn (multiply_rule i j) (i.from *ℤ j.from)
  pub low : IsIn (multiply_rule i j) (i.from *ℤ j.to)
  pub high : IsIn (multiply_rule i j) (i.to *ℤ j.from)
  pub highest : IsIn (multiply_rule i j) (i.to *ℤ j.to)

pub corners : (i j : Interval) → Corners i j
corners i j = record {
  lowest = record { above = omega (arith, ints, clamps); below = omega (arith, ints, clamps) };
  low = record { above = omega (arith, ints, clamps); below = omega (arith, ints, clamps) };
  high = record { above = omega (arith, ints, clamps); below = omega (arith, ints, clamps) };
  highest = record { above = omega (arith, ints, clamps); below = omega (arith, ints, clamps) };
}

pub product_none : (o : Option Interval) (i j : Interval) (x y : ℤ) → FitsSigned w128 x → FitsSigned w128 y → IsIn (multiply_rule i j) (x *ℤ y) →
    (FitsSigned w128 (held x *ℤ held y) → ⊥) → o ≡ None → Gives o (multiply_rule i j)
product_none o i j x y f g p h e =
    gives_none o (multiply_rule i j) e
    (beyond (multiply_rule i j) (x *ℤ y) p (λ k. h (subst (λ z. FitsSigned w128 z) (λ t. sym (held_is x f) t *ℤ sym (held_is y g) t) k)))

held_min : (x y : ℤ) → FitsSigned w128 x → FitsSigned w128 y → int_min (held x) (held y) ≡ int_min x y
held_min x y f g = λ t. int_min (held_is x f t) (held_is y g t)

held_max : (x y : ℤ) → FitsSigned w128 x → FitsSigned w128 y → int_max (held x) (held y) ≡ int_max x y
held_max x y f g = λ t. int_max (held_is x f t) (held_is y g t)

min_fits : (x y : ℤ) → FitsSigned w128 x → FitsSigned w128 y → FitsSigned w128 (int_min x y)
min_fits x y f g = cond_both (int_lt y x) y x (λ z. FitsSigned w128 z) (λ t. g) (λ t. f)

max_fits : (x y : ℤ) → FitsSigned w128 x → FitsSigned w128 y → FitsSigned w128 (int_max x y)
max_fits x y f g = cond_both (int_lt y x) x y (λ z. FitsSigned w128 z) (λ t. f) (λ t. g)

-- a product of two numbers, as the code holds them
pub record IsProduct (x y z : ℤ) : Type 0 where
  pub fits : FitsSigned w128 z
  pub is : z ≡ x *ℤ y

pub product_at : (x y z : ℤ) → FitsSigned w128 x → FitsSigned w128 y → FitsSigned w128 (held x *ℤ held y) × (z ≡ held x *ℤ held y) → IsProduct x y z
product_at x y z f g h =
    let same : held x *ℤ held y ≡ x *ℤ y = λ t. held_is x f t *ℤ held_is y g t in
    record { fits = subst (λ u. FitsSigned w128 u) (sym h.1) h.0; is = h.1 ∙ same }

-- the least of four, two by two, and the greatest
pub least : (a b c d m n p : ℤ) → FitsSigned w128 a → FitsSigned w128 b → FitsSigned w128 c → FitsSigned w128 d →
    m ≡ int_min (held a) (held b) → n ≡ int_min (held c) (held d) → p ≡ int_min (held m) (held n) → held p ≡ int_min (int_min a b) (int_min c d)
least a b c d m n p fa fb fc fd em en ep =
    let m_is : m ≡ int_min a b = em ∙ held_min a b fa fb in
    let n_is : n ≡ int_min c d = en ∙ held_min c d fc fd in
    let fm : FitsSigned w128 m = subst (λ z. FitsSigned w128 z) (sym m_is) (min_fits a b fa fb) in
    let fn : FitsSigned w128 n = subst (λ z. FitsSigned w128 z) (sym n_is) (min_fits c d fc fd) in
    let p_is : p ≡ int_min m n = ep ∙ held_min m n fm fn in
    let fp : FitsSigned w128 p = subst (λ z. FitsSigned w128 z) (sym p_is) (min_fits m n fm fn) in
    held_is p fp ∙ (p_is ∙ (λ t. int_min (m_is t) (n_is t)))

pub greatest : (a b c d m n p : ℤ) → FitsSigned w128 a → FitsSigned w128 b → FitsSigned w128 c → FitsSigned w128 d →
    m ≡ int_max (held a) (held b) → n ≡ int_max (held c) (held d) → p ≡ int_max (held m) (held n) → held p ≡ int_max (int_max a b) (int_max c d)
greatest a b c d m n p fa fb fc fd em en ep =
    let m_is : m ≡ int_max a b = em ∙ held_max a b fa fb in
    let n_is : n ≡ int_max c d = en ∙ held_max c d fc fd in
    let fm : FitsSigned w128 m = subst (λ z. FitsSigned w128 z) (sym m_is) (max_fits a b fa fb) in
    let fn : FitsSigned w128 n = subst (λ z. FitsSigned w128 z) (sym n_is) (max_fits c d fc fd) in
    let p_is : p ≡ int_max m n = ep ∙ held_max m n fm fn in
    let fp : FitsSigned w128 p = subst (λ z. FitsSigned w128 z) (sym p_is) (max_fits m n fm fn) in
    held_is p fp ∙ (p_is ∙ (λ t. int_max (m_is t) (n_is t)))

pub product_some : (i j : Interval) (a b c d low high : ℤ) → IsProduct i.from j.from a → IsProduct i.from j.to b → IsProduct i.to j.from c → IsProduct i.to j.to d →
    low ≡ int_min (int_min a b) (int_min c d) → high ≡ int_max (int_max a b) (int_max c d) → from_to low high ≡ multiply_rule i j
product_some i j a b c d low high pa pb pc pd el eh =
    let el' = el ∙ (λ t. int_min (int_min (pa.is t) (pb.is t)) (int_min (pc.is t) (pd.is t))) in
    let eh' = eh ∙ (λ t. int_max (int_max (pa.is t) (pb.is t)) (int_max (pc.is t) (pd.is t))) in
    λ t. from_to (el' t) (eh' t)

pub fits_sum : (z : ℤ) → neg_ℤ (pos (2 ^ 121)) ≤ℤ z → z ≤ℤ pos (2 ^ 121) → FitsSigned w128 z
fits_sum (pos n) h k = record { sfits = omega (arith, ints) }
fits_sum (negsuc n) h k = record { sfits = omega (arith, ints) }

held_sum : (x y : ℤ) → Within x → Within y → held (held x +ℤ held y) ≡ x +ℤ y
held_sum x y v w =
    let same : held x +ℤ held y ≡ x +ℤ y = λ t. held_is x (fits x (is_within_by x v)) t +ℤ held_is y (fits y (is_within_by y w)) t in
    ap held same ∙ held_is (x +ℤ y) (fits_sum (x +ℤ y) (omega (arith, ints)) (omega (arith, ints)))

held_difference : (x y : ℤ) → Within x → Within y → held (held x -ℤ held y) ≡ x -ℤ y
held_difference x y v w =
    let same : held x -ℤ held y ≡ x -ℤ y = λ t. held_is x (fits x (is_within_by x v)) t -ℤ held_is y (fits y (is_within_by y w)) t in
    ap held same ∙ held_is (x -ℤ y) (fits_sum (x -ℤ y) (omega (arith, ints)) (omega (arith, ints)))

pub add_some : (op : Operator) (i j : Interval) → op ≡ Add → is_limited i ≡ true → is_limited j ≡ true →
    from_to (held (held i.from +ℤ held j.from)) (held (held i.to +ℤ held j.to)) ≡ rule op i j
add_some op i j e h k =
    let l = limited_is i h in
    let m = limited_is j k in
    let sums : from_to (held (held i.from +ℤ held j.from)) (held (held i.to +ℤ held j.to)) ≡ rule Add i j =
    λ t. from_to (held_sum i.from j.from l.from m.from t) (held_sum i.to j.to l.to m.to t) in
    sums ∙ ap (λ o. rule o i j) (sym e)

pub subtract_some : (op : Operator) (i j : Interval) → op ≡ Subtract → is_limited i ≡ true → is_limited j ≡ true →
    from_to (held (held i.from -ℤ held j.to)) (held (held i.to -ℤ held j.from)) ≡ rule op i j
subtract_some op i j e h k =
    let l = limited_is i h in
    let m = limited_is j k in
    let rests : from_to (held (held i.from -ℤ held j.to)) (held (held i.to -ℤ held j.from)) ≡ rule Subtract i j =
    λ t. from_to (held_difference i.from j.to l.from m.to t) (held_difference i.to j.from l.to m.from t) in
    rests ∙ ap (λ o. rule o i j) (sym e)

-- a power of the last base that 128 bits can't hold is beyond the limit
pub power_none : (o : Option Interval) (i j : Interval) (e : ℕ) → FitsSigned w128 i.to → FitsSigned w128 j.to → (of_z w128 i.to ≡ 0 → ⊥) →
    e ≡ exponent (held j.to) → (FitsSigned w128 (int_pow (held i.to) e) → ⊥) → o ≡ None → Gives o (power_rule i j)
power_none o i j e f g nonzero e_is h none =
    let other : int_eq i.to (pos 0) ≡ false =
    false_from_ne_true (int_eq i.to (pos 0)) (λ t. nonzero (ap (of_z w128) ((Decides-int_eq i.to (pos 0)).0 t))) in
    let to_is : (power_rule i j).to ≡ int_pow i.to (exponent j.to) = cond-false (int_eq i.to (pos 0)) (pos 1) (int_pow i.to (exponent j.to)) other in
    let same : int_pow (held i.to) e ≡ int_pow i.to (exponent j.to) = ap (λ n. int_pow (held i.to) n) e_is ∙ (λ t. int_pow (held_is i.to f t) (exponent (held_is j.to g t))) in
    gives_none o (power_rule i j) none
    (not_limited (power_rule i j) (λ l. h (subst (λ z. FitsSigned w128 z) (to_is ∙ sym same) (fits (power_rule i j).to (is_within_by (power_rule i j).to l.to)))))

quotient_floor : (x y q : ℤ) → quotient x y ≡ Some q → IsFloor x y q × (y ≢ pos 0)
quotient_floor x (pos zero) q e = absurd (cc)
quotient_floor x (pos (suc d)) q e =
    let same : floor_by (suc d) x ≡ q = cc in
    let ne : pos (suc d) ≢ pos 0 = λ h. cc in
    (subst (λ z. IsFloor x (pos (suc d)) z) same (is_floor x (pos (suc d)) ne), ne)
quotient_floor x (negsuc d) q e =
    let same : floor_by (suc d) (neg_ℤ x) ≡ q = cc in
    let ne : negsuc d ≢ pos 0 = λ h. cc in
    (subst (λ z. IsFloor x (negsuc d) z) same (is_floor x (negsuc d) ne), ne)

-- the product of a remainder and the remainder itself
record RestFits (x y q : ℤ) : Type 0 where
  product : FitsSigned w128 (y *ℤ q)
  rest : FitsSigned w128 (x -ℤ (y *ℤ q))

rest_fits : (x y q : ℤ) → Within x → Within y → IsFloor x y q → y ≢ pos 0 → RestFits x y q
rest_fits x y q v w f ne =
    by_lt_z y (pos 0)
    (λ h. let b = f.below_zero h in record {
      product = fits_sum (y *ℤ q) (omega (arith, ints)) (omega (arith, ints));
      rest = fits_sum (x -ℤ (y *ℤ q)) (omega (arith, ints)) (omega (arith, ints));
    })
    (λ h. by_lt_z (pos 0) y
    (λ k. let b = f.above_zero k in record {
      product = fits_sum (y *ℤ q) (omega (arith, ints)) (omega (arith, ints));
      rest = fits_sum (x -ℤ (y *ℤ q)) (omega (arith, ints)) (omega (arith, ints));
    })
    (λ k. let zero_is : y ≡ pos 0 = omega (arith, ints) in absurd (ne zero_is)))

-- the same, as the code holds the numbers
pub record RestHeld (x y q : ℤ) : Type 0 where
  pub product : FitsSigned w128 (held y *ℤ held q)
  pub rest : FitsSigned w128 (held x -ℤ held (held y *ℤ held q))
  pub is : Some (held (held x -ℤ held (held y *ℤ held q))) ≡ remainder x y

pub rest_held : (x y q : ℤ) → is_within x ≡ true → is_within y ≡ true → FitsSigned w128 q → Some q ≡ quotient (held x) (held y) → RestHeld x y q
rest_held x y q h k g e =
    let hx = held_is x (fits x h) in
    let hy = held_is y (fits y k) in
    let whole : quotient x y ≡ Some q = sym (e ∙ (λ t. quotient (hx t) (hy t))) in
    let b = quotient_floor x y q whole in
    let r = rest_fits x y q (within x h) (within y k) b.0 b.1 in
    let times : held y *ℤ held q ≡ y *ℤ q = λ t. hy t *ℤ held_is q g t in
    let times_held : held (held y *ℤ held q) ≡ y *ℤ q = ap held times ∙ held_is (y *ℤ q) r.product in
    let rest : held x -ℤ held (held y *ℤ held q) ≡ x -ℤ (y *ℤ q) = λ t. hx t -ℤ times_held t in
    record {
      product = subst (λ z. FitsSigned w128 z) (sym times) r.product;
      rest = subst (λ z. FitsSigned w128 z) (sym rest) r.rest;
      is = ap Some (ap held rest ∙ held_is (x -ℤ (y *ℤ q)) r.rest) ∙ sym (ap (option_map (λ z. x -ℤ (y *ℤ z))) whole);
    }
