-- A condition never has a truth that its ranges exclude, and a bracket no length.
use Rattle.std.proofs.Common.{◌≡◌, ◌∙◌, refl, sym, ap, Bool, true, false, not, ◌&&◌, ◌||◌, ◌⊎◌, inl, inr, arith}
use Rattle.std.specs.Prelude.{Option, Some, None, ℤ, int_le, int_lt, Result, Ok, Err}
use Rattle.std.specs.Option.{option_map}
use Rattle.std.specs.Ordering.{int_eq}
use Rattle.std.proofs.lemmas.Int.{ints}
use Rattle.std.proofs.lemmas.Bool.{true≢false, and_parts}
use Rattle.std.proofs.lemmas.Bool.Decides.{Decides-int_eq}
use Rattle.sem_expr.specs.declared.expr.Comparison.{Comparison}
use Rattle.sem_expr.specs.declared.expr.Comparison.TheVariants.{Equal, NotEqual, Less, Greater, AtMost, AtLeast}
use Rattle.sem_expr.specs.declared.expr.Expr.{Expr}
use Rattle.sem_expr.specs.declared.expr.Cond.{Cond}
use Rattle.sem_expr.specs.declared.expr.Cond.TheVariants.{Constant, Compare, Not', And', Or'}
use Rattle.sem_expr.specs.declared.fault.RangeFault.{RangeFault}
use Rattle.sem_expr.specs.declared.interval.Interval.{Interval}
use Rattle.sem_expr.specs.Values.{Assignment, both, compare, val, truth}
use Rattle.sem_expr.specs.Rules.{IsIn}
use Rattle.sem_expr.specs.Ranged.{Bounding, ranged}
use Rattle.sem_expr.specs.Spread.{LieIn}
use Rattle.sem_expr.specs.Laws.{ValuesLieInRanges}
use Rattle.sem_expr.proofs.RulesLimits.{le_true, lt_true, lt_false, true_le}
use Rattle.sem_lint.specs.Never.{is_apart, opposite, are_apart, never_true, never_false}

-- ---- two numbers

either : (a b : Bool) → (a || b) ≡ true → (a ≡ true) ⊎ (b ≡ true)
either true b e = inl refl
either false b e = inr e

equal_is : (x y : ℤ) → int_eq x y ≡ true → x ≡ y
equal_is x y e = (Decides-int_eq x y).0 e

pub is_equal : (x y : ℤ) → x ≡ y → int_eq x y ≡ true
is_equal x y e = (Decides-int_eq x y).1 e

pub apart : (op : Comparison) (i j : Interval) (x y : ℤ) → IsIn i x → IsIn j y → is_apart op i j ≡ true → compare op x y ≡ true → ⊥
apart Equal i j x y p q h c =
    let same = equal_is x y c in
    by (either (int_lt i.to j.from) (int_lt j.to i.from) h) same
  where
    by : (int_lt i.to j.from ≡ true) ⊎ (int_lt j.to i.from ≡ true) → x ≡ y → ⊥
    by (inl t) same = let lt = lt_true i.to j.from t in let up = p.below in let down = q.above in omega (arith, ints)
    by (inr t) same = let lt = lt_true j.to i.from t in let up = q.below in let down = p.above in omega (arith, ints)
apart NotEqual i j x y p q h c =
    let t = and_parts (int_le i.to j.from) (int_le j.to i.from) h in
    let one = le_true i.to j.from t.0 in
    let other = le_true j.to i.from t.1 in
    let same : x ≡ y = let a = p.above in let b = p.below in let d = q.above in let e = q.below in omega (arith, ints) in
    true≢false (sym c ∙ ap not (is_equal x y same))
apart Less i j x y p q h c = let le = le_true j.to i.from h in let lt = lt_true x y c in let up = q.below in let down = p.above in omega (arith, ints)
apart Greater i j x y p q h c = let le = le_true i.to j.from h in let lt = lt_true y x c in let up = p.below in let down = q.above in omega (arith, ints)
apart AtMost i j x y p q h c = let lt = lt_true j.to i.from h in let le = le_true x y c in let up = q.below in let down = p.above in omega (arith, ints)
apart AtLeast i j x y p q h c = let lt = lt_true i.to j.from h in let le = le_true y x c in let up = p.below in let down = q.above in omega (arith, ints)

turned : (b : Bool) → b ≡ false → not b ≡ true
turned b e = ap not e

untrue : (b : Bool) → not b ≡ false → b ≡ true
untrue true e = refl
untrue false e = absurd (true≢false e)

-- a comparison that is false has its opposite
opposed : (op : Comparison) (x y : ℤ) → compare op x y ≡ false → compare (opposite op) x y ≡ true
opposed Equal x y e = ap not e
opposed NotEqual x y e = untrue (int_eq x y) e
opposed Less x y e = true_le y x (lt_false x y e)
opposed Greater x y e = true_le x y (lt_false y x e)
opposed AtMost x y e = by (int_lt y x) refl
  where
    by : (b : Bool) → int_lt y x ≡ b → int_lt y x ≡ true
    by true t = t
    by false t = absurd (true≢false (sym (true_le x y (lt_false y x t)) ∙ e))
opposed AtLeast x y e = by (int_lt x y) refl
  where
    by : (b : Bool) → int_lt x y ≡ b → int_lt x y ≡ true
    by true t = t
    by false t = absurd (true≢false (sym (true_le y x (lt_false x y t)) ∙ e))

-- ---- two expressions

record Compared (op : Comparison) (o q : Option ℤ) (b : Bool) : Type 0 where
  left : ℤ
  right : ℤ
  left_is : o ≡ Some left
  right_is : q ≡ Some right
  compared : compare op left right ≡ b

compared : (op : Comparison) (o q : Option ℤ) (b : Bool) → both (λ v w. Some (compare op v w)) o q ≡ Some b → Compared op o q b
compared op (Some x) (Some y) b e = record { left = x; right = y; left_is = refl; right_is = refl; compared = cc }
compared op (Some x) None b e = absurd (cc)
compared op None q b e = absurd (cc)

pub record Ranged (op : Comparison) (o q : Result Interval RangeFault) : Type 0 where
  pub left : Interval
  pub right : Interval
  pub left_is : o ≡ Ok left
  pub right_is : q ≡ Ok right
  pub apart : is_apart op left right ≡ true

pub ranges_of : (op : Comparison) (o q : Result Interval RangeFault) → are_apart op o q ≡ true → Ranged op o q
ranges_of op (Ok i) (Ok j) e = record { left = i; right = j; left_is = refl; right_is = refl; apart = e }
ranges_of op (Ok i) (Err f) e = absurd (cc)
ranges_of op (Err f) q e = absurd (cc)

-- ---- the parts of a condition

negated : (o : Option Bool) (b : Bool) → option_map not o ≡ Some b → o ≡ Some (not b)
negated (Some true) b e = cc
negated (Some false) b e = cc
negated None b e = absurd (cc)

record Joined (f : Bool → Bool → Bool) (o q : Option Bool) (b : Bool) : Type 0 where
  left : Bool
  right : Bool
  left_is : o ≡ Some left
  right_is : q ≡ Some right
  whole : f left right ≡ b

joined : (f : Bool → Bool → Bool) (o q : Option Bool) (b : Bool) → both (λ v w. Some (f v w)) o q ≡ Some b → Joined f o q b
joined f (Some x) (Some y) b e = record { left = x; right = y; left_is = refl; right_is = refl; whole = cc }
joined f (Some x) None b e = absurd (cc)
joined f None q b e = absurd (cc)

one_false : (a b : Bool) → (a && b) ≡ false → (a ≡ false) ⊎ (b ≡ false)
one_false true b e = inr e
one_false false b e = inl refl

both_false : (a b : Bool) → (a || b) ≡ false → (a ≡ false) × (b ≡ false)
both_false true b e = absurd (true≢false e)
both_false false b e = (refl, e)

one_of : {A B : Type 0} → A ⊎ B → (A → ⊥) → (B → ⊥) → ⊥
one_of (inl x) f g = f x
one_of (inr y) f g = g y

module _ (lies : ValuesLieInRanges) (a : Assignment) (r : Bounding) (lie : LieIn a r) where
  never_compared : (op : Comparison) (x y : Expr) → are_apart op (ranged r x) (ranged r y) ≡ true → (v w : ℤ) → val a x ≡ Some v → val a y ≡ Some w → compare op v w ≡ true → ⊥
  never_compared op x y e v w one other c =
      let t = ranges_of op (ranged r x) (ranged r y) e in
      apart op t.left t.right v w (lies a r x t.left v lie t.left_is one) (lies a r y t.right w lie t.right_is other) t.apart c

  mutual
    pub not_true : (c : Cond) → never_true r c ≡ true → truth a c ≡ Some true → ⊥
    not_true (Constant s b) e h = let same : b ≡ true = cc in true≢false (sym e ∙ ap not same)
    not_true (Compare s op x y) e h = let t = compared op (val a x) (val a y) true h in never_compared op x y e t.left t.right t.left_is t.right_is t.compared
    not_true (Not' s p x) e h = not_false x e (negated (truth a x) true h)
    not_true (And' s p x q y) e h =
        let t = joined (λ v w. v && w) (truth a x) (truth a y) true h in
        let parts = and_parts t.left t.right t.whole in
        one_of (either (never_true r x) (never_true r y) e) (λ n. not_true x n (t.left_is ∙ ap Some parts.0)) (λ n. not_true y n (t.right_is ∙ ap Some parts.1))
    not_true (Or' s p x q y) e h =
        let t = joined (λ v w. v || w) (truth a x) (truth a y) true h in
        let n = and_parts (never_true r x) (never_true r y) e in
        one_of (either t.left t.right t.whole) (λ is. not_true x n.0 (t.left_is ∙ ap Some is)) (λ is. not_true y n.1 (t.right_is ∙ ap Some is))

    pub not_false : (c : Cond) → never_false r c ≡ true → truth a c ≡ Some false → ⊥
    not_false (Constant s b) e h = let same : b ≡ false = cc in true≢false (sym e ∙ same)
    not_false (Compare s op x y) e h = let t = compared op (val a x) (val a y) false h in never_compared (opposite op) x y e t.left t.right t.left_is t.right_is (opposed op t.left t.right t.compared)
    not_false (Not' s p x) e h = not_true x e (negated (truth a x) false h)
    not_false (And' s p x q y) e h =
        let t = joined (λ v w. v && w) (truth a x) (truth a y) false h in
        let n = and_parts (never_false r x) (never_false r y) e in
        one_of (one_false t.left t.right t.whole) (λ is. not_false x n.0 (t.left_is ∙ ap Some is)) (λ is. not_false y n.1 (t.right_is ∙ ap Some is))
    not_false (Or' s p x q y) e h =
        let t = joined (λ v w. v || w) (truth a x) (truth a y) false h in
        let parts = both_false t.left t.right t.whole in
        one_of (either (never_false r x) (never_false r y) e) (λ n. not_false x n (t.left_is ∙ ap Some parts.0)) (λ n. not_false y n (t.right_is ∙ ap Some parts.1))
