-- What the sum or the difference of an expression and a literal is.
use Rattle.std.proofs.Common.{◌≡◌, ◌∙◌, refl, subst, IfSome, true, ℤ, pos, ◌+ℤ◌, ◌-ℤ◌, arith}
use Rattle.std.specs.Prelude.{Option}
use Rattle.std.proofs.lemmas.Int.{ints}
use Rattle.std.proofs.lemmas.Bool.{and_from}
use Rattle.std.proofs.lemmas.Option.{IfSome_then}
use Rattle.sem_expr.specs.declared.expr.Operator.{Operator}
use Rattle.sem_expr.specs.declared.expr.Operator.TheVariants.{Add, Subtract}
use Rattle.sem_expr.specs.declared.expr.Expr.{Expr}
use Rattle.sem_expr.specs.Rules.{is_within, from_to}
use Rattle.sem_expr.specs.Ranged.{joined, both_ranged}
use Rattle.sem_expr.specs.Values.{apply, both}
use Rattle.sem_expr.proofs.RulesLimits.{is_within_by}
use Rattle.sem_expr.proofs.RulesParts.{joined_ok}
use Rattle.sem_profile.specs.Constants.{IsExact, Calculates}
use Rattle.sem_bounds.specs.Constants.{IsNumber, IsSmall, IsMore, HasOperands, TakesOn}

both-exact : (op : Operator) (e x y : Expr) (l r v : ℤ) → HasOperands op e x y → IsExact x l → IsExact y r → Calculates op l r v → IsExact e v
both-exact op e x y l r v has left right calculated =
    record {
      value_is = has.value_is ∙ (λ i. both (apply op) (left.value_is i) (right.value_is i)) ∙ calculated.value_is;
      range_is = has.range_is ∙ (λ i. both_ranged (joined has.at op) (left.range_is i) (right.range_is i)) ∙ calculated.range_is has.at;
    }

add-calculates : (l r : ℤ) → is_within (l +ℤ r) ≡ true → Calculates Add l r (l +ℤ r)
add-calculates l r h = record { value_is = refl; range_is = λ at. joined_ok at Add (from_to l l) (from_to r r) refl (and_from (is_within (l +ℤ r)) (is_within (l +ℤ r)) h h) }

subtract-calculates : (l r : ℤ) → is_within (l -ℤ r) ≡ true → Calculates Subtract l r (l -ℤ r)
subtract-calculates l r h = record { value_is = refl; range_is = λ at. joined_ok at Subtract (from_to l l) (from_to r r) refl (and_from (is_within (l -ℤ r)) (is_within (l -ℤ r)) h h) }

-- three numbers of 64 bits are far within the limit of ranges
sum-within : (p n r k v : ℤ) → IsNumber r r → IsNumber (n +ℤ r) k → IsNumber (p +ℤ k) v → is_within (p +ℤ r) ≡ true
sum-within p n r k v a b c =
    let e = c.same in
    is_within_by (p +ℤ r) record { low = omega (arith, ints, e, a.low, a.high, b.low, b.high, c.low, c.high); high = omega (arith, ints, e, a.low, a.high, b.low, b.high, c.low, c.high) }

difference-within : (p n r k v : ℤ) → IsNumber r r → IsNumber (n -ℤ r) k → IsNumber (p +ℤ k) v → is_within (p -ℤ r) ≡ true
difference-within p n r k v a b c =
    let e = c.same in
    is_within_by (p -ℤ r) record { low = omega (arith, ints, e, a.low, a.high, b.low, b.high, c.low, c.high); high = omega (arith, ints, e, a.low, a.high, b.low, b.high, c.low, c.high) }

sum-takes-on : (y : Expr) (n r k : ℤ) → IsSmall y r → IsNumber (n +ℤ r) k → TakesOn Add n y k
sum-takes-on y n r k right next =
    record {
      on = λ e x v has m.
          let a = next.same in
          let b = m.number.same in
          let limit = sum-within m.part n r k v right.number next m.number in
          record {
            part = m.part +ℤ r;
            exact = both-exact Add e x y m.part r (m.part +ℤ r) has m.exact right.exact (add-calculates m.part r limit);
            number = record { same = omega (arith, ints, a, b); low = m.number.low; high = m.number.high };
          };
    }

difference-takes-on : (y : Expr) (n r k : ℤ) → IsSmall y r → IsNumber (n -ℤ r) k → TakesOn Subtract n y k
difference-takes-on y n r k right next =
    record {
      on = λ e x v has m.
          let a = next.same in
          let b = m.number.same in
          let limit = difference-within m.part n r k v right.number next m.number in
          record {
            part = m.part -ℤ r;
            exact = both-exact Subtract e x y m.part r (m.part -ℤ r) has m.exact right.exact (subtract-calculates m.part r limit);
            number = record { same = omega (arith, ints, a, b); low = m.number.low; high = m.number.high };
          };
    }

pub with-sum : (o : Option ℤ) (y : Expr) (n r : ℤ) → IsSmall y r → IfSome o (IsNumber (n +ℤ r)) → IfSome o (TakesOn Add n y)
with-sum o y n r right h = IfSome_then o h (λ k next. sum-takes-on y n r k right next)

pub with-difference : (o : Option ℤ) (y : Expr) (n r : ℤ) → IsSmall y r → IfSome o (IsNumber (n -ℤ r)) → IfSome o (TakesOn Subtract n y)
with-difference o y n r right h = IfSome_then o h (λ k next. difference-takes-on y n r k right next)

-- what is left and the number are the whole
pub at-last : (o : Option ℤ) (e x : Expr) (n l r : ℤ) → ((v : ℤ) → IsMore x n v → IsMore e (pos 0) v) → IsExact x l → r ≡ l → IfSome o (IsNumber (r +ℤ n)) → IfSome o (IsExact e)
at-last o e x n l r on left same h =
    IfSome_then o h (λ v number.
    let all = on v (record { part = l; exact = left; number = subst (λ z. IsNumber (z +ℤ n) v) same number }) in
    let whole : all.part ≡ v = (let a = all.number.same in omega (arith, ints, a)) in
    subst (IsExact e) whole all.exact)
