use Rattle.std.proofs.Common.{rules, ◌≡◌, ◌-ℤ◌, IfSome, subst, w64, to_z, of_z}
use Rattle.sem_bounds.specs.Constants.{IsNumber}
use Rattle.sem_bounds.proofs.ConstantsLemmas.{with-difference}
use Rattle.sem_bounds.proofs.constants.with_operand.Goals as goal

pub returns-in_ok-literal-in-Subtract : goal.returns-in_ok-literal-in-Subtract
returns-in_ok-literal-in-Subtract c =
    let number : to_z w64 (of_z w64 c.args.number) ≡ c.args.number = (search rules) in
    let right : to_z w64 (of_z w64 c.in_ok-literal-in-Subtract.field-0) ≡ c.in_ok-literal-in-Subtract.field-0 = (search rules) in
    rw c.in-Subtract.is (with-difference c.difference.result c.args.right.now c.args.number c.in_ok-literal-in-Subtract.field-0 c.in_ok-literal-in-Subtract.ensures
    (subst (λ z. IfSome c.difference.result (IsNumber z)) (λ i. number i -ℤ right i) c.difference.ensures))
