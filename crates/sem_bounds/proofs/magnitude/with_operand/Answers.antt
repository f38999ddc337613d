use Rattle.sem_bounds.proofs.MagnitudeLemmas.{with-sum, with-difference}
use Rattle.sem_bounds.proofs.magnitude.with_operand.Goals as goal

pub returns-in_ok-literal_reach-in-Add : goal.returns-in_ok-literal_reach-in-Add
returns-in_ok-literal_reach-in-Add c =
    rw c.in-Add.is (with-sum c.small_sum.result c.args.right.now c.args.number c.in_ok-literal_reach-in-Add.field-0 c.in_ok-literal_reach-in-Add.ensures c.small_sum.ensures)

pub returns-in_ok-literal_reach-in-Subtract : goal.returns-in_ok-literal_reach-in-Subtract
returns-in_ok-literal_reach-in-Subtract c =
    rw c.in-Subtract.is (with-difference c.small_sum-in-Subtract.result c.args.right.now c.args.number c.in_ok-literal_reach-in-Subtract.field-0 c.in_ok-literal_reach-in-Subtract.ensures c.small_sum-in-Subtract.ensures)
