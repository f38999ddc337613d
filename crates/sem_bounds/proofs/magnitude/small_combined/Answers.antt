use Rattle.sem_bounds.proofs.MagnitudeLemmas.{combines-add, combines-subtract, combines-multiply}
use Rattle.sem_bounds.proofs.magnitude.small_combined.Goals as goal

pub returns-in-Add : goal.returns-in-Add
returns-in-Add c = rw c.in-Add.is (combines-add c.small_sum.result c.args.left c.args.right c.small_sum.ensures)

pub returns-in-Subtract : goal.returns-in-Subtract
returns-in-Subtract c = rw c.in-Subtract.is (combines-subtract c.small_sum-in-Subtract.result c.args.left c.args.right c.small_sum-in-Subtract.ensures)

pub returns-in-Multiply : goal.returns-in-Multiply
returns-in-Multiply c = rw c.in-Multiply.is (combines-multiply c.small_product.result c.args.left c.args.right c.small_product.ensures)
