use Rattle.sem_bounds.proofs.MagnitudeLemmas.{combines-add, combines-subtract, combines-multiply, combines-divide, combines-remainder}
use Rattle.sem_bounds.proofs.magnitude.combined.Goals as goal

pub returns-in-Add : goal.returns-in-Add
returns-in-Add c = rw c.in-Add.is (combines-add c.sum.result c.args.left c.args.right c.sum.ensures)

pub returns-in-Subtract : goal.returns-in-Subtract
returns-in-Subtract c = rw c.in-Subtract.is (combines-subtract c.sum-in-Subtract.result c.args.left c.args.right c.sum-in-Subtract.ensures)

pub returns-in-Multiply : goal.returns-in-Multiply
returns-in-Multiply c = rw c.in-Multiply.is (combines-multiply c.product.result c.args.left c.args.right c.product.ensures)

pub returns-in-Divide : goal.returns-in-Divide
returns-in-Divide c = rw c.in-Divide.is (combines-divide c.args.left c.args.right)

pub returns-in-Remainder : goal.returns-in-Remainder
returns-in-Remainder c = rw c.in-Remainder.is (combines-remainder c.args.left c.args.right)
