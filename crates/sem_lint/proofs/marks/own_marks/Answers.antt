use Rattle.std.proofs.Common.{sym, ap, subst, length, ◌+◌, arith}
use Rattle.sem_lint.proofs.MarksLifeless.{RowsSoFar, rows_on, rows_ended}
use Rattle.sem_lint.proofs.marks.own_marks.Goals as goal

pub loop-index-preserved : goal.loop-index-preserved
loop-index-preserved c =
    subst (RowsSoFar c.args.profile.now (c.loop-index.index + 1)) (sym c.in_ok-push.ensures.ok)
    (rows_on c.args.profile.now c.loop-index.index c.loop-index.rows c.in_ok-own_row.field-0 c.loop-index.invariant c.in_ok-own_row.ensures)

pub returns : goal.returns
returns c = rows_ended c.args.profile.now c.loop-index.index c.loop-index.rows (let past = c.loop-index-test.false in let same = ap length c.methods-method-items.ensures in omega arith) c.loop-index.invariant
