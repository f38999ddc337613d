use Rattle.std.proofs.Common.{sym, subst, ◌+◌, arith}
use Rattle.sem_lint.proofs.MarksLifeless.{RowSoFar, row_on, row_ended}
use Rattle.sem_lint.proofs.marks.own_row.Goals as goal

pub loop-format-preserved : goal.loop-format-preserved
loop-format-preserved c =
    subst (RowSoFar c.args.profile.now c.args.index (c.loop-format.format + 1)) (sym c.in_ok-push.ensures.ok)
    (row_on c.args.profile.now c.args.index c.loop-format.format c.loop-format.row c.in_ok-has_own.field-0 c.loop-format.invariant c.in_ok-has_own.ensures)

pub returns : goal.returns
returns c =
    row_ended c.args.profile.now c.args.index c.loop-format.format c.loop-format.row c.args.method.now c.requires (let past = c.loop-format-test.false in let end = c.len-format-end.ensures in omega arith) c.loop-format.invariant
