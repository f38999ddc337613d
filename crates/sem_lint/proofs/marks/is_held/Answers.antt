use Rattle.std.proofs.Common.{sym, ◌∙◌}
use Rattle.sem_lint.specs.Marks.{own_at}
use Rattle.sem_lint.proofs.MarksLifeless.{held_is}
use Rattle.sem_lint.proofs.marks.is_held.Goals as goal

pub returns-else-is_own : goal.returns-else-is_own
returns-else-is_own c =
    held_is c.args.marks.now (own_at c.args.own.now c.args.method c.args.format) c.args.formats.now c.args.format c.in-Some.found.now (sym c.in-Some.ensures) (sym c.is_own.ensures ∙ c.if-is_own.false)
    c.as_slice.result.now c.as_slice.ensures c.marked_call.result c.marked_call.ensures c.is_some.result c.is_some.ensures
