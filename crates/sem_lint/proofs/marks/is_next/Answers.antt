use Rattle.std.proofs.Common.{sym, ◌∙◌}
use Rattle.sem_lint.proofs.MarksLifeless.{next_is}
use Rattle.sem_lint.proofs.marks.is_next.Goals as goal

pub returns-in-Some : goal.returns-in-Some
returns-in-Some c =
    next_is c.args.profile.now c.args.own.now c.args.marks.now c.args.method c.methods.result.now c.methods.ensures c.in-Some.found.now (sym c.in-Some.ensures) (sym c.is_marked.ensures ∙ c.if-is_marked.false)
    c.as_slice.result.now c.as_slice.ensures c.are_held.result c.are_held.ensures
