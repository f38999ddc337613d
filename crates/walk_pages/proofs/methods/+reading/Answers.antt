use Rattle.std.proofs.Common.{ap, rules, sym, ◌∙◌, ◌≡◌}
use Rattle.sem_filling.specs.Fits.{format_at}
use Rattle.walk_pages.proofs.methods.+reading.Goals as goal

pub read_method-loop-operation-preserved : goal.read_method-loop-operation-preserved
read_method-loop-operation-preserved t c =
    let goes = c.in_ok-step.ensures c.if-not-branch.false in
    let was = c.loop-operation.invariant in
    ((search rules), goes.right was.1, goes.same.format_is ∙ was.2, goes.same.arguments_are ∙ was.3, goes.same.prepared_is ∙ was.4)

pub read_method-new-requires : goal.read_method-new-requires
read_method-new-requires t c =
    let found = rw c.in-Some.is at c.in_ok-start.ensures in
    let same : c.args.frame.now.methods.now ≡ c.args.accepted.now.profile.methods = (search rules) in
    record { prepared = found.told c.in-Some.start.format.now (ap (λ z. format_at z c.args.frame.now.method c.in-Some.start.index) (sym same) ∙ found.format_is) }

pub step-returns-in-Some : goal.step-returns-in-Some
step-returns-in-Some t c = λ _. c.pass.ensures c.args.frame.now
