use Rattle.std.proofs.Common.{◌≡◌, ◌∙◌, ap, rules, sym}
use Rattle.sem_filling.specs.Fits.{format_at}
use Rattle.walk_pages.proofs.methods.read_top.Goals as goal

pub after-requires-clause-prepared : goal.after-requires-clause-prepared
after-requires-clause-prepared c =
    let found = rw c.in-Some.is at c.in_ok-start.ensures in
    let same : c.args.frame.now.methods.now ≡ c.args.accepted.now.profile.methods = (search rules) in
    found.told c.in-Some.start.format.now (ap (λ z. format_at z c.args.frame.now.method c.in-Some.start.index) (sym same) ∙ found.format_is)

pub loop-operation-preserved : goal.loop-operation-preserved
loop-operation-preserved c =
    let goes = c.in_ok-step.ensures c.if-not-branch.false in
    let was = c.loop-operation.invariant in
    (goes.right was.0, goes.same.format_is ∙ was.1, goes.same.arguments_are ∙ was.2, goes.same.prepared_is ∙ was.3)
