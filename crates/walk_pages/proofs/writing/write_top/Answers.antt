use Rattle.std.proofs.Common.{◌≡◌, ◌∙◌, ap, rules, sym}
use Rattle.sem_filling.specs.Fits.{format_at}
use Rattle.walk_pages.proofs.writing.write_top.Goals as goal

pub after-requires-clause-prepared : goal.after-requires-clause-prepared
after-requires-clause-prepared c =
    let found = c.in-Some.ensures in
    let same : c.args.frame.now.methods.now ≡ c.args.accepted.now.profile.methods = (search rules) in
    found.told c.in-Some.start.format.now (ap (λ z. format_at z c.args.frame.now.method c.in-Some.start.index) (sym same) ∙ found.format_is)

pub loop-operation-init : goal.loop-operation-init
loop-operation-init c =
    let goes = c.begin.ensures c.args.frame.now in
    let new = c.in_ok-draft.ensures in
    (goes.right new.0, goes.same.format_is ∙ new.1, goes.same.arguments_are ∙ new.2, goes.same.prepared_is ∙ new.3)
