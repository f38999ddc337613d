use Rattle.std.proofs.Common.{ap, ◌∙◌, ◌++◌, ◌∷◌, []}
use Rattle.sem_reasons.specs.Settings.{setting_of}
use Rattle.sem_reasons.proofs.ReasonsMaking.{alone_is}
use Rattle.sem_reasons.proofs.verdicts.alone.Goals as goal

pub returns : goal.returns
returns c =
    alone_is (setting_of c.args.question.now) c.args.depth c.args.format c.args.reason c.line.result c.push.new.self c.requires c.line.ensures
    (c.in_ok-push.ensures.ok ∙ ap (λ xs. xs ++ c.line.result ∷ []) c.new-lines.ensures)
