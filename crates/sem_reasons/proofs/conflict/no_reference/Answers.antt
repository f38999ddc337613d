use Rattle.std.proofs.Common.{ap, ◌∙◌}
use Rattle.sem_filling.specs.Entries.{below}
use Rattle.sem_reasons.proofs.ReasonsMaking.{no_reference_is}
use Rattle.sem_reasons.proofs.conflict.no_reference.Goals as goal

pub returns : goal.returns
returns c =
    no_reference_is c.args.sighted.now c.requires.sighted c.args.index c.args.field.now c.requires.at c.requires.wants c.requires.none c.in_ok-path.path
    (c.in_ok-path.ensures ∙ ap (below c.args.sighted.now.look.question.path.now) c.as_str.ensures)
