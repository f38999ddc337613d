use Rattle.std.proofs.Common.{subst, sym}
use Rattle.sem_reasons.specs.Conflicts.{StandsIn}
use Rattle.sem_filling.specs.declared.reason.Reason.TheVariants as reason
use Rattle.sem_reasons.proofs.ReasonsMaking.{no_side_is}
use Rattle.sem_reasons.proofs.conflict.lacking.Goals as goal

pub returns : goal.returns
returns c =
    subst (λ z. StandsIn c.args.sighted.now (reason.NoSide c.args.coded.now.index c.args.side z)) (sym c.in_ok-found.ensures)
    (no_side_is c.args.sighted.now c.args.coded.now c.requires.sighted c.requires.coded c.args.side c.args.own.now c.requires.seen c.requires.none)
