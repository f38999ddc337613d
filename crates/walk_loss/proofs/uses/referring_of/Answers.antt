use Rattle.std.proofs.Common.{refl, sym, subst}
use Rattle.std.specs.Prelude.{MatchOption}
use Rattle.sem_expr.specs.Known.{assignment_of}
use Rattle.sem_filling.proofs.Coded.{argument_ranged}
use Rattle.walk_loss.specs.Uses.{RefersNot, IsReferring}
use Rattle.walk_loss.proofs.uses.referring_of.Goals as goal

pub near_of-requires-clause-bits : goal.near_of-requires-clause-bits
near_of-requires-clause-bits c = argument_ranged c.args.known.now 0 c.requires c.in-Lsb.is refl

pub near_of-requires-clause-offset : goal.near_of-requires-clause-offset
near_of-requires-clause-offset c = argument_ranged c.args.known.now 1 c.requires c.in-Lsb.is refl

pub returns-in-Lsb : goal.returns-in-Lsb
returns-in-Lsb c =
    subst (λ l. MatchOption c.near_of.result (RefersNot (assignment_of c.args.known.now) l) (IsReferring (assignment_of c.args.known.now) l)) (sym c.in-Lsb.is) c.near_of.ensures
