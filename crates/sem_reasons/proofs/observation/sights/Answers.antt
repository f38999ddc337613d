use Rattle.std.proofs.Common.{rules, sym, subst}
use Rattle.sem_reasons.specs.Looks.{SoFar}
use Rattle.sem_reasons.proofs.ReasonsMaking.{all_seen, none_seen}
use Rattle.sem_reasons.proofs.observation.sights.Goals as goal

pub loop-index-init : goal.loop-index-init
loop-index-init c = subst (λ xs. SoFar c.args.look.now xs 0) (sym c.new-found.ensures) (none_seen c.args.look.now)

pub returns : goal.returns
returns c = all_seen c.args.look.now c.loop-index.index c.loop-index.found (search rules) c.loop-index.invariant
