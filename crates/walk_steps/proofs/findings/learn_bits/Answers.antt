use Rattle.std.proofs.Common.{sym, subst}
use Rattle.walk_steps.specs.Finding.{Finds}
use Rattle.walk_steps.proofs.findings.learn_bits.Goals as goal

pub learn-requires-clause-finds : goal.learn-requires-clause-finds
learn-requires-clause-finds c = subst (Finds c.args.level_frame.now c.args.level.now c.args.field c.args.side) (sym c.whole.ensures) c.requires.finds
