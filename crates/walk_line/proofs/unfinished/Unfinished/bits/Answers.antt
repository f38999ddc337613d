use Rattle.std.proofs.Common.{subst, drop}
use Rattle.hex.specs.Hex.{IsBytes}
use Rattle.walk_line.proofs.UnfinishedKeeping.{bytes_after}
use Rattle.walk_line.proofs.unfinished.Unfinished.bits.Goals as goal

pub returns-clause-fit : goal.returns-clause-fit
returns-clause-fit c = subst (λ o. IsBytes (drop 1 o)) c.self.view_is (bytes_after c.self.inside.octets.items c.self.invariant.1)
