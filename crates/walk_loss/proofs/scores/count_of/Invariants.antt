use Rattle.std.proofs.Common.{◌≡◌, ◌+◌, drop}
use Rattle.std.specs.Prelude.{fold}
use Rattle.walk_loss.specs.Scores.{count, one_in}
use Rattle.walk_loss.proofs.scores.count_of.Given as goal

abbrev pub invariant-loop-reading : goal.invariant-loop-reading
invariant-loop-reading l = fold (λ a r. a + one_in l.group r) l.count (drop l.reading-index l.readings) ≡ count l.group l.readings
