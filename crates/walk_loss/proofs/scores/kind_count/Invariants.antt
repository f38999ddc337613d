use Rattle.std.proofs.Common.{◌≡◌, ◌+◌, drop}
use Rattle.std.specs.Prelude.{fold}
use Rattle.walk_loss.specs.Scores.{kind_count, kind_in}
use Rattle.walk_loss.proofs.scores.kind_count.Given as goal

abbrev pub invariant-loop-reading : goal.invariant-loop-reading
invariant-loop-reading l = fold (λ a r. a + kind_in l.group l.kind r) l.count (drop l.reading-index l.readings) ≡ kind_count l.group l.kind l.readings
