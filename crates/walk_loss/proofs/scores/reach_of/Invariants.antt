use Rattle.std.proofs.Common.{◌≡◌, drop}
use Rattle.std.specs.Prelude.{fold}
use Rattle.walk_loss.specs.Scores.{lesser, limit, reach}
use Rattle.walk_loss.proofs.scores.reach_of.Given as goal

abbrev pub invariant-loop-reading : goal.invariant-loop-reading
invariant-loop-reading l = fold (λ least r. lesser least (limit l.format l.most r)) l.reach (drop l.reading-index l.readings) ≡ reach l.format l.most l.readings
