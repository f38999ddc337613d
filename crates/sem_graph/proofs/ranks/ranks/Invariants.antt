use Rattle.std.proofs.Common.{◌≡◌, ◌++◌, map, drop}
use Rattle.sem_graph.specs.Calls.{marked}
use Rattle.sem_graph.proofs.ranks.ranks.Given as goal

abbrev pub invariant-loop-marks : goal.invariant-loop-marks
invariant-loop-marks l = l.ranks ++ map marked (drop l.marks-index l.table) ≡ map marked l.table
