use Rattle.std.proofs.Common.{◌≡◌, ◌≤◌, ◌+◌, min, drop}
use Rattle.std.specs.List.{sum_by}
use Rattle.sem_graph.specs.Measures.{format_weight, field_weight, weight_cap}
use Rattle.sem_graph.proofs.weight.format_weight.Given as goal

abbrev pub invariant-loop-callee : goal.invariant-loop-callee
invariant-loop-callee l = (l.total ≤ weight_cap) × (min weight_cap (l.total + sum_by (field_weight l.weights) (drop l.callee-index l.fields)) ≡ format_weight l.weights l.fields)
