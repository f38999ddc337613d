use Rattle.std.proofs.Common.{◌≡◌, max, drop}
use Rattle.sem_graph.specs.Measures.{greatest_by, format_weight}
use Rattle.sem_graph.proofs.weight.greatest_weight.Given as goal

abbrev pub invariant-loop-fields : goal.invariant-loop-fields
invariant-loop-fields l = max l.most (greatest_by (format_weight l.weights) (drop l.fields-index l.formats)) ≡ greatest_by (format_weight l.weights) l.formats
