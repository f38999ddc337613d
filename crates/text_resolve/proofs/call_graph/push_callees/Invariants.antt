use Rattle.std.proofs.Common.{◌≡◌, ◌++◌, drop}
use Rattle.sem_profile.specs.Uses.{callees_of_fields}
use Rattle.text_resolve.proofs.call_graph.push_callees.Given as goal

abbrev pub invariant-loop-field : goal.invariant-loop-field
invariant-loop-field l = l.callees ++ callees_of_fields (drop l.field-index l.fields) ≡ l.initial.callees ++ callees_of_fields l.fields
