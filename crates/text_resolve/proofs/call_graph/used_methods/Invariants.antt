use Rattle.std.proofs.Common.{◌≡◌, ◌++◌, drop}
use Rattle.std.specs.List.{flat_map}
use Rattle.sem_profile.specs.Uses.{callees_of_fields, used_methods}
use Rattle.text_resolve.proofs.call_graph.used_methods.Given as goal

abbrev pub invariant-loop-format : goal.invariant-loop-format
invariant-loop-format l = l.callees ++ flat_map (λ f. callees_of_fields f.fields) (drop l.format-index l.method.formats) ≡ used_methods l.method
