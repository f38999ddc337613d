use Rattle.std.proofs.Common.{◌≡◌, ◌++◌, drop, map}
use Rattle.sem_profile.specs.Uses.{format_uses, method_uses}
use Rattle.text_resolve.proofs.call_graph.method_uses.Given as goal

abbrev pub invariant-loop-format : goal.invariant-loop-format
invariant-loop-format l = l.uses ++ map format_uses (drop l.format-index l.method.formats) ≡ method_uses l.method
