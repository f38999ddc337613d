use Rattle.std.proofs.Common.{◌≡◌, ◌++◌, drop, map}
use Rattle.sem_profile.specs.Uses.{callee_of, format_uses}
use Rattle.text_resolve.proofs.call_graph.format_uses.Given as goal

abbrev pub invariant-loop-field : goal.invariant-loop-field
invariant-loop-field l = l.uses ++ map (λ d. callee_of d.encoding) (drop l.field-index l.format.fields) ≡ format_uses l.format
