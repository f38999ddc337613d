use Rattle.std.proofs.Common.{◌≡◌, drop}
use Rattle.text_resolve.specs.CallDepth.{first_deep}
use Rattle.text_resolve.proofs.call_depth.first_deep.Given as goal

abbrev pub invariant-loop-place : goal.invariant-loop-place
invariant-loop-place l = first_deep l.ends l.place (drop l.place l.names) ≡ first_deep l.ends 0 l.names
