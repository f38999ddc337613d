use Rattle.std.specs.Prelude.{◌≡◌, ◌+◌, drop}
use Rattle.tool_items.specs.Advise.{shared}
use Rattle.tool_items.proofs.advice.shared.Given as goal

abbrev pub invariant-loop-place : goal.invariant-loop-place
invariant-loop-place l = l.place + shared (drop l.place l.fields) ≡ shared l.fields
