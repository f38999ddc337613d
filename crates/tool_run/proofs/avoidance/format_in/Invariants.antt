use Rattle.std.specs.Prelude.{◌≢◌, ℕ, ◌<◌}
use Rattle.tool_names.specs.Names.{format_name}
use Rattle.tool_run.proofs.avoidance.format_in.Given as goal

-- no format before has the name
abbrev pub invariant-loop-format : goal.invariant-loop-format
invariant-loop-format l = (n : ℕ) → n < l.format → format_name l.methods l.method n ≢ l.name
