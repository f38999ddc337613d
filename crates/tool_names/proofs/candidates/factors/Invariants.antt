use Rattle.std.proofs.Common.{◌≡◌, ◌++◌, drop}
use Rattle.tool_names.specs.Candidates.{factors_of}
use Rattle.tool_names.proofs.candidates.factors.Given as goal

abbrev pub invariant-loop-step : goal.invariant-loop-step
invariant-loop-step l = l.found ++ factors_of l.counts l.format (drop l.step-index l.steps) ≡ factors_of l.counts l.format l.steps
