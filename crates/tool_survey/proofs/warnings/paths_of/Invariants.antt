use Rattle.std.proofs.Common.{◌≡◌, take}
use Rattle.std.specs.Map.{keys_of}
use Rattle.tool_survey.proofs.WarningsLemmas.{told}
use Rattle.tool_survey.proofs.warnings.paths_of.Given as goal

abbrev pub invariant-loop-place : goal.invariant-loop-place
invariant-loop-place l = told l.paths ≡ take l.place (keys_of l.context)
