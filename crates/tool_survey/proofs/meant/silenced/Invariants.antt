use Rattle.std.proofs.Common.{◌≡◌, map, length}
use Rattle.std.specs.Prelude.{flat_map, string_bytes}
use Rattle.tool_survey.specs.Meant.{shown_line}
use Rattle.tool_survey.proofs.MeantLines.{ToldSoFar}
use Rattle.tool_survey.proofs.meant.silenced.Given as goal

abbrev pub invariant-loop-line : goal.invariant-loop-line
invariant-loop-line l = (string_bytes l.shown ≡ flat_map (shown_line l.meant.items) (map (λ x. x.now) l.yielded)) × ToldSoFar (map (λ x. x.now) l.yielded) (length l.meant.items) l.used.items
