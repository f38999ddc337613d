use Rattle.std.proofs.Common.{◌==◌, length}
use Rattle.std.specs.List.{slice_split}
use denote.Text.{Utf8}
use denote.Shadow.{shadow}
use Rattle.tool_input.proofs.InputLines.{AreReadSoFar}
use Rattle.tool_input.proofs.inputs.read_values.Given as goal

-- the words so far give the values so far
abbrev pub invariant-loop-word : goal.invariant-loop-word
invariant-loop-word l = shadow (Utf8 l.rest) × AreReadSoFar (slice_split (λ octet. octet == 32) l.fn.words) (slice_split (λ octet. octet == 32) l.rest) l.values

abbrev pub decreases-loop-word : goal.decreases-loop-word
decreases-loop-word l = length l.rest
