use Rattle.std.proofs.Common.{◌≡◌, ◌+◌, length}
use denote.Text.{Utf8}
use denote.Shadow.{shadow}
use Rattle.tool_json.specs.Messages.{unindent}
use Rattle.tool_json.proofs.message.unindented.Given as goal

abbrev pub invariant-loop-further : goal.invariant-loop-further
invariant-loop-further l = shadow (Utf8 l.rest) × (unindent l.blanks l.rest ≡ unindent 0 l.fn.text) × (l.blanks + length l.rest ≡ length l.fn.text)

abbrev pub decreases-loop-further : goal.decreases-loop-further
decreases-loop-further l = length l.rest
