use Rattle.std.proofs.Common.{◌≡◌, drop}
use Rattle.tool_run.specs.Asked.{lacking_words}
use Rattle.tool_run.proofs.asked.asked_words.Given as goal

abbrev pub invariant-loop-field : goal.invariant-loop-field
invariant-loop-field l = lacking_words (drop l.field-index l.fields) l.values ≡ lacking_words l.fields l.values
