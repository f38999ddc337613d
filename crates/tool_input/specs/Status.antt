-- Exit statuses, and what is told of a run that failed.
use Rattle.std.specs.Prelude.{ℕ, List, codes}
use Rattle.tool_input.specs.declared.status.Failure.{Failure}
use Rattle.tool_input.specs.declared.status.Failure.TheVariants.{Reading, Writing, Memory}
use Rattle.tool_input.specs.declared.status.Status.{Status}
use Rattle.tool_input.specs.declared.status.Status.TheVariants.{Done, Refused, Usage, Failed}

abbrev pub code_of : Status → ℕ
code_of Done = 0
code_of Refused = 1
code_of Usage = 2
code_of (Failed why) = 3

abbrev pub failure_words : Failure → List ℕ
failure_words Reading = codes "reading the input failed"
failure_words Writing = codes "writing the output failed"
failure_words Memory = codes "out of memory"
