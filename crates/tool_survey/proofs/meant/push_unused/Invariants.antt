use Rattle.std.proofs.Common.{◌++◌, ℕ, Bool}
use Rattle.std.specs.Prelude.{string_bytes}
use Rattle.tool_survey.specs.Meant.{at, unused_line, unused_by}
use Rattle.tool_names.proofs.TableLists.{Goes}
use Rattle.tool_survey.proofs.meant.push_unused.Given as goal

abbrev pub invariant-loop-index : goal.invariant-loop-index
invariant-loop-index l = Goes (λ (p : ℕ × Bool). unused_line (at l.used p.0) p.0 p.1) l.meant l.index (string_bytes l.shown) (string_bytes l.fn.shown ++ unused_by l.used l.meant)
