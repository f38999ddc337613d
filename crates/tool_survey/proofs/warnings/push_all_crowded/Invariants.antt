use Rattle.std.specs.Prelude.{◌++◌, string_bytes}
use Rattle.tool_survey.specs.Warnings.{candidates_text, crowded_lines}
use Rattle.tool_names.proofs.TableLists.{Goes}
use Rattle.tool_survey.proofs.warnings.push_all_crowded.Given as goal

abbrev pub invariant-loop-index : goal.invariant-loop-index
invariant-loop-index l =
    Goes (λ m. crowded_lines l.places l.counted.methods.now l.counted.entries.now l.counted.counts.now m.0 m.1) l.counted.methods.now l.index (string_bytes l.text) (string_bytes l.fn.text ++ candidates_text l.places l.counted.methods.now l.counted.entries.now l.counted.counts.now)
