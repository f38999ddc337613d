use Rattle.std.specs.Prelude.{◌++◌, string_bytes}
use Rattle.tool_survey.specs.Warnings.{ways_line, ways_lines}
use Rattle.tool_names.proofs.TableLists.{Goes}
use Rattle.tool_survey.proofs.warnings.push_all_ways.Given as goal

abbrev pub invariant-loop-index : goal.invariant-loop-index
invariant-loop-index l =
    Goes (λ f. ways_line l.places l.counted.methods.now l.counted.entries.now l.counted.counts.now l.method f.0 f.1) l.formats l.index (string_bytes l.text)
    (string_bytes l.fn.text ++ ways_lines l.places l.counted.methods.now l.counted.entries.now l.counted.counts.now l.method l.formats)
