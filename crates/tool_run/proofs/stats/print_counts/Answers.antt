use Rattle.tool_run.proofs.PrintedTallying.{counts_printed}
use Rattle.tool_run.proofs.stats.print_counts.Goals as goal

pub returns : goal.returns
returns c = counts_printed c.args.accepted.now c.args.counting c.args.told.now _ _ _ _ c.push_line.new.output c.as_str.ensures.value c.as_str-2.ensures.value c.counted_status.ensures c.in_ok-output.ensures c.in_ok-push_line.ensures
