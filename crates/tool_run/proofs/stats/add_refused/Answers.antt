use Rattle.std.specs.Prelude.{string_bytes}
use Rattle.tool_run.proofs.PrintedTallying.{line_below}
use Rattle.tool_run.proofs.stats.add_refused.Goals as goal

pub returns : goal.returns
unfolding lib.Utf8.encode
returns c = line_below c.args.fault c.args.number _ _ _ (string_bytes c.in_ok-line.line) _ c.in_ok-line.ensures.says c.in_ok-line.ensures.line c.in_ok-push.ensures.bytes c.as_str.ensures.value c.in_ok-push_str.ensures.bytes
