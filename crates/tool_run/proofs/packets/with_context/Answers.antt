use Rattle.tool_run.proofs.PrintedReplying.{finished_more}
use Rattle.std.specs.Prelude.{string_bytes}
use Rattle.tool_run.proofs.packets.with_context.Goals as goal

pub returns : goal.returns
returns c =
    finished_more c.args.context.now (string_bytes c.args.output) _ _ (string_bytes c.in_ok-text.text) _ c.in_ok-push_str.ensures.bytes c.in_ok-push_str-2.ensures.bytes c.as_str.ensures.value c.in_ok-text.ensures
