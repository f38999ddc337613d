use Rattle.std.proofs.Common.{sym}
use Rattle.tool_items.specs.Avoided.{count_line}
use Rattle.tool_items.proofs.AvoidedBlocks.{blocks_end, blocks_more}
use Rattle.tool_items.proofs.avoided.avoided_text.Goals as goal

pub loop-place-preserved : goal.loop-place-preserved
loop-place-preserved c =
    blocks_more c.args.octets.now c.args.profile.now c.args.items.now c.args.verdicts.now.kept (count_line c.args.name.now c.args.verdicts.now) _ c.count_at-count.result c.in-Some.verdict.now _ _ (sym c.in-Some.ensures.value) c.in_ok-push_block.ensures c.loop-place.invariant

pub returns : goal.returns
returns c = blocks_end c.args.octets.now c.args.profile.now c.args.items.now c.args.name.now _ c.args.verdicts.now c.loop-place.invariant
