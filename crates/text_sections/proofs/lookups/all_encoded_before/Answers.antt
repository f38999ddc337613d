use Rattle.text_sections.proofs.CausesFolding.{earliest_more, none_before}
use Rattle.text_sections.proofs.lookups.all_encoded_before.Goals as goal

pub loop-mention-preserved : goal.loop-mention-preserved
loop-mention-preserved c = earliest_more _ _ _ _ _ _ _ _ c.loop-mention-test.true c.encoded_before.ensures c.earlier-found.ensures c.loop-mention.invariant

pub returns-then-is_empty : goal.returns-then-is_empty
returns-then-is_empty c = none_before c.args.text.now c.args.table.now c.args.mentions.now (c.is_empty.ensures.0 c.if-is_empty.true)
