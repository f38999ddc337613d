use Rattle.text_sections.proofs.CausesFolding.{earliest_more}
use Rattle.text_sections.proofs.lookups.all_defined_before.Goals as goal

pub loop-mention-preserved : goal.loop-mention-preserved
loop-mention-preserved c = earliest_more _ _ _ _ _ _ _ _ c.loop-mention-test.true c.defined_before.ensures c.earlier-found.ensures c.loop-mention.invariant
