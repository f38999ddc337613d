use Rattle.text_sections.proofs.CausesFolding.{earliest_more}
use Rattle.text_sections.proofs.lookups.all_not_found.Goals as goal

pub loop-mention-preserved : goal.loop-mention-preserved
loop-mention-preserved c = earliest_more _ _ _ _ _ _ _ _ c.loop-mention-test.true c.not_found-next.ensures c.earlier-found.ensures c.loop-mention.invariant
