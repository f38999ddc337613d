use Rattle.text_sections.proofs.CausesFolding.{map_more}
use Rattle.text_sections.proofs.fields.listing.Goals as goal

pub loop-mention-preserved : goal.loop-mention-preserved
loop-mention-preserved c = map_more _ _ _ _ _ _ _ _ c.loop-mention-test.true c.place.ensures c.in_ok-push.ensures.ok c.loop-mention.invariant
