use Rattle.text_statements.proofs.JudgedWalks.{walked_more}
use Rattle.text_statements.proofs.types.numbers.Goals as goal

pub loop-part-preserved : goal.loop-part-preserved
loop-part-preserved c =
    walked_more _ _ c.args.parts.now c.loop-part.part-index c.loop-part.found c.push.new.self c.part-item.result c.in_ok-number.field-0
    c.loop-part.invariant c.loop-part-test.true c.part-item.is c.in_ok-number.ensures.means c.in_ok-number.ensures.right c.in_ok-push.ensures.ok
