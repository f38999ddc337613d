use Rattle.tool_loss.proofs.LossNumbers.{one_further}
use Rattle.tool_loss.specs.LossObjects.{lost_line}
use Rattle.tool_loss.proofs.loss_objects.push_scores.Goals as goal

pub loop-lost-preserved : goal.loop-lost-preserved
loop-lost-preserved c = one_further (lost_line c.args.readings.now) _ _ _ c.loop-lost.lost c.args.end c.loop-lost-test.true c.in_ok-push_score.ensures c.loop-lost.invariant
