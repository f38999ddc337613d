use Rattle.tool_loss.specs.Loss.{lost_row}
use Rattle.tool_names.proofs.TableLists.{one_more}
use Rattle.std.proofs.Common.{refl}
use Rattle.tool_loss.proofs.loss.add_scores.Goals as goal

pub loop-lost-preserved : goal.loop-lost-preserved
loop-lost-preserved c = one_more (lost_row c.args.readings.now) _ _ _ c.loop-lost.lost c.args.end c.args.end _ refl c.loop-lost-test.true refl c.in_ok-add_score.ensures c.loop-lost.invariant
