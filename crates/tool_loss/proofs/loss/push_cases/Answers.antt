use Rattle.std.proofs.Common.{◌+◌}
use Rattle.tool_loss.specs.Loss.{case_lines}
use Rattle.tool_loss.proofs.LossNumbers.{one_further}
use Rattle.tool_loss.proofs.loss.push_cases.Goals as goal

pub loop-lost-preserved : goal.loop-lost-preserved
loop-lost-preserved c = one_further (case_lines c.args.methods.now c.args.top c.args.cases.now) _ _ _ c.loop-lost.lost (c.args.most + 1) c.loop-lost-test.true c.in_ok-push_case_of.ensures c.loop-lost.invariant
