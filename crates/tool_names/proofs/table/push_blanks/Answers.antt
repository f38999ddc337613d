use Rattle.tool_names.proofs.TableBlanks.{runs_on}
use Rattle.tool_names.proofs.table.push_blanks.Goals as goal

pub loop-preserved : goal.loop-preserved
loop-preserved c = runs_on _ _ _ _ c.args.count c.loop.counter c.loop-test.true c.blanks.ensures c.in_ok-push_str.ensures.bytes c.loop.invariant
