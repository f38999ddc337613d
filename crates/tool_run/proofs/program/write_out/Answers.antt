use Rattle.std.proofs.Common.{length, length-drop, ap, arith}
use Rattle.tool_input.proofs.BundleParts.{tail_is}
use Rattle.tool_run.proofs.ProgramBytes.{Keeps-from_none, goes_on, sent_front, sent_more}
use Rattle.tool_run.proofs.program.write_out.Goals as goal

pub returns-in-Ok-eq0-clause-front : goal.returns-in-Ok-eq0-clause-front
returns-in-Ok-eq0-clause-front g c = sent_front _ _ _ c.loop-at.at c.args.output.now c.loop-at.invariant.sent (Keeps-from_none _ _ _ _ c.in-Ok-eq0.field-0-test c.in-Ok-eq0.ensures.bytes)

pub loop-at-preserved : goal.loop-at-preserved
loop-at-preserved g c = record {
  within = omega (arith, length-drop c.loop-at.at c.args.output.now, ap length (tail_is c.loop-at.at c.args.output.now), c.in-Ok.ensures.bound);
  sent = sent_more _ _ _ c.loop-at.at c.in-Ok.count c.args.output.now _ (tail_is c.loop-at.at c.args.output.now) c.loop-at.invariant.sent c.in-Ok.ensures.bytes;
  goes_on = goes_on _ _ _ c.in-Ok.count c.in-Ok.ensures.counted c.in-Ok.count-test.1;
}

pub returns-in-Err-clause-front : goal.returns-in-Err-clause-front
returns-in-Err-clause-front g c = sent_front _ _ _ c.loop-at.at c.args.output.now c.loop-at.invariant.sent c.in-Err.ensures.bytes
