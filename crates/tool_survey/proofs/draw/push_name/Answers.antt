use Rattle.tool_survey.specs.Draw.{name_cell}
use Rattle.tool_survey.proofs.DrawLemmas.{ranges_on}
use Rattle.tool_survey.proofs.draw.push_name.Goals as goal

pub loop-bit-preserved : goal.loop-bit-preserved
loop-bit-preserved c =
    ranges_on (name_cell c.args.name.now c.args.start c.args.width) c.loop-bit.bit c.args.width _ _ _ c.loop-bit-test.true c.in_ok-push_name_bit.ensures c.loop-bit.invariant
