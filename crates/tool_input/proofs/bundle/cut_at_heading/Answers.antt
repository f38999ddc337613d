use Rattle.std.proofs.Common.{◌∙◌, sym}
use Rattle.tool_input.proofs.BundleParts.{cut_more, tail_is}
use Rattle.tool_input.proofs.bundle.cut_at_heading.Goals as goal

pub loop-at-preserved : goal.loop-at-preserved
loop-at-preserved c =
    let more = cut_more c.args.input.now c.loop-at.at _ c.first_line-line.result.now (tail_is c.loop-at.at c.args.input.now) c.loop-at.invariant.within c.first_line-line.ensures.front c.first_line-line.ensures.within c.first_line-line.ensures.line (sym c.starts_with.ensures.value ∙ c.if-starts_with.false) in
    record { within = more.0; text = more.1 ∙ c.loop-at.invariant.text; parts = more.2 ∙ c.loop-at.invariant.parts }
