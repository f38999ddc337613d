use Rattle.std.proofs.Common.{refl, arith}
use Rattle.tool_items.proofs.TrendsGrowing.{fields_end, fields_more}
use Rattle.tool_items.proofs.trends.add_fields.Goals as goal

pub loop-place-preserved : goal.loop-place-preserved
loop-place-preserved c =
    fields_more c.args.lost c.args.filling.now c.args.fields.now.items c.loop-place.fields.items _ c.loop-place.place c.index_mut.result.now c.add_field.new.trend
    (omega (arith, c.loop-place-test.true, c.len-place-end.ensures, c.loop-place.invariant.same_count)) c.index_mut.ensures.value c.in_ok-add_field.ensures refl c.loop-place.invariant

pub returns : goal.returns
returns c =
    fields_end c.args.lost c.args.filling.now c.args.fields.now.items c.loop-place.fields.items c.loop-place.place
    (omega (arith, c.loop-place-test.false, c.len-place-end.ensures, c.loop-place.invariant.same_count)) c.loop-place.invariant
