use Rattle.std.proofs.Common.{◌∙◌, ap, sym, refl}
use Rattle.std.specs.Prelude.{slice_get}
use Rattle.std.proofs.lemmas.Option.{slice_get_past, slice_get_read}
use Rattle.tool_items.specs.declared.sums.PlaceSums.{out-PlaceSums}
use Rattle.tool_items.specs.declared.stats.RowOf.TheVariants as part
use Rattle.tool_items.specs.Stats.{row_of}
use Rattle.tool_items.proofs.StatsInside.{field_within, fields_end, fields_next, inner_none, inner_there, inside_end, inside_next, listed_none}
use Rattle.tool_items.proofs.stats.+inside.Goals as goal

pub add_field-returns : goal.add_field-returns
add_field-returns t c =
    field_within c.args.methods.now c.args.items c.args.field.now.name.now c.args.depth c.args.sums.now _ c.args.field.now.called c.in-Some.method _ _ _ _ c.add_inside.result c.if-bits-eq0.false c.in-Some.is (c.row_of.ensures ∙ ap (λ n. row_of c.args.depth part.Field n record { items = c.args.items; bits = (out-PlaceSums c.args.sums.now).bits }) c.in_ok-name.ensures.ok) c.in_ok-push.ensures.ok c.in_ok-further.ensures c.add_inside.ensures

pub add_fields-loop-place-init : goal.add_fields-loop-place-init
add_fields-loop-place-init t c = λ fs d of le. refl

pub add_fields-loop-place-preserved : goal.add_fields-loop-place-preserved
add_fields-loop-place-preserved t c =
    fields_next c.args.format.now.methods.now c.args.format.now.method c.args.format.now.number c.args.depth c.args.sums.now c.args.listing.now c.loop-place.place _ _ _ _ c.loop-place-test.true refl (λ fs d of le. c.loop-place.invariant fs d of le) c.in_ok-add_listed.ensures

pub add_fields-returns : goal.add_fields-returns
add_fields-returns t c = fields_end c.args.format.now.methods.now c.args.format.now.method c.args.format.now.number c.args.depth c.args.sums.now c.args.listing.now c.loop-place.place _ _ c.loop-place-test.false (λ fs d of le. c.loop-place.invariant fs d of le)

pub add_inner-returns-in-Some : goal.add_inner-returns-in-Some
add_inner-returns-in-Some t c = inner_there c.args.format.now.methods.now c.args.format.now.method c.args.depth c.args.format.now.number c.args.listing.now c.args.sums.now c.in-Some.sums.now _ _ _ c.add_inner_format.result refl (ap (λ xs. slice_get xs c.args.format.now.number) (sym c.deref.ensures.value) ∙ slice_get_read c.deref.result.now _ c.args.format.now.number c.in-Some.sums.now refl c.in-Some.ensures.lookup.3.0 c.in-Some.ensures.lookup.1) c.add_inner_format.ensures

pub add_inner-returns-in-None : goal.add_inner-returns-in-None
add_inner-returns-in-None t c = inner_none c.args.format.now.methods.now c.args.format.now.method c.args.depth c.args.format.now.number c.args.listing.now c.args.sums.now _ _ refl (ap (λ xs. slice_get xs c.args.format.now.number) (sym c.deref.ensures.value) ∙ slice_get_past c.deref.result.now c.args.format.now.number c.in-None.ensures.lookup.3)

pub add_inside-loop-number-init : goal.add_inside-loop-number-init
add_inside-loop-number-init t c = λ fs d are le. refl

pub add_inside-loop-number-preserved : goal.add_inside-loop-number-preserved
add_inside-loop-number-preserved t c =
    inside_next c.args.methods.now c.args.method c.args.depth c.args.sums.now c.formats_of-format-items.result.now c.loop-number.number _ _ _ _ _ c.loop-number-test.true c.format-item.is (c.as_slice-listing.ensures ∙ c.get.ensures) (λ fs d are le. c.loop-number.invariant fs d are le) c.in_ok-add_inner.ensures

pub add_inside-returns : goal.add_inside-returns
add_inside-returns t c =
    inside_end c.args.methods.now c.args.method c.args.depth c.args.sums.now c.formats_of-format-items.result.now c.loop-number.number _ _ c.formats_of-format-items.ensures c.loop-number-test.false (λ fs d are le. c.loop-number.invariant fs d are le)

pub add_listed-returns-in-None : goal.add_listed-returns-in-None
add_listed-returns-in-None t c = listed_none c.args.format.now.methods.now c.args.format.now.method c.args.format.now.number c.args.depth c.args.sums.now c.args.place c.args.field _ _ refl (ap (λ xs. slice_get xs c.args.place) (sym c.deref.ensures.value) ∙ slice_get_past c.deref.result.now c.args.place c.in-None.ensures.lookup.3)
