use Rattle.std.proofs.Common.{refl, ◌∙◌, ap, length, arith}
use Rattle.tool_items.specs.Sums.{row_of}
use Rattle.tool_items.proofs.SumsPlacing.{places_end}
use Rattle.tool_items.proofs.SumsRolled.{added_here, next_here, start_here}
use Rattle.tool_items.proofs.sums.+adding.Goals as goal

pub add_filling-returns : goal.add_filling-returns
add_filling-returns t c =
    added_here c.args.filling.now c.args.sums.now _ _ _ _ _ c.add_to_format.result c.in_ok-sums.ensures (λ n. c.in_ok-reach_formats.ensures.0 n) c.in_ok-count.ensures c.in_ok-reach_formats.ensures.1 c.index_mut.ensures.value c.add_to_format.ensures

pub add_to_format-loop-place-init : goal.add_to_format-loop-place-init
add_to_format-loop-place-init t c =
    start_here c.args.filling.now c.args.format.now _ _ _ c.in_ok-format.ensures (λ p. c.in_ok-reach_places.ensures.0 p) (ap length (c.as_slice-listing.ensures ∙ c.get.ensures)) c.in_ok-reach_places.ensures.1

pub add_to_format-loop-place-preserved : goal.add_to_format-loop-place-preserved
add_to_format-loop-place-preserved t c =
    next_here c.args.filling.now c.args.format.now c.loop-place.format c.loop-place.place _ _ _ c.as_slice-listing.result.now (c.as_slice-listing.ensures ∙ c.get.ensures) c.loop-place-test.true refl c.index_mut.ensures.value c.in_ok-add_listed.ensures c.loop-place.invariant

pub add_to_format-returns : goal.add_to_format-returns
add_to_format-returns t c =
    places_end c.args.filling.now (row_of c.args.format.now) c.loop-place.place _ (omega (arith, c.loop-place-test.false, ap length (c.as_slice-listing.ensures ∙ c.get.ensures))) c.loop-place.invariant
