use Rattle.std.proofs.Common.{refl}
use Rattle.std.proofs.lemmas.Option.{slice_get_read}
use Rattle.text_resolve.proofs.CallsUsing.{order_of_fields}
use Rattle.text_resolve.proofs.ProfileLimitsWeighed.{judged_light, judged_heavy}
use Rattle.text_resolve.proofs.profile_limits.heavy_top.Goals as goal

pub weights-requires : goal.weights-requires
weights-requires c = rw (c.as_slice.ensures, c.in_ok-uses.ensures) (order_of_fields c.args.methods.now c.args.order.now c.requires.order)

pub returns-then-number_at-gt-WEIGHT_LIMIT : goal.returns-then-number_at-gt-WEIGHT_LIMIT
returns-then-number_at-gt-WEIGHT_LIMIT c =
    let at = slice_get_read c.args.methods.now _ c.args.top c.index-methods-top.result refl c.requires.top c.index-methods-top.is in
    let are = rw (c.as_slice.ensures, c.in_ok-uses.ensures) at c.in_ok-weights.ensures in
    let more = rw (c.number_at.ensures, c.as_slice-2.ensures) at c.if-number_at-gt-WEIGHT_LIMIT.true in
    judged_heavy c.args.methods.now c.args.top c.in_ok-weights.weights c.index-methods-top.result c.too_large_at.result at are more c.too_large_at.ensures

pub returns : goal.returns
returns c =
    let are = rw (c.as_slice.ensures, c.in_ok-uses.ensures) at c.in_ok-weights.ensures in
    let most = rw (c.number_at.ensures, c.as_slice-2.ensures) at c.if-number_at-gt-WEIGHT_LIMIT.false in
    judged_light c.args.methods.now c.args.order.now c.args.top c.in_ok-weights.weights c.requires.order c.requires.top are most
