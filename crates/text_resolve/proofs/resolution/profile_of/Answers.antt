use Rattle.std.proofs.Common.{refl, length}
use Rattle.text_resolve.specs.Resolved.{too_large}
use Rattle.text_resolve.proofs.PartsPasses.{bounds_refused, sound}
use Rattle.text_resolve.proofs.ProfileLimitsWeights.{kept_are_light, kept_are_called}
use Rattle.text_resolve.proofs.CallsUsing.{uses_within, order_of_kept}
use Rattle.text_resolve.proofs.resolution.profile_of.Goals as goal

pub returns-in-Some-clause-refused : goal.returns-in-Some-clause-refused
returns-in-Some-clause-refused c = too_large ((rw c.as_slice-2.ensures at c.in_ok-fault.ensures).cause c.in-Some.fault c.in-Some.is)

pub reached_methods-requires-clause-within : goal.reached_methods-requires-clause-within
reached_methods-requires-clause-within c = uses_within c.args.order.now c.args.methods c.requires.order

pub sizes-requires-clause-order : goal.sizes-requires-clause-order
sizes-requires-clause-order c =
    rw c.as_slice-5.ensures (order_of_kept (length c.args.methods) c.args.order.now c.args.methods c.in_ok-methods.methods c.args.top refl c.requires.order c.in_ok-methods.ensures)

pub sizes-requires-clause-light : goal.sizes-requires-clause-light
sizes-requires-clause-light c =
    let limits = (rw c.as_slice-2.ensures at c.in_ok-fault.ensures).fine c.in_default.is in
    rw c.as_slice-5.ensures (kept_are_light c.args.methods c.in_ok-methods.methods c.args.top c.args.order.now c.requires.order limits.light c.requires.well_formed c.in_ok-methods.ensures)

pub sizes-requires-clause-called : goal.sizes-requires-clause-called
sizes-requires-clause-called c =
    rw c.as_slice-5.ensures (kept_are_called c.args.methods c.in_ok-methods.methods c.args.top c.requires.plain c.requires.well_formed c.in_ok-methods.ensures)

pub of-requires : goal.of-requires
of-requires c =
    sound c.args.methods c.in_ok-methods.methods c.in-Ok.sizes c.args.top c.in_ok-asked.asked c.args.order.now (rw c.as_slice-4.ensures at c.in_ok-asked.ensures) c.requires.asking c.requires.order c.requires.top c.in_ok-methods.ensures (rw c.as_slice-5.ensures at c.in-Ok.ensures.ok) c.requires.well_formed c.requires.alike c.requires.names (rw c.as_slice-3.ensures at c.are_words.ensures) c.requires.plain c.requires.formats ((rw c.as_slice-2.ensures at c.in_ok-fault.ensures).fine c.in_default.is)

pub returns-clause-refused : goal.returns-clause-refused
returns-clause-refused c =
    bounds_refused c.args.names.now c.args.methods c.in_ok-methods.methods c.args.top c.args.order.now c.in_ok-methods.ensures
    (order_of_kept (length c.args.methods) c.args.order.now c.args.methods c.in_ok-methods.methods c.args.top refl c.requires.order c.in_ok-methods.ensures)
    c.in-Err.error (rw c.as_slice-5.ensures at c.in-Err.ensures.err)
