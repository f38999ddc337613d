use Rattle.std.proofs.Common.{sym, subst, ◌+◌, drop, get_or}
use Rattle.std.proofs.lemmas.List.{drop_more}
use Rattle.walk_steps.proofs.JoinedSpelling.{Spelt, spelt_start, spelt_below, spelt_next}
use Rattle.walk_steps.proofs.side_lists.joined_value.Goals as goal

pub loop-field-init : goal.loop-field-init
loop-field-init c = spelt_start c.args.slots.now c.args.side c.args.fields.now

pub appended-requires-clause-below : goal.appended-requires-clause-below
appended-requires-clause-below c = spelt_below _ _ _ _ _ _ c.loop-field.invariant

pub loop-field-preserved : goal.loop-field-preserved
loop-field-preserved c =
    let next = drop_more c.args.fields.now c.loop-field.field-index 0 c.loop-field-test.true in
    let spelt = spelt_next c.args.slots.now c.args.side c.args.fields.now (drop c.loop-field.field-index c.args.fields.now) (drop (c.loop-field.field-index + 1) c.args.fields.now)
    (get_or c.args.fields.now c.loop-field.field-index 0) c.loop-field.number c.loop-field.count c.in-Some-appended.next c.in-Some.bits.now next (sym c.in-Some.ensures) c.in-Some-appended.ensures.0
    c.in-Some-appended.ensures.1 c.loop-field.invariant in
    subst (λ n. Spelt c.args.slots.now c.args.side c.args.fields.now (drop (c.loop-field.field-index + 1) c.args.fields.now) c.in-Some-appended.next (c.loop-field.count + n)) (sym c.len-count.ensures.value) spelt
