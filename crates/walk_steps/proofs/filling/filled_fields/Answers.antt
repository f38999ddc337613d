use Rattle.std.proofs.Common.{◌≡◌, ◌∙◌, refl, sym, ap, subst, ◌+◌, ◌<◌, length, arith}
use Rattle.std.specs.Prelude.{IfSome, IfNone}
use Rattle.std.specs.Vec.Iter.{into_iter_items, into_iter_len}
use Rattle.std.proofs.lemmas.Option.{slice_get_read}
use Rattle.sem_profile.specs.declared.profile.Field.{Field}
use Rattle.walk_steps.specs.Filled.{IsFilledWith, LacksSide}
use Rattle.walk_steps.proofs.FillingMaking.{IsSoFar, front, one_made, one_lacks, none_left, all_sides}
use Rattle.walk_steps.proofs.filling.filled_fields.Goals as goal

pub returns-in_default-clause-none : goal.returns-in_default-clause-none
returns-in_default-clause-none c =
    let fields = c.args.fields.now in
    let slots = c.args.slots.items in
    let made = c.loop-slot.filled in
    let so = subst (λ r. IsSoFar fields slots r made c.loop-slot.index) c.in-Some.ensures.steps.0 c.loop-slot.invariant.3 in
    one_lacks fields slots c.in-Some.slot (into_iter_items c.next.new.self) made c.loop-slot.index so
    (subst (λ o. IfNone o (LacksSide c.in-Some.slot)) c.in_default.is c.in_ok-field.ensures.none)

pub loop-slot-preserved : goal.loop-slot-preserved
loop-slot-preserved c =
    let fields = c.args.fields.now in
    let slots = c.args.slots.items in
    let made = c.loop-slot.filled in
    let i = c.loop-slot.index in
    let rest = into_iter_items c.next.new.self in
    let d = c.index-fields-index.result in
    let so = subst (λ r. IsSoFar fields slots r made i) c.in-Some.ensures.steps.0 c.loop-slot.invariant.3 in
    let here = front slots i c.in-Some.slot rest so.rest_is in
    let within : i < length fields = omega (arith, here.within, c.requires.each) in
    let found = subst (λ (y : Field). IfSome c.in_ok-field.field-0 (IsFilledWith y.declared c.in-Some.slot)) (sym c.index-fields-index.is) c.in_ok-field.ensures.filled in
    let is = subst (λ o. IfSome o (IsFilledWith d.declared c.in-Some.slot)) c.in-Some-2.is found in
    let more = one_made fields slots c.in-Some.slot rest made i d c.in-Some-2.field so (slice_get_read fields _ i d refl within c.index-fields-index.is) is in
    let left : into_iter_len c.next.new.self ≡ length rest = omega (arith, c.in-Some.ensures.steps.1, c.loop-slot.invariant.2, ap length c.in-Some.ensures.steps.0) in
    (tt, tt, left, subst (λ xs. IsSoFar fields slots rest xs (i + 1)) (sym c.in_ok-push.ensures.ok) more)

pub returns-clause-sides : goal.returns-clause-sides
returns-clause-sides c =
    let left = none_left (into_iter_items c.loop-slot.slot-iterator) (sym c.loop-slot.invariant.2 ∙ c.in-None.ensures.steps.0) in
    all_sides c.args.fields.now c.args.slots.items c.loop-slot.filled c.loop-slot.index
    (subst (λ r. IsSoFar c.args.fields.now c.args.slots.items r c.loop-slot.filled c.loop-slot.index) left c.loop-slot.invariant.3)
