use Rattle.std.proofs.Common.{◌∙◌, ap, sym, subst, refl}
use Rattle.std.specs.List.{flat_map}
use Rattle.std.specs.Map.{keys_of}
use Rattle.std.proofs.lemmas.Option.{slice_get_read}
use Rattle.sem_filling.specs.Entries.{below, entries_below, GoesOn}
use Rattle.sem_filling.specs.FillingLaws.{entries_at, entries_inside}
use Rattle.sem_filling.specs.Fillings.{inner_of}
use Rattle.sem_filling.proofs.EntriesLevels.{entries_are}
use Rattle.sem_filling.proofs.EntriesInOrder.{begins, stays, turn, field_goes, none_inside, some_inside}
use Rattle.sem_filling.proofs.entries.+add_in_order.Goals as goal
use Rattle.sem_filling.proofs.entries.+add_in_order.Goals.{in-Some-inner+in_ok-add_in_order+else-not-branch, in_default-inner}

pub loop-field-init : goal.loop-field-init
loop-field-init t c =
    begins (keys_of c.args.context.now) c.args.values.now.items _ (entries_below c.args.filling.now c.args.path.now)
    (ap (flat_map (entries_at c.args.path.now)) c.as_slice-field-items.ensures ∙ sym (entries_are c.args.filling.now c.args.path.now))

pub loop-field-preserved-then-leaves_nothing : goal.loop-field-preserved-then-leaves_nothing
loop-field-preserved-then-leaves_nothing t c =
    let fields = c.as_slice-field-items.result.now in
    let at = slice_get_read fields _ c.loop-field.field-index c.field-item.result refl c.loop-field-test.true c.field-item.is in
    let values = c.loop-field.values.items in
    turn (keys_of c.args.context.now) c.args.values.now.items values values c.args.path.now fields c.loop-field.field-index c.field-item.result (entries_below c.args.filling.now c.args.path.now) at
    (stays (keys_of c.args.context.now) values (entries_at c.args.path.now c.field-item.result) (c.leaves_nothing.ensures c.if-leaves_nothing.true c.args.path.now)) c.loop-field.invariant

pub loop-field-preserved : goal.loop-field-preserved
loop-field-preserved t c =
    let fields = c.as_slice-field-items.result.now in
    let at = slice_get_read fields _ c.loop-field.field-index c.field-item.result refl c.loop-field-test.true c.field-item.is in
    let values = c.loop-field.values.items in
    let mid = c.add_next.new.values.items in
    let paths = keys_of c.args.context.now in
    let own = rw c.in-Some.is at c.in_ok-here.ensures in
    elim c.match-field.branch [
      | in-Some-inner+in_ok-add_in_order+else-not-branch w ↦
          turn paths c.args.values.now.items values _ c.args.path.now fields c.loop-field.field-index c.field-item.result (entries_below c.args.filling.now c.args.path.now) at
          (field_goes paths values mid _ c.args.path.now c.in-Some.here.now c.field-item.result (own.0 ∙ ap (below c.args.path.now) c.as_str.ensures) own.1
          (subst (λ v. GoesOn paths mid v (entries_inside (inner_of c.field-item.result) c.in-Some.here.now)) (ap (λ v. v.items) (sym w.values-is))
          (some_inside paths mid w.add_in_order.new.values.items (inner_of c.field-item.result) w.in-Some-inner.inner c.in-Some.here.now w.in-Some-inner.is (w.in_ok-add_in_order.ensures w.if-not-branch.false)))) c.loop-field.invariant
      | in_default-inner w ↦
          turn paths c.args.values.now.items values _ c.args.path.now fields c.loop-field.field-index c.field-item.result (entries_below c.args.filling.now c.args.path.now) at
          (field_goes paths values mid _ c.args.path.now c.in-Some.here.now c.field-item.result (own.0 ∙ ap (below c.args.path.now) c.as_str.ensures) own.1
          (subst (λ v. GoesOn paths mid v (entries_inside (inner_of c.field-item.result) c.in-Some.here.now)) (ap (λ v. v.items) (sym w.values-is))
          (none_inside paths mid (inner_of c.field-item.result) c.in-Some.here.now w.in_default-inner.is))) c.loop-field.invariant
    ]
