use Rattle.std.proofs.Common.{◌≡◌, length}
use Rattle.std.specs.Vec.Iter.{into_iter_items, into_iter_len}
use Rattle.walk_steps.proofs.FillingMaking.{IsSoFar}
use Rattle.walk_steps.proofs.filling.filled_fields.Given as goal

abbrev pub invariant-loop-slot : goal.invariant-loop-slot
invariant-loop-slot l =
    (goal.iterator-loop-slot).can_next l.slot-iterator ×
    (goal.iterator-loop-slot).is_finite l.slot-iterator ×
    (into_iter_len l.slot-iterator ≡ length (into_iter_items l.slot-iterator)) ×
    IsSoFar l.fields l.fn.slots.items (into_iter_items l.slot-iterator) l.filled l.index
