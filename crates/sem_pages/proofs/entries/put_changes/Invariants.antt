use Rattle.std.proofs.Common.{◌≡◌}
use Rattle.std.specs.Vec.Iter.{into_iter_items}
use Rattle.sem_pages.specs.Progress.{changed}
use Rattle.sem_pages.proofs.entries.put_changes.Given as goal

abbrev pub invariant-loop-place : goal.invariant-loop-place
invariant-loop-place l =
    (goal.iterator-loop-place).can_next l.place-iterator × (goal.iterator-loop-place).is_finite l.place-iterator
    × (changed l.context (into_iter_items l.place-iterator) ≡ changed l.fn.context l.fn.changes.items)
