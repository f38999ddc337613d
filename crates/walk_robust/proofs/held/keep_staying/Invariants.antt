use Rattle.std.proofs.Common.{◌≡◌, ◌+◌, ◌≤◌, ◌++◌, length, vec_len, vec_capacity}
use Rattle.std.specs.Vec.Iter.{into_iter_items}
use Rattle.walk_robust.specs.Sending.{stayed}
use Rattle.walk_robust.proofs.held.keep_staying.Given as goal

-- those so far and those of the rest are those of all, and there is room for the rest
abbrev pub invariant-loop-one : goal.invariant-loop-one
invariant-loop-one l =
    (goal.iterator-loop-one).can_next l.one-iterator ×
    (goal.iterator-loop-one).is_finite l.one-iterator ×
    (l.after.items ++ stayed l.lost (into_iter_items l.one-iterator) ≡ l.fn.after.items ++ stayed l.lost l.fn.held.items) ×
    (vec_len l.after + length (stayed l.lost (into_iter_items l.one-iterator)) ≤ vec_capacity l.after)
