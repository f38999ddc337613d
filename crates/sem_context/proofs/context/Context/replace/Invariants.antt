use Rattle.std.proofs.Common.{◌≡◌}
use Rattle.std.specs.Vec.Iter.{into_iter_items}
use Rattle.sem_context.specs.Entries.{overridden}
use Rattle.sem_context.specs.Placing.{HasPaths, shown}
use Rattle.sem_context.proofs.context.Context.replace.Given as goal

abbrev pub invariant-loop-path : goal.invariant-loop-path
invariant-loop-path l =
    (goal.iterator-loop-path).can_next l.path-iterator × (goal.iterator-loop-path).is_finite l.path-iterator
    × HasPaths l.self (shown (into_iter_items l.path-iterator))
    × (overridden l.self (shown (into_iter_items l.path-iterator)) ≡ overridden l.fn.self (shown l.fn.entries.items))
