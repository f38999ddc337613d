use Rattle.std.proofs.Common.{◌≡◌, ◌++◌, length, take}
use Rattle.sem_context.specs.Entries.{Entries, overridden}
use Rattle.sem_context.specs.Placing.{HasPaths, shown}
use Rattle.sem_context.proofs.context.Context.add_missing.Given as goal

abbrev pub invariant-loop-path : goal.invariant-loop-path
invariant-loop-path l =
    HasPaths l.self (shown (take l.path-index l.entries))
    × (overridden l.self (shown l.entries) ≡ overridden l.fn.self (shown l.entries))
    × ((rest : Entries) × (l.self ≡ l.fn.self ++ rest))
    × (l.count ≡ length l.fn.self)
