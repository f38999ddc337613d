use Rattle.std.proofs.Common.{◌≡◌, ◌++◌, map, drop, string_bytes}
use Rattle.std.specs.List.{flat_map}
use Rattle.sem_filling.specs.Entries.{entries_below}
use Rattle.sem_filling.specs.FillingLaws.{entries_at}
use Rattle.sem_filling.proofs.entries.+add_entries.Given as goal

abbrev pub invariant-loop-field : goal.invariant-loop-field
invariant-loop-field l =
    map (λ e. (string_bytes e.0, e.1)) l.found.items ++ flat_map (entries_at l.path) (drop l.field-index l.field-items)
    ≡ map (λ e. (string_bytes e.0, e.1)) l.fn.found.items ++ entries_below l.filling l.path
