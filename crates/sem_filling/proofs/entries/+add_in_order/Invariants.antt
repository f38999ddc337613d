use Rattle.std.proofs.Common.{drop}
use Rattle.std.specs.List.{flat_map}
use Rattle.std.specs.Map.{keys_of}
use Rattle.sem_filling.specs.Entries.{entries_below}
use Rattle.sem_filling.specs.FillingLaws.{entries_at}
use Rattle.sem_filling.proofs.EntriesInOrder.{GoesTo}
use Rattle.sem_filling.proofs.entries.+add_in_order.Given as goal

abbrev pub invariant-loop-field : goal.invariant-loop-field
invariant-loop-field l =
    GoesTo (keys_of l.context) l.fn.values.items l.values.items (flat_map (entries_at l.path) (drop l.field-index l.field-items)) (entries_below l.filling l.path)
