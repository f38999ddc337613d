use Rattle.std.proofs.Common.{drop, false}
use Rattle.std.specs.List.{flat_map}
use Rattle.sem_filling.specs.declared.filling.Filling.{Filling}
use Rattle.sem_filling.specs.Fillings.{fields_of}
use Rattle.sem_filling.specs.Entries.{entries_below}
use Rattle.sem_filling.specs.FillingLaws.{entries_at}
use Rattle.sem_pages.proofs.InOrder.{GoesTo}
use Rattle.sem_pages.specs.Pages.{Shows}
use Rattle.sem_pages.proofs.entries.+entries.Given as goal

abbrev pub invariant-add_page-loop-i : goal.invariant-add_page-loop-i
invariant-add_page-loop-i l =
    (f : Filling) → Shows l.methods l.method l.page f
    → GoesTo false l.context l.fn.progress l.progress (flat_map (entries_at l.path) (drop l.i (fields_of f))) (entries_below f l.path)
