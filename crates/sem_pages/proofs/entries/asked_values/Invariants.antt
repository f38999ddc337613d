use Rattle.std.proofs.Common.{◌≡◌, ◌++◌, drop}
use Rattle.sem_filling.specs.Fillings.{asked_values}
use Rattle.sem_pages.specs.Pages.{level_by}
use Rattle.sem_pages.proofs.entries.asked_values.Given as goal

abbrev pub invariant-loop-i : goal.invariant-loop-i
invariant-loop-i l = l.values ++ asked_values (level_by (drop l.i l.fields) (drop l.i l.shown)) ≡ asked_values (level_by l.fields l.shown)
