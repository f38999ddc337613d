use Rattle.std.proofs.Common.{◌≡◌, ◌++◌, map, drop}
use Rattle.sem_filling.specs.Fillings.{asked_values, level, sides_of}
use Rattle.sem_filling.proofs.filling.Filling.asked_values.Given as goal

abbrev pub invariant-loop-field : goal.invariant-loop-field
invariant-loop-field l = l.values ++ asked_values (map sides_of (drop l.field-index l.field-items)) ≡ asked_values (level l.self)
