use Rattle.std.proofs.Common.{◌≡◌, map, drop}
use Rattle.std.specs.Prelude.{◌↔◌}
use Rattle.sem_filling.specs.Fillings.{asked_values, sides_of}
use Rattle.walk_engine.proofs.search.has_values.Given as goal

abbrev pub invariant-loop-field : goal.invariant-loop-field
invariant-loop-field l = (asked_values (map sides_of l.fn.fields) ≡ l.fn.values) ↔ (asked_values (map sides_of (drop l.field-index l.fields)) ≡ drop l.place l.fn.values)
