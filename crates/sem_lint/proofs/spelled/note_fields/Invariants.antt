use Rattle.std.proofs.Common.{◌≡◌, ℕ, List, drop}
use Rattle.std.specs.Prelude.{◌&&◌}
use Rattle.std.specs.BTreeMap.{get_by_text}
use Rattle.std.specs.List.{list_all}
use Rattle.sem_lint.specs.Spelled as spec
use Rattle.sem_lint.proofs.spelled.note_fields.Given as goal

abbrev pub invariant-loop-field : goal.invariant-loop-field
invariant-loop-field l =
    (name : List ℕ) (n : ℕ) → (spec.alone_by (get_by_text l.table name) n && list_all (spec.lets_alone l.number n name) (drop l.field-index l.fields)) ≡ (spec.alone_by (get_by_text l.fn.table name) n && list_all (spec.lets_alone l.number n name) l.fields)
