use Rattle.std.proofs.Common.{◌≡◌, ℕ, List, drop}
use Rattle.std.specs.Prelude.{◌&&◌, ◌||◌, nat_eq, not}
use Rattle.std.specs.BTreeMap.{get_by_text}
use Rattle.std.specs.List.{enumerate_from, list_all}
use Rattle.sem_lint.specs.Spelled as spec
use Rattle.sem_lint.proofs.spelled.owner_table.Given as goal

abbrev pub invariant-loop-number : goal.invariant-loop-number
invariant-loop-number l =
    (name : List ℕ) (n : ℕ)
    → (spec.alone_by (get_by_text l.table name) n && list_all (λ f. nat_eq f.0 n || not (spec.has_field name f.1)) (enumerate_from l.number (drop l.number l.formats))) ≡ spec.is_alone l.formats n name
