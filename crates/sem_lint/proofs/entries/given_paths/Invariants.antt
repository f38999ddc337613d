use Rattle.std.proofs.Common.{◌≡◌, ℕ, List, drop}
use Rattle.std.specs.Prelude.{◌||◌}
use Rattle.std.specs.BTreeSet.{contains_text}
use Rattle.std.specs.List.{list_any}
use Rattle.std.specs.Str.{bytes_eq}
use Rattle.sem_lint.specs.NeedsSteps as steps
use Rattle.sem_lint.proofs.entries.given_paths.Given as goal

abbrev pub invariant-loop-path : goal.invariant-loop-path
invariant-loop-path l = (p : List ℕ) → (contains_text l.paths p || list_any (bytes_eq p) (steps.texts (drop l.path-index l.given))) ≡ list_any (bytes_eq p) (steps.texts l.given)
