use Rattle.std.proofs.Common.{◌≡◌, ◌++◌, drop}
use Rattle.std.specs.Prelude.{flat_map}
use Rattle.std.specs.List.{enumerate_from}
use Rattle.sem_lint.specs.Spelled as spec
use Rattle.sem_lint.proofs.spelled.add_of_method.Given as goal

abbrev pub invariant-loop-number : goal.invariant-loop-number
invariant-loop-number l =
    l.found ++ flat_map (λ f. spec.misspelled_format l.owners.method l.owners.formats.now f.0 f.1) (enumerate_from l.number (drop l.number l.owners.formats.now)) ≡ l.fn.found ++ spec.misspelled_method l.index l.method
