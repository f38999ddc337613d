use Rattle.std.proofs.Common.{◌≡◌, ◌++◌, drop}
use Rattle.std.specs.Prelude.{flat_map}
use Rattle.std.specs.List.{enumerate_from}
use Rattle.sem_lint.specs.Spelled as spec
use Rattle.sem_lint.proofs.spelled.add_of_format.Given as goal

abbrev pub invariant-loop-place : goal.invariant-loop-place
invariant-loop-place l =
    l.found ++ flat_map (λ d. spec.misspelled_field l.owners.method l.owners.formats.now l.number l.format d.0 d.1) (enumerate_from l.place (drop l.place l.format.fields))
    ≡ l.fn.found ++ spec.misspelled_format l.owners.method l.owners.formats.now l.number l.format
