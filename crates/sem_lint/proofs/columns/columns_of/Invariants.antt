use Rattle.std.proofs.Common.{◌≡◌, ◌++◌, drop}
use Rattle.sem_lint.specs.Columns as spec
use Rattle.sem_lint.proofs.columns.columns_of.Given as goal

abbrev pub invariant-loop-listed : goal.invariant-loop-listed
invariant-loop-listed l = l.found ++ spec.columns_from l.format.fields l.sizes l.offset (drop l.listed-index l.listed-items) ≡ spec.columns_of l.format l.sizes
