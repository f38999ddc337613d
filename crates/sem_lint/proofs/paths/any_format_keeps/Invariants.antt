use Rattle.std.proofs.Common.{◌≡◌, drop}
use Rattle.std.specs.List.{list_any}
use Rattle.sem_lint.specs.Paths as spec
use Rattle.sem_lint.proofs.paths.any_format_keeps.Given as goal

abbrev pub invariant-loop-format : goal.invariant-loop-format
invariant-loop-format l = list_any (spec.keeps_in l.name) (drop l.format-index l.formats) ≡ list_any (spec.keeps_in l.name) l.formats
