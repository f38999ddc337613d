use Rattle.std.proofs.Common.{◌≡◌, drop}
use Rattle.std.specs.List.{list_any}
use Rattle.sem_lint.specs.Paths as spec
use Rattle.sem_lint.proofs.paths.any_keeps.Given as goal

abbrev pub invariant-loop-method : goal.invariant-loop-method
invariant-loop-method l = list_any (λ k. spec.keeps l.methods k l.name) (drop l.method-index l.reached) ≡ list_any (λ k. spec.keeps l.methods k l.name) l.reached
