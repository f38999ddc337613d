use Rattle.std.proofs.Common.{ℕ, List, drop, ◌++◌, map}
use Rattle.sem_lint.specs.Paths as spec
use Rattle.sem_lint.proofs.paths.unknown_paths.Given as goal

abbrev pub invariant-loop-path : goal.invariant-loop-path
invariant-loop-path l =
    (more : List (List ℕ)) → spec.AreThose (spec.IsUnknown l.profile) (map (λ p. p.now) (drop l.path-index l.given)) more
    → spec.AreThose (spec.IsUnknown l.profile) (map (λ p. p.now) l.given) (map (λ p. p.now) l.found ++ more)
