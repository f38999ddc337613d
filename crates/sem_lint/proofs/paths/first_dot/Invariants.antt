use Rattle.std.proofs.Common.{◌≡◌, take}
use Rattle.std.specs.Prelude.{not, nat_eq, true}
use Rattle.std.specs.List.{list_all}
use Rattle.sem_lint.proofs.paths.first_dot.Given as goal

abbrev pub invariant-loop-place : goal.invariant-loop-place
invariant-loop-place l = list_all (λ b. not (nat_eq b 46)) (take l.place l.text) ≡ true
