use Rattle.std.proofs.Common.{◌≡◌}
use Rattle.sem_filling.proofs.Each.{Before}
use Rattle.cert_compiled.proofs.singles.is_among.Given as goal

abbrev pub invariant-loop-found : goal.invariant-loop-found
invariant-loop-found l = Before (λ n found. found ≡ l.key → ⊥) l.keys l.found-index
