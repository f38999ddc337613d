use Rattle.std.proofs.Common.{◌≡◌, ℕ, ◌<◌, false}
use Rattle.cert_trees.specs.Judged as judged
use Rattle.cert_trees.proofs.sets.first_wrong.Given as goal

abbrev pub invariant-loop-format : goal.invariant-loop-format
invariant-loop-format l = (n : ℕ) → n < l.format → judged.Has l.set n → judged.is_wrong l.sizes l.node n ≡ false
