use Rattle.std.proofs.Common.{◌≡◌, ℕ, ◌<◌, false}
use Rattle.cert_prove.specs.Known as spec
use Rattle.cert_prove.proofs.rule.near_offset.Given as goal

abbrev pub invariant-loop-offset : goal.invariant-loop-offset
invariant-loop-offset l = (q : ℕ) → q < l.offset → spec.bit_parts l.tolds l.sizes l.set q ≡ false
