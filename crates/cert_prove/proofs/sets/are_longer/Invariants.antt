use Rattle.std.proofs.Common.{◌≡◌, drop}
use Rattle.cert_prove.specs.Known as spec
use Rattle.cert_prove.proofs.sets.are_longer.Given as goal

abbrev pub invariant-loop-format : goal.invariant-loop-format
invariant-loop-format l = spec.are_longer l.sizes (drop l.format-index l.set) l.offset ≡ spec.are_longer l.sizes l.set l.offset
