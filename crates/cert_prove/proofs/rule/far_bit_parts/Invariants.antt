use Rattle.std.proofs.Common.{◌≡◌, drop}
use Rattle.std.specs.List.{list_any}
use Rattle.cert_prove.specs.Known as spec
use Rattle.cert_prove.proofs.rule.far_bit_parts.Given as goal

abbrev pub invariant-loop-offset : goal.invariant-loop-offset
invariant-loop-offset l = list_any (spec.bit_parts l.tolds l.sizes l.set) (drop l.offset-index l.far) ≡ list_any (spec.bit_parts l.tolds l.sizes l.set) l.far
