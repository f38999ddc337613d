use Rattle.std.proofs.Common.{◌≡◌, replicate}
use Rattle.std.specs.Prelude.{None}
use Rattle.cert_prove.proofs.rest.unwritten.Given as goal

abbrev pub invariant-loop : goal.invariant-loop
invariant-loop l = l.needs.items ≡ replicate l.counter None
