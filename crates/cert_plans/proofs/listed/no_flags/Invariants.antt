use Rattle.std.proofs.Common.{◌≡◌, false, replicate}
use Rattle.cert_plans.proofs.listed.no_flags.Given as goal

abbrev pub invariant-loop : goal.invariant-loop
invariant-loop l = l.flags ≡ replicate l.counter false
