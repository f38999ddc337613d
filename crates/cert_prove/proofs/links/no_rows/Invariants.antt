use Rattle.std.proofs.Common.{◌≡◌, [], replicate}
use Rattle.cert_prove.proofs.links.no_rows.Given as goal

abbrev pub invariant-loop : goal.invariant-loop
invariant-loop l = l.rows.items ≡ replicate l.counter []
