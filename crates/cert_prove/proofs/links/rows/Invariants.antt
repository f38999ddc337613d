use Rattle.cert_prove.proofs.LinkingNoted.{RowsTo}
use Rattle.cert_prove.proofs.links.rows.Given as goal

abbrev pub invariant-loop-number : goal.invariant-loop-number
invariant-loop-number l = RowsTo l.format l.number l.rows.items
