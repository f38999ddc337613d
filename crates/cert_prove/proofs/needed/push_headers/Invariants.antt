use Rattle.std.proofs.Common.{◌≡◌, ◌++◌, drop}
use Rattle.sem_expr.specs.declared.expr.Side.TheVariants.{Uncompressed}
use Rattle.cert_rules.specs.Facts.{fact_of, of_headers}
use Rattle.cert_prove.proofs.needed.push_headers.Given as goal

abbrev pub invariant-loop-index : goal.invariant-loop-index
invariant-loop-index l = l.facts ++ of_headers (fact_of Uncompressed l.measure) l.index (drop l.index l.fields) ≡ l.fn.facts ++ of_headers (fact_of Uncompressed l.measure) 0 l.fields
