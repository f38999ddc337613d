use Rattle.std.proofs.Common.{◌≡◌, ◌++◌, drop, map}
use Rattle.sem_expr.specs.declared.expr.Side.TheVariants.{Compressed}
use Rattle.cert_rules.specs.Facts.{fact_of}
use Rattle.cert_prove.proofs.needed.push_listed.Given as goal

abbrev pub invariant-loop-listed : goal.invariant-loop-listed
invariant-loop-listed l = l.facts ++ map (fact_of Compressed l.measure) (drop l.listed-index l.listing) ≡ l.fn.facts ++ map (fact_of Compressed l.measure) l.listing
