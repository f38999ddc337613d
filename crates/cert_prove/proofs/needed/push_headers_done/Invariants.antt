use Rattle.std.proofs.Common.{◌≡◌, ◌++◌, drop}
use Rattle.cert_types.specs.declared.rule.Fact.TheVariants.{Done}
use Rattle.cert_rules.specs.Facts.{of_headers}
use Rattle.cert_prove.proofs.needed.push_headers_done.Given as goal

abbrev pub invariant-loop-index : goal.invariant-loop-index
invariant-loop-index l = l.facts ++ of_headers Done l.index (drop l.index l.fields) ≡ l.fn.facts ++ of_headers Done 0 l.fields
