use Rattle.std.proofs.Common.{◌≡◌, ◌++◌, drop, map}
use Rattle.cert_types.specs.declared.rule.Fact.TheVariants.{Done}
use Rattle.cert_rules.specs.Facts.{before}
use Rattle.cert_prove.proofs.needed.push_listed_before.Given as goal

abbrev pub invariant-loop-listed : goal.invariant-loop-listed
invariant-loop-listed l = l.facts ++ map Done (before l.field (drop l.listed-index l.listing)) ≡ l.fn.facts ++ map Done (before l.field l.listing)
