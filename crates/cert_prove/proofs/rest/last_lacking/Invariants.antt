use Rattle.std.proofs.Common.{List, length}
use Rattle.cert_types.specs.declared.rule.Fact.{Fact}
use Rattle.cert_plans.specs.Knowing.{shows}
use Rattle.cert_prove.specs.Searching.{StandFor}
use Rattle.cert_prove.proofs.rest.last_lacking.Given as goal

abbrev pub invariant-more : goal.invariant-more
invariant-more l = (xs : List Fact) → StandFor (shows l.known) xs l.fn.left → StandFor (shows l.known) xs l.left

abbrev pub decreases-more : goal.decreases-more
decreases-more l = length l.left
