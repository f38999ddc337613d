use Rattle.std.proofs.Common.{◌≡◌, ◌<◌, ◌-◌, List, false, length}
use Rattle.std.specs.Prelude.{None}
use Rattle.cert_types.specs.declared.rule.Fact.{Fact}
use Rattle.cert_types.specs.Kept.{step_limit}
use Rattle.cert_rules.specs.Plans.{goals_of, is_complete}
use Rattle.cert_plans.specs.Knowing.{shows, Knows}
use Rattle.cert_plans.specs.Listed.{AreFlags}
use Rattle.cert_prove.specs.Searching.{AreWaiting, AreLeft, AreLearntTo}
use Rattle.cert_prove.proofs.Planned.{SoFar}
use Rattle.cert_prove.proofs.plan.follow_order.Given as goal

abbrev pub invariant-more : goal.invariant-more
invariant-more l =
    SoFar l.fn.version l.direction l.table l.sizes l.format l.steps l.known
    × AreWaiting (shows l.known) l.format l.possible l.agenda.waits.due l.agenda.waits.noted None
    × AreLeft (shows l.known) l.format l.possible l.agenda.needs.items
    × AreLearntTo l.direction l.format (shows l.known) l.missing
    × (l.missing < length l.format.fields → (facts : List Fact) → Knows l.known facts → is_complete (goals_of l.direction l.format) facts ≡ false)
    × AreFlags l.format l.agenda.listed

abbrev pub decreases-more : goal.decreases-more
decreases-more l = step_limit - length l.steps
