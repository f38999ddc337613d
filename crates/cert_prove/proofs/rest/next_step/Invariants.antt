use Rattle.std.proofs.Common.{ℕ, ◌<◌, ◌-◌, length}
use Rattle.std.specs.Prelude.{None}
use Rattle.cert_plans.specs.Knowing.{shows}
use Rattle.cert_prove.specs.Marking.{IsDue}
use Rattle.cert_prove.specs.Searching.{AreWaiting, AreLeft}
use Rattle.cert_prove.proofs.rest.next_step.Given as goal

abbrev pub invariant-more : goal.invariant-more
invariant-more l =
    AreWaiting (shows l.known) l.format l.possible l.waits.due l.waits.noted None
    × AreLeft (shows l.known) l.format l.possible l.needs.items
    × ((i : ℕ) → i < l.place → IsDue l.waits.due i → ⊥)

abbrev pub decreases-more : goal.decreases-more
decreases-more l = length l.possible - l.place
