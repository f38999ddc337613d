use Rattle.std.proofs.Common.{◌≡◌, ◌+◌, ◌*◌, drop}
use Rattle.sem_filling.specs.declared.filling.Filling.{Filling}
use Rattle.cert_rules.specs.Counts.{plan_ways}
use Rattle.cert_candidates.specs.Codes.{place}
use Rattle.cert_candidates.specs.Numbered.{numbers_inside}
use Rattle.sem_pages.specs.Pages.{Shows}
use Rattle.walk_pages.proofs.numbers.+numbers.Given as goal

abbrev pub invariant-digits_of-loop-step : goal.invariant-digits_of-loop-step
invariant-digits_of-loop-step l =
    (f : Filling) → Shows l.candidates.methods.now l.method l.page f
    → l.number * plan_ways l.candidates.counts.now l.format (drop l.step-index l.steps)
    + place l.candidates.counts.now l.format (numbers_inside l.candidates f) (drop l.step-index l.steps)
    ≡ place l.candidates.counts.now l.format (numbers_inside l.candidates f) l.steps
