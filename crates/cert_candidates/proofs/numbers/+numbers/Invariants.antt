use Rattle.std.proofs.Common.{◌≡◌, ◌+◌, ◌*◌, drop}
use Rattle.cert_rules.specs.Counts.{plan_ways}
use Rattle.cert_candidates.specs.Codes.{place}
use Rattle.cert_candidates.specs.Numbered.{numbers_inside}
use Rattle.cert_candidates.proofs.numbers.+numbers.Given as goal

abbrev pub invariant-digits_of-loop-step : goal.invariant-digits_of-loop-step
invariant-digits_of-loop-step l =
    l.number * plan_ways l.candidates.counts.now l.format (drop l.step-index l.steps)
    + place l.candidates.counts.now l.format (numbers_inside l.candidates l.filling) (drop l.step-index l.steps)
    ≡ place l.candidates.counts.now l.format (numbers_inside l.candidates l.filling) l.steps
