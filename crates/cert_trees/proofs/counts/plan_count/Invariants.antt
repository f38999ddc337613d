use Rattle.std.proofs.Common.{◌≡◌, ℕ, ◌*◌, ◌^◌, ◌<◌, List, map, drop}
use Rattle.cert_rules.specs.Counts as rules
use Rattle.cert_rules.specs.Capped as spec
use Rattle.cert_trees.proofs.counts.plan_count.Given as goal

abbrev pub invariant-loop-step : goal.invariant-loop-step
invariant-loop-step l = record {
  small : l.total < 2 ^ 64;
  counted : (exact : List ℕ) → l.counts ≡ map spec.capped exact → spec.capped (l.total * rules.plan_ways exact l.format (drop l.step-index l.steps)) ≡ spec.capped (rules.plan_ways exact l.format l.steps);
}
