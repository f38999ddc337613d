use Rattle.std.proofs.Common.{◌≡◌, ℕ, ◌+◌, ◌^◌, ◌<◌, List, map, drop}
use Rattle.cert_rules.specs.Counts as rules
use Rattle.cert_rules.specs.Capped as spec
use Rattle.cert_trees.proofs.counts.formats_count.Given as goal

abbrev pub invariant-loop-place : goal.invariant-loop-place
invariant-loop-place l = record {
  small : l.total < 2 ^ 64;
  counted : (exact : List ℕ) → l.counts ≡ map spec.capped exact → spec.capped (l.total + rules.method_ways exact (drop l.place l.formats) (drop l.place l.entries)) ≡ spec.capped (rules.method_ways exact l.formats l.entries);
}
