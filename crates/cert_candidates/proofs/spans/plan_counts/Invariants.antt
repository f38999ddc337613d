use Rattle.std.proofs.Common.{◌≡◌, ℕ, List, ◌++◌, map, drop}
use Rattle.cert_rules.specs.Capped.{capped}
use Rattle.cert_rules.specs.Spans.{spans_of}
use Rattle.cert_candidates.proofs.spans.plan_counts.Given as goal

abbrev pub invariant-loop-place : goal.invariant-loop-place
invariant-loop-place l =
    (exact : List ℕ) → l.counts ≡ map capped exact → l.found ++ map capped (spans_of exact (drop l.place l.formats) (drop l.place l.entries)) ≡ map capped (spans_of exact l.formats l.entries)
