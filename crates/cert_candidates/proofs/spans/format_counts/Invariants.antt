use Rattle.std.proofs.Common.{◌≡◌, ℕ, List, map}
use Rattle.cert_rules.specs.Capped.{capped}
use Rattle.cert_candidates.proofs.SpansListing.{lines}
use Rattle.cert_candidates.proofs.spans.format_counts.Given as goal

abbrev pub invariant-loop-method : goal.invariant-loop-method
invariant-loop-method l = (exact : List ℕ) → l.counts ≡ map capped exact → l.table ≡ lines exact l.methods l.entries l.method-index
