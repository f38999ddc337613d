use Rattle.std.proofs.Common.{◌≡◌, length}
use Rattle.cert_rules.specs.Capped as spec
use Rattle.cert_trees.proofs.counts.count_candidates.Given as goal

abbrev pub invariant-loop-index : goal.invariant-loop-index
invariant-loop-index l = record {
  count : length l.found ≡ length l.methods;
  counted : spec.CappedBefore l.methods l.entries l.order l.index-index l.found;
}
