use Rattle.std.proofs.Common.{◌≡◌, length}
use Rattle.cert_prove.proofs.TreeGrowth.{GrownTo}
use Rattle.cert_prove.proofs.tree.grown.Given as goal

abbrev pub invariant-loop-place : goal.invariant-loop-place
invariant-loop-place l = record {
  count : length l.nodes ≡ l._place;
  so_far : GrownTo l.version l.formats l.sizes l.nodes l.sets;
}
