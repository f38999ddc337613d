use Rattle.std.proofs.Common.{◌≡◌, length, vec_len}
use Rattle.cert_tables.specs.Kept.{AreSizesFrom}
use Rattle.cert_tables.proofs.sizes.subtree_sizes.Given as goal

abbrev pub invariant-loop-place : goal.invariant-loop-place
invariant-loop-place l =
    record {
      sized : AreSizesFrom l.place l.nodes l.sizes.items;
      many : vec_len l.sizes ≡ length l.nodes;
    }
