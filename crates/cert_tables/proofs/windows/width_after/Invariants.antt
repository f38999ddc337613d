use Rattle.std.proofs.Common.{◌≡◌, ◌+◌, ◌-◌, ◌≤◌, drop, max, length}
use Rattle.cert_tables.specs.Tables.{cover, width}
use Rattle.cert_tables.proofs.windows.width_after.Given as goal

abbrev pub invariant-loop-trees : goal.invariant-loop-trees
invariant-loop-trees l =
    record {
      wide : max l.width (cover l.offset 0 l.trees (drop l.at l.nodes)) ≡ width l.offset (drop (l.place + 1) l.nodes);
      few : l.trees ≤ l.at + 2;
      within : l.at ≤ length l.nodes;
    }

abbrev pub decreases-loop-trees : goal.decreases-loop-trees
decreases-loop-trees l = length l.nodes - l.at
