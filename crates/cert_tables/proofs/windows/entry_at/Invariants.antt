use Rattle.std.proofs.Common.{length, ◌-◌, ◌≡◌, ◌≤◌, drop}
use Rattle.cert_tables.specs.Tables.{entry}
use Rattle.cert_tables.proofs.windows.entry_at.Given as goal

abbrev pub invariant-loop-at : goal.invariant-loop-at
invariant-loop-at l =
    record {
      on_the_way : entry l.window.width l.window.offset l.at (drop l.at l.nodes) l.number ≡ entry l.window.width l.window.offset l.window.place (drop l.window.place l.nodes) l.number;
      within : l.at ≤ length l.nodes;
    }

abbrev pub decreases-loop-at : goal.decreases-loop-at
decreases-loop-at l = length l.nodes - l.at
