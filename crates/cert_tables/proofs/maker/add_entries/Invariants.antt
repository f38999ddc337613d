use Rattle.std.proofs.Common.{◌≡◌, ℕ, List, ◌++◌, map, drop, length}
use Rattle.std.specs.List.{range_with_len}
use Rattle.cert_tables.specs.Tables.{entry}
use Rattle.cert_tables.specs.Growth.{AreMarked}
use Rattle.cert_tables.proofs.maker.add_entries.Given as goal

abbrev pub invariant-loop-number : goal.invariant-loop-number
invariant-loop-number l =
    record {
      added : l.entries ≡ l.fn.entries ++ map (entry l.window.width l.window.offset l.window.place (drop l.window.place l.nodes)) (range_with_len 0 l.number);
      marked : (named : List ℕ) → AreMarked (length l.fn.marks) named l.fn.marks →
          AreMarked (length l.fn.marks) (named ++ map (entry l.window.width l.window.offset l.window.place (drop l.window.place l.nodes)) (range_with_len 0 l.number)) l.marks;
    }
