use Rattle.std.proofs.Common.{◌≡◌, length, map, drop}
use Rattle.cert_tables.specs.Tables.{tree_of, all_tables, entries_of}
use Rattle.cert_tables.specs.Kept.{AreServed}
use Rattle.cert_tables.specs.Growth.{in_the_end}
use Rattle.cert_tables.proofs.table.Tables.of.Given as goal

abbrev pub invariant-loop-entry : goal.invariant-loop-entry
invariant-loop-entry l =
    record {
      so_far : in_the_end l.making (all_tables (map tree_of (drop l.entry-index l.certificate.methods))) ≡ entries_of l.certificate.methods;
      as_many : length l.trees ≡ l.entry-index;
      served : AreServed l.making.entries l.certificate.methods l.trees;
    }
