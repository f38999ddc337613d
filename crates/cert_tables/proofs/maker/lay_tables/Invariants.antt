use Rattle.std.proofs.Common.{◌≡◌, length}
use Rattle.cert_tables.specs.Kept.{AreStarts}
use Rattle.cert_tables.specs.Growth.{IsUnderWay, Grows}
use Rattle.cert_tables.proofs.maker.lay_tables.Given as goal

abbrev pub invariant-loop-place : goal.invariant-loop-place
invariant-loop-place l =
    record {
      under_way : IsUnderWay l.fn.making l.making l.marks l.nodes l.place;
      as_many : length l.starts ≡ l.place;
      started : AreStarts l.making.entries l.nodes l.starts;
      grows : Grows l.fn.making.entries l.making.entries;
    }
