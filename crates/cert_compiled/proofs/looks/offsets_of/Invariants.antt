use Rattle.std.proofs.Common.{◌≡◌, length}
use Rattle.std.specs.Prelude.{IfSome}
use Rattle.cert_compiled.specs.Offsets.{HaveBefore, AreOffsets}
use Rattle.cert_compiled.proofs.looks.offsets_of.Given as goal

abbrev pub invariant-loop-index : goal.invariant-loop-index
invariant-loop-index l = (length l.offsets ≡ l.index) × AreOffsets l.fields l.sizes l.offsets × IfSome l.next (HaveBefore l.fields l.sizes l.index)
