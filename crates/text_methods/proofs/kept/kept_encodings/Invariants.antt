use Rattle.std.proofs.Common.{take}
use Rattle.std.specs.List.{AllZip}
use Rattle.text_methods.specs.Kept.{IsKept}
use Rattle.text_methods.proofs.kept.kept_encodings.Given as goal

abbrev pub invariant-loop-item : goal.invariant-loop-item
invariant-loop-item l = AllZip (IsKept l.scope l.methods) (take l.item-index l.items) l.kept
