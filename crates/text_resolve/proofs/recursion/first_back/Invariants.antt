use Rattle.std.proofs.Common.{◌≡◌, ◌≤◌, drop}
use Rattle.text_resolve.specs.Parts.{methods_of}
use Rattle.text_resolve.specs.Recursion.{first_back}
use Rattle.text_resolve.proofs.recursion.first_back.Given as goal

abbrev pub invariant-loop-part : goal.invariant-loop-part
invariant-loop-part l =
    (first_back l.table l.text l.methods l.caller (methods_of (drop l.part-index l.parts)) ≡ first_back l.table l.text l.methods 0 (methods_of l.parts)) × (l.caller ≤ l.part-index)
