use Rattle.std.proofs.Common.{◌≡◌, ◌≤◌, drop}
use Rattle.std.specs.List.{position_from}
use Rattle.text_resolve.specs.Parts.{methods_of}
use Rattle.text_resolve.specs.Top.{is_top}
use Rattle.text_resolve.proofs.top.first_top.Given as goal

abbrev pub invariant-loop-part : goal.invariant-loop-part
invariant-loop-part l =
    (position_from (is_top l.text l.name) l.place (methods_of (drop l.part-index l.parts)) ≡ position_from (is_top l.text l.name) 0 (methods_of l.parts)) × (l.place ≤ l.part-index)
