use Rattle.std.proofs.Common.{◌≡◌, ◌++◌, drop}
use Rattle.walk_steps.specs.Joined.{joined_bits, are_whole}
use Rattle.walk_steps.proofs.side_lists.joined_whole.Given as goal

abbrev pub invariant-loop-field : goal.invariant-loop-field
invariant-loop-field l =
    (are_whole l.slots l.side (drop l.field-index l.fields) ≡ are_whole l.slots l.side l.fields)
    × (l.joined ++ joined_bits l.slots l.side (drop l.field-index l.fields) ≡ joined_bits l.slots l.side l.fields)
