use Rattle.std.proofs.Common.{◌≡◌, ◌+◌, drop, length}
use Rattle.walk_steps.specs.Joined.{joined_bits, are_measured}
use Rattle.walk_steps.proofs.side_lists.joined_length.Given as goal

abbrev pub invariant-loop-field : goal.invariant-loop-field
invariant-loop-field l =
    (are_measured l.slots l.side (drop l.field-index l.fields) ≡ are_measured l.slots l.side l.fields)
    × (l.sum + length (joined_bits l.slots l.side (drop l.field-index l.fields)) ≡ length (joined_bits l.slots l.side l.fields))
