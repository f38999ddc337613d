use Rattle.std.proofs.Common.{drop}
use Rattle.walk_steps.proofs.JoinedSpelling.{Spelt}
use Rattle.walk_steps.proofs.side_lists.joined_value.Given as goal

abbrev pub invariant-loop-field : goal.invariant-loop-field
invariant-loop-field l = Spelt l.slots l.side l.fields (drop l.field-index l.fields) l.number l.count
