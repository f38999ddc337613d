use Rattle.std.proofs.Common.{arith}
use Rattle.walk_line.specs.Hearing.{nothing}
use Rattle.walk_line.proofs.PagesKept.{none_kept}
use Rattle.walk_line.proofs.LinesSends.{few_entries}
use Rattle.walk_line.proofs.receiver.Receiver.new.Goals as goal

pub invariant_of-result : goal.invariant_of-result
invariant_of-result c = (rw c.in_ok-no_contexts.ensures (few_entries c.args.version), rw c.new-2.ensures (omega arith), rw c.new-2.ensures nothing, none_kept c.args.accepted.now _ _ c.new.ensures.items)
