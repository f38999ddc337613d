use Rattle.std.proofs.Common.{codes, refl}
use Rattle.tool_input.proofs.OneLineLemmas.{in_item, told}
use Rattle.tool_run.proofs.senders.sender_fault.Goals as goal

pub item_fault-requires : goal.item_fault-requires
item_fault-requires c = rw c.in-Pack.is at c.requires

pub returns-in-NoReach-clause-line : goal.returns-in-NoReach-clause-line
returns-in-NoReach-clause-line c = told c.plain_line.result _ (in_item c.args.number (codes ": F5 NoReach") (record { no_feed = refl })) c.plain_line.ensures

pub returns-in-Contexts-clause-line : goal.returns-in-Contexts-clause-line
returns-in-Contexts-clause-line c = told c.plain_line-in-Contexts.result _ (in_item c.args.number (codes ": F6 Contexts") (record { no_feed = refl })) c.plain_line-in-Contexts.ensures
