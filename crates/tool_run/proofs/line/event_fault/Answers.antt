use Rattle.std.proofs.Common.{codes, refl}
use Rattle.tool_input.proofs.OneLineLemmas.{asked_event, in_event, told}
use Rattle.tool_run.proofs.line.event_fault.Goals as goal

pub returns-in-HeaderLength-clause-line : goal.returns-in-HeaderLength-clause-line
returns-in-HeaderLength-clause-line c = told c.plain_line.result _ (in_event c.args.number (codes ": F1 HeaderLength") (record { no_feed = refl })) c.plain_line.ensures

pub returns-in-Asked-clause-line : goal.returns-in-Asked-clause-line
returns-in-Asked-clause-line c = told c.asked_line.result _ (asked_event c.args.number c.as_str.result.now (rw c.as_str.ensures c.keeps.ensures)) c.asked_line.ensures

pub returns-in-NoFormat-clause-line : goal.returns-in-NoFormat-clause-line
returns-in-NoFormat-clause-line c = told c.plain_line-in-NoFormat.result _ (in_event c.args.number (codes ": F3 NoFormat") (record { no_feed = refl })) c.plain_line-in-NoFormat.ensures

pub returns-in-Flow-clause-line : goal.returns-in-Flow-clause-line
returns-in-Flow-clause-line c = told c.plain_line-in-Flow.result _ (in_event c.args.number (codes ": F4 Flow") (record { no_feed = refl })) c.plain_line-in-Flow.ensures
