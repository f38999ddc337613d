use Rattle.tool_report.specs.Reports.{ProvedOctets}
use Rattle.tool_report.proofs.ExplanationsNotes.{with_notes}
use Rattle.tool_report.proofs.explanations.explain_prove.Goals as goal

pub returns : goal.returns
returns c = with_notes (ProvedOctets c.args.version c.args.top.now c.args.profile.now) c.noted.result c.in_ok-answer.answer c.as_str.result.now c.in_ok-answer.ensures c.noted.ensures.status c.noted.ensures.output
