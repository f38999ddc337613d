use Rattle.tool_report.proofs.AcceptingCertificates.{certificate_printed, none_proved_line}
use Rattle.tool_report.proofs.prove.prove_profile.Goals as goal

pub returns-in-Ok : goal.returns-in-Ok
returns-in-Ok c = certificate_printed c.args.version _ c.in-Ok.certificate c.answer_printed.result c.in-Ok.ensures.proved c.keeps.ensures c.answer_printed.ensures.status c.answer_printed.ensures.output

pub returns-in_ok-line-in-Err : goal.returns-in_ok-line-in-Err
returns-in_ok-line-in-Err c = none_proved_line c.args.version _ c.in-Err.unproved _ _ _ c.refusal.result c.in-Err.ensures.unproved c.methods.ensures c.in_ok-line-in-Err.ensures c.keeps-in-Err.ensures c.as_str.ensures.value c.refusal.ensures
