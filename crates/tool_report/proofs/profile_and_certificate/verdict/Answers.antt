use Rattle.tool_report.proofs.AcceptingCertificates.{is_accepted, is_refused}
use Rattle.tool_report.proofs.profile_and_certificate.verdict.Goals as goal

pub returns-in-Ok : goal.returns-in-Ok
returns-in-Ok c = is_accepted c.args.profile c.args.certificate c.in-Ok.accepted c.keeps.ensures c.in-Ok.ensures.profile c.in-Ok.ensures.certificate

pub returns-in-Fault : goal.returns-in-Fault
returns-in-Fault c =
    is_refused c.args.profile c.in-Err.refused.profile c.args.certificate c.in-Err.refused.error c.in-Fault.fault _ c.in_ok-verdict_line-in-Fault.field-0 c.in-Err.ensures.fault c.in-Fault.is c.in-Err.ensures.same_profile c.methods-methods.ensures c.in_ok-verdict_line-in-Fault.ensures c.keeps-in-Fault.ensures
