use Rattle.tool_report.proofs.AcceptingCertificates.{octets_judged, octets_at_fault}
use Rattle.tool_report.proofs.profile_and_certificate.accept.Goals as goal

pub returns-in-Ok : goal.returns-in-Ok
returns-in-Ok c = octets_judged _ _ _ _ _ c.judge.result c.as_bytes.ensures.value c.in-Ok.ensures.found c.judge.ensures

pub returns-in_ok-error_line-in-Err : goal.returns-in_ok-error_line-in-Err
returns-in_ok-error_line-in-Err c = octets_at_fault _ _ _ _ _ c.as_bytes.ensures.value (c.in_ok-error_line-in-Err.ensures _ c.in-Err.ensures.refused)
