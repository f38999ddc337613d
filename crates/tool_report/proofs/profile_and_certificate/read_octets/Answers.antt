use Rattle.tool_report.proofs.AcceptingCertificates.{broken_found, text_found}
use Rattle.tool_report.proofs.profile_and_certificate.read_octets.Goals as goal

pub returns-in-Ok : goal.returns-in-Ok
returns-in-Ok c = text_found _ _ _ c.read_text.result c.in-Ok.ensures.cases.0 c.read_text.ensures

pub returns-in_ok-broken-in-Err : goal.returns-in_ok-broken-in-Err
returns-in_ok-broken-in-Err c = broken_found _ _ _ c.in-Err.ensures.cases.0 c.in_ok-broken-in-Err.ensures
