use Rattle.tool_report.proofs.AcceptingCertificates.{read_here, unread_here}
use Rattle.tool_report.proofs.profile_and_certificate.read_text.Goals as goal

pub returns-in-Ok : goal.returns-in-Ok
returns-in-Ok c = λ octets same. read_here _ octets _ c.in-Ok.certificate same c.utf8.text c.in-Ok.ensures.short c.in-Ok.ensures.found c.keeps.ensures

pub returns-in_ok-unread_line-in-Err : goal.returns-in_ok-unread_line-in-Err
returns-in_ok-unread_line-in-Err c = λ octets same. unread_here _ octets _ _ c.in-Err.error same c.utf8.text c.in-Err.ensures.fault c.in_ok-unread_line-in-Err.ensures
