use Rattle.tool_report.proofs.AcceptingCertificates.{broken_here}
use Rattle.tool_report.proofs.profile_and_certificate.broken.Goals as goal

pub returns-in-Err-NotText : goal.returns-in-Err-NotText
returns-in-Err-NotText c = broken_here c.args.octets.now _ c.in-Err-NotText.line c.error_text.result c.in-Err-NotText.field-0-is c.in-Err-NotText.ensures.fault c.error_text.ensures
