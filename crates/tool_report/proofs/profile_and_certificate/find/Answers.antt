use Rattle.tool_report.proofs.AcceptingCertificates.{given_found, made_found}
use Rattle.tool_report.proofs.profile_and_certificate.find.Goals as goal

pub returns-in-Given : goal.returns-in-Given
returns-in-Given c = given_found _ _ c.in-Given.octets c.read_octets.result c.in-Given.is c.read_octets.ensures

pub returns-in-Made : goal.returns-in-Made
returns-in-Made c = made_found _ _ c.in-Made.version c.make.result c.in-Made.is c.make.ensures
