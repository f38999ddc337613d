use Rattle.tool_report.proofs.AcceptingCertificates.{certificate_judged, proved_judged, proved_right, line_judged}
use Rattle.tool_report.proofs.profile_and_certificate.judge.Goals as goal

pub returns-in-Certificate : goal.returns-in-Certificate
returns-in-Certificate c = certificate_judged _ _ _ _ c.verdict.result c.in_ok-certificate.ensures c.in-Certificate.is c.verdict.ensures

pub verdict-requires-in-Proved : goal.verdict-requires-in-Proved
verdict-requires-in-Proved c = λ right. proved_right c.args.profile _ _ _ c.in_ok-certificate.ensures c.in-Proved.is

pub returns-in-Proved : goal.returns-in-Proved
returns-in-Proved c = proved_judged _ _ _ _ c.verdict-in-Proved.result c.in_ok-certificate.ensures c.in-Proved.is c.verdict-in-Proved.ensures

pub returns-in-Line : goal.returns-in-Line
returns-in-Line c = line_judged _ _ _ _ c.in_ok-certificate.ensures c.in-Line.is
