use Rattle.std.proofs.Common.{refl}
use Rattle.tool_report.specs.Reports.{CheckedOctets, accepted, refused}
use Rattle.tool_report.proofs.AcceptingCertificates.{accepted_here, refused_here}
use Rattle.tool_input.proofs.RefusalsHeld.{done_is, refusal_is}
use Rattle.tool_report.proofs.check.answer_check.Goals as goal

pub returns-in-Accepted : goal.returns-in-Accepted
returns-in-Accepted c =
    done_is (CheckedOctets c.args.top.now c.args.profile.now c.args.origin) _ c.answer_accepted.result (accepted _ (accepted_here _ _ _ _ _ _ refl c.in_ok-accept.ensures c.in-Accepted.is)) c.answer_accepted.ensures.status c.answer_accepted.ensures.output

pub returns : goal.returns
returns c =
    refusal_is (CheckedOctets c.args.top.now c.args.profile.now c.args.origin) _ _ c.refusal.result (refused _ (refused_here _ _ _ _ _ _ refl c.in_ok-accept.ensures c.in-Refused.is)) c.as_str.ensures.value c.refusal.ensures
