use Rattle.tool_report.proofs.AcceptingCertificates.{accepted_here, refused_here}
use Rattle.tool_input.proofs.RefusalsHeld.{passed_on, refusal_is}
use Rattle.tool_run.specs.Way.{ByAccepted, ByProfile}
use Rattle.tool_run.proofs.WayLemmas.{accepted_by, refused_by}
use Rattle.tool_run.proofs.way.answer_by.Goals as goal

pub returns-in-Accepted : goal.returns-in-Accepted
returns-in-Accepted c =
    passed_on (ByAccepted c.args.task c.args.order.now c.in-Accepted.accepted c.args.parts.now.context c.args.input.now) (ByProfile c.args.task c.args.order.now c.args.profile.now c.args.parts.now c.args.input.now) c.answer_for.result
    (accepted_by c.args.order.now c.args.profile.now c.args.parts.now c.args.input.now c.args.task c.in-Accepted.accepted (accepted_here _ _ _ _ _ _ c.of.ensures c.in_ok-accepted.ensures c.in-Accepted.is)) c.answer_for.ensures

pub returns-in-Refused : goal.returns-in-Refused
returns-in-Refused c =
    refusal_is (ByProfile c.args.task c.args.order.now c.args.profile.now c.args.parts.now c.args.input.now) _ _ c.refusal.result
    (refused_by c.args.order.now c.args.profile.now c.args.parts.now c.args.input.now c.args.task _ (refused_here _ _ _ _ _ _ c.of.ensures c.in_ok-accepted.ensures c.in-Refused.is)) c.as_str.ensures.value c.refusal.ensures
