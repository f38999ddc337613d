use Rattle.tool_report.proofs.AcceptingCertificates.{proved_by_profile, proof_refused}
use Rattle.tool_report.proofs.prove.answer_prove.Goals as goal

pub returns-in-Ok : goal.returns-in-Ok
returns-in-Ok c = proved_by_profile c.args.version _ _ _ c.in-Ok.normal c.prove_profile.result c.as_bytes.ensures.value c.in-Ok.ensures.found c.prove_profile.ensures

pub returns-in_ok-line-in-Err : goal.returns-in_ok-line-in-Err
returns-in_ok-line-in-Err c = proof_refused c.args.version _ _ _ _ _ c.refusal.result c.as_bytes.ensures.value (c.in_ok-line-in-Err.ensures _ c.in-Err.ensures.refused) c.as_str.ensures.value c.refusal.ensures
