use Rattle.cert_plans.proofs.PlanFaults.{plan_faults_refuse}
use Rattle.cert_plans.proofs.laws.plan_faults_refuse.Goals as goal

pub returns : goal.returns
returns c = plan_faults_refuse
