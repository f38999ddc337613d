use Rattle.cert_text.proofs.DraftsOutcome.{one_reading, faults_exclude}
use Rattle.cert_text.proofs.laws.one_reading.Goals as goal

pub returns-clause-only : goal.returns-clause-only
returns-clause-only c = one_reading

pub returns-clause-no_fault : goal.returns-clause-no_fault
returns-clause-no_fault c = faults_exclude
