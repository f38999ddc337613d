use Rattle.cert_text.proofs.DraftsOutcome.{reads_back, reads_only, no_blame}
use Rattle.cert_text.proofs.laws.text_reads_back.Goals as goal

pub returns-clause-reads : goal.returns-clause-reads
returns-clause-reads c = reads_back

pub returns-clause-only : goal.returns-clause-only
returns-clause-only c = reads_only

pub returns-clause-no_fault : goal.returns-clause-no_fault
returns-clause-no_fault c = no_blame
