use Rattle.text_resolve.proofs.ExcludedFileNames.{no_cause_of_head}
use Rattle.text_resolve.proofs.laws.no_cause_of_head.Goals as goal

pub returns : goal.returns
returns c = no_cause_of_head
