use Rattle.walk_line.proofs.Faults.{no_fault}
use Rattle.walk_line.proofs.laws.no_fault.Goals as goal

pub returns : goal.returns
returns c = no_fault
