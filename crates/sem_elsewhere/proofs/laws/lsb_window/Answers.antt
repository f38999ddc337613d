use Rattle.sem_elsewhere.proofs.Reach.{window}
use Rattle.sem_elsewhere.proofs.laws.lsb_window.Goals as goal

pub returns : goal.returns
returns c = window
