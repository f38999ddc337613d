use Rattle.sem_filling.proofs.Coded.{found_is}
use Rattle.sem_holds.proofs.plain.is_found.Goals as goal

pub returns-in-Some : goal.returns-in-Some
returns-in-Some c = found_is _ c.in-Some.is c.is_same.ensures
