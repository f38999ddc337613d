use Rattle.sem_library.proofs.MethodsSolutions.{one_up, one_down}
use Rattle.sem_library.proofs.laws.one_solution.Goals as goal

pub returns : goal.returns
returns c = record { up = one_up; down = one_down }
