use Rattle.std.proofs.Common.{refl}
use Rattle.sem_expr.proofs.ValuesFloors as lemmas
use Rattle.sem_expr.proofs.laws.quotients_are_floors.Goals as goal

pub returns : goal.returns
returns c = (λ x. refl, lemmas.is_floor)
