use Rattle.std.proofs.Common.{refl, ap, Some}
use Rattle.sem_expr.proofs.Powers as lemmas
use Rattle.sem_expr.proofs.laws.powers_multiply.Goals as goal

pub returns : goal.returns
returns c = (λ x. ap Some (lemmas.none_times x), λ x n. ap Some (lemmas.once_more x n), λ x n. refl)
