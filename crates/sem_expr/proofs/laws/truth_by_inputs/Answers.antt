use Rattle.sem_expr.proofs.InputsAgreement as lemmas
use Rattle.sem_expr.proofs.laws.truth_by_inputs.Goals as goal

pub returns : goal.returns
returns c = lemmas.same_truth
