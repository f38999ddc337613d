use Rattle.sem_profile.proofs.ParametersWidening.{lie-in-parameters}
use Rattle.sem_profile.proofs.laws.arguments_lie_in_parameters.Goals as goal

pub returns : goal.returns
returns c = lie-in-parameters
