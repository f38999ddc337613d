use Rattle.std.proofs.Common.{rules}
use Rattle.sem_pages.specs.Chains.{number}
use Rattle.sem_pages.proofs.chains.number_operand.Goals as goal

pub returns : goal.returns
returns c = λ chains. number (λ a. (search rules))
