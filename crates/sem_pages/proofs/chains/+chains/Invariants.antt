use Rattle.std.proofs.Common.{◌*◌, ◌+◌, drop}
use Rattle.sem_pages.specs.Chains.{IsOperand, Meaning}
use Rattle.sem_pages.specs.Pages.{numbers_seen}
use Rattle.sem_pages.specs.declared.chains.Operand.TheVariants as operand
use Rattle.sem_pages.proofs.Chaining.{IsWorked}
use Rattle.sem_pages.proofs.chains.+chains.Given as goal

abbrev pub decreases-operand_value : goal.decreases-operand_value
decreases-operand_value l = 3 * l.below

abbrev pub decreases-linked_value : goal.decreases-linked_value
decreases-linked_value l = 3 * l.below + 1

abbrev pub decreases-chain_value : goal.decreases-chain_value
decreases-chain_value l = 3 * l.index + 2

abbrev pub invariant-chain_value-loop-link : goal.invariant-chain_value-loop-link
invariant-chain_value-loop-link l = (m : Meaning) → IsOperand l.chains (operand.Chain l.index) m → IsWorked l.chains (numbers_seen l.view) (drop l.link-index l.links) l.value m
