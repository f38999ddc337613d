use Rattle.text_statements.specs.Judged as spec
use Rattle.text_statements.specs.Means.{Means}
use Rattle.text_statements.specs.declared.term.TermKind.TheVariants as kinds
use Rattle.text_statements.specs.declared.term.Term.TheVariants.{Number}
use Rattle.text_statements.proofs.JudgedWalks.{Walked}
use Rattle.text_statements.proofs.types.numbers.Given as goal

abbrev pub invariant-loop-part : goal.invariant-loop-part
invariant-loop-part l = Walked (λ part e. Means l.scope part (Number e)) (spec.fault_of kinds.Number l.scope) l.parts l.part-index l.found
