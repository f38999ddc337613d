use Rattle.text_statements.proofs.InitialValueless.{argument_blamed}
use Rattle.text_statements.proofs.initial.constant.Goals as goal

pub returns-in-Err-clause-refused : goal.returns-in-Err-clause-refused
returns-in-Err-clause-refused c = rw c.at_field.ensures (argument_blamed _ _ _ _ c.in-Err.ensures.refused)
