use Rattle.text_statements.specs.Initial.{has_bracket, other_encoding}
use Rattle.text_statements.proofs.InitialValueless.{all_blamed}
use Rattle.text_statements.proofs.initial.initial_bits.Goals as goal

pub returns-in-Some-clause-refused : goal.returns-in-Some-clause-refused
returns-in-Some-clause-refused c = rw c.no_value.ensures (has_bracket _ c.in-Some.is)

pub returns-in-None-clause-refused : goal.returns-in-None-clause-refused
returns-in-None-clause-refused c = all_blamed c.encoded_bits.result (λ f cause. other_encoding cause) c.encoded_bits.ensures.refused
