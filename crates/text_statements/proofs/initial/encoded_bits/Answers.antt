use Rattle.std.proofs.Common.{sym}
use Rattle.std.proofs.lemmas.Result.{IfOk-weaker}
use Rattle.text_statements.specs.Initial.{is_encoded, bit_text, other_method, other_arguments}
use Rattle.text_statements.proofs.InitialValueless.{all_blamed}
use Rattle.text_statements.proofs.initial.encoded_bits.Goals as goal

pub returns-in-Bits-clause-refused : goal.returns-in-Bits-clause-refused
returns-in-Bits-clause-refused c = rw (c.in-Bits.is, c.no_value.ensures) bit_text

pub returns-then-is_uncompressed_value-clause-found : goal.returns-then-is_uncompressed_value-clause-found
returns-then-is_uncompressed_value-clause-found c =
    let named = rw (c.word.ensures, c.text.ensures) at c.if-is_uncompressed_value.ensures in
    rw c.in-Call.is (IfOk-weaker c.argument_bits.result _ _ (λ bits are. is_encoded (sym named) are) (rw c.as_slice.ensures at c.argument_bits.ensures.found))

pub returns-then-is_uncompressed_value-clause-refused : goal.returns-then-is_uncompressed_value-clause-refused
returns-then-is_uncompressed_value-clause-refused c = rw c.in-Call.is (all_blamed c.argument_bits.result (λ f cause. other_arguments cause) (rw c.as_slice.ensures at c.argument_bits.ensures.refused))

pub returns-else-is_uncompressed_value-clause-refused : goal.returns-else-is_uncompressed_value-clause-refused
returns-else-is_uncompressed_value-clause-refused c =
    let named = rw (c.word.ensures, c.text.ensures) at c.if-is_uncompressed_value.ensures in
    rw (c.in-Call.is, c.no_value-else-is_uncompressed_value.ensures) (other_method (sym named))
