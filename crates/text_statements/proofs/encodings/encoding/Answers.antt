use Rattle.std.proofs.Common.{sym}
use Rattle.std.proofs.lemmas.Result.{IfOk-weaker}
use Rattle.text_statements.specs.Encodings.{bits, call}
use Rattle.text_statements.proofs.encodings.encoding.Goals as goal

pub returns-in-Bits-clause-means : goal.returns-in-Bits-clause-means
returns-in-Bits-clause-means c = rw (c.in-Bits.is, c.bit_text.ensures) bits

pub returns-in-Some-clause-means : goal.returns-in-Some-clause-means
returns-in-Some-clause-means c =
    let known = rw (c.word.ensures, c.text.ensures) at c.in-Some.ensures in
    rw (c.in-Call.is) (IfOk-weaker c.call.result _ _ (λ e calls. call c.in-Some.callee (sym known) calls) (rw c.as_slice.ensures at c.call.ensures.means))
