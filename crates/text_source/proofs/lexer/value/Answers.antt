use Rattle.std.proofs.Common.{◌∙◌, arith}
use Rattle.text_source.proofs.LexicalNumbers.{value_some, value_none}
use Rattle.text_source.proofs.lexer.value.Goals as goal

pub returns : goal.returns
returns c = value_some c.args.base c.args.digits.now c.loop-octet.n c.loop-octet.octet-index c.loop-octet.invariant.fits c.loop-octet-test.false c.loop-octet.invariant.value

pub returns-in_err-checked_mul : goal.returns-in_err-checked_mul
returns-in_err-checked_mul c =
    c.from_residual.ensures ∙ value_none c.args.base c.args.digits.now c.loop-octet.n c.loop-octet.octet-index c.requires c.loop-octet-test.true (omega (arith, c.in_err-checked_mul.ensures)) c.loop-octet.invariant.value

pub returns-in_err-n : goal.returns-in_err-n
returns-in_err-n c =
    c.from_residual-in_err-n.ensures ∙ value_none c.args.base c.args.digits.now c.loop-octet.n c.loop-octet.octet-index c.requires c.loop-octet-test.true (omega (arith, c.in_err-n.ensures, c.in_ok-checked_mul.ensures)) c.loop-octet.invariant.value
