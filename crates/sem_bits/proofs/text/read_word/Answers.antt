use Rattle.std.proofs.Common.{◌+◌, ◌/◌, ◌∙◌, sym, replicate, arith}
use Rattle.std.proofs.lemmas.List.{length-take-le}
use Rattle.sem_bits.proofs.Texts.{refused_not, word_none}
use Rattle.sem_bits.proofs.text.read_word.Goals as goal

pub returns-then-is_err-clause-none : goal.returns-then-is_err-clause-none
returns-then-is_err-clause-none c =
    let room = length-take-le ((c.args.count + 7) / 8) (replicate 8 0) (omega (arith, c.requires)) in
    refused_not c.args.digits.now _ c.args.count _ c.decode_to_slice.result c.requires room c.decode_to_slice.ensures.value (sym c.if-is_err.true ∙ c.is_err.ensures.value)

pub returns-clause-none : goal.returns-clause-none
returns-clause-none c =
    let room = length-take-le ((c.args.count + 7) / 8) (replicate 8 0) (omega (arith, c.requires)) in
    word_none c.from_few_octets.result c.args.digits.now _ _ c.args.count _ c.decode_to_slice.result c.requires room c.decode_to_slice.ensures.value c.from_few_octets.ensures.none
