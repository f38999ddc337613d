use Rattle.std.proofs.Common.{◌∙◌, ◌+◌, ◌/◌, arith}
use Rattle.sem_bits.proofs.NumberWindows.{number_in, number_masked}
use Rattle.sem_bits.proofs.long.number_by_octets.Goals as goal

pub returns-then-end-first-gt8 : goal.returns-then-end-first-gt8
returns-then-end-first-gt8 c =
    number_masked c.args.octets.now c.args.place c.args.count (c.args.place / 8) ((c.args.place + c.args.count + 7) / 8) c.wide_word_of-word.result c.requires.most (omega arith) (omega arith) (omega arith) (omega (arith, c.requires.within)) c.wide_word_of-word.ensures.value

pub returns : goal.returns
returns c =
    c.low_bits.ensures
    ∙ number_in c.args.octets.now c.args.place c.args.count (c.args.place / 8) ((c.args.place + c.args.count + 7) / 8) c.word_of-word.result (omega arith) (omega arith) (omega arith) (omega (arith, c.requires.within)) c.word_of-word.ensures
