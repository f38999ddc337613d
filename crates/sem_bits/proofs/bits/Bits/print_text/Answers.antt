use Rattle.std.proofs.Common.{◌∙◌}
use Rattle.sem_bits.specs.Number.{enc}
use Rattle.sem_bits.proofs.Numbers.{num-below, enc-num}
use Rattle.sem_bits.proofs.bits.Bits.print_text.Goals as goal

pub print_word-requires-clause-below : goal.print_word-requires-clause-below
print_word-requires-clause-below c = rw (c.in-Some.ensures.1, c.len.ensures.value) (num-below c.args.self.now)

pub returns-in-Some : goal.returns-in-Some
returns-in-Some c =
    let same = (λ i. enc (c.len.ensures.value i) (c.in-Some.ensures.1 i)) ∙ enc-num c.args.self.now in
    rw same at c.print_word.ensures
