use Rattle.std.proofs.Common.{arith, sym}
use Rattle.sem_bits.proofs.Words.{beside_room, beside_word}
use Rattle.sem_bits.proofs.bits.Bits.append.Goals as goal

pub beside-requires-clause-room : goal.beside-requires-clause-room
beside-requires-clause-room c =
    let own = sym c.len.ensures.value in
    let others = sym c.len-added.ensures.value in
    beside_room c.args.self.now c.args.other.now _ _ _ _ own others c.if-count-le64.true (c.word.ensures (omega (arith, own, c.if-count-le64.true))) (c.word-then-count-le64.ensures (omega (arith, others, c.if-count-le64.true)))

pub invariant_of-self : goal.invariant_of-self
invariant_of-self c =
    let own = sym c.len.ensures.value in
    let others = sym c.len-added.ensures.value in
    let joined = beside_word c.args.self.now c.args.other.now _ _ _ _ _ own others (c.word.ensures (omega (arith, own, c.if-count-le64.true))) (c.word-then-count-le64.ensures (omega (arith, others, c.if-count-le64.true))) c.beside.ensures in
    (c.if-count-le64.true, joined.0)

pub returns-then-count-le64-clause-ok : goal.returns-then-count-le64-clause-ok
returns-then-count-le64-clause-ok c =
    let own = sym c.len.ensures.value in
    let others = sym c.len-added.ensures.value in
    (beside_word c.args.self.now c.args.other.now _ _ _ _ _ own others (c.word.ensures (omega (arith, own, c.if-count-le64.true))) (c.word-then-count-le64.ensures (omega (arith, others, c.if-count-le64.true))) c.beside.ensures).1

pub lengthen-requires-clause-more : goal.lengthen-requires-clause-more
lengthen-requires-clause-more c = omega (arith, sym c.len.ensures.value, sym c.len-added.ensures.value, c.if-count-le64.false)
