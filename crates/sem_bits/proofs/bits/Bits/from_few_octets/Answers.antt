use Rattle.std.proofs.Common.{arith, refl}
use Rattle.sem_bits.proofs.Numbers.{length-enc}
use Rattle.sem_bits.proofs.NumberWindows.{count_held}
use Rattle.sem_bits.proofs.Words.{few_held, few_not}
use Rattle.sem_bits.proofs.bits.Bits.from_few_octets.Goals as goal

pub returns-then-octets-count-clause-none : goal.returns-then-octets-count-clause-none
returns-then-octets-count-clause-none c = λ b n h. absurd (omega (arith, n, count_held c.args.octets.now b h, h.few, c.if-octets-count.true))

pub returns-then-number-over-clause-none : goal.returns-then-number-over-clause-none
returns-then-number-over-clause-none c = λ b n h. absurd (c.if-number-over.true (few_not c.args.octets.now c.args.count c.word_of-word.result _ b c.requires (omega (arith, c.if-octets-count.false)) refl c.word_of-word.ensures n h))

pub invariant_of-result : goal.invariant_of-result
invariant_of-result c = (
  c.requires,
  (few_held c.args.octets.now c.args.count c.word_of-word.result _ (λ i. omega (arith, c.type_inv.octets i)) (omega (arith, c.if-octets-count.false)) c.requires refl c.word_of-word.ensures c.if-number-over.false).0,
)

pub returns-clause-found : goal.returns-clause-found
returns-clause-found c = (
  length-enc c.args.count _,
  (few_held c.args.octets.now c.args.count c.word_of-word.result _ (λ i. omega (arith, c.type_inv.octets i)) (omega (arith, c.if-octets-count.false)) c.requires refl c.word_of-word.ensures c.if-number-over.false).1,
)
