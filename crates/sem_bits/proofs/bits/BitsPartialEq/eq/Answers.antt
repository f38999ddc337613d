use Rattle.std.proofs.Common.{refl, arith}
use Rattle.std.specs.Cmp.{booleans_Decides, unsigned_Decides}
use Rattle.std.proofs.lemmas.Slice.Eq.{slice_eq-Decides}
use Rattle.sem_bits.specs.Number.{same}
use Rattle.sem_bits.proofs.OctetsKept.{one_answer}
use Rattle.sem_bits.proofs.Words.{counted, word_value, number_decides, count_decides}
use Rattle.sem_bits.proofs.bits.BitsPartialEq.eq.Goals as goal

pub returns-then-self-other-clause-same_list : goal.returns-then-self-other-clause-same_list
returns-then-self-other-clause-same_list c =
    count_decides c.args.self.now c.args.other.now _ _ (counted _ _ _ c.self.view_is c.self.invariant) (counted _ _ _ c.other.view_is c.other.invariant) c.if-self-other.true

pub returns-then-self-other-clause-value : goal.returns-then-self-other-clause-value
returns-then-self-other-clause-value c =
    let d = count_decides c.args.self.now c.args.other.now _ _ (counted _ _ _ c.self.view_is c.self.invariant) (counted _ _ _ c.other.view_is c.other.invariant) c.if-self-other.true in
    one_answer _ _ _ d (slice_eq-Decides booleans_Decides c.args.self.now c.args.other.now (same c.args.self.now c.args.other.now) refl)

pub returns-in-Word-clause-same_list : goal.returns-in-Word-clause-same_list
returns-in-Word-clause-same_list c =
    let own = counted _ _ _ c.self.view_is c.self.invariant in
    let others = counted _ _ _ c.other.view_is c.other.invariant in
    let value = word_value _ _ _ _ c.in-Word.is c.self.view_is c.self.invariant in
    number_decides c.args.self.now c.args.other.now c.self.inside.count c.in-Word.word c.word.result _ own (omega (arith, others, c.if-self-other.false)) value.1 (c.word.ensures (omega (arith, own, others, value.0, c.if-self-other.false))) (unsigned_Decides _ _)

pub returns-in-Word-clause-value : goal.returns-in-Word-clause-value
returns-in-Word-clause-value c =
    let own = counted _ _ _ c.self.view_is c.self.invariant in
    let others = counted _ _ _ c.other.view_is c.other.invariant in
    let value = word_value _ _ _ _ c.in-Word.is c.self.view_is c.self.invariant in
    let d = number_decides c.args.self.now c.args.other.now c.self.inside.count c.in-Word.word c.word.result _ own (omega (arith, others, c.if-self-other.false)) value.1 (c.word.ensures (omega (arith, own, others, value.0, c.if-self-other.false))) (unsigned_Decides _ _) in
    one_answer _ _ _ d (slice_eq-Decides booleans_Decides c.args.self.now c.args.other.now (same c.args.self.now c.args.other.now) refl)
