use Rattle.std.proofs.Common.{refl}
use Rattle.std.specs.Cmp.{booleans_Decides, unsigned_Decides}
use Rattle.std.proofs.lemmas.Slice.Eq.{slice_eq-Decides}
use Rattle.sem_bits.specs.Number.{same}
use Rattle.sem_bits.proofs.OctetsKept.{same_bits, one_answer}
use Rattle.sem_bits.proofs.long.LongPartialEq.eq.Goals as goal

pub returns-then-self-other-clause-same_list : goal.returns-then-self-other-clause-same_list
returns-then-self-other-clause-same_list c =
    let d = rw (c.as_slice.ensures, c.as_slice-then-self-other.ensures) at (slice_eq-Decides unsigned_Decides c.as_slice.result.now c.as_slice-then-self-other.result.now c.eq.result c.eq.ensures) in
    same_bits _ _ c.self.inside.count c.other.inside.count _ _ c.eq.result c.self.invariant c.other.invariant c.if-self-other.true c.self.view_is c.other.view_is d

pub returns-then-self-other-clause-value : goal.returns-then-self-other-clause-value
returns-then-self-other-clause-value c =
    let d = rw (c.as_slice.ensures, c.as_slice-then-self-other.ensures) at (slice_eq-Decides unsigned_Decides c.as_slice.result.now c.as_slice-then-self-other.result.now c.eq.result c.eq.ensures) in
    let e = same_bits _ _ c.self.inside.count c.other.inside.count _ _ c.eq.result c.self.invariant c.other.invariant c.if-self-other.true c.self.view_is c.other.view_is d in
    one_answer c.eq.result _ _ e (slice_eq-Decides booleans_Decides c.args.self.now c.args.other.now (same c.args.self.now c.args.other.now) refl)
