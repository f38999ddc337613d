use Rattle.std.proofs.Common.{refl, subst, List, Bool, length}
use Rattle.sem_filling.specs.Fillings.{FailsAbove}
use Rattle.sem_filling.specs.Bounded.{LiesBetween}
use Rattle.walk_steps.specs.Partial.{bounds_at}
use Rattle.cert_rules.specs.declared.slots.Learnt.TheVariants.{Whole}
use Rattle.cert_rules.specs.Slots.{HasSide, learnt_at}
use Rattle.walk_steps.specs.Calls.{side_given}
use Rattle.walk_steps.proofs.CallsFilled.{long_fails, other_fails}
use Rattle.walk_steps.proofs.calls.fill_side.Goals as goal

pub returns-in-Err-Full-clause-fault : goal.returns-in-Err-Full-clause-fault
returns-in-Err-Full-clause-fault c =
    let long = subst (λ e. FailsAbove e (side_given c.args.side c.args.inner.now)) c.in-Err-Full.field-0-is c.in-Err-Full.ensures in
    long_fails c.args.level_frame.now c.args.level.now c.args.field c.args.side c.args.inner.now c.keeps.ensures c.keeps-2.ensures c.requires.at c.requires.within long

pub returns-then-not-learn-clause-fault : goal.returns-then-not-learn-clause-fault
returns-then-not-learn-clause-fault c =
    let l = c.args.level.now in
    let never = subst (λ x. (bits : List Bool) → HasSide bits (learnt_at l.slots c.args.field c.args.side) → HasSide bits (Whole x) → LiesBetween (bounds_at l.sizes c.args.field c.args.side) (length bits) → ⊥)
    c.in-Ok.ensures (c.if-not-learn.ensures.refused refl) in
    other_fails c.args.level_frame.now l c.args.field c.args.side c.args.inner.now c.keeps.ensures c.keeps-2.ensures c.requires.at c.requires.within never
