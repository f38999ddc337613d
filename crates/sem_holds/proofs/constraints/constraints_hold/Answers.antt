use Rattle.std.proofs.Common.{refl, subst, sym}
use Rattle.std.proofs.lemmas.Option.{slice_get_read}
use Rattle.sem_expr.specs.Known.{assignment_of}
use Rattle.sem_filling.specs.Fillings.{level, listing_of}
use Rattle.sem_filling.specs.Fits.{Holds, side_of}
use Rattle.sem_filling.proofs.Each.{before_next, before_end}
use Rattle.sem_holds.proofs.constraints.constraints_hold.Goals as goal

pub returns-then-not-constraint_holds : goal.returns-then-not-constraint_holds
returns-then-not-constraint_holds c =
    let here = slice_get_read c.args.constraints.now _ c.loop-constraint.constraint-index c.constraint-item.result refl c.loop-constraint-test.true c.constraint-item.is in
    (λ w. absurd cc, λ all. c.if-not-constraint_holds.ensures.1 (subst (Holds (side_of (listing_of c.args.filling.now) (level c.args.filling.now)) (assignment_of c.args.known.now)) (sym c.get.ensures) (all _ _ here)))

pub loop-constraint-preserved : goal.loop-constraint-preserved
loop-constraint-preserved c =
    let here = slice_get_read c.args.constraints.now _ c.loop-constraint.constraint-index c.constraint-item.result refl c.loop-constraint-test.true c.constraint-item.is in
    before_next (λ j. Holds (side_of (listing_of c.args.filling.now) (level c.args.filling.now)) (assignment_of c.args.known.now)) c.args.constraints.now _ _ here
    (subst (Holds (side_of (listing_of c.args.filling.now) (level c.args.filling.now)) (assignment_of c.args.known.now)) c.get.ensures (c.if-not-constraint_holds.ensures.0 refl)) c.loop-constraint.invariant

pub returns : goal.returns
returns c = (λ t. before_end (λ j. Holds (side_of (listing_of c.args.filling.now) (level c.args.filling.now)) (assignment_of c.args.known.now)) c.args.constraints.now _ c.loop-constraint-test.false c.loop-constraint.invariant, λ all. refl)
