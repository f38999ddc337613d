use Rattle.std.proofs.Common.{refl}
use Rattle.std.proofs.lemmas.Option.{slice_get_read}
use Rattle.sem_filling.specs.Fillings.{sides_of}
use Rattle.sem_filling.specs.Level.{FieldLies}
use Rattle.sem_filling.proofs.Each.{before_next, before_end}
use Rattle.sem_holds.proofs.ShapeLemmas.{fields_lie, field_lies_at}
use Rattle.sem_holds.proofs.shape.are_bounded.Goals as goal

pub returns-then-not-field_lies : goal.returns-then-not-field_lies
returns-then-not-field_lies c =
    let here = slice_get_read c.args.filled.now _ c.loop-i.i c.index-filled-i.result refl c.loop-i-test.true c.index-filled-i.is in
    (λ w. absurd cc, λ all. c.if-not-field_lies.ensures.1 (field_lies_at _ _ _ _ here all))

pub loop-i-preserved : goal.loop-i-preserved
loop-i-preserved c =
    let here = slice_get_read c.args.filled.now _ c.loop-i.i c.index-filled-i.result refl c.loop-i-test.true c.index-filled-i.is in
    before_next (λ j g. FieldLies c.args.sizes.now j (sides_of g)) c.args.filled.now _ _ here (c.if-not-field_lies.ensures.0 refl) c.loop-i.invariant

pub returns : goal.returns
returns c = (λ t. fields_lie _ _ (before_end (λ j g. FieldLies c.args.sizes.now j (sides_of g)) c.args.filled.now _ c.loop-i-test.false c.loop-i.invariant), λ all. refl)
