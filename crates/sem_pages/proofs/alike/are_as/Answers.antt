use Rattle.std.proofs.Common.{rules, refl}
use Rattle.std.proofs.lemmas.Option.{slice_get_read}
use Rattle.sem_filling.proofs.Each.{before_next}
use Rattle.sem_pages.specs.Alike.{CallAs}
use Rattle.sem_pages.proofs.Calling.{alike_as}
use Rattle.sem_pages.proofs.alike.are_as.Goals as goal

pub loop-format-preserved : goal.loop-format-preserved
loop-format-preserved c =
    let they = rw c.as_slice.ensures at c.call_as_one_another.ensures.they c.if-not-call_as_one_another.false in
    let others = rw c.as_slice.ensures at c.call_as_one_another.ensures.others c.if-not-call_as_one_another.false in
    before_next (λ j f. CallAs f.fields c.args.first.now × CallAs c.args.first.now f.fields) c.args.formats.now c.loop-format.format-index c.format-item.result
    (slice_get_read c.args.formats.now _ c.loop-format.format-index c.format-item.result refl c.loop-format-test.true c.format-item.is) (they, others) c.loop-format.invariant

pub returns : goal.returns
returns c = λ _. alike_as c.args.first.now c.args.formats.now c.loop-format.format-index (search rules) c.loop-format.invariant
