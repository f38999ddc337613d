use Rattle.std.proofs.Common.{◌+◌, ◌≡◌, length, refl, rules, subst, sym}
use Rattle.std.proofs.lemmas.Option.{slice_get_read}
use Rattle.sem_pages.specs.Made.{AreMade}
use Rattle.sem_pages.specs.Prepared.{HasComputed}
use Rattle.sem_pages.proofs.Growing.{made_next}
use Rattle.sem_pages.proofs.prepared.all_computed.Goals as goal

pub loop-field-preserved : goal.loop-field-preserved
loop-field-preserved c =
    let here = slice_get_read c.args.fields.now _ c.loop-field.field-index c.field-item.result refl c.loop-field-test.true c.field-item.is in
    subst (λ z. AreMade HasComputed c.args.fields.now z (c.loop-field.field-index + 1)) (sym c.in_ok-push.ensures.ok)
    (made_next HasComputed c.args.fields.now c.loop-field.all c.loop-field.field-index c.field-item.result _ here c.in_ok-computed_of.ensures c.loop-field.invariant)

pub returns : goal.returns
returns c =
    let count : c.loop-field.field-index ≡ length c.args.fields.now = (search rules) in
    subst (AreMade HasComputed c.args.fields.now c.loop-field.all) count c.loop-field.invariant
