use Rattle.std.proofs.Common.{◌≡◌, refl, map}
use Rattle.std.proofs.lemmas.Option.{slice_get_read}
use Rattle.sem_filling.specs.Fillings.{asked_values, sides_of}
use Rattle.walk_engine.proofs.SearchingValues.{value_past, value_on, value_off, values_end}
use Rattle.walk_engine.proofs.search.has_values.Goals as goal

pub loop-field-init : goal.loop-field-init
loop-field-init c = (λ e. e, λ e. e)

pub loop-field-preserved-then-not-field : goal.loop-field-preserved-then-not-field
loop-field-preserved-then-not-field c =
    let gs = c.args.fields.now in
    let i = c.loop-field.field-index in
    let at = slice_get_read gs _ i c.field-item.result refl c.loop-field-test.true c.field-item.is in
    value_past gs i c.field-item.result at (asked_values (map sides_of gs) ≡ c.args.values.now) c.args.values.now c.loop-field.place c.loop-field.invariant c.if-not-field.true

pub returns-then-not-is_next : goal.returns-then-not-is_next
returns-then-not-is_next c =
    let gs = c.args.fields.now in
    let i = c.loop-field.field-index in
    let at = slice_get_read gs _ i c.field-item.result refl c.loop-field-test.true c.field-item.is in
    let off = value_off gs i c.field-item.result at (asked_values (map sides_of gs) ≡ c.args.values.now) c.args.values.now c.loop-field.place c.loop-field.invariant c.if-not-field.false in (
      λ t. absurd (cc),
      λ e. absurd (off (λ next. let is = c.if-not-is_next.ensures.same.1 next in absurd (cc)) e),
    )

pub loop-field-preserved : goal.loop-field-preserved
loop-field-preserved c =
    let gs = c.args.fields.now in
    let i = c.loop-field.field-index in
    let at = slice_get_read gs _ i c.field-item.result refl c.loop-field-test.true c.field-item.is in
    value_on gs i c.field-item.result at (asked_values (map sides_of gs) ≡ c.args.values.now) c.args.values.now c.loop-field.place c.loop-field.invariant c.if-not-field.false
    (c.if-not-is_next.ensures.same.0 refl)

pub returns : goal.returns
returns c =
    let gs = c.args.fields.now in
    let none = values_end (asked_values (map sides_of gs) ≡ c.args.values.now) gs c.loop-field.field-index c.args.values.now c.loop-field.place c.loop-field-test.false c.loop-field.invariant in
    (λ t. none.0 (c.is_end.ensures.0 t), λ e. c.is_end.ensures.1 (none.1 e))
