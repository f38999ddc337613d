use Rattle.std.proofs.Common.{refl, map, true, false}
use Rattle.std.specs.Prelude.{string_bytes}
use Rattle.std.proofs.lemmas.Option.{slice_get_read}
use Rattle.sem_filling.specs.Fillings.{asked_values, sides_of}
use Rattle.sem_filling.proofs.FillingsAsked.{asked_more}
use Rattle.tool_input.proofs.ItemsSpelled.{none_more, one_more, fields_end, values_start}
use Rattle.tool_input.proofs.texts.push_asked.Goals as goal

pub loop-field-init : goal.loop-field-init
loop-field-init c = values_start (asked_values (map sides_of c.args.fields.now)) (string_bytes c.args.text.now)

pub loop-field-preserved-then-not-field : goal.loop-field-preserved-then-not-field
loop-field-preserved-then-not-field c =
    let at = slice_get_read c.args.fields.now _ c.loop-field.field-index c.field-item.result refl c.loop-field-test.true c.field-item.is in
    none_more _ _ _ _ _ (asked_more c.args.fields.now c.loop-field.field-index c.field-item.result at false c.if-not-field.true) c.loop-field.invariant

pub loop-field-preserved : goal.loop-field-preserved
loop-field-preserved c =
    let at = slice_get_read c.args.fields.now _ c.loop-field.field-index c.field-item.result refl c.loop-field-test.true c.field-item.is in
    one_more _ _ _ _ _ _ _ (asked_more c.args.fields.now c.loop-field.field-index c.field-item.result at true c.if-not-field.false) c.loop-field.invariant c.in_ok-push_field.ensures

pub returns : goal.returns
returns c = fields_end c.args.fields.now c.loop-field.field-index _ _ c.loop-field-test.false c.loop-field.invariant
