use Rattle.std.proofs.Common.{[]}
use Rattle.std.specs.Prelude.{string_bytes}
use Rattle.std.proofs.lemmas.List.{get_or_read}
use Rattle.sem_filling.specs.declared.filling.AskedValue.{AskedValue}
use Rattle.tool_input.proofs.ItemsSpelled.{values_end, values_more, values_start}
use Rattle.tool_input.proofs.texts.push_values.Goals as goal

pub loop-value-init : goal.loop-value-init
loop-value-init c = values_start c.args.values.now (string_bytes c.args.text.now)

pub loop-value-preserved : goal.loop-value-preserved
loop-value-preserved c =
    let d : AskedValue = record { name = []; bits = [] } in
    let v = get_or_read c.args.values.now c.loop-value.value-index c.value-item.result c.loop-value-test.true c.value-item.is d in
    values_more c.args.values.now c.loop-value.value-index d c.value-item.result _ _ _ c.loop-value-test.true v c.loop-value.invariant c.in_ok-push_value.ensures

pub returns : goal.returns
returns c = values_end c.args.values.now c.loop-value.value-index _ _ c.loop-value-test.false c.loop-value.invariant
