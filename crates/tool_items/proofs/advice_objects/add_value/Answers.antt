use Rattle.std.specs.Prelude.{◌++◌, codes}
use Rattle.tool_names.specs.Objects.{bits, closed, number, opened}
use Rattle.tool_items.proofs.ObjectChains.{at_last, then_more}
use Rattle.tool_items.proofs.advice_objects.add_value.Goals as goal

pub returns : goal.returns
returns c =
    let value = bits (codes "value") c.args.value.now.bits in
    let items = number (codes "items") c.args.value.now.count in
    let two = then_more c.args.object.now opened value _ _ c.in_ok-begin_element.ensures c.in_ok-bits.ensures in
    let three = then_more c.args.object.now (opened ++ value) items _ _ two c.in_ok-number.ensures in
    at_last c.args.object.now ((opened ++ value) ++ items) closed _ _ c.end_object.result three c.end_object.ensures
