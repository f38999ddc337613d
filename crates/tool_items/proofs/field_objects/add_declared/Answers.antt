use Rattle.std.specs.Prelude.{◌++◌, codes}
use Rattle.tool_names.specs.Objects.{number, opened, text}
use Rattle.tool_items.proofs.ObjectChains.{at_last, then_more}
use Rattle.tool_items.proofs.field_objects.add_declared.Goals as goal

pub returns : goal.returns
returns c =
    let depth = number (codes "depth") c.args.depth in
    let name = text (codes "name") c.args.name.now in
    let part = text (codes "part") c.args.part.now in
    let two = then_more c.args.object.now opened depth _ _ c.in_ok-begin_element.ensures c.in_ok-number.ensures in
    let three = then_more c.args.object.now (opened ++ depth) name _ _ two c.in_ok-text.ensures in
    at_last c.args.object.now ((opened ++ depth) ++ name) part _ _ c.text-2.result three c.text-2.ensures
