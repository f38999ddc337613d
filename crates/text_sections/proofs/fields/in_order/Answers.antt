use Rattle.std.proofs.Common.{[]}
use Rattle.text_sections.proofs.fields.in_order.Goals as goal

pub returns : goal.returns
returns c = c.in_ok-insert_all.ensures _ (c.in_ok-add_group-2.ensures _ (c.in_ok-add_group.ensures [] (c.in_ok-fields.ensures c.args.text.now)))
