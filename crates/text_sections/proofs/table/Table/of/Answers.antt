use Rattle.std.proofs.Common.{[]}
use Rattle.text_sections.proofs.table.Table.of.Goals as goal

pub returns : goal.returns
returns c = c.in_ok-insert_all.ensures [] (c.in_ok-table.ensures c.args.text.now)
