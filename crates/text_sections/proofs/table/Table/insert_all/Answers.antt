use Rattle.std.proofs.Common.{arith}
use Rattle.text_sections.proofs.Tabled.{read_at}
use Rattle.text_sections.proofs.TablesInserting.{no_more, one_inserted, all_inserted}
use Rattle.text_sections.proofs.table.Table.insert_all.Goals as goal

pub loop-mention-init : goal.loop-mention-init
loop-mention-init c = λ before is. no_more _ before _ is

pub loop-mention-preserved : goal.loop-mention-preserved
loop-mention-preserved c = λ before is. one_inserted _ before _ _ _ _ (read_at _ _ _ c.loop-mention-test.true) (c.in_ok-insert.ensures _ (c.loop-mention.invariant before is))

pub returns : goal.returns
returns c = λ before is. all_inserted _ before _ _ _ (omega (arith, c.loop-mention-test.false)) (c.loop-mention.invariant before is)
