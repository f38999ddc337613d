use Rattle.sem_filling.specs.Fillings.{item}
use Rattle.tool_run.proofs.PrintedStepping.{took_line}
use Rattle.tool_run.proofs.packets.push_read.Goals as goal

pub returns : goal.returns
returns c = took_line (item c.args.filling.now) c.args.bits _ _ _ c.in_ok-push_item_of.ensures c.in_ok-push_took.ensures
