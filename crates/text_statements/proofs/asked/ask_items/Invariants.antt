use Rattle.std.proofs.Common.{take}
use Rattle.text_statements.specs.Asked.{AskedOn}
use Rattle.text_statements.proofs.asked.ask_items.Given as goal

abbrev pub invariant-loop-item : goal.invariant-loop-item
invariant-loop-item l = AskedOn l.scope l.set (take l.item-index l.items) l.initial.asked l.asked
