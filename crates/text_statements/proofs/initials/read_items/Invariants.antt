use Rattle.std.proofs.Common.{take}
use Rattle.text_statements.specs.Initials.{ReadOn, bounds_of}
use Rattle.text_statements.proofs.initials.read_items.Given as goal

abbrev pub invariant-loop-item : goal.invariant-loop-item
invariant-loop-item l = ReadOn l.scope (bounds_of (take l.item-index l.items)) l.initial.initials l.initials
