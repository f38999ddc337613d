use Rattle.std.proofs.Common.{◌++◌, take, List}
use Rattle.text_sections.specs.declared.mention.Mention.{Mention}
use Rattle.text_sections.specs.Tables.{IsTable}
use Rattle.text_sections.proofs.table.Table.insert_all.Given as goal

abbrev pub invariant-loop-mention : goal.invariant-loop-mention
invariant-loop-mention l = (before : List Mention) → IsTable l.text before l.initial.self → IsTable l.text (before ++ take l.mention-index l.mentions) l.self
