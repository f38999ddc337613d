use Rattle.std.proofs.Common.{◌++◌, take, List}
use Rattle.text_sections.specs.declared.mention.Mention.{Mention}
use Rattle.text_sections.specs.Mentions.{mentions_of}
use Rattle.text_sections.specs.Tables.{IsTable}
use Rattle.text_sections.proofs.fields.add_items.Given as goal

abbrev pub invariant-loop-place : goal.invariant-loop-place
invariant-loop-place l = (before : List Mention) → IsTable l.text before l.initial.fields → IsTable l.text (before ++ mentions_of l.text l.section (take l.place l.items)) l.fields
