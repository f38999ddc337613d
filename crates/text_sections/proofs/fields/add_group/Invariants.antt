use Rattle.std.proofs.Common.{◌++◌, take, List}
use Rattle.text_sections.specs.declared.mention.Mention.{Mention}
use Rattle.text_sections.specs.Mentions.{mentions_in}
use Rattle.text_sections.specs.Tables.{IsTable}
use Rattle.text_sections.proofs.fields.add_group.Given as goal

abbrev pub invariant-loop-place : goal.invariant-loop-place
invariant-loop-place l = (before : List Mention) → IsTable l.text before l.initial.fields → IsTable l.text (before ++ mentions_in l.text l.group 0 (take l.place l.sections)) l.fields
