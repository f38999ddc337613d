use Rattle.std.proofs.Common.{take}
use Rattle.text_sections.specs.Tables.{IsTable}
use Rattle.text_sections.proofs.CausesSeconds.{NoneSecond}
use Rattle.text_sections.proofs.repeats.second_of_many.Given as goal

abbrev pub invariant-loop-mention : goal.invariant-loop-mention
invariant-loop-mention l = IsTable l.text (take l.mention-index l.mentions) l.table × NoneSecond l.text l.mentions l.mention-index
