use Rattle.std.proofs.Common.{◌≡◌, drop}
use Rattle.text_sections.specs.Mentions.{first_of}
use Rattle.text_sections.proofs.repeats.first_among.Given as goal

abbrev pub invariant-loop-mention : goal.invariant-loop-mention
invariant-loop-mention l = first_of l.text (drop l.mention-index l.mentions) l.name ≡ first_of l.text l.mentions l.name
