use Rattle.std.proofs.Common.{◌≡◌, ◌++◌, drop}
use Rattle.text_sections.specs.Mentions.{encoded}
use Rattle.text_sections.proofs.mention.encoded.Given as goal

abbrev pub invariant-loop-mention : goal.invariant-loop-mention
invariant-loop-mention l = l.found ++ encoded (drop l.mention-index l.mentions) ≡ encoded l.mentions
