use Rattle.std.proofs.Common.{◌≡◌, ◌++◌, drop}
use Rattle.text_sections.specs.Mentions.{mentions_in}
use Rattle.text_sections.proofs.mention.mentions.Given as goal

abbrev pub invariant-loop-place : goal.invariant-loop-place
invariant-loop-place l = l.found ++ mentions_in l.text l.group l.place (drop l.place l.sections) ≡ mentions_in l.text l.group 0 l.sections
