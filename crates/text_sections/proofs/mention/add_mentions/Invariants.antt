use Rattle.std.proofs.Common.{◌≡◌, ◌++◌, drop}
use Rattle.text_sections.specs.Mentions.{mentions_of, mentions_from}
use Rattle.text_sections.proofs.mention.add_mentions.Given as goal

abbrev pub invariant-loop-place : goal.invariant-loop-place
invariant-loop-place l = l.found ++ mentions_from l.text l.section l.place (drop l.place l.items) ≡ l.initial.found ++ mentions_of l.text l.section l.items
