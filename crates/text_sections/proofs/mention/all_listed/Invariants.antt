use Rattle.std.proofs.Common.{◌≡◌, ◌++◌, map, drop}
use Rattle.text_sections.specs.Mentions.{listed}
use Rattle.text_sections.proofs.mention.all_listed.Given as goal

abbrev pub invariant-loop-name : goal.invariant-loop-name
invariant-loop-name l = l.found ++ map listed (drop l.name-index l.names) ≡ map listed l.names
