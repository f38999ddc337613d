use Rattle.std.proofs.Common.{◌≡◌, ◌++◌, map, drop}
use Rattle.text_sections.specs.Fields.{place}
use Rattle.text_sections.proofs.fields.listing.Given as goal

abbrev pub invariant-loop-mention : goal.invariant-loop-mention
invariant-loop-mention l = l.places ++ map (place l.text l.fields.words) (drop l.mention-index l.own) ≡ map (place l.text l.fields.words) l.own
