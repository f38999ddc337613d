-- What stands before a section of a method, or before a part of a profile.
use Rattle.std.specs.Prelude.{◌-◌, Bool, true, false, List, [], ◌∷◌}
use Rattle.text_source.specs.declared.token.Mark.{Mark}
use Rattle.text_source.specs.declared.token.Mark.TheVariants as m
use Rattle.text_tree.specs.Rules.{most_constants, most_methods, most_formats}
use Rattle.text_tree.specs.declared.counts.SectionsSoFar.{SectionsSoFar}
use Rattle.text_tree.specs.declared.counts.Tally.{Tally}
use Rattle.text_tree.specs.declared.tree.SectionKind.{SectionKind}
use Rattle.text_tree.specs.declared.tree.SectionKind.TheVariants as kinds
use Rattle.text_tree.specs.declared.tree.Section.{Section}
use Rattle.text_tree.specs.declared.tree.Part.{Part}
use Rattle.text_tree.specs.declared.tree.Part.TheVariants as parts

-- with one more section
abbrev pub with_section : SectionKind → SectionsSoFar → SectionsSoFar
with_section kinds.Uncompressed seen = seen
with_section kinds.Control seen = record { control = true; initial = seen.initial; default = seen.default; formats_left = seen.formats_left }
with_section kinds.Initial seen = record { control = seen.control; initial = true; default = seen.default; formats_left = seen.formats_left }
with_section kinds.Default seen = record { control = seen.control; initial = seen.initial; default = true; formats_left = seen.formats_left }
with_section (kinds.Compressed name) seen = record { control = seen.control; initial = seen.initial; default = seen.default; formats_left = seen.formats_left - 1 }

abbrev pub unseen : SectionsSoFar
unseen = record { control = false; initial = false; default = false; formats_left = most_formats }

abbrev pub seen_from : SectionsSoFar → List Section → SectionsSoFar
seen_from seen [] = seen
seen_from seen (x ∷ xs) = seen_from (with_section x.kind seen) xs

-- which kinds of section there are, and how many more formats may come
abbrev pub seen_in : List Section → SectionsSoFar
seen_in = seen_from unseen

-- the section's word begins one that may stand only once, and it is there
abbrev pub is_repeated : Mark → SectionsSoFar → Bool
is_repeated m.Control seen = seen.control
is_repeated m.Initial seen = seen.initial
is_repeated m.Default seen = seen.default
is_repeated _ seen = false

abbrev pub with_part : Part → Tally → Tally
with_part (parts.Constant x) tally = record { constants_left = tally.constants_left - 1; methods_left = tally.methods_left }
with_part (parts.Method x) tally = record { constants_left = tally.constants_left; methods_left = tally.methods_left - 1 }

abbrev pub tally_from : Tally → List Part → Tally
tally_from tally [] = tally
tally_from tally (x ∷ xs) = tally_from (with_part x tally) xs

-- how many more constants and methods may come
abbrev pub tally_of : List Part → Tally
tally_of = tally_from (record { constants_left = most_constants; methods_left = most_methods })
