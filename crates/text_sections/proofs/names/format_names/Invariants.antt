use Rattle.std.proofs.Common.{◌≡◌, ◌++◌, drop}
use Rattle.std.specs.List.{filter_map}
use Rattle.text_sections.specs.Names.{format_name}
use Rattle.text_sections.proofs.names.format_names.Given as goal

abbrev pub invariant-loop-section : goal.invariant-loop-section
invariant-loop-section l = l.names ++ filter_map format_name (drop l.section-index l.sections) ≡ filter_map format_name l.sections
