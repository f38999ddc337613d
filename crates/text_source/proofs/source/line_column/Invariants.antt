use Rattle.std.proofs.Common.{◌≡◌, ◌+◌, ◌≤◌, take}
use Rattle.std.specs.Prelude.{count_by}
use Rattle.std.specs.List.{after_last}
use Rattle.text_source.specs.Places.{is_line_end, begins_character}
use Rattle.text_source.proofs.source.line_column.Given as goal

abbrev pub invariant-loop-octet : goal.invariant-loop-octet
invariant-loop-octet l = record {
  line : l.line ≡ 1 + count_by is_line_end (take l.octet-index l.before);
  column : l.column ≡ 1 + count_by begins_character (after_last is_line_end (take l.octet-index l.before));
  short_line : l.line ≤ 1 + l.octet-index;
  short_column : l.column ≤ 1 + l.octet-index;
}
