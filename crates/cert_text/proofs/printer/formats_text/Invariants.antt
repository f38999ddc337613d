use Rattle.std.specs.Prelude.{string_bytes, flat_map}
use Rattle.cert_text.specs.Text.{format_lines, spelled}
use Rattle.cert_text.proofs.TextLines.{GoesBy}
use Rattle.cert_text.proofs.printer.formats_text.Given as goal

abbrev pub invariant-loop-format : goal.invariant-loop-format
invariant-loop-format l = GoesBy format_lines l.formats l.format-index (string_bytes l.output) (spelled (flat_map format_lines l.formats))
