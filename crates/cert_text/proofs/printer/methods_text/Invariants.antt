use Rattle.std.specs.Prelude.{string_bytes, flat_map}
use Rattle.cert_text.specs.Text.{method_lines, spelled}
use Rattle.cert_text.proofs.TextLines.{GoesBy}
use Rattle.cert_text.proofs.printer.methods_text.Given as goal

abbrev pub invariant-loop-method : goal.invariant-loop-method
invariant-loop-method l = GoesBy method_lines l.methods l.method-index (string_bytes l.output) (spelled (flat_map method_lines l.methods))
