use Rattle.std.specs.Prelude.{string_bytes, map}
use Rattle.cert_text.specs.Text.{node_line, spelled}
use Rattle.cert_text.proofs.TextLines.{GoesLine}
use Rattle.cert_text.proofs.printer.nodes_text.Given as goal

abbrev pub invariant-loop-node : goal.invariant-loop-node
invariant-loop-node l = GoesLine (node_line l.method) l.method.tree l.node-index (string_bytes l.output) (spelled (map (node_line l.method) l.method.tree))
