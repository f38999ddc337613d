use Rattle.std.proofs.Common.{◌≡◌, ◌++◌, drop}
use Rattle.cert_prove.specs.Linking.{by_rows}
use Rattle.cert_prove.proofs.possible.push_kind.Given as goal

abbrev pub invariant-loop-field : goal.invariant-loop-field
invariant-loop-field l = l.steps ++ by_rows l.kind l.field (drop l.field l.rows) ≡ l.fn.steps ++ by_rows l.kind 0 l.rows
