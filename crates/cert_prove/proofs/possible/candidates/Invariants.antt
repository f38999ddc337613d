use Rattle.std.proofs.Common.{◌≡◌, ◌++◌, drop}
use Rattle.cert_prove.specs.Linking.{candidates_of}
use Rattle.cert_prove.proofs.possible.candidates.Given as goal

abbrev pub invariant-loop-kind : goal.invariant-loop-kind
invariant-loop-kind l = l.steps ++ candidates_of (drop l.kind-index l.kind-items) l.rows ≡ candidates_of l.kind-items l.rows
