use Rattle.std.proofs.Common.{◌≡◌, ◌++◌, drop}
use Rattle.cert_types.proofs.names.shared.Given as goal

abbrev pub invariant-loop-name : goal.invariant-loop-name
invariant-loop-name l = l.others ++ drop l.name-index l.names ≡ l.names
