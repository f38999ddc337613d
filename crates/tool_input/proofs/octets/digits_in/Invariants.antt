use Rattle.std.specs.Prelude.{◌≡◌, ◌++◌, drop}
use Rattle.tool_input.specs.Octets.{without_space}
use Rattle.tool_input.proofs.octets.digits_in.Given as goal

abbrev pub invariant-loop-octet : goal.invariant-loop-octet
invariant-loop-octet l = l.digits.items ++ without_space (drop l.octet-index l.text) ≡ without_space l.text
