use Rattle.std.proofs.Common.{◌≡◌, ◌++◌, drop, map}
use Rattle.cert_types.specs.declared.certificate.Step.TheVariants.{Solve}
use Rattle.cert_prove.proofs.possible.push_solves.Given as goal

abbrev pub invariant-loop-number : goal.invariant-loop-number
invariant-loop-number l = l.steps ++ map (Solve l.field) (drop l.number-index l.numbers) ≡ l.fn.steps ++ map (Solve l.field) l.numbers
