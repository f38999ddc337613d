use Rattle.std.proofs.Common.{◌≡◌, ◌++◌, drop, map}
use Rattle.cert_types.specs.declared.certificate.Step.TheVariants.{ConstraintLength}
use Rattle.cert_prove.proofs.possible.push_lengths.Given as goal

abbrev pub invariant-loop-number : goal.invariant-loop-number
invariant-loop-number l = l.steps ++ map (ConstraintLength l.field l.side) (drop l.number-index l.numbers) ≡ l.fn.steps ++ map (ConstraintLength l.field l.side) l.numbers
