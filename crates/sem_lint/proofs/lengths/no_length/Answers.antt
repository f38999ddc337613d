use Rattle.std.proofs.Common.{arith}
use Rattle.std.proofs.lemmas.Option.{slice_get_within}
use Rattle.sem_lint.specs.Obstacles.{HasNoLength}
use Rattle.sem_lint.proofs.LengthsFirst.{none_up_to}
use Rattle.sem_lint.proofs.lengths.no_length.Goals as goal

pub loop-field-preserved : goal.loop-field-preserved
loop-field-preserved c = none_up_to (HasNoLength c.args.sizes.now) c.loop-field.field c.loop-field.invariant c.in_default.ensures

pub returns : goal.returns
returns c = λ i side has. c.loop-field.invariant i side (let within = slice_get_within c.args.sizes.now i has.0 has.1 in let end = c.loop-field-test.false in omega arith) has
