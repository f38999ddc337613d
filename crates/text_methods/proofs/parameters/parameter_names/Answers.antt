use Rattle.text_methods.specs.Worded.{IsNamed}
use Rattle.text_methods.proofs.Wording.{one_of}
use Rattle.text_methods.proofs.parameters.parameter_names.Goals as goal

pub of_octets-requires : goal.of_octets-requires
of_octets-requires c = rw c.word.ensures (one_of (IsNamed c.args.text.now) c.args.parameters.now c.loop-parameter.parameter-index _ c.requires c.loop-parameter-test.true)
