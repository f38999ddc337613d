use Rattle.std.proofs.Common.{◌≡◌, ◌++◌, map, drop}
use Rattle.sem_profile.specs.Words.{word}
use Rattle.text_methods.proofs.parameters.parameter_names.Given as goal

abbrev pub invariant-loop-parameter : goal.invariant-loop-parameter
invariant-loop-parameter l = l.names ++ map (word l.text) (drop l.parameter-index l.parameters) ≡ map (word l.text) l.parameters
