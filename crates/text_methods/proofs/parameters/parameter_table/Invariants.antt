use Rattle.std.proofs.Common.{◌≡◌, fold, drop}
use Rattle.sem_profile.specs.Words.{word, with_word}
use Rattle.text_methods.specs.Parameters.{distinct_words}
use Rattle.text_methods.proofs.parameters.parameter_table.Given as goal

abbrev pub invariant-loop-parameter : goal.invariant-loop-parameter
invariant-loop-parameter l = fold (λ names p. with_word names (word l.text p)) l.names (drop l.parameter-index l.parameters) ≡ distinct_words l.text l.parameters
