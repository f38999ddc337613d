use Rattle.std.proofs.Common.{◌≡◌, drop}
use Rattle.std.specs.List.{list_all}
use Rattle.sem_profile.specs.Words.{is_name}
use Rattle.sem_profile.proofs.known_words.parameter_words.Given as goal

abbrev pub invariant-loop-name : goal.invariant-loop-name
invariant-loop-name l = list_all is_name (drop l.name-index l.names) ≡ list_all is_name l.names
