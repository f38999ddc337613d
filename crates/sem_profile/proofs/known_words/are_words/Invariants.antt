use Rattle.std.proofs.Common.{◌≡◌, drop}
use Rattle.std.specs.List.{list_all}
use Rattle.sem_profile.specs.Named.{method_has_words}
use Rattle.sem_profile.proofs.known_words.are_words.Given as goal

abbrev pub invariant-loop-method : goal.invariant-loop-method
invariant-loop-method l = list_all method_has_words (drop l.method-index l.methods) ≡ list_all method_has_words l.methods
