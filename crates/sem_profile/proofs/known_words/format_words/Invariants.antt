use Rattle.std.proofs.Common.{◌≡◌, drop}
use Rattle.std.specs.List.{list_all}
use Rattle.sem_profile.specs.Named.{format_has_words}
use Rattle.sem_profile.proofs.known_words.format_words.Given as goal

abbrev pub invariant-loop-format : goal.invariant-loop-format
invariant-loop-format l = list_all format_has_words (drop l.format-index l.formats) ≡ list_all format_has_words l.formats
