use Rattle.std.proofs.Common.{◌≡◌, drop}
use Rattle.std.specs.List.{list_all}
use Rattle.sem_profile.specs.Named.{field_has_word}
use Rattle.sem_profile.proofs.known_words.field_words.Given as goal

abbrev pub invariant-loop-field : goal.invariant-loop-field
invariant-loop-field l = list_all field_has_word (drop l.field-index l.fields) ≡ list_all field_has_word l.fields
