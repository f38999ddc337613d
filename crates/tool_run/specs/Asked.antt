-- What `why` prints of asked values that aren't those of the asked fields (docs/FORMATS.md).
use Rattle.std.specs.Prelude.{ℕ, Bool, List, [], ◌∷◌, ◌++◌, length, codes, decimal, Option, Some, None, if◌then◌else◌}
use Rattle.std.specs.Fmt.{signed_decimal}
use Rattle.std.specs.Option.{unwrap_or}
use Rattle.sem_filling.specs.declared.filling.AskedValue.{AskedValue}
use Rattle.sem_profile.specs.declared.asked.AskedField.{AskedField}
use Rattle.walk_engine.specs.Asked.{first_of, has_count}

-- a field of which the first value has another length, or that has none
abbrev pub count_words : AskedField → Option (List Bool) → List ℕ
count_words a None = codes "asked " ++ a.name ++ codes " is missing"
count_words a (Some bits) = codes "asked " ++ a.name ++ codes " has " ++ decimal (length bits) ++ codes " bits, and " ++ signed_decimal a.length ++ codes " are due"

-- that of the first such field
abbrev pub lacking_words : List AskedField → List AskedValue → Option (List ℕ)
lacking_words [] values = None
lacking_words (a ∷ fields) values = if has_count a.length (first_of a.name values) then lacking_words fields values else Some (count_words a (first_of a.name values))

abbrev pub odd_words : List ℕ → List ℕ
odd_words name = name ++ codes " is not asked, or not in its place"

-- that of the first such field, else of the name that is blamed
abbrev pub asked_words : List AskedField → List AskedValue → List ℕ → List ℕ
asked_words fields values name = unwrap_or (lacking_words fields values) (odd_words name)
