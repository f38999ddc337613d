-- What the text and the objects of `loss` both tell: of which case, and of which formats with which numbers.
use Rattle.std.specs.Prelude.{ℕ, nat_eq, List, Option, Some, None, if◌then◌else◌}
use Rattle.std.specs.Option.{option_or}
use Rattle.walk_loss.specs.declared.reception.HeardKind.TheVariants as kinds
use Rattle.walk_loss.specs.declared.journal.Case.{Case}
use Rattle.walk_loss.specs.declared.journal.Reading.{Reading}
use Rattle.walk_loss.specs.declared.scores.Group.TheVariants.{Of}
use Rattle.walk_loss.specs.declared.scores.Score.{Score}
use Rattle.walk_loss.specs.Journal.{first_case}
use Rattle.walk_loss.specs.Scores.{reach, score}

-- the first wrong case after so many lost packets, else the first that is refused
abbrev pub told_case : List Case → ℕ → Option Case
told_case cs lost = option_or (first_case lost kinds.Wrong cs) (first_case lost kinds.Refused cs)

-- how packets of the format k are read, and up to how many lost ones all are right; nothing where none was read after a loss
abbrev pub told_format : ℕ → List Reading → ℕ → Option (Score × ℕ)
told_format most rs k = if nat_eq (score (Of k) rs).packets 0 then None else Some (score (Of k) rs, reach k most rs)
