-- How many packets are read right, refused and read wrong (docs/DEFINITIONS.md, Losses).
use Rattle.std.specs.Prelude.{ℕ, ◌-◌, nat_eq, nat_le, nat_lt, Bool, not, ◌&&◌, List, fold, if◌then◌else◌}
use Rattle.std.specs.List.{sum_by}
use Rattle.walk_loss.specs.declared.reception.HeardKind.{HeardKind}
use Rattle.walk_loss.specs.declared.reception.HeardKind.TheVariants.{Right, Refused, Wrong}
use Rattle.walk_loss.specs.declared.journal.Reading.{Reading}
use Rattle.walk_loss.specs.declared.scores.Group.{Group}
use Rattle.walk_loss.specs.declared.scores.Group.TheVariants.{After, Of}
use Rattle.walk_loss.specs.declared.scores.Score.{Score}
use Rattle.walk_loss.specs.Journal.{same_kind}

abbrev pub is_in : Group → Reading → Bool
is_in (After lost) r = nat_eq r.lost lost
is_in (Of format) r = nat_eq r.format format && nat_lt 0 r.lost

abbrev pub one_in : Group → Reading → ℕ
one_in group r = if is_in group r then 1 else 0

abbrev pub kind_in : Group → HeardKind → Reading → ℕ
kind_in group k r = if is_in group r && same_kind r.kind k then 1 else 0

abbrev pub count : Group → List Reading → ℕ
count group rs = sum_by (one_in group) rs

abbrev pub kind_count : Group → HeardKind → List Reading → ℕ
kind_count group k rs = sum_by (kind_in group k) rs

abbrev pub score : Group → List Reading → Score
score group rs = record { packets = count group rs; right = kind_count group Right rs; refused = kind_count group Refused rs; wrong = kind_count group Wrong rs }

-- ---- how far a format reaches

-- one below the number after which this packet of the format isn't read right
abbrev pub limit : ℕ → ℕ → Reading → ℕ
limit format most r = if is_in (Of format) r && not (same_kind r.kind Right) then r.lost - 1 else most

abbrev pub lesser : ℕ → ℕ → ℕ
lesser m n = if nat_le m n then m else n

-- after how many lost packets, up to so many, each packet of the format is still read right
abbrev pub reach : ℕ → ℕ → List Reading → ℕ
reach format most rs = fold (λ least r. lesser least (limit format most r)) most rs
