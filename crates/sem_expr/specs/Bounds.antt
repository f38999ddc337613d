-- The given ranges, as a range for each attribute and parameter.
use Rattle.std.specs.Prelude.{ℕ, ◌^◌, List, [], pos, neg_ℤ, slice_get}
use Rattle.std.specs.Option.{unwrap_or}
use Rattle.sem_expr.specs.Rules.{from_to}
use Rattle.sem_expr.specs.Ranged.{Bounding}
use Rattle.sem_expr.specs.declared.interval.Interval.{Interval}
use Rattle.sem_expr.specs.declared.ranges.Intervals.{Intervals}
use Rattle.sem_expr.specs.declared.ranges.SideIntervals.{SideIntervals}
use Rattle.sem_expr.specs.declared.ranges.Ranges.{Ranges}
use Rattle.sem_expr.specs.declared.expr.Subject.{Subject}
use Rattle.sem_expr.specs.declared.expr.Subject.TheVariants.{Field, This}
use Rattle.sem_expr.specs.declared.expr.Side.{Side}
use Rattle.sem_expr.specs.declared.expr.Side.TheVariants.{Uncompressed, Compressed}
use Rattle.sem_expr.specs.declared.expr.Measure.{Measure}
use Rattle.sem_expr.specs.declared.expr.Measure.TheVariants.{Value, Length}

-- from -2^120 to 2^120
abbrev pub every : Interval
every = from_to (neg_ℤ (pos (2 ^ 120))) (pos (2 ^ 120))

abbrev pub every_of_side : Intervals
every_of_side = record { value = every; length = every }

-- those of a field; every number past the end of the list
abbrev pub intervals_at : List SideIntervals → ℕ → SideIntervals
intervals_at fields i = unwrap_or (slice_get fields i) record { uncompressed = every_of_side; compressed = every_of_side }

-- every number of each attribute and parameter
abbrev pub anything : Ranges
anything = record { fields = []; whole = record { uncompressed = every_of_side; compressed = every_of_side }; parameters = [] }

abbrev pub subject_intervals : Ranges → Subject → SideIntervals
subject_intervals r (Field i) = intervals_at r.fields i
subject_intervals r This = r.whole

abbrev pub side_intervals : SideIntervals → Side → Intervals
side_intervals s Uncompressed = s.uncompressed
side_intervals s Compressed = s.compressed

abbrev pub interval_of : Intervals → Measure → Interval
interval_of n Value = n.value
interval_of n Length = n.length

abbrev pub bounding_of : Ranges → Bounding
bounding_of r = record {
  attribute = λ t. interval_of (side_intervals (subject_intervals r t.subject) t.side) t.measure;
  parameter = λ i. unwrap_or (slice_get r.parameters i) every;
}
