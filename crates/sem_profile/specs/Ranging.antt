-- The ranges of attributes by the bounds of a format.
use Rattle.std.specs.Prelude.{ℕ, ◌-◌, ◌^◌, pos, min, List, map}
use Rattle.sem_expr.specs.declared.interval.Interval.{Interval}
use Rattle.sem_expr.specs.declared.ranges.Intervals.{Intervals}
use Rattle.sem_expr.specs.declared.ranges.SideIntervals.{SideIntervals}
use Rattle.sem_expr.specs.declared.ranges.Ranges.{Ranges}
use Rattle.sem_expr.specs.Rules.{from_to}
use Rattle.sem_profile.specs.declared.profile.Bounds.{Bounds}
use Rattle.sem_profile.specs.declared.profile.Sizes.{Sizes}
use Rattle.sem_profile.specs.declared.profile.FormatSizes.{FormatSizes}

-- the numbers that so many bits spell; more than 126 bits are taken as 126, whose numbers pass the limit of ranges too
abbrev pub value_range : ℕ → Interval
value_range most = from_to (pos 0) (pos (2 ^ min most 126 - 1))

-- from the least length to the greatest, each taken as 2^64 where it is above that; the greatest alone where the least is above it
abbrev pub length_range : Bounds → Interval
length_range b = from_to (pos (min (min b.least b.most) (2 ^ 64))) (pos (min b.most (2 ^ 64)))

abbrev pub intervals_of : Bounds → Intervals
intervals_of b = record { value = value_range b.most; length = length_range b }

abbrev pub side_ranges : Sizes → SideIntervals
side_ranges s = record { uncompressed = intervals_of s.uncompressed; compressed = intervals_of s.compressed }

-- those of a format's fields and of its whole, with the ranges of the method's parameters
abbrev pub format_ranges : FormatSizes → List Interval → Ranges
format_ranges s parameters = record { fields = map side_ranges s.fields; whole = side_ranges s.whole; parameters = parameters }
