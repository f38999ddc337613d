-- How the fields of fillings go on from one filling to the next.
use Rattle.std.specs.Prelude.{◌≡◌, ℕ, ◌+◌, Bool, min, max, List, [], ◌∷◌, length, map, take, Option, None, Some, option_map, slice_get}
use Rattle.std.specs.List.{filter_map}
use Rattle.sem_filling.specs.declared.filling.Filling.{Filling}
use Rattle.sem_filling.specs.Fillings.{level}
use Rattle.tool_items.specs.declared.steps.Steps.{Steps}
use Rattle.tool_items.specs.declared.trends.Lengths.{Lengths}
use Rattle.tool_items.specs.declared.trends.Trend.{Trend}
use Rattle.tool_items.specs.declared.trends.Trends.{Trends}
use Rattle.tool_items.specs.Steps.{AreCounted, AddSteps, step, steps}
use Rattle.tool_items.specs.Values.{AreValues}

-- the value of the field i, where a filling has that many fields
abbrev pub value_at : ℕ → Filling → Option (List Bool)
value_at i f = option_map (λ s. s.uncompressed) (slice_get (level f) i)

abbrev pub values_at : ℕ → List Filling → List (List Bool)
values_at i fs = filter_map (value_at i) fs

-- the fewest and the most bits, with one value more; of no values nothing
abbrev pub lengths_with : Option Lengths → ℕ → Lengths
lengths_with None n = record { least = n; most = n }
lengths_with (Some l) n = record { least = min l.least n; most = max l.most n }

abbrev pub lengths : List (List Bool) → Option Lengths
lengths [] = None
lengths (v ∷ vs) = Some (lengths_with (lengths vs) (length v))

-- Of values, the last first, where up to so many items in a row are lost: the last item that came through is one of so many and one more before.
pub record IsTrend (lost : ℕ) (vs : List (List Bool)) (t : Trend) : Type 0 where
  pub lengths_are : t.lengths ≡ lengths vs
  pub values_are : AreValues vs t.values
  pub next_are : AreCounted (steps 1 vs) t.next
  pub all_are : AreCounted (steps (lost + 1) vs) t.all
  pub recent_are : t.recent.items ≡ take (lost + 1) vs

-- Of fillings, the last first: the trend of each of the first fields.
pub record AreTrends (count lost : ℕ) (fs : List Filling) (t : Trends) : Type 0 where
  pub lost_is : t.lost ≡ lost
  pub items_are : t.items ≡ length fs
  pub count_is : length t.fields.items ≡ count
  pub fields_are : (i : ℕ) (x : Trend) → slice_get t.fields.items i ≡ Some x → IsTrend lost (values_at i fs) x

-- ---- one more

abbrev pub AddsValue : ℕ → List Bool → Trend → Trend → Type 0
AddsValue lost v old new = (vs : List (List Bool)) → IsTrend lost vs old → IsTrend lost (v ∷ vs) new

abbrev pub AddsAt : ℕ → ℕ → Filling → Trend → Trend → Type 0
AddsAt lost i f old new = (fs : List Filling) → IsTrend lost (values_at i fs) old → IsTrend lost (values_at i (f ∷ fs)) new

abbrev pub AreTrended : ℕ → List Filling → List Trend → Type 0
AreTrended lost fs ts = (i : ℕ) (x : Trend) → slice_get ts i ≡ Some x → IsTrend lost (values_at i fs) x

pub record AddsFields (lost : ℕ) (f : Filling) (old new : List Trend) : Type 0 where
  pub same_count : length new ≡ length old
  pub add : (fs : List Filling) → AreTrended lost fs old → AreTrended lost (f ∷ fs) new

-- whatever fillings they were of, they are of these and the filling
abbrev pub AddsFilling : Filling → Trends → Trends → Type 0
AddsFilling f old new = (count lost : ℕ) (fs : List Filling) → AreTrends count lost fs old → AreTrends count lost (f ∷ fs) new

-- the step from the latest of some values, if there are any
abbrev pub AddsNext : List (List Bool) → List Bool → Steps → Steps → Type 0
AddsNext recent v old new = AddSteps (map (λ r. step r v) (take 1 recent)) old new
