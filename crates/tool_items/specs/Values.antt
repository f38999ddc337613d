-- The few values that a field has.
use Rattle.std.specs.Prelude.{◌≡◌, ℕ, ◌+◌, ◌<◌, ◌≤◌, Bool, true, false, List, [], ◌∷◌, length, map, Some, slice_get, if◌then◌else◌}
use Rattle.std.specs.List.{AllByRecursion, IsDistinct}
use Rattle.sem_bits.specs.Number.{same}
use Rattle.tool_items.specs.declared.valued.FewValues.{FewValues}
use Rattle.tool_items.specs.declared.valued.ValueCount.{ValueCount}

-- how many values pass a test
abbrev pub having : (List Bool → Bool) → List (List Bool) → ℕ
having test [] = 0
having test (v ∷ vs) = (if test v then 1 else 0) + having test vs

-- of values with their counts: how many are counted of those that pass a test
abbrev pub counted : (List Bool → Bool) → List ValueCount → ℕ
counted test [] = 0
counted test (e ∷ es) = (if test e.bits then e.count else 0) + counted test es

abbrev pub any : List Bool → Bool
any v = true

-- Some of the values are counted, each kind once, and the others are so many. There are others only where eight are kept. So where there are none, all values are
-- counted.
pub record AreValues (vs : List (List Bool)) (f : FewValues) : Type 0 where
  pub counts_are : (test : List Bool → Bool) → counted test f.kept ≤ having test vs
  pub all_are : counted any f.kept + f.others ≡ length vs
  pub apart : IsDistinct same (map (λ (e : ValueCount). e.bits) f.kept)
  pub full : 0 < f.others → length f.kept ≡ 8

-- whatever values they were of, they are of one more
abbrev pub AddsValue : List Bool → FewValues → FewValues → Type 0
AddsValue v old new = (vs : List (List Bool)) → AreValues vs old → AreValues (v ∷ vs) new

-- a value is kept at a place, or nowhere
abbrev pub IsKeptAt : List Bool → ℕ → List ValueCount → Type 0
IsKeptAt v i kept = (e : ValueCount) × (slice_get kept i ≡ Some e) × (e.bits ≡ v)

abbrev pub IsKeptNowhere : List Bool → List ValueCount → Type 0
IsKeptNowhere v kept = AllByRecursion (λ (e : ValueCount). same e.bits v ≡ false) kept
