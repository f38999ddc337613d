-- What stands against packing an item for all that a receiver may hold (docs/DEFINITIONS.md, Losses).
use Rattle.std.specs.Prelude.{◌≡◌, ℕ, ◌<◌, ◌≤◌, List, [], ◌∷◌, ◌++◌, Some, map, slice_get}
use Rattle.sem_context.specs.Entries.{Entries, bits_at}
use Rattle.sem_filling.specs.declared.filling.Filling.{Filling, out-Filling}
use Rattle.sem_filling.specs.declared.filling.Item.{Item}
use Rattle.sem_filling.specs.Fillings.{item}
use Rattle.cert_accepted.specs.Accepted.{Accepting}
use Rattle.sem_elsewhere.specs.Held.{Holding}
use Rattle.sem_elsewhere.specs.Listed.{UsesAre}
use Rattle.sem_elsewhere.specs.Uses.{Use}
use Rattle.walk_engine.specs.Reading.{Fitting}
use Rattle.walk_engine.specs.Searching.{number_in}
use Rattle.walk_loss.specs.Unserved.{IsFirstUnserved}
use Rattle.walk_loss.specs.declared.unserved.Lack.{Lack}
use Rattle.walk_robust.specs.Answers.{FitsEach}

abbrev pub format_of : Filling → ℕ
format_of f = (out-Filling f).format

-- the filling fits in the own context and has the item, and none of its format that does has a lower number in the order of `pack`
pub record IsBestOfFormat (a : Accepting) (own : Entries) (it : Item) (f : Filling) : Type 0 where
  pub fits : Fitting a own f
  pub has : item f ≡ it
  pub first : (g : Filling) → Fitting a own g → item g ≡ it → format_of g ≡ format_of f → number_in a f ≤ number_in a g

-- The filling fits in each of the contexts before one, and not in that: there this use is the first that doesn't serve.
pub record IsLack (a : Accepting) (others : List Holding) (f : Filling) (l : Lack) : Type 0 where
  pub format_is : l.format ≡ format_of f
  pub place : ℕ
  pub one : Holding
  pub at : slice_get others place ≡ Some one
  pub gap_is : l.gap ≡ one.gap
  pub before : (i : ℕ) (h : Holding) → i < place → slice_get others i ≡ Some h → Fitting a h.context f
  pub uses : List Use
  pub uses_are : UsesAre a.profile.methods a.profile.top [] [] f uses
  pub first : IsFirstUnserved (bits_at one.context) uses l.unserved

-- a line of the format is there
abbrev pub IsTold : List Lack → ℕ → Type 0
IsTold ls n = (i : ℕ) × (l : Lack) × (slice_get ls i ≡ Some l) × (l.format ≡ n)

-- Each line is that of the best filling of its format, and they stand in the order of `pack`; and each format with a filling that fits in the own context and has
-- the item has one.
pub record AreLacks (a : Accepting) (own : Entries) (others : List Holding) (it : Item) (ls : List Lack) : Type 0 where
  pub rows : List (Filling × Lack)
  pub lines_are : ls ≡ map (λ r. r.1) rows
  pub each : (i : ℕ) (r : Filling × Lack) → slice_get rows i ≡ Some r → IsBestOfFormat a own it r.0 × IsLack a others r.0 r.1
  pub in_order : (i j : ℕ) (r s : Filling × Lack) → i < j → slice_get rows i ≡ Some r → slice_get rows j ≡ Some s → number_in a r.0 < number_in a s.0
  pub all : (f : Filling) → Fitting a own f → item f ≡ it → IsTold ls (format_of f)

-- ---- one by one

-- a line is added of a filling, unless its format has one, or the filling fits in all
pub data AddsLack (a : Accepting) (others : List Holding) (f : Filling) (old : List Lack) : List Lack → Type 0 where
  was_told : IsTold old (format_of f) → AddsLack a others f old old
  fits_all : FitsEach a others f → AddsLack a others f old old
  lacks : (l : Lack) → (IsTold old (format_of f) → ⊥) → IsLack a others f l → AddsLack a others f old (old ++ l ∷ [])
