-- Which `lsb` takes most of the steps that came (docs/FORMATS.md, advise).
use Rattle.std.specs.Prelude.{◌≡◌, ℕ, ◌+◌, ◌*◌, ◌<◌, ◌≤◌, ◌^◌, Bool, true, List, [], ◌∷◌, Option, None, Some, ◌&&◌, int_le, int_lt, ℤ, pos, ◌+ℤ◌, ◌-ℤ◌, ◌≤ℤ◌}
use Rattle.std.specs.List.{AllByRecursion}
use Rattle.std.specs.List.Sorted.{IsStrictlySortedBy}
use Rattle.std.specs.Map.{keys_of}
use Rattle.std.specs.Ordering.{int_cmp}
use Rattle.std.specs.Int.RustNames.{unsigned_abs}
use Rattle.tool_items.specs.declared.nearest.Front.{Front}
use Rattle.tool_items.specs.declared.nearest.Near.{Near}
use Rattle.tool_items.specs.declared.nearest.Walk.{Walk}
use Rattle.tool_items.specs.declared.nearest.Window.{Window}
use Rattle.tool_items.specs.Steps.{counted}

-- a step is one of so many from the first on
abbrev pub within : ℤ → ℕ → ℤ → Bool
within first n s = int_le first s && int_lt s (first +ℤ pos n)

-- `lsb(k, p)` takes the steps from -p to 2 ^ k - p - 1: how many of those that came
abbrev pub taken : ℕ → ℤ → List (ℤ × ℕ) → ℕ
taken k p es = counted (within (pos 0 -ℤ p) (2 ^ k)) es

abbrev pub every : ℤ → Bool
every s = true

-- An `lsb` takes that share of the steps that came, in percent, and none with fewer bits does. No other offset takes more.
pub record IsLeast (share : ℕ) (es : List (ℤ × ℕ)) (n : Near) : Type 0 where
  pub few : n.bits ≤ 64
  pub taken_is : n.taken ≡ taken n.bits n.offset es
  pub enough : share * counted every es ≤ 100 * n.taken
  pub most : (p : ℤ) → taken n.bits p es ≤ n.taken
  pub no_fewer : (k : ℕ) (p : ℤ) → k < n.bits → 100 * taken k p es < share * counted every es

-- or none takes so many
abbrev pub IsLeastNear : ℕ → List (ℤ × ℕ) → Option Near → Type 0
IsLeastNear share es (Some n) = IsLeast share es n
IsLeastNear share es None = (k : ℕ) (p : ℤ) → k < 65 → 100 * taken k p es < share * counted every es

-- ---- windows

abbrev pub IsSorted : List (ℤ × ℕ) → Type 0
IsSorted es = IsStrictlySortedBy int_cmp (keys_of es)

pub record IsBest (bits : ℕ) (es : List (ℤ × ℕ)) (w : Window) : Type 0 where
  pub small : unsigned_abs w.first ≤ 2 ^ 64
  pub taken_is : w.taken ≡ counted (within w.first (2 ^ bits)) es
  pub most : (first : ℤ) → counted (within first (2 ^ bits)) es ≤ w.taken

abbrev pub below : ℤ → ℤ → Bool
below bound s = int_lt s bound

-- a place goes on to the first step that isn't below a bound
pub record Passes (bound : ℤ) (old new : Front) : Type 0 where
  pub counts : (b : ℤ) → bound ≤ℤ b → new.passed + counted (below b) new.left.now ≡ old.passed + counted (below b) old.left.now
  pub sorted : IsSorted old.left.now → IsSorted new.left.now
  pub reached : IsSorted old.left.now → counted (below bound) new.left.now ≡ 0

-- a bound isn't below so many from the first of these on
abbrev pub Reaches : ℕ → List (ℤ × ℕ) → ℤ → Type 0
Reaches n [] b = ⊥
Reaches n (e ∷ es) b = (e.0 +ℤ pos n) ≤ℤ b

-- a place among the steps, which isn't past those bounds
pub record IsFront (es : List (ℤ × ℕ)) (n : ℕ) (rest : List (ℤ × ℕ)) (f : Front) : Type 0 where
  pub sorted : IsSorted f.left.now
  pub counts : (b : ℤ) → Reaches n rest b → f.passed + counted (below b) f.left.now ≡ counted (below b) es

-- with so many or fewer of the steps in the windows from each of these on
abbrev pub AreAtMost : ℕ → List (ℤ × ℕ) → ℕ → List (ℤ × ℕ) → Type 0
AreAtMost n es most rest = AllByRecursion (λ e. counted (within e.0 n) es ≤ most) rest

-- the windows from all steps but the rest are looked at
pub record IsWalk (bits : ℕ) (es rest : List (ℤ × ℕ)) (w : Walk) : Type 0 where
  pub sorted : IsSorted rest
  pub start_is : IsFront es 0 rest w.start
  pub end_is : IsFront es (2 ^ bits) rest w.end
  pub small : unsigned_abs w.best.first ≤ 2 ^ 64
  pub taken_is : w.best.taken ≡ counted (within w.best.first (2 ^ bits)) es
  pub most : (m : ℕ) → w.best.taken ≤ m → AreAtMost (2 ^ bits) es m rest → AreAtMost (2 ^ bits) es m es

-- a window from one step more
abbrev pub WalksOn : ℤ → ℕ → Walk → Walk → Type 0
WalksOn step bits old new = (es : List (ℤ × ℕ)) (count : ℕ) (rest : List (ℤ × ℕ)) → IsWalk bits es ((step, count) ∷ rest) old → IsWalk bits es rest new
