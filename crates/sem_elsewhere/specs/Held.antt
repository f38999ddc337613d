-- A sender that keeps all contexts that a receiver may hold, whatever formats were sent.
use Rattle.std.specs.Prelude.{◌≡◌, ℕ, suc, ◌<◌, Bool, List, [], ◌∷◌, Some, slice_get}
use Rattle.sem_context.specs.Entries.{Entries, bits_at}
use Rattle.sem_profile.specs.declared.profile.Method.{Method}
use Rattle.sem_filling.specs.declared.filling.Filling.{Filling}
use Rattle.sem_filling.specs.Entries.{Path, next}
use Rattle.sem_filling.specs.Fronts.{Det, FitsTop}
use Rattle.sem_elsewhere.specs.Runs.{Arrives, Reads}
use Rattle.sem_elsewhere.specs.Robust.{ComesThrough}

-- a context that a receiver may hold to which so many packets right before were lost
pub record Holding : Type 0 where
  pub gap : ℕ
  pub context : Entries

-- one of these has the gap and is the same map
pub record IsHeld (held : List Holding) (gap : ℕ) (ctx : Entries) : Type 0 where
  pub place : ℕ
  pub one : Holding
  pub at : slice_get held place ≡ Some one
  pub gap_is : one.gap ≡ gap
  pub same : (path : Path) → bits_at one.context path ≡ bits_at ctx path

-- what a receiver may hold after a packet: what came of each, and where more may be lost, what it was
pub record GoOn (n : ℕ) (held after : List Holding) (f : Filling) : Type 0 where
  pub came : (i : ℕ) (h : Holding) → slice_get held i ≡ Some h → IsHeld after 0 (next h.context f)
  pub lost : (i : ℕ) (h : Holding) → slice_get held i ≡ Some h → h.gap < n → IsHeld after (suc h.gap) h.context

-- fillings that are sent one after the other, each of which fits in all that is held
pub data SendsHeld (methods : List Method) (top n : ℕ) : List Holding → List Filling → Type 0 where
  no_more : {held : List Holding} → SendsHeld methods top n held []
  sends_held : {held : List Holding} {f : Filling} {fs : List Filling} (after : List Holding) → ((i : ℕ) (h : Holding) → slice_get held i ≡ Some h → FitsTop methods top (bits_at h.context) f) → GoOn n held after f
      → SendsHeld methods top n after fs → SendsHeld methods top n held (f ∷ fs)

-- Whatever is lost, never more than n packets in a row: each packet that comes through is read as what was sent, by a receiver whose context was among those held.
abbrev pub LossProofHeld : Type 0
LossProofHeld = (methods : List Method) (top n : ℕ) → Det methods top → (held : List Holding) (other : Entries) → IsHeld held 0 other → (fs got gs : List Filling) (bits : List (List Bool)) →
    SendsHeld methods top n held fs → ComesThrough n 0 fs got → Arrives got bits → Reads methods top other bits gs → gs ≡ got
