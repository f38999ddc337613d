-- A sender that packs each item so that it is read right also where up to N packets right before it were lost.
use Rattle.std.specs.Prelude.{◌≡◌, ℕ, suc, ◌<◌, ◌≤◌, Bool, List, [], ◌∷◌, None, Some, slice_get, reverse}
use Rattle.sem_context.specs.Entries.{Entries, bits_at}
use Rattle.sem_profile.specs.declared.profile.Method.{Method}
use Rattle.sem_filling.specs.declared.filling.Filling.{Filling}
use Rattle.sem_filling.specs.Entries.{Path, entries, next}
use Rattle.sem_filling.specs.Fronts.{Det, FitsTop}
use Rattle.sem_elsewhere.specs.Runs.{Survives, Arrives, Reads}

-- The filling fits in the sender's context and in each of the n before it, newest first, as far as there are so many; and where it has no entry these contexts agree.
pub record IsRobust (methods : List Method) (top n : ℕ) (ctx : Entries) (before : List Entries) (f : Filling) : Type 0 where
  pub fits_each : (i : ℕ) (c : Entries) → i ≤ n → slice_get (ctx ∷ before) i ≡ Some c → FitsTop methods top (bits_at c) f
  pub covers : (i : ℕ) (c : Entries) → i ≤ n → slice_get (ctx ∷ before) i ≡ Some c → (path : Path) → bits_at (reverse (entries f)) path ≡ None → bits_at ctx path ≡ bits_at c path

-- fillings that are sent one after the other, each robust
pub data Sends (methods : List Method) (top n : ℕ) : Entries → List Entries → List Filling → Type 0 where
  all_sent : {ctx : Entries} {before : List Entries} → Sends methods top n ctx before []
  sends : {ctx : Entries} {before : List Entries} {f : Filling} {fs : List Filling} → IsRobust methods top n ctx before f → Sends methods top n (next ctx f) (ctx ∷ before) fs → Sends methods top n ctx before (f ∷ fs)

-- What comes through of these, where so many right before were lost and never more than n in a row are.
pub data ComesThrough (n : ℕ) : ℕ → List Filling → List Filling → Type 0 where
  all_over : {gap : ℕ} → ComesThrough n gap [] []
  comes : {gap : ℕ} {f : Filling} {fs got : List Filling} → ComesThrough n 0 fs got → ComesThrough n gap (f ∷ fs) (f ∷ got)
  is_lost : {gap : ℕ} {f : Filling} {fs got : List Filling} → gap < n → ComesThrough n (suc gap) fs got → ComesThrough n gap (f ∷ fs) got

-- Whatever is lost, never more than n packets in a row: each packet that comes through is read as what was sent, by a receiver that began in the same context.
abbrev pub LossProof : Type 0
LossProof = (methods : List Method) (top n : ℕ) → Det methods top → (ctx other : Entries) → ((path : Path) → bits_at ctx path ≡ bits_at other path) → (fs got gs : List Filling) (bits : List (List Bool)) →
    Sends methods top n ctx [] fs → ComesThrough n 0 fs got → Arrives got bits → Reads methods top other bits gs → gs ≡ got

-- and it is there to be read: each fits in the receiver's context
abbrev pub LossFits : Type 0
LossFits = (methods : List Method) (top n : ℕ) (ctx other : Entries) → ((path : Path) → bits_at ctx path ≡ bits_at other path) → (fs got : List Filling) →
    Sends methods top n ctx [] fs → ComesThrough n 0 fs got → Survives methods top other got
