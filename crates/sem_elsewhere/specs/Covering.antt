-- Where the formats of each method call alike, a sender needs only to see that each filling fits in its last contexts.
use Rattle.std.specs.Prelude.{◌≡◌, ℕ, ◌≤◌, Bool, List, [], ◌∷◌, Some, slice_get}
use Rattle.sem_context.specs.Entries.{Entries, bits_at}
use Rattle.sem_profile.specs.declared.profile.Method.{Method}
use Rattle.sem_filling.specs.declared.filling.Filling.{Filling}
use Rattle.sem_filling.specs.Entries.{Path, next}
use Rattle.sem_filling.specs.Fronts.{Det, FitsTop}
use Rattle.sem_profile.specs.Alike.{AreAlike}
use Rattle.sem_elsewhere.specs.Runs.{Arrives, Reads}
use Rattle.sem_elsewhere.specs.Robust.{Sends, ComesThrough}
use Rattle.sem_elsewhere.specs.Paths.{CallAlike}

-- the filling fits in the sender's context and in each of the n before it, newest first, as far as there are so many
abbrev pub FitsInLast : List Method → ℕ → ℕ → Entries → List Entries → Filling → Type 0
FitsInLast methods top n ctx before f = (i : ℕ) (c : Entries) → i ≤ n → slice_get (ctx ∷ before) i ≡ Some c → FitsTop methods top (bits_at c) f

-- fillings that are sent one after the other, each of which does
pub data SendsFitting (methods : List Method) (top n : ℕ) : Entries → List Entries → List Filling → Type 0 where
  none_left : {ctx : Entries} {before : List Entries} → SendsFitting methods top n ctx before []
  sends_one : {ctx : Entries} {before : List Entries} {f : Filling} {fs : List Filling} → FitsInLast methods top n ctx before f → SendsFitting methods top n (next ctx f) (ctx ∷ before) fs → SendsFitting methods top n ctx before (f ∷ fs)

-- then each is robust
abbrev pub Covers : Type 0
Covers = (methods : List Method) (top n : ℕ) → AreAlike methods → CallAlike methods → (ctx : Entries) (fs : List Filling) → SendsFitting methods top n ctx [] fs → Sends methods top n ctx [] fs

-- Whatever is lost, never more than n packets in a row: each packet that comes through is read as what was sent.
abbrev pub LossProofAlike : Type 0
LossProofAlike = (methods : List Method) (top n : ℕ) → Det methods top → AreAlike methods → CallAlike methods → (ctx other : Entries) → ((path : Path) → bits_at ctx path ≡ bits_at other path) →
    (fs got gs : List Filling) (bits : List (List Bool)) → SendsFitting methods top n ctx [] fs → ComesThrough n 0 fs got → Arrives got bits → Reads methods top other bits gs → gs ≡ got
