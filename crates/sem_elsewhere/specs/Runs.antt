-- What a receiver reads whose context may be another than the sender's: after packets that were lost, out of order, twice, or from an empty context.
use Rattle.std.specs.Prelude.{◌≡◌, ◌↔◌, ℕ, Bool, List, [], ◌∷◌, ◌++◌, None, reverse}
use Rattle.sem_context.specs.Entries.{Entries, bits_at}
use Rattle.sem_profile.specs.declared.profile.Method.{Method}
use Rattle.sem_filling.specs.declared.filling.Filling.{Filling}
use Rattle.sem_filling.specs.Fillings.{packed}
use Rattle.sem_filling.specs.Entries.{Path, entries, next}
use Rattle.sem_filling.specs.Fronts.{Det, FitsTop, InFronts}

-- Each filling fits in the context that those before it leave, from this one on.
pub data Survives (methods : List Method) (top : ℕ) : Entries → List Filling → Type 0 where
  all_survive : {ctx : Entries} → Survives methods top ctx []
  survives : {ctx : Entries} {f : Filling} {fs : List Filling} → FitsTop methods top (bits_at ctx) f → Survives methods top (next ctx f) fs → Survives methods top ctx (f ∷ fs)

-- what arrives: for each filling its packed bits, followed by any others
pub data Arrives : List Filling → List (List Bool) → Type 0 where
  nothing : Arrives [] []
  arrives : {f : Filling} {fs : List Filling} {bits : List Bool} {more : List (List Bool)} (rest : List Bool) → bits ≡ packed f ++ rest → Arrives fs more → Arrives (f ∷ fs) (bits ∷ more)

-- what is read of it, one after the other: a filling that fits and is in front, after which the context goes on by it, right or wrong
pub data Reads (methods : List Method) (top : ℕ) : Entries → List (List Bool) → List Filling → Type 0 where
  reads_none : {ctx : Entries} → Reads methods top ctx [] []
  reads : {ctx : Entries} {bits : List Bool} {more : List (List Bool)} {g : Filling} {gs : List Filling} → InFronts methods top (bits_at ctx) bits g → Reads methods top (next ctx g) more gs
      → Reads methods top ctx (bits ∷ more) (g ∷ gs)

-- One packet is read as what was sent just where this fits in the receiver's context.
abbrev pub RightWhereFits : Type 0
RightWhereFits = (methods : List Method) (top : ℕ) → Det methods top → (other : Entries) (f g : Filling) (rest : List Bool) →
    InFronts methods top (bits_at other) (packed f ++ rest) g → (g ≡ f) ↔ FitsTop methods top (bits_at other) f

-- So are all packets of a run, in whatever way it was made of those that were sent.
abbrev pub RightWhereSurvives : Type 0
RightWhereSurvives = (methods : List Method) (top : ℕ) → Det methods top → (other : Entries) (fs gs : List Filling) (bits : List (List Bool)) →
    Arrives fs bits → Reads methods top other bits gs → (gs ≡ fs) ↔ Survives methods top other fs

-- A filling that fits in both contexts, and has entries for each path at which they differ, heals: what goes on after it at the sender goes on at the receiver.
abbrev pub Heals : Type 0
Heals = (methods : List Method) (top : ℕ) (ctx other : Entries) (f : Filling) (fs : List Filling) →
    ((path : Path) → bits_at (reverse (entries f)) path ≡ None → bits_at ctx path ≡ bits_at other path) →
    Survives methods top ctx (f ∷ fs) → FitsTop methods top (bits_at other) f → Survives methods top other (f ∷ fs)
