-- What fits in one context fits in another where its references serve there; what `lsb` reaches; and how one filling brings two contexts together.
use Rattle.std.specs.Prelude.{◌≡◌, ◌↔◌, ℕ, ◌%◌, ◌^◌, ◌≤◌, Bool, List, length, reverse, None, Some, ℤ, pos, ◌+ℤ◌, ◌≤ℤ◌, ◌<ℤ◌}
use Rattle.std.specs.Int.{int_rem_euclid}
use Rattle.sem_bits.specs.Number.{num}
use Rattle.sem_context.specs.Entries.{Entries, bits_at}
use Rattle.sem_library.specs.Methods.{LsbHolds}
use Rattle.sem_profile.specs.declared.profile.Format.{Format}
use Rattle.sem_profile.specs.declared.profile.Method.{Method}
use Rattle.sem_filling.specs.declared.filling.Filling.{Filling, out-Filling}
use Rattle.sem_filling.specs.Entries.{Path, entries, next}
use Rattle.sem_filling.specs.Fits.{Context, Fits, format_at}
use Rattle.sem_elsewhere.specs.Uses.{Use, Uses, AllServe, StandsAlone}

-- A filling that fits in one context fits in another just where each reference that it uses serves there.
abbrev pub FitsElsewhere : Type 0
FitsElsewhere = (methods : List Method) (k : ℕ) (ctx other : Context) (args : List ℤ) (path : Path) (f : Filling) →
    Fits methods ctx k args path f → Fits methods other k args path f ↔ AllServe methods other k args path f

-- One that uses none fits in every context.
abbrev pub NeedsNothing : Type 0
NeedsNothing = (methods : List Method) (k : ℕ) (ctx other : Context) (args : List ℤ) (path : Path) (f : Filling) →
    Fits methods ctx k args path f → ((u : Use) → Uses methods k args path f u → ⊥) → Fits methods other k args path f

-- So does each filling of a format that stands alone.
abbrev pub FitsAlone : Type 0
FitsAlone = (methods : List Method) (k : ℕ) (ctx other : Context) (args : List ℤ) (path : Path) (f : Filling) (format : Format) →
    Fits methods ctx k args path f → format_at methods k (out-Filling f).format ≡ Some format → StandsAlone methods format → Fits methods other k args path f

-- ---- the window of `lsb`

-- The number of u has gone on from that of the reference by a step, modulo 2 ^ n, which lies from - offset on, below 2 ^ k - offset; all else of `lsb` is so.
pub record IsInReach (k offset : ℤ) (ref u c : List Bool) : Type 0 where
  pub as_long : length u ≡ length ref
  pub short : length u ≤ 64
  pub bits_are : pos (length c) ≡ k
  pub within : length c ≤ length u
  pub low_part : num c ≡ num u % 2 ^ length c
  pub step : ℤ
  pub goes_on : pos (num u) ≡ int_rem_euclid (pos (num ref) +ℤ step) (pos (2 ^ length u))
  pub from : pos 0 ≤ℤ (step +ℤ offset)
  pub to : (step +ℤ offset) <ℤ pos (2 ^ length c)

abbrev pub Window : Type 0
Window = (k offset : ℤ) (ref u c : List Bool) → LsbHolds k offset ref u c ↔ IsInReach k offset ref u c

-- ---- contexts after the same filling

-- After one and the same filling two contexts agree at each path of its entries.
abbrev pub AgreeAfter : Type 0
AgreeAfter = (ctx other : Entries) (f : Filling) (path : Path) → (bits_at (reverse (entries f)) path ≡ None → ⊥) → bits_at (next ctx f) path ≡ bits_at (next other f) path

-- They are the same maps where they agreed at all other paths.
abbrev pub Repaired : Type 0
Repaired = (ctx other : Entries) (f : Filling) → ((path : Path) → bits_at (reverse (entries f)) path ≡ None → bits_at ctx path ≡ bits_at other path) →
    (path : Path) → bits_at (next ctx f) path ≡ bits_at (next other f) path
