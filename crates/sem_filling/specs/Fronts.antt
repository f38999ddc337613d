-- Fillings at the front of bits, and what it is to be determinate.
use Rattle.std.specs.Prelude.{◌≡◌, ℕ, ℤ, Bool, List, [], ◌++◌}
use Rattle.sem_profile.specs.declared.profile.Method.{Method}
use Rattle.sem_filling.specs.declared.filling.Filling.{Filling}
use Rattle.sem_filling.specs.Fillings.{packed}
use Rattle.sem_filling.specs.Entries.{Path}
use Rattle.sem_filling.specs.Fits.{Context, Fits}

-- the filling fits the method k under these arguments and at this path, and its packed bits are at the front of these bits
pub record InFrontsAt (methods : List Method) (k : ℕ) (ctx : Context) (args : List ℤ) (path : Path) (bits : List Bool) (f : Filling) : Type 0 where
  pub fits : Fits methods ctx k args path f
  pub rest : List Bool
  pub front : bits ≡ packed f ++ rest

-- The method k is determinate under these arguments and at this path: in no context are two fillings at the front of the same bits.
abbrev pub DetAt : List Method → ℕ → List ℤ → Path → Type 0
DetAt methods k args path =
    (ctx : Context) (bits : List Bool) (f g : Filling) → InFrontsAt methods k ctx args path bits f → InFrontsAt methods k ctx args path bits g → f ≡ g

-- ---- the top method, which has no arguments, at the empty path

abbrev pub FitsTop : List Method → ℕ → Context → Filling → Type 0
FitsTop methods top ctx f = Fits methods ctx top [] [] f

abbrev pub InFronts : List Method → ℕ → Context → List Bool → Filling → Type 0
InFronts methods top ctx bits f = InFrontsAt methods top ctx [] [] bits f

-- determinate: in no context are two fillings at the front of the same bits
abbrev pub Det : List Method → ℕ → Type 0
Det methods top = DetAt methods top [] []
