-- The top of a profile, and the methods that it reaches.
use Rattle.std.specs.Prelude.{◌≡◌, ℕ, ◌<◌, List, [], Some, length, slice_get}
use Rattle.sem_profile.specs.declared.profile.Method.{Method}
use Rattle.sem_profile.specs.Uses.{IsReached}

-- the top has no parameters
abbrev pub IsPlain : List Method → ℕ → Type 0
IsPlain methods top = (m : Method) → slice_get methods top ≡ Some m → m.parameters ≡ []

-- each method has a format
abbrev pub HaveFormats : List Method → Type 0
HaveFormats methods = (k : ℕ) (m : Method) → slice_get methods k ≡ Some m → 0 < length m.formats

-- the top has no parameters; each method that it reaches has a format, and no other method has one
pub record IsRooted (methods : List Method) (top : ℕ) : Type 0 where
  pub plain : IsPlain methods top
  pub reached : (k : ℕ) (m : Method) → slice_get methods k ≡ Some m → IsReached methods top k → 0 < length m.formats
  pub unreached : (k : ℕ) (m : Method) → slice_get methods k ≡ Some m → (IsReached methods top k → ⊥) → m.formats ≡ []
