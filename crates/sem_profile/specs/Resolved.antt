-- What a resolved profile shows, and what each one keeps (docs/NOTATION.md).
use Rattle.std.specs.Prelude.{ℕ, ◌<◌, List, length}
use Rattle.sem_profile.specs.declared.profile.Method.{Method}
use Rattle.sem_profile.specs.declared.profile.MethodSizes.{MethodSizes}
use Rattle.sem_profile.specs.Methods as bounds
use Rattle.sem_profile.specs.Outcome as sizes
use Rattle.sem_profile.specs.declared.asked.AskedField.{AskedField}
use Rattle.sem_profile.specs.Alike.{AreAlike}
use Rattle.sem_profile.specs.Asked.{AreAsked}
use Rattle.sem_profile.specs.Limits.{IsWithinLimits}
use Rattle.sem_profile.specs.Named.{AreNamed, AreWords}
use Rattle.sem_profile.specs.Rooted.{IsRooted}
use Rattle.sem_profile.specs.WellFormed.{AreWellFormed}

-- what a resolved profile shows: its methods in the order of the text, where those that the top doesn't reach have no formats; the bounds of each; the place of the top; and
-- the top's asked fields in the order of CONTROL
pub record Resolved : Type 0 where
  pub methods : List Method
  pub sizes : List MethodSizes
  pub top : ℕ
  pub asked : List AskedField

-- what every value of the type keeps: callees can come first, the bounds are those of the methods, the top is one of them, and they are within the limits
pub record IsSound (p : Resolved) : Type 0 where
  pub order : List ℕ
  pub ordered : bounds.IsOrder p.methods order
  pub sized : sizes.AreSizes p.methods p.sizes
  pub within : p.top < length p.methods
  -- indices are in range, calls have as many arguments as the called method has parameters, and fields have what their formats need
  pub well_formed : AreWellFormed p.methods
  -- the formats of a method have its header and control fields at the same places
  pub alike : AreAlike p.methods
  -- each name stands once where it is looked up
  pub named : AreNamed p.methods
  -- and each is a letter, then letters, digits and underscores
  pub words : AreWords p.methods
  -- the top has no parameters, and the methods that it reaches are those with formats
  pub rooted : IsRooted p.methods p.top
  -- the asked fields are those of each format of the top, and no other method has any
  pub asking : AreAsked p.methods p.top p.asked
  -- no call chain, format or message is too large, by the methods as they are kept
  pub limits : IsWithinLimits p.methods p.top
