-- Which uses of a filling don't serve in a context, and what is told of each (docs/DEFINITIONS.md, Losses).
use Rattle.std.specs.Prelude.{◌≡◌, ℕ, ◌<◌, List, [], ◌∷◌, Some, slice_get, string_bytes, ℤ}
use Rattle.sem_profile.specs.declared.profile.Method.{Method}
use Rattle.sem_filling.specs.declared.filling.Filling.{Filling}
use Rattle.sem_filling.specs.Entries.{Path}
use Rattle.sem_filling.specs.Fits.{Context, reference_of}
use Rattle.sem_elsewhere.specs.Uses.{Use, Serves}
use Rattle.sem_elsewhere.specs.Listed.{IsAmong, UsesAre}
use Rattle.walk_loss.specs.declared.unserved.Unserved.{Unserved}
use Rattle.walk_loss.specs.Uses.{method}

-- what is told of a use: where it stands, its method, what the context has for it, and what it needs
pub record IsTold (ctx : Context) (u : Use) (x : Unserved) : Type 0 where
  pub path_is : string_bytes x.path ≡ u.path
  pub method_is : method x.method ≡ u.method
  pub reference_is : x.reference ≡ reference_of u.part ctx u.path u.initial
  pub needed_is : x.needed ≡ u.uncompressed

-- Of these uses, those that don't serve in the context are told, in their order.
pub data AreUnserved (ctx : Context) : List Use → List Unserved → Type 0 where
  none_used : AreUnserved ctx [] []
  it_serves : {u : Use} {us : List Use} {xs : List Unserved} → Serves ctx u → AreUnserved ctx us xs → AreUnserved ctx (u ∷ us) xs
  it_fails : {u : Use} {us : List Use} {x : Unserved} {xs : List Unserved} → (Serves ctx u → ⊥) → IsTold ctx u x → AreUnserved ctx us xs → AreUnserved ctx (u ∷ us) (x ∷ xs)

-- of the uses of a filling those are told that don't serve
pub record HasUnserved (methods : List Method) (ctx : Context) (k : ℕ) (args : List ℤ) (path : Path) (f : Filling) (xs : List Unserved) : Type 0 where
  pub uses : List Use
  pub uses_are : UsesAre methods k args path f uses
  pub unserved : AreUnserved ctx uses xs

-- each of these serves in the context
abbrev pub TheyServe : Context → List Use → Type 0
TheyServe ctx us = (u : Use) → IsAmong u us → Serves ctx u

-- The first of these uses that doesn't serve is told.
pub record IsFirstUnserved (ctx : Context) (us : List Use) (x : Unserved) : Type 0 where
  pub place : ℕ
  pub one : Use
  pub at : slice_get us place ≡ Some one
  pub before : (i : ℕ) (u : Use) → i < place → slice_get us i ≡ Some u → Serves ctx u
  pub fails : Serves ctx one → ⊥
  pub told : IsTold ctx one x
