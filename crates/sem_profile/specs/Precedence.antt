-- Which of several faults is answered, and what an answer says.
use Rattle.std.specs.Prelude.{◌≡◌, Bool, List, fold, Option, Some, None, if◌then◌else◌, nat_lt, nat_eq}
use Rattle.sem_profile.specs.declared.fault.ProfileFault.{ProfileFault}
use Rattle.sem_profile.specs.declared.fault.ResolveError.{ResolveError}
use Rattle.sem_profile.specs.declared.fault.ResolveError.TheVariants as errors
use Rattle.sem_profile.specs.Faults.{number_of}

-- it starts first; of equal starts its number is less
abbrev pub comes_before : ProfileFault → ProfileFault → Bool
comes_before f g = if nat_eq f.at.from g.at.from then nat_lt (number_of f.kind) (number_of g.kind) else nat_lt f.at.from g.at.from

-- of two faults the one that comes first, or the first given
abbrev pub earlier : Option ProfileFault → Option ProfileFault → Option ProfileFault
earlier (Some f) (Some g) = if comes_before g f then Some g else Some f
earlier (Some f) None = Some f
earlier None o = o

-- the earliest fault of the list's elements
abbrev pub earliest : {X : Type 0} → (X → Option ProfileFault) → List X → Option ProfileFault
earliest f xs = fold (λ found x. earlier found (f x)) None xs

-- where no fault is answered this is right, and what is answered has its cause
pub record Judged (right : Type 0) (Causes : ProfileFault → Type 0) (found : Option ProfileFault) : Type 0 where
  pub fine : found ≡ None → right
  pub cause : (f : ProfileFault) → found ≡ Some f → Causes f

-- what an error says: a fault has its cause, out of memory claims nothing
abbrev pub Blames : (ProfileFault → Type 0) → ResolveError → Type 0
Blames Causes (errors.Fault f) = Causes f
Blames Causes errors.OutOfMemory = Unit {0}
