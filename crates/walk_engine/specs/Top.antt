-- Where a walk fills the top of an accepted profile, and what its bounds say.
use Rattle.std.specs.Prelude.{◌≡◌, ℕ, ◌+◌, ◌/◌, [], Some, slice_get}
use Rattle.sem_context.specs.Entries.{Entries}
use Rattle.cert_accepted.specs.Accepted.{Accepting}
use Rattle.cert_accepted.specs.declared.frame.AcceptedFrame.{AcceptedFrame}
use Rattle.sem_profile.specs.declared.profile.MethodSizes.{MethodSizes}

-- the place is that of the top, which has no arguments and stands at the empty path
pub record IsTop (a : Accepting) (ctx : Entries) (place : AcceptedFrame) : Type 0 where
  pub accepted_is : place.accepted.now ≡ a
  pub context_is : place.frame.context.now ≡ ctx
  pub method_is : place.frame.method ≡ a.profile.top
  pub arguments_are : place.frame.arguments.now ≡ []
  pub path_is : place.frame.path.now ≡ []

-- the octets that the packed bits of the top fill at most, by their greatest count, and one more
abbrev pub IsMostOctets : Accepting → ℕ → Type 0
IsMostOctets a n = (s : MethodSizes) → slice_get a.profile.sizes a.profile.top ≡ Some s → n ≡ s.whole.compressed.most / 8 + 1
