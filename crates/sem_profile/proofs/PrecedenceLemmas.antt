-- A pass keeps the earlier of two faults: a cause stands behind either.
use Rattle.std.proofs.Common.{◌≡◌, Bool, true, false, cond, refl, inl, inr, ◌⊎◌}
use Rattle.std.specs.Prelude.{Some, None, Option}
use Rattle.sem_profile.specs.declared.fault.ProfileFault.{ProfileFault}
use Rattle.sem_profile.specs.Precedence.{earlier, comes_before}

which_by : (f g h : ProfileFault) (b : Bool) → cond b (Some g) (Some f) ≡ Some h → (Some f ≡ Some h) ⊎ (Some g ≡ Some h)
which_by f g h true e = inr e
which_by f g h false e = inl e

none_by : (f g : ProfileFault) (b : Bool) → cond b (Some g) (Some f) ≡ None → ⊥
none_by f g true e = let wrong : Some g ≡ None = e in absurd cc
none_by f g false e = let wrong : Some f ≡ None = e in absurd cc

-- the earlier of two is one of them
pub which : (a b : Option ProfileFault) (h : ProfileFault) → earlier a b ≡ Some h → (a ≡ Some h) ⊎ (b ≡ Some h)
which None b h e = inr e
which (Some f) None h e = inl e
which (Some f) (Some g) h e = which_by f g h (comes_before g f) e

-- where there is no earlier one there is none
pub neither : (a b : Option ProfileFault) → earlier a b ≡ None → (a ≡ None) × (b ≡ None)
neither None b e = (refl, e)
neither (Some f) None e = let wrong : Some f ≡ None = e in absurd cc
neither (Some f) (Some g) e = absurd (none_by f g (comes_before g f) e)
