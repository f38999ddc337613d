-- A pass keeps the earlier of two faults: a cause stands behind either.
use Rattle.std.proofs.Common.{◌≡◌, ℕ, ◌<◌, ◌+◌, ◌⊎◌, inl, inr, Bool, true, false, cond, arith, subst, sym, refl}
use Rattle.std.specs.Prelude.{Some, None, Option}
use Rattle.std.proofs.lemmas.Bool.{cases_order}
use Rattle.sem_profile.specs.declared.fault.ProfileFault.{ProfileFault}
use Rattle.sem_profile.specs.Precedence.{earlier, comes_before, Judged}

which-by : (f g h : ProfileFault) (b : Bool) → cond b (Some g) (Some f) ≡ Some h → (Some f ≡ Some h) ⊎ (Some g ≡ Some h)
which-by f g h true e = inr e
which-by f g h false e = inl e

none-by : (f g : ProfileFault) (b : Bool) → cond b (Some g) (Some f) ≡ None → ⊥
none-by f g true e = let wrong : Some g ≡ None = e in absurd cc
none-by f g false e = let wrong : Some f ≡ None = e in absurd cc

pub which : (a b : Option ProfileFault) (h : ProfileFault) → earlier a b ≡ Some h → (a ≡ Some h) ⊎ (b ≡ Some h)
which None b h e = inr e
which (Some f) None h e = inl e
which (Some f) (Some g) h e = which-by f g h (comes_before g f) e

pub neither : (a b : Option ProfileFault) → earlier a b ≡ None → (a ≡ None) × (b ≡ None)
neither None b e = (refl, e)
neither (Some f) None e = let wrong : Some f ≡ None = e in absurd cc
neither (Some f) (Some g) e = absurd (none-by f g (comes_before g f) e)

-- what two judges found
pub both-judged : {P Q : Type 0} {C : ProfileFault → Type 0} {old new : Option ProfileFault} → Judged P C old → Judged Q C new → Judged (P × Q) C (earlier old new)
both-judged {C = C} {old = old} {new = new} before next = record {
  fine = λ e. let n = neither old new e in (before.fine n.0, next.fine n.1);
  cause = λ f e. elim (which old new f e) as (λ _. C f) [ inl o ↦ before.cause f o | inr o ↦ next.cause f o ];
}

below-next : (P : ℕ → Type 0) (i : ℕ) → ((k : ℕ) → k < i → P k) → P i → (k : ℕ) → k < i + 1 → P k
below-next P i below here k lt =
    elim (cases_order k i) as (λ _. P k) [
      | inl e ↦ subst P (sym e) here
      | inr o ↦ elim o as (λ _. P k) [ inl less ↦ below k less | inr more ↦ absurd (omega arith) ]
    ]

-- one more place is judged
pub judged-next : (P : ℕ → Type 0) (C : ProfileFault → Type 0) (i : ℕ) {old new : Option ProfileFault} → Judged ((k : ℕ) → k < i → P k) C old → Judged (P i) C new
    → Judged ((k : ℕ) → k < i + 1 → P k) C (earlier old new)
judged-next P C i before next =
    let both = both-judged before next in
    record { fine = λ e. let n = both.fine e in below-next P i n.0 n.1; cause = both.cause }
