-- What library methods give, over arguments that may lack a value.
use Rattle.std.proofs.Common.{◌≡◌, refl, sym, ◌∙◌, subst, Bool, List, []}
use Rattle.std.specs.Prelude.{Option, Some, None, ℤ, IsSomeAnd}
use Rattle.std.proofs.lemmas.Option.{same_Some}
use Rattle.sem_library.specs.Methods.{IsOnly, Lib, Spells, LsbHolds, CrcHolds, uncompressed_value, lsb, crc}
use Rattle.walk_steps.specs.Methods.{SpelledBy, LsbBy, SummedBy}

-- the one that there is, by a fact that says the same
pub only_same : (P Q : List Bool → Type 0) (o : Option (List Bool)) → ((x : List Bool) → P x → Q x) → ((x : List Bool) → Q x → P x) → IsOnly P o → IsOnly Q o
only_same P Q None to from none = λ x q. none x (from x q)
only_same P Q (Some x) to from only = (to x only.0, λ y q. only.1 y (from y q))

one : {o : Option ℤ} {p q : ℤ} → o ≡ Some p → o ≡ Some q → q ≡ p
one {o} {p} {q} e h = same_Some q p (sym h ∙ e)

pub only_spelled : (len number : Option ℤ) (p q : ℤ) (o : Option (List Bool)) → len ≡ Some p → number ≡ Some q → ((r : Option (List Bool)) → IsOnly (λ u. Lib (uncompressed_value p q) r u []) o) → IsOnly (SpelledBy len number) o
only_spelled len number p q o e e' only =
    only_same (λ u. Lib (uncompressed_value p q) None u []) (SpelledBy len number) o
    (λ u h. (p, q, e, e', h.0))
    (λ u h. (subst (λ z. Spells z q u) (one e h.2) (subst (λ z. Spells h.0 z u) (one e' h.3) h.4), refl))
    (only None)

-- a reference that is there
there : {A : Type 0} (ref : Option A) (P : A → Type 0) → IsSomeAnd ref P → (r : A) × (ref ≡ Some r) × P r
there None P h = absurd h
there (Some r) P h = (r, refl, h)

some_and : {A : Type 0} (ref : Option A) (P : A → Type 0) (r : A) → ref ≡ Some r → P r → IsSomeAnd ref P
some_and ref P r e p = subst (λ o. IsSomeAnd o P) (sym e) p

pub only_lsb : (k offset : Option ℤ) (p q : ℤ) (ref : Option (List Bool)) (c : List Bool) (o : Option (List Bool)) → k ≡ Some p → offset ≡ Some q → IsOnly (λ u. Lib (lsb p q) ref u c) o → IsOnly (LsbBy k offset ref c) o
only_lsb k offset p q ref c o e e' only =
    only_same (λ u. Lib (lsb p q) ref u c) (LsbBy k offset ref c) o
    (λ u h. let t = there ref (λ r. LsbHolds p q r u c) h in (p, q, t.0, e, e', t.1, t.2))
    (λ u h. some_and ref (λ r. LsbHolds p q r u c) h.2 h.5 (subst (λ z. LsbHolds z q h.2 u c) (one e h.3) (subst (λ z. LsbHolds h.0 z h.2 u c) (one e' h.4) h.6)))
    only

pub only_summed : (n polynomial initial len : Option ℤ) (p q r s : ℤ) (covered : List Bool) (o : Option (List Bool)) → n ≡ Some p → polynomial ≡ Some q → initial ≡ Some r → len ≡ Some s →
    ((ref : Option (List Bool)) → IsOnly (λ c. Lib (crc p q r covered s) ref [] c) o) → IsOnly (SummedBy n polynomial initial len covered) o
only_summed n polynomial initial len p q r s covered o ep eq er es only =
    only_same (λ c. Lib (crc p q r covered s) None [] c) (SummedBy n polynomial initial len covered) o
    (λ c h. (p, q, r, s, ep, eq, er, es, h.1))
    (λ c h. (
      refl,
      subst (λ z. CrcHolds z q r covered s c) (one ep h.4) (subst (λ z. CrcHolds h.0 z r covered s c) (one eq h.5)
          (subst (λ z. CrcHolds h.0 h.1 z covered s c) (one er h.6) (subst (λ z. CrcHolds h.0 h.1 h.2 covered z c) (one es h.7) h.8))),
    ))
    (only None)
