-- Fronts of lists, and octets that hold the packed bits of a filling.
use Rattle.std.proofs.Common.{◌≡◌, ◌∙◌, refl, sym, ap, subst, ℕ, ◌+◌, ◌*◌, ◌<◌, ◌≤◌, Bool, false, List, [], ◌∷◌, ◌++◌, length, replicate, arith, length-append, append_assoc}
use Rattle.std.proofs.lemmas.List.{length-replicate}
use Rattle.std.proofs.lemmas.List.Concat.{flat_map-append}
use Rattle.sem_bits.specs.Number.{enc}
use Rattle.sem_bits.specs.Octets.{bits_of, Holds}
use Rattle.sem_bits.proofs.Octets.{length-bits_of}
use Rattle.sem_bits.proofs.OctetsHeld.{split_same}
use Rattle.sem_filling.specs.declared.filling.Filling.{Filling}
use Rattle.sem_filling.specs.Fillings.{packed}
use Rattle.sem_filling.specs.Fits.{Context}
use Rattle.sem_filling.specs.Fronts.{FitsTop, InFronts, Det}
use Rattle.cert_accepted.specs.Accepted.{Accepting}

-- the shorter of two fronts of a list is at the front of the longer one
pub front_of : {A : Type 0} (a b x y : List A) → length a ≤ length b → a ++ x ≡ b ++ y → (z : List A) × (b ≡ a ++ z)
front_of [] b x y l e = (b, refl)
front_of (c ∷ a) [] x y l e = absurd (omega arith)
front_of (c ∷ a) (d ∷ b) x y l e =
    let more : a ++ x ≡ b ++ y = cc in
    let first : d ≡ c = cc in
    let rest = front_of a b x y (omega arith) more in
    (rest.0, (λ i. first i ∷ rest.1 i))

pub bits_of-append : (a b : List ℕ) → bits_of (a ++ b) ≡ bits_of a ++ bits_of b
bits_of-append a b = flat_map-append (λ o. enc 8 o) a b

pub count_held : (o : List ℕ) (b : List Bool) (h : Holds o b) → 8 * length o ≡ length b + h.padding
count_held o b h = sym (length-bits_of o) ∙ ap length h.filled ∙ length-append b (replicate h.padding false) ∙ ap (λ n. length b + n) (length-replicate h.padding false)

-- octets that hold the packed bits of a fitting filling have it at their front, whatever octets follow
pub front_held : (p : Accepting) (ctx : Context) (f : Filling) (octets more : List ℕ) → FitsTop p.profile.methods p.profile.top ctx f → Holds octets (packed f) → InFronts p.profile.methods p.profile.top ctx (bits_of (octets ++ more)) f
front_held p ctx f octets more fitting holds = record {
  fits = fitting;
  rest = replicate holds.padding false ++ bits_of more;
  front = bits_of-append octets more ∙ ap (λ b. b ++ bits_of more) holds.filled ∙ append_assoc (packed f) (replicate holds.padding false) (bits_of more);
}

-- one filling is packed at the front of octets, and in one list of octets
pub packets_once : (p : Accepting) → Det p.profile.methods p.profile.top → (ctx : Context) (f g : Filling) (a b x y : List ℕ) → FitsTop p.profile.methods p.profile.top ctx f → FitsTop p.profile.methods p.profile.top ctx g → Holds a (packed f) → Holds b (packed g)
    → a ++ x ≡ b ++ y → (f ≡ g) × (a ≡ b)
packets_once p d ctx f g a b x y ff fg ha hb e =
    let at_g : InFronts p.profile.methods p.profile.top ctx (bits_of (a ++ x)) g = subst (λ o. InFronts p.profile.methods p.profile.top ctx (bits_of o) g) (sym e) (front_held p ctx g b y fg hb) in
    let one : f ≡ g = d ctx (bits_of (a ++ x)) f g (front_held p ctx f a x ff ha) at_g in
    let n : length (packed f) ≡ length (packed g) = ap (λ h. length (packed h)) one in
    let count_a : 8 * length a ≡ length (packed f) + ha.padding = count_held a (packed f) ha in
    let count_b : 8 * length b ≡ length (packed g) + hb.padding = count_held b (packed g) hb in
    let few_a : ha.padding < 8 = ha.few in
    let few_b : hb.padding < 8 = hb.few in
    let count : length a ≡ length b = omega arith in
    (one, (split_same a b x y count e).0)
