-- What trying a packet says of its octets.
use Rattle.std.proofs.Common.{◌≡◌, ◌∙◌, refl, sym, ap, subst, ℕ, ◌+◌, ◌*◌, ◌/◌, ◌<◌, ◌≤◌, ◌^◌, Bool, false, List, [], ◌∷◌, ◌++◌, length, replicate, take, drop, arith, length-append, append_assoc, ◌⊎◌, inl, inr}
use Rattle.std.proofs.lemmas.Bool.{cases_lt}
use Rattle.hex.specs.Hex.{IsBytes}
use Rattle.sem_bits.specs.Number.{enc}
use Rattle.sem_bits.specs.Octets.{bits_of, Holds}
use Rattle.sem_bits.proofs.OctetsHeld.{split_same}
use Rattle.std.proofs.lemmas.List.{take-append-drop}
use Rattle.sem_bits.specs.Cursor.{Place, Advances}
use Rattle.sem_bits.proofs.Octets.{length-bits_of, bits_of-push}
use Rattle.sem_context.specs.Entries.{Entries, overridden}
use Rattle.sem_filling.specs.declared.filling.Filling.{Filling}
use Rattle.sem_filling.specs.declared.filling.Item.{Item}
use Rattle.sem_filling.specs.Fillings.{packed, item}
use Rattle.sem_filling.specs.Entries.{entries}
use Rattle.cert_accepted.specs.Accepted.{Accepting}
use Rattle.walk_engine.specs.Reading.{Fitting, Fronts, IsTruncated}
use Rattle.walk_engine.specs.Reading as reading
use Rattle.walk_line.specs.Steps.{IsFresh, IsTaken, IsAwaited, HasBadPadding}
use Rattle.walk_line.proofs.HearingOctets.{bits_of-append, count_held, front_of}

pub last_of : {A : Type 0} (xs : List A) → 0 < length xs → (before : List A) × (last : A) × (xs ≡ before ++ last ∷ [])
last_of [] h = absurd (omega arith)
last_of (x ∷ []) h = ([], x, refl)
last_of (x ∷ (y ∷ xs)) h = let r = last_of (y ∷ xs) (omega arith) in (x ∷ r.0, r.1, (λ i. x ∷ r.2 i))

-- before the last octet no filling was at the front, so its packed bits end in the last octet
few_left : (p : Accepting) (ctx : Entries) (octets : List ℕ) (f : Filling) (left : List Bool) → IsFresh p ctx octets → Fitting p ctx f → bits_of octets ≡ packed f ++ left → length left < 8
few_left p ctx octets f left fresh fits_f e = by (cases_lt (length left) 8)
  where
    all : 8 * length octets ≡ length (packed f) + length left
    all = sym (length-bits_of octets) ∙ ap length e ∙ length-append (packed f) left

    by : (length left < 8) ⊎ (8 ≤ length left) → length left < 8
    by (inl few) = few
    by (inr many) =
        let filled : 8 * length octets ≡ length (packed f) + length left = all in
        let some : 0 < length octets = omega arith in
        let r = last_of octets some in
        let count : length octets ≡ length r.0 + 1 = ap length r.2 ∙ length-append r.0 (r.1 ∷ []) in
        let before : length (bits_of r.0) ≡ 8 * length r.0 = length-bits_of r.0 in
        let fronts : packed f ++ left ≡ bits_of r.0 ++ enc 8 r.1 = sym e ∙ ap bits_of r.2 ∙ bits_of-push r.0 r.1 in
        let short : length (packed f) ≤ length (bits_of r.0) = omega arith in
        let front = front_of (packed f) (bits_of r.0) left (enc 8 r.1) short fronts in
        absurd (fresh r.0 r.1 r.2 f (record { fits = fits_f; rest = front.0; front = front.1 }))

-- the bits after the packed bits are zero
pub taken : (p : Accepting) (old new : Entries) (octets : List ℕ) (bits : List Bool) (f : Filling) (from to : Place) (es : Entries) (it : Item) → IsBytes octets → bits ≡ bits_of octets → IsFresh p old octets →
    Fitting p old f → from ≡ record { used = []; left = bits } → Advances from to (packed f) → to.left ≡ replicate (length to.left) false → es ≡ entries f → new ≡ overridden old es → it ≡ item f → IsTaken p old new octets it
taken p old new octets bits f from to es it bytes bits_are fresh fits_f begins at zero entries_are next_is item_is =
    let front : bits_of octets ≡ packed f ++ to.left = sym bits_are ∙ ap (λ c. c.left) (sym begins) ∙ at.left in
    record {
      filling = f;
      fits = fits_f;
      holds = record { octets_fit = bytes; padding = length to.left; few = few_left p old octets f to.left fresh fits_f front; filled = front ∙ ap (λ b. packed f ++ b) zero };
      next_is = next_is ∙ ap (overridden old) entries_are;
      item_is = item_is;
    }

pub badly_filled : (p : Accepting) (old : Entries) (octets : List ℕ) (bits : List Bool) (f : Filling) (from to : Place) → bits ≡ bits_of octets → IsFresh p old octets → Fitting p old f →
    from ≡ record { used = []; left = bits } → Advances from to (packed f) → (to.left ≡ replicate (length to.left) false → ⊥) → HasBadPadding p old octets
badly_filled p old octets bits f from to bits_are fresh fits_f begins at not_zero =
    let front : bits_of octets ≡ packed f ++ to.left = sym bits_are ∙ ap (λ c. c.left) (sym begins) ∙ at.left in
    record { filling = f; padding = to.left; fits = fits_f; bits_are = front; few = few_left p old octets f to.left fresh fits_f front; not_zero = not_zero }

-- ---- a packet that is told at once

-- so many octets hold the packed bits, which are at the front of them all
pub count_within : (octets : List ℕ) (all bits : List Bool) (from to : Place) (count : ℕ) → Holds octets all → from ≡ record { used = []; left = all } → Advances from to bits → count ≡ length bits → (count + 7) / 8 ≤ length octets
count_within octets all bits from to count held begins at is =
    let front : all ≡ bits ++ to.left = ap (λ c. c.left) (sym begins) ∙ at.left in
    let bits_count : length all ≡ length bits + length to.left = ap length front ∙ length-append bits to.left in
    let octets_count : 8 * length octets ≡ length all + held.padding = count_held octets all held in
    omega (arith, is, bits_count, octets_count)

pub told_at_once : (p : Accepting) (old new : Entries) (octets : List ℕ) (n : ℕ) (all own : List Bool) (f : Filling) (from to : Place) (es : Entries) (it : Item) → Holds octets all → Fitting p old f →
    from ≡ record { used = []; left = all } → Advances from to (packed f) → Holds (take n octets) own → length own ≡ length (packed f) → es ≡ entries f → new ≡ overridden old es → it ≡ item f → IsTaken p old new (take n octets) it
told_at_once p old new octets n all own f from to es it held fits_f begins at own_held count entries_are next_is item_is = record {
  filling = f;
  fits = fits_f;
  holds = subst (Holds (take n octets)) same own_held;
  next_is = next_is ∙ ap (overridden old) entries_are;
  item_is = item_is;
}
  where
    front : all ≡ packed f ++ to.left
    front = ap (λ c. c.left) (sym begins) ∙ at.left

    parted : bits_of octets ≡ own ++ (replicate own_held.padding false ++ bits_of (drop n octets))
    parted =
        ap bits_of (sym (take-append-drop n octets)) ∙ bits_of-append (take n octets) (drop n octets) ∙ ap (λ b. b ++ bits_of (drop n octets)) own_held.filled
        ∙ append_assoc own (replicate own_held.padding false) (bits_of (drop n octets))

    whole : bits_of octets ≡ packed f ++ (to.left ++ replicate held.padding false)
    whole = held.filled ∙ ap (λ b. b ++ replicate held.padding false) front ∙ append_assoc (packed f) to.left (replicate held.padding false)

    same : own ≡ packed f
    same = (split_same own (packed f) (replicate own_held.padding false ++ bits_of (drop n octets)) (to.left ++ replicate held.padding false) count (sym parted ∙ whole)).0

pub awaited : (p : Accepting) (old new : Entries) (octets : List ℕ) (bits left : List Bool) → bits ≡ bits_of octets → left ≡ bits → IsTruncated p old left → new ≡ old → IsAwaited p old new octets
awaited p old new octets bits left bits_are begins blames same =
    let e : left ≡ bits_of octets = begins ∙ bits_are in
    let count : length left ≡ 8 * length octets = ap length e ∙ length-bits_of octets in
    let few : length left < 2 ^ 23 = blames.few in
    record { none = λ f h. blames.none f (subst (λ b. Fronts p old b f) (sym e) h); few = omega arith; same = same }

pub refused : (p : Accepting) (old : Entries) (octets : List ℕ) (bits left : List Bool) → bits ≡ bits_of octets → left ≡ bits → reading.IsRefused p old left →
    (more : List Bool) (f : Filling) → Fronts p old (bits_of octets ++ more) f → ⊥
refused p old octets bits left bits_are begins blames more f h =
    blames more f (subst (λ b. Fronts p old (b ++ more) f) (sym (begins ∙ bits_are)) h)
