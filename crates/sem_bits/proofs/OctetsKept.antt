use Rattle.std.proofs.Common.{◌≡◌, ℕ, zero, suc, ◌+◌, ◌*◌, ◌-◌, ◌/◌, ◌%◌, ◌^◌, ◌<◌, ◌≤◌, ◌==◌, Bool, true, false, List, [], ◌∷◌, ◌++◌, length, take, drop, replicate, get_or, refl, ap, sym, ◌∙◌, subst, arith, append_assoc, length-append}
use Rattle.std.proofs.lemmas.List.{take_at, drop_at, append-nil, take_all, take-append-drop, length-take-le, take-take, drop-take, drop-drop, get_or-take, get_or-drop, get_or_append_left, replicate-append-replicate}
use Rattle.std.specs.Bool.{Decides}
use Rattle.sem_bits.proofs.OctetsHeld.{octets_same}
use Rattle.std.proofs.lemmas.Option.{slice_get-get_or, slice_get_past}
use Rattle.std.specs.Prelude.{slice_get, slice_range, Some, None}
use Rattle.sem_bits.specs.Number.{num, enc}
use Rattle.sem_bits.proofs.Numbers.{length-enc, num-enc}
use Rattle.sem_bits.proofs.Words.{enc_bit}
use Rattle.sem_bits.proofs.NumberWindows.{count_held, part_padded}
use Rattle.hex.specs.Hex.{IsBytes}
use Rattle.sem_bits.specs.Octets.{bits_of, Holds, Kept}
use Rattle.sem_bits.proofs.Octets.{length-bits_of}

-- octets that hold bits are kept with their count
pub view_held : (octets : List ℕ) (bits : List Bool) (count : ℕ) → Holds octets bits → length bits ≡ count → take count (bits_of octets) ≡ bits
view_held octets bits count h n = ap (take count) h.filled ∙ take_at bits (replicate h.padding false) count n

pub kept_held : (octets : List ℕ) (bits : List Bool) (count : ℕ) → Holds octets bits → length bits ≡ count → count < 2 ^ 31 → Kept octets count
kept_held octets bits count h n l =
    let e : bits ≡ take count (bits_of octets) = sym (view_held octets bits count h n) in
    let P : List Bool → Type 0 = λ b. Holds octets b in
    record { limit = l; counted = ap length (sym e) ∙ n; held = subst P e h }

pub kept_length : (octets : List ℕ) (count : ℕ) → Kept octets count → length (take count (bits_of octets)) ≡ count
kept_length octets count k = k.counted

pub kept_limit : (octets : List ℕ) (count : ℕ) → Kept octets count → count < 2 ^ 31
kept_limit octets count k = k.limit

pub kept_holds : (octets : List ℕ) (count : ℕ) → Kept octets count → Holds octets (take count (bits_of octets))
kept_holds octets count k = k.held

pub kept_count : (octets : List ℕ) (count : ℕ) → Kept octets count → length octets ≡ (count + 7) / 8
kept_count octets count k =
    let c = count_held octets (take count (bits_of octets)) k.held in
    let few = k.held.padding in
    let less = k.held.few in
    omega (arith, c, k.counted, less)

-- what `join` says, at bits that are kept
pub joined : (old other with new : List ℕ) (ca cb used end : ℕ) → Kept old ca → Kept other cb → with ≡ other → used ≡ ca % 8 → end ≡ (ca + cb + 7) / 8
    → ((a b : List Bool) → Holds old a → Holds with b → used ≡ length a % 8 → end ≡ (length a + length b + 7) / 8 → Holds new (a ++ b))
    → Holds new (take ca (bits_of old) ++ take cb (bits_of other))
joined old other with new ca cb used end h k f u n j =
    let Q : List ℕ → Type 0 = λ x. Holds x (take cb (bits_of other)) in
    j (take ca (bits_of old)) (take cb (bits_of other)) h.held (subst Q (sym f) k.held) (omega (arith, h.counted, u)) (omega (arith, h.counted, k.counted, n))

pub joined_kept : (new : List ℕ) (a b : List Bool) (ca cb : ℕ) → length a ≡ ca → length b ≡ cb → Holds new (a ++ b) → ca + cb < 2 ^ 31 → Kept new (ca + cb)
joined_kept new a b ca cb l m h n = kept_held new (a ++ b) (ca + cb) h (omega (arith, length-append a b)) n

-- a bit of an octet
octet_bit : (o r : ℕ) (more : List Bool) → r ≤ 7 → get_or (enc 8 o ++ more) r false ≡ (o / 2 ^ (7 - r) % 2 == 1)
octet_bit o r more h = get_or_append_left (enc 8 o) more false r (omega (arith, length-enc 8 o)) ∙ enc_bit 8 o r (omega arith)

read_bit : (os : List ℕ) (q r : ℕ) → r ≤ 7 → q < length os → get_or (bits_of os) (8 * q + r) false ≡ (get_or os q 0 / 2 ^ (7 - r) % 2 == 1)
read_bit [] q r h l = absurd (omega arith)
read_bit (o ∷ os) zero r h l =
    let n : 8 * 0 + r ≡ r = omega arith in
    ap (λ k. get_or (enc 8 o ++ bits_of os) k false) n ∙ octet_bit o r (bits_of os) h
read_bit (o ∷ os) (suc q) r h l =
    let n : 8 * suc q + r ≡ 8 + (8 * q + r) = omega arith in
    let d : drop 8 (enc 8 o ++ bits_of os) ≡ bits_of os = drop_at (enc 8 o) (bits_of os) 8 (length-enc 8 o) in
    ap (λ k. get_or (enc 8 o ++ bits_of os) k false) n ∙ sym (get_or-drop 8 (enc 8 o ++ bits_of os) (8 * q + r) false) ∙ ap (λ l. get_or l (8 * q + r) false) d ∙ read_bit os q r h (omega arith)

pub get_in : (octets : List ℕ) (count place : ℕ) → Kept octets count → place < count → Some (get_or octets (place / 8) 0 / 2 ^ (7 - place % 8) % 2 == 1) ≡ slice_get (take count (bits_of octets)) place
get_in octets count place k h =
    let n : 8 * (place / 8) + place % 8 ≡ place = omega arith in
    let c = kept_count octets count k in
    let r = read_bit octets (place / 8) (place % 8) (omega arith) (omega (arith, c)) in
    let t = get_or-take count (bits_of octets) place false h in
    ap Some (sym r ∙ ap (λ m. get_or (bits_of octets) m false) n ∙ sym t) ∙ sym (slice_get-get_or (take count (bits_of octets)) place false (omega (arith, k.counted)))

pub get_past : (octets : List ℕ) (count place : ℕ) → Kept octets count → count ≤ place → None ≡ slice_get (take count (bits_of octets)) place
get_past octets count place k h = sym (slice_get_past (take count (bits_of octets)) place (omega (arith, k.counted)))

-- an octet of the bits
read_octet : (os : List ℕ) (q : ℕ) → q < length os → take 8 (drop (8 * q) (bits_of os)) ≡ enc 8 (get_or os q 0)
read_octet [] q h = absurd (omega arith)
read_octet (o ∷ os) zero h = take_at (enc 8 o) (bits_of os) 8 (length-enc 8 o)
read_octet (o ∷ os) (suc q) h =
    let n : 8 * suc q ≡ 8 + 8 * q = omega arith in
    ap (λ k. take 8 (drop k (bits_of (o ∷ os)))) n ∙ ap (take 8) (sym (drop-drop (8 * q) 8 (bits_of (o ∷ os))) ∙ ap (drop (8 * q)) (drop_at (enc 8 o) (bits_of os) 8 (length-enc 8 o))) ∙ read_octet os q (omega arith)

pub octet_in : (octets : List ℕ) (count place : ℕ) → Kept octets count → place < length octets → get_or octets place 0 ≡ num (take 8 (drop (8 * place) (take count (bits_of octets) ++ replicate 8 false)))
octet_in octets count place k h =
    let pad : ℕ = k.held.padding in
    let few : pad < 8 = k.held.few in
    let view : List Bool = take count (bits_of octets) in
    let m : 8 ≡ pad + (8 - pad) = omega arith in
    let z : view ++ replicate 8 false ≡ bits_of octets ++ replicate (8 - pad) false =
    ap (λ n. view ++ replicate n false) m ∙ ap (λ l. view ++ l) (sym (replicate-append-replicate pad (8 - pad) false)) ∙ sym (append_assoc view _ _) ∙ ap (λ l. l ++ replicate (8 - pad) false) (sym k.held.filled) in
    let e : take 8 (drop (8 * place) (view ++ replicate 8 false)) ≡ enc 8 (get_or octets place 0) =
    ap (λ l. take 8 (drop (8 * place) l)) z ∙ part_padded (bits_of octets) (replicate (8 - pad) false) (8 * place) 8 (omega (arith, length-bits_of octets)) ∙ read_octet octets place h in
    sym (ap num e ∙ num-enc 8 (get_or octets place 0) (k.held.octets_fit place))

-- a slice of what is seen is one of the octets' bits
pub range_view : (all : List Bool) (count start stop : ℕ) → start ≤ stop → stop ≤ count → slice_range all start stop ≡ slice_range (take count all) start stop
range_view all count start stop h k =
    let n : start + (stop - start) ≡ stop = omega arith in
    sym (drop-take start (stop - start) all) ∙ ap (λ m. drop start (take m all)) n ∙ ap (drop start) (sym (take-take stop count all k)) ∙ ap (λ m. drop start (take m (take count all))) (sym n) ∙ drop-take start (stop - start) (take count all)

-- equal octets hold equal bits, of one count
pub same_bits : (o p : List ℕ) (n m : ℕ) (a b : List Bool) (r : Bool) → Kept o n → Kept p m → n ≡ m → take n (bits_of o) ≡ a → take m (bits_of p) ≡ b → Decides r (o ≡ p) → Decides r (a ≡ b)
same_bits o p n m a b r h k e f g d = (
  (λ t. sym f ∙ (λ i. take (e i) (bits_of (d.0 t i))) ∙ g),
  (λ q. let P : List Bool → Type 0 = λ x. Holds p x in d.1 (octets_same o p (take n (bits_of o)) h.held (subst P (g ∙ sym q ∙ sym f) k.held))),
)

pub one_answer : (r s : Bool) (P : Type 0) → Decides r P → Decides s P → r ≡ s
one_answer true s P d e = sym (e.1 (d.0 refl))
one_answer false false P d e = refl
one_answer false true P d e = d.1 (e.0 refl)

-- the last octet's bits past the count
tail_bits : (os : List ℕ) (q over : ℕ) → length os ≡ q + 1 → over ≤ 8 → drop (8 * q + over) (bits_of os) ≡ drop over (enc 8 (get_or os q 0))
tail_bits [] q over h l = absurd (omega arith)
tail_bits (o ∷ []) zero over h l =
    let n : 8 * 0 + over ≡ over = omega arith in
    λ i. drop (n i) (append-nil (enc 8 o) i)
tail_bits (o ∷ p ∷ os) zero over h l = absurd (omega arith)
tail_bits (o ∷ os) (suc q) over h l =
    let n : 8 * suc q + over ≡ 8 + (8 * q + over) = omega arith in
    ap (λ k. drop k (bits_of (o ∷ os))) n ∙ sym (drop-drop (8 * q + over) 8 (bits_of (o ∷ os))) ∙ ap (drop (8 * q + over)) (drop_at (enc 8 o) (bits_of os) 8 (length-enc 8 o)) ∙ tail_bits os q over (omega arith) l

pub ends_even : (octets : List ℕ) (count : ℕ) → IsBytes octets → length octets ≡ (count + 7) / 8 → count % 8 ≡ 0 → Holds octets (take count (bits_of octets))
ends_even octets count fit n e =
    let all : take count (bits_of octets) ≡ bits_of octets = take_all count (bits_of octets) (omega (arith, length-bits_of octets)) in
    record { octets_fit = fit; padding = 0; few = omega arith; filled = sym all ∙ sym (append-nil (take count (bits_of octets))) }

pub ends_over : (octets : List ℕ) (count f : ℕ) (r : Bool) → IsBytes octets → length octets ≡ (count + 7) / 8 → 0 < count % 8 → f < 256 → enc 8 f ≡ take (count % 8) (enc 8 (get_or octets (count / 8) 0)) ++ replicate (8 - count % 8) false
    → Decides r (f ≡ get_or octets (count / 8) 0) → Decides r (Holds octets (take count (bits_of octets)))
ends_over octets count f r fit n lo small e d =
    let o : ℕ = get_or octets (count / 8) 0 in
    let over : ℕ = count % 8 in
    let m : 8 * (count / 8) + over ≡ count = omega arith in
    let t : drop count (bits_of octets) ≡ drop over (enc 8 o) = ap (λ k. drop k (bits_of octets)) (sym m) ∙ tail_bits octets (count / 8) over (omega arith) (omega arith) in
    let many : length (take count (bits_of octets)) ≡ count = length-take-le count (bits_of octets) (omega (arith, length-bits_of octets)) in (
      (λ y.
          let same : take over (enc 8 o) ++ replicate (8 - over) false ≡ enc 8 o = sym e ∙ ap (enc 8) (d.0 y) in
          let front : length (take over (enc 8 o)) ≡ over = length-take-le over (enc 8 o) (omega (arith, length-enc 8 o)) in
          let zeros : drop over (enc 8 o) ≡ replicate (8 - over) false = ap (drop over) (sym same) ∙ drop_at (take over (enc 8 o)) (replicate (8 - over) false) over front in
          record { octets_fit = fit; padding = 8 - over; few = omega arith; filled = sym (take-append-drop count (bits_of octets)) ∙ ap (λ x. take count (bits_of octets) ++ x) (t ∙ zeros) }),
      (λ h.
          let c = count_held octets (take count (bits_of octets)) h in
          let pad : h.padding ≡ 8 - over = omega (arith, many, c, h.few) in
          let zeros : drop count (bits_of octets) ≡ replicate (8 - over) false = ap (drop count) h.filled ∙ drop_at (take count (bits_of octets)) (replicate h.padding false) count many ∙ ap (λ k. replicate k false) pad in
          let same : enc 8 f ≡ enc 8 o = e ∙ ap (λ x. take over (enc 8 o) ++ x) (sym zeros ∙ t) ∙ take-append-drop over (enc 8 o) in
          d.1 (sym (num-enc 8 f small) ∙ ap num same ∙ num-enc 8 o (fit (count / 8)))),
    )

-- octets that hold no bits of a count
pub lacks_count : (octets : List ℕ) (count : ℕ) → (length octets ≡ (count + 7) / 8 → ⊥) → (b : List Bool) → length b ≡ count → count < 2 ^ 31 → Holds octets b → ⊥
lacks_count octets count differs b n l h =
    let c = count_held octets b h in
    let few = h.few in
    differs (omega arith)

pub lacks_zeros : (octets : List ℕ) (count : ℕ) (r : Bool) → r ≡ false → Decides r (Holds octets (take count (bits_of octets))) → (b : List Bool) → length b ≡ count → count < 2 ^ 31 → Holds octets b → ⊥
lacks_zeros octets count r f d b n l h =
    let P : List Bool → Type 0 = λ x. Holds octets x in
    let t : r ≡ true = d.1 (subst P (sym (view_held octets b count h n)) h) in
    absurd (cc (sym f ∙ t))

pub cut_kept : (octets now : List ℕ) (count : ℕ) → now ≡ octets → count < 2 ^ 31 → length octets ≡ (count + 7) / 8 → Holds octets (take count (bits_of octets)) → Kept now count
cut_kept octets now count e l n h =
    let many : length (take count (bits_of octets)) ≡ count = length-take-le count (bits_of octets) (omega (arith, length-bits_of octets)) in
    let P : List ℕ → Type 0 = λ x. Kept x count in
    subst P (sym e) (record { limit = l; counted = many; held = h })

pub cut_seen : (octets now : List ℕ) (count : ℕ) → now ≡ octets → length octets ≡ (count + 7) / 8 → Holds octets (take count (bits_of octets)) → (length (take count (bits_of now)) ≡ count) × Holds octets (take count (bits_of now))
cut_seen octets now count e n h =
    let many : length (take count (bits_of octets)) ≡ count = length-take-le count (bits_of octets) (omega (arith, length-bits_of octets)) in
    let P : List ℕ → Type 0 = λ x. (length (take count (bits_of x)) ≡ count) × Holds octets (take count (bits_of x)) in
    subst P (sym e) (many, h)

pub ruleset keeping = (kept_length, kept_limit, kept_holds)

pub ruleset reading = (kept_length, kept_limit, kept_count, get_in, get_past, octet_in)

pub ruleset cutting = (kept_length, kept_limit, range_view, kept_held, view_held)

pub ruleset pushing = (kept_length, kept_limit, kept_count, joined_kept)

pub ruleset numbers = (kept_length, kept_limit)

pub ruleset reading_in = (lacks_count, lacks_zeros)
