use Rattle.std.proofs.Common.{◌≡◌, ℕ, zero, suc, ◌+◌, ◌*◌, ◌-◌, ◌/◌, ◌%◌, ◌^◌, ◌<◌, ◌≤◌, ◌==◌, Bool, false, List, [], ◌∷◌, ◌++◌, length, take, drop, replicate, get_or, refl, ap, sym, ◌∙◌, subst, arith, pow-add, append_assoc, length-append}
use Rattle.std.proofs.lemmas.List.{take_at, drop_at, append-nil, length-take, length-take-le, drop-take, take-append-drop, drop-drop, take-append-le, drop-append-le, length-drop, take-take, length-replicate, take-replicate, replicate-append-replicate, length_push}
use Rattle.std.proofs.Math.Seq.{take-add, take-append-add}
use Rattle.std.proofs.lemmas.Nat.{shr_high, shr-shr, shr_split, mod_below, and_mask, shl_whole, pow_pos, shl_below, shr_below}
use Rattle.std.proofs.Math.Nat.{pow-succ'}
use Rattle.std.proofs.Math.Pow.{pow_mono}
use Rattle.std.specs.Int.Bits.{bit_and}
use Rattle.std.specs.Prelude.{slice_range}
use Rattle.hex.specs.Hex.{IsBytes}
use Rattle.sem_bits.specs.Number.{num, enc}
use Rattle.sem_bits.specs.Octets.{bits_of, Holds}
use Rattle.sem_bits.proofs.Numbers.{length-enc, shr_first, shr_zero, enc-cons, enc_nil, num-enc, enc-num, num-below, num_join}
use Rattle.sem_bits.proofs.Octets.{length-bits_of, bits_of-append, bits_of-push, bits_of-more, IsBytes-append, IsBytes-push, IsBytes-nil}

-- a number's bits in two parts
pub enc_split : (a b v : ℕ) → enc (a + b) v ≡ enc a (v / 2 ^ b) ++ enc b v
unfolding enc
enc_split a zero v =
    let n : a + 0 ≡ a = omega arith in
    let w : v / 1 ≡ v = omega arith in
    rw (n, w) (sym (append-nil (enc a v)))
enc_split a (suc b) v =
    let n : a + suc b ≡ suc (a + b) = omega arith in
    rw (n, ← shr_first v b) (ap (λ l. l ++ (v % 2 == 1) ∷ []) (enc_split a b (v / 2)) ∙ append_assoc (enc a (v / 2 / 2 ^ b)) (enc b (v / 2)) ((v % 2 == 1) ∷ []))

-- the low bits of a number alone
enc_low : (b x y : ℕ) → enc b (x * 2 ^ b + y) ≡ enc b y
unfolding enc
enc_low zero x y = refl
enc_low (suc b) x y =
    let p : 2 ^ suc b ≡ 2 * 2 ^ b = pow-succ' 2 b in
    let h : (x * (2 * 2 ^ b) + y) / 2 ≡ x * 2 ^ b + y / 2 = omega arith in
    let r : (x * (2 * 2 ^ b) + y) % 2 ≡ y % 2 = omega arith in
    rw (p, h, r, enc_low b x (y / 2)) refl

-- two numbers side by side
pub enc_join : (a b x y : ℕ) → y < 2 ^ b → enc (a + b) (x * 2 ^ b + y) ≡ enc a x ++ enc b y
enc_join a b x y h = rw (enc_split a b (x * 2 ^ b + y), shr_high x b y h, enc_low b x y) refl

-- n bits within a number's, after s of them and before m
pub window : (s n m w : ℕ) → take n (drop s (enc (s + (n + m)) w)) ≡ enc n (w / 2 ^ m)
window s n m w =
    let e : drop s (enc (s + (n + m)) w) ≡ enc (n + m) w = rw (enc_split s (n + m) w) (drop_at (enc s (w / 2 ^ (n + m))) (enc (n + m) w) s (length-enc s _)) in
    rw (e, enc_split n m w) (take_at (enc n (w / 2 ^ m)) (enc m w) n (length-enc n _))

-- the octet that begins s bits after the first of two octets
octet_across : (s o p : ℕ) → s ≤ 7 → p < 256 → enc 8 ((o * 256 + p) / 2 ^ (8 - s)) ≡ take 8 (drop s (enc 8 o ++ enc 8 p))
octet_across s o p h k =
    let n : s + (8 + (8 - s)) ≡ 16 = omega arith in
    let e : enc (8 + 8) (o * 2 ^ 8 + p) ≡ enc 8 o ++ enc 8 p = enc_join 8 8 o p k in
    let w = window s 8 (8 - s) (o * 2 ^ 8 + p) in
    sym w ∙ rw n (ap (λ l. take 8 (drop s l)) e)

pub enc_zero : (n : ℕ) → enc n 0 ≡ replicate n false
enc_zero zero = enc_nil 0
enc_zero (suc n) =
    let z : 0 / 2 ^ n ≡ 0 = shr_zero 0 n (pow_pos n) in
    enc-cons n 0 ∙ ap (λ v. (v % 2 == 1) ∷ enc n 0) z ∙ ap (λ l. false ∷ l) (enc_zero n)

octet_read : (os : List ℕ) (q s : ℕ) → s ≤ 7 → 8 * q + s ≤ 8 * length os → get_or os (q + 1) 0 < 256 → enc 8 ((get_or os q 0 * 256 + get_or os (q + 1) 0) / 2 ^ (8 - s)) ≡ take 8 (drop (8 * q + s) (bits_of os ++ replicate 8 false))
octet_read [] q s h l k =
    let q0 : q ≡ 0 = omega arith in
    let s0 : s ≡ 0 = omega arith in
    rw (q0, s0) (enc_zero 8)
octet_read (o ∷ []) zero s h l k =
    let e : enc 8 o ++ enc 8 0 ≡ (enc 8 o ++ []) ++ replicate 8 false = λ i. sym (append-nil (enc 8 o)) i ++ enc_zero 8 i in
    let n : 8 * 0 + s ≡ s = omega arith in
    octet_across s o 0 h (omega arith) ∙ (λ i. take 8 (drop (sym n i) (e i)))
octet_read (o ∷ p ∷ os) zero s h l k =
    let front : length (enc 8 o ++ enc 8 p) ≡ 16 = length-append (enc 8 o) (enc 8 p) ∙ (omega (arith, length-enc 8 o, length-enc 8 p)) in
    let e : (enc 8 o ++ (enc 8 p ++ bits_of os)) ++ replicate 8 false ≡ (enc 8 o ++ enc 8 p) ++ (bits_of os ++ replicate 8 false) = simp append_assoc refl in
    let d : drop s ((enc 8 o ++ enc 8 p) ++ (bits_of os ++ replicate 8 false)) ≡ drop s (enc 8 o ++ enc 8 p) ++ (bits_of os ++ replicate 8 false) = drop-append-le s _ _ (omega arith) in
    let t : take 8 (drop s (enc 8 o ++ enc 8 p) ++ (bits_of os ++ replicate 8 false)) ≡ take 8 (drop s (enc 8 o ++ enc 8 p)) = take-append-le 8 _ _ (omega (arith, length-drop s (enc 8 o ++ enc 8 p))) in
    let n : 8 * 0 + s ≡ s = omega arith in
    octet_across s o p h k ∙ sym ((λ i. take 8 (drop (n i) (e i))) ∙ ap (take 8) d ∙ t)
octet_read (o ∷ os) (suc q) s h l k =
    let n : 8 * suc q + s ≡ 8 + (8 * q + s) = omega arith in
    let e : (enc 8 o ++ bits_of os) ++ replicate 8 false ≡ enc 8 o ++ (bits_of os ++ replicate 8 false) = append_assoc (enc 8 o) (bits_of os) (replicate 8 false) in
    let d : drop (8 + (8 * q + s)) (enc 8 o ++ (bits_of os ++ replicate 8 false)) ≡ drop (8 * q + s) (bits_of os ++ replicate 8 false) = sym (drop-drop (8 * q + s) 8 _) ∙ ap (drop (8 * q + s)) (drop_at (enc 8 o) _ 8 (length-enc 8 o)) in
    let m : suc q + 1 ≡ suc (q + 1) = omega arith in
    rw (n, e, d, m) (octet_read os q s h (omega arith) (rw m at k))

pub octet_whole : (w : ℕ) → enc 8 (w % 256) ≡ enc 8 w
octet_whole w =
    let e : w / 256 * 2 ^ 8 + w % 256 ≡ w = omega arith in
    sym (enc_low 8 (w / 256) (w % 256)) ∙ ap (enc 8) e

pub read_at : (os : List ℕ) (start : ℕ) → start ≤ 8 * length os → get_or os (start / 8 + 1) 0 < 256 → enc 8 (((get_or os (start / 8) 0 * 256 + get_or os (start / 8 + 1) 0) / 2 ^ (8 - start % 8)) % 256) ≡ take 8 (drop start (bits_of os ++ replicate 8 false))
read_at os start h k =
    let e : 8 * (start / 8) + start % 8 ≡ start = omega arith in
    octet_whole _ ∙ octet_read os (start / 8) (start % 8) (omega arith) (omega arith) k ∙ ap (λ n. take 8 (drop n (bits_of os ++ replicate 8 false))) e

enc_front : (o over : ℕ) → over ≤ 8 → take over (enc 8 o) ≡ enc over (o / 2 ^ (8 - over))
enc_front o over h =
    let n : 0 + (over + (8 - over)) ≡ 8 = omega arith in
    ap (λ m. take over (drop 0 (enc m o))) (sym n) ∙ window 0 over (8 - over) o

front_bits : (o over : ℕ) → over ≤ 8 → enc 8 (o / 2 ^ (8 - over) * 2 ^ (8 - over) % 256) ≡ take over (enc 8 o) ++ replicate (8 - over) false
front_bits o over h =
    let n : over + (8 - over) ≡ 8 = omega arith in
    let z : o / 2 ^ (8 - over) * 2 ^ (8 - over) + 0 ≡ o / 2 ^ (8 - over) * 2 ^ (8 - over) = omega arith in
    octet_whole (o / 2 ^ (8 - over) * 2 ^ (8 - over)) ∙ ap (enc 8) (sym z) ∙ ap (λ m. enc m (o / 2 ^ (8 - over) * 2 ^ (8 - over) + 0)) (sym n) ∙ enc_join over (8 - over) (o / 2 ^ (8 - over)) 0 (pow_pos (8 - over))
    ∙ (λ i. sym (enc_front o over h) i ++ enc_zero (8 - over) i)

pub front_bits_cut : (o over : ℕ) → over ≤ 8 → enc 8 (o / 2 ^ (8 - over) * 2 ^ (8 - over) % 65536 % 256) ≡ take over (enc 8 o) ++ replicate (8 - over) false
front_bits_cut o over h =
    let m : ℕ = o / 2 ^ (8 - over) * 2 ^ (8 - over) in
    let e : m % 65536 % 256 ≡ m % 256 = omega arith in
    ap (enc 8) e ∙ front_bits o over h

-- one more octet of a loop that reads octets from a place on
pub gather_more : (old now new all : List Bool) (start i : ℕ) → now ≡ old ++ take (8 * i) (drop start all) → (o : ℕ) → enc 8 o ≡ take 8 (drop (start + 8 * i) all) → new ≡ now ++ enc 8 o → new ≡ old ++ take (8 * (i + 1)) (drop start all)
gather_more old now new all start i e o h p =
    let n : 8 * (i + 1) ≡ 8 * i + 8 = omega arith in
    let d : drop (start + 8 * i) all ≡ drop (8 * i) (drop start all) = sym (drop-drop (8 * i) start all) in
    p ∙ ap (λ l. l ++ enc 8 o) e ∙ ap (λ l. (old ++ take (8 * i) (drop start all)) ++ l) (h ∙ ap (take 8) d) ∙ append_assoc old _ _ ∙ ap (λ l. old ++ l) (sym (take-add (8 * i) 8 (drop start all)) ∙ ap (λ k. take k (drop start all)) (sym n))

pub count_held : (o : List ℕ) (b : List Bool) (h : Holds o b) → 8 * length o ≡ length b + h.padding
count_held o b h = sym (length-bits_of o) ∙ ap length h.filled ∙ length-append b (replicate h.padding false) ∙ ap (λ n. length b + n) (length-replicate h.padding false)

-- a part of the bits is one of the bits with zero bits after them
pub part_padded : (all z : List Bool) (start n : ℕ) → start + n ≤ length all → take n (drop start (all ++ z)) ≡ take n (drop start all)
part_padded all z start n h = ap (take n) (drop-append-le start all z (omega arith)) ∙ take-append-le n (drop start all) z (omega (arith, length-drop start all))

pub cut_even : (octets out : List ℕ) (start count whole : ℕ) → IsBytes out → bits_of out ≡ take (8 * whole) (drop start (bits_of octets ++ replicate 8 false)) → 8 * whole ≡ count → start + count ≤ 8 * length octets
    → Holds out (slice_range (bits_of octets) start (start + count))
cut_even octets out start count whole fit e n h =
    let m : (start + count) - start ≡ 8 * whole = omega arith in
    let p : bits_of out ≡ take ((start + count) - start) (drop start (bits_of octets)) = rw m (e ∙ part_padded (bits_of octets) (replicate 8 false) start (8 * whole) (omega (arith, length-bits_of octets))) in
    record { octets_fit = fit; padding = 0; few = omega arith; filled = p ∙ sym (append-nil _) }

pub cut_over : (octets mid out : List ℕ) (start count whole over o f : ℕ) → IsBytes mid → f < 256 → bits_of mid ≡ take (8 * whole) (drop start (bits_of octets ++ replicate 8 false)) → enc 8 o ≡ take 8 (drop (start + 8 * whole) (bits_of octets ++ replicate 8 false))
    → enc 8 f ≡ take over (enc 8 o) ++ replicate (8 - over) false → out ≡ mid ++ f ∷ [] → 8 * whole + over ≡ count → 0 < over → over < 8 → start + count ≤ 8 * length octets
    → Holds out (slice_range (bits_of octets) start (start + count))
cut_over octets mid out start count whole over o f fit small e g t p n lo hi h =
    let all : List Bool = bits_of octets ++ replicate 8 false in
    let m : 8 * whole + over ≡ (start + count) - start = omega arith in
    let front : take over (enc 8 o) ≡ take over (drop (8 * whole) (drop start all)) = ap (take over) g ∙ take-take over 8 (drop (start + 8 * whole) all) (omega arith) ∙ ap (take over) (sym (drop-drop (8 * whole) start all)) in
    let joined : take (8 * whole) (drop start all) ++ take over (enc 8 o) ≡ take ((start + count) - start) (drop start (bits_of octets)) =
    ap (λ l. take (8 * whole) (drop start all) ++ l) front ∙ sym (take-add (8 * whole) over (drop start all)) ∙ part_padded (bits_of octets) (replicate 8 false) start (8 * whole + over) (omega (arith, length-bits_of octets)) ∙ ap (λ k. take k (drop start (bits_of octets))) m in
    let whole_bits : bits_of out ≡ take ((start + count) - start) (drop start (bits_of octets)) ++ replicate (8 - over) false =
    ap bits_of p ∙ bits_of-push mid f ∙ (λ i. e i ++ t i) ∙ sym (append_assoc (take (8 * whole) (drop start all)) (take over (enc 8 o)) (replicate (8 - over) false)) ∙ ap (λ l. l ++ replicate (8 - over) false) joined in
    let P : List ℕ → Type 0 = λ x. IsBytes x in
    record { octets_fit = subst P (sym p) (IsBytes-push mid f fit small); padding = 8 - over; few = omega arith; filled = whole_bits }

drop_bits : (os : List ℕ) (n : ℕ) → n ≤ length os → drop (8 * n) (bits_of os) ≡ bits_of (drop n os)
drop_bits os zero h = refl
drop_bits [] (suc n) h = absurd (omega arith)
drop_bits (o ∷ os) (suc n) h =
    let e : 8 * suc n ≡ 8 + 8 * n = omega arith in
    ap (λ k. drop k (bits_of (o ∷ os))) e ∙ sym (drop-drop (8 * n) 8 (bits_of (o ∷ os))) ∙ ap (drop (8 * n)) (drop_at (enc 8 o) (bits_of os) 8 (length-enc 8 o)) ∙ drop_bits os n (omega arith)

pub take_bits : (os : List ℕ) (n : ℕ) → n ≤ length os → take (8 * n) (bits_of os) ≡ bits_of (take n os)
take_bits os n h =
    let e : bits_of os ≡ bits_of (take n os) ++ bits_of (drop n os) = ap bits_of (sym (take-append-drop n os)) ∙ bits_of-append (take n os) (drop n os) in
    ap (take (8 * n)) e ∙ take_at (bits_of (take n os)) (bits_of (drop n os)) (8 * n) (length-bits_of (take n os) ∙ ap (λ k. 8 * k) (length-take-le n os h))

-- the bits of some of the octets
bits_of-range : (os : List ℕ) (first many : ℕ) → first + many ≤ length os → bits_of (slice_range os first (first + many)) ≡ take (8 * many) (drop (8 * first) (bits_of os))
bits_of-range os first many h =
    let n : (first + many) - first ≡ many = omega arith in
    ap (λ k. bits_of (take k (drop first os))) n ∙ sym (ap (take (8 * many)) (drop_bits os first (omega arith)) ∙ take_bits (drop first os) many (omega (arith, length-drop first os)))

-- octets that begin at an even place
pub gather_even : (old new octets : List ℕ) (start many : ℕ) → start % 8 ≡ 0 → start + 8 * many < 8 * length octets + 8 → new ≡ old ++ slice_range octets (start / 8) (start / 8 + many)
    → bits_of new ≡ bits_of old ++ take (8 * many) (drop start (bits_of octets ++ replicate 8 false))
gather_even old new octets start many z h p =
    let n : 8 * (start / 8) ≡ start = omega arith in
    let range : bits_of (slice_range octets (start / 8) (start / 8 + many)) ≡ take (8 * many) (drop start (bits_of octets)) =
    bits_of-range octets (start / 8) many (omega arith) ∙ ap (λ k. take (8 * many) (drop k (bits_of octets))) n in
    ap bits_of p ∙ bits_of-append old _ ∙ ap (λ l. bits_of old ++ l) (range ∙ sym (part_padded (bits_of octets) (replicate 8 false) start (8 * many) (omega (arith, length-bits_of octets))))

-- zero bits after bits, cut
pub take_zeros : (b : List Bool) (p n : ℕ) → length b ≤ n → n ≤ length b + p → take n (b ++ replicate p false) ≡ b ++ replicate (n - length b) false
take_zeros b p n h k =
    let m : n ≡ length b + (n - length b) = omega arith in
    ap (λ j. take j (b ++ replicate p false)) m ∙ take-append-add b (replicate p false) (n - length b) ∙ ap (λ l. b ++ l) (take-replicate (n - length b) p false (omega arith))

-- the octets of bits with zero bits after them, cut
held_zeros : (octets : List ℕ) (b : List Bool) (n : ℕ) → Holds octets b → length b ≤ n → n < length b + 8 → take n (bits_of octets ++ replicate 8 false) ≡ b ++ replicate (n - length b) false
held_zeros octets b n h l m =
    let e : bits_of octets ++ replicate 8 false ≡ b ++ replicate (h.padding + 8) false = ap (λ x. x ++ replicate 8 false) h.filled ∙ append_assoc b _ _ ∙ ap (λ x. b ++ x) (replicate-append-replicate h.padding 8 false) in
    ap (take n) e ∙ take_zeros b (h.padding + 8) n l (omega arith)

-- octets after full ones
pub join_even : (old new octets : List ℕ) (a b : List Bool) → Holds old a → Holds octets b → length a % 8 ≡ 0 → new ≡ old ++ octets → Holds new (a ++ b)
join_even old new octets a b h k z p =
    let c = count_held old a h in
    let few = h.few in
    let none : h.padding ≡ 0 = omega arith in
    let olds : bits_of old ≡ a = h.filled ∙ ap (λ p. a ++ replicate p false) none ∙ append-nil a in
    let P : List ℕ → Type 0 = λ x. IsBytes x in
    record {
      octets_fit = subst P (sym p) (IsBytes-append old octets h.octets_fit k.octets_fit);
      padding = k.padding;
      few = k.few;
      filled = ap bits_of p ∙ bits_of-append old octets ∙ (λ i. olds i ++ k.filled i) ∙ sym (append_assoc a b _);
    }

-- an octet that ends in zero bits, and bits in their place
merged : (last o used : ℕ) (front : List Bool) → used < 8 → last < 256 → o < 256 → length front ≡ used → enc 8 last ≡ front ++ replicate (8 - used) false → enc 8 ((last + o / 2 ^ used) % 256) ≡ front ++ take (8 - used) (enc 8 o)
merged last o used front h small fits l e =
    let n : used + (8 - used) ≡ 8 = omega arith in
    let f : enc used (num front) ≡ front = rw (← l) (enc-num front) in
    let below : num front < 2 ^ used = rw (← l) (num-below front) in
    let s : enc (used + (8 - used)) (num front * 2 ^ (8 - used) + 0) ≡ enc used (num front) ++ enc (8 - used) 0 = enc_join used (8 - used) (num front) 0 (pow_pos (8 - used)) in
    let whole : enc 8 last ≡ enc 8 (num front * 2 ^ (8 - used) + 0) = e ∙ (λ i. sym f i ++ sym (enc_zero (8 - used)) i) ∙ sym s ∙ ap (λ m. enc m (num front * 2 ^ (8 - used) + 0)) n in
    let fit : num front * 2 ^ (8 - used) < 2 ^ (used + (8 - used)) = shl_below (num front) used (8 - used) below in
    let fit8 : num front * 2 ^ (8 - used) < 2 ^ 8 = rw n at fit in
    let same : last ≡ num front * 2 ^ (8 - used) + 0 = sym (num-enc 8 last small) ∙ ap num whole ∙ num-enc 8 (num front * 2 ^ (8 - used) + 0) (omega arith) in
    let u : 8 - (8 - used) ≡ used = omega arith in
    let low : o / 2 ^ used < 2 ^ (8 - used) = shr_below o (8 - used) used (let m : (8 - used) + used ≡ 8 = omega arith in rw m fits) in
    let j : enc (used + (8 - used)) (num front * 2 ^ (8 - used) + o / 2 ^ used) ≡ enc used (num front) ++ enc (8 - used) (o / 2 ^ used) = enc_join used (8 - used) (num front) (o / 2 ^ used) low in
    let sum : last + o / 2 ^ used ≡ num front * 2 ^ (8 - used) + o / 2 ^ used = omega arith in
    let back : enc (8 - used) (o / 2 ^ used) ≡ take (8 - used) (enc 8 o) = sym (enc_front o (8 - used) (omega arith) ∙ ap (λ m. enc (8 - used) (o / 2 ^ m)) u) in
    octet_whole (last + o / 2 ^ used) ∙ ap (enc 8) sum ∙ ap (λ m. enc m (num front * 2 ^ (8 - used) + o / 2 ^ used)) (sym n) ∙ j ∙ (λ i. f i ++ back i)

-- the first octet's bits
first_bits : (octets : List ℕ) (n : ℕ) → n ≤ 8 → take n (enc 8 (get_or octets 0 0)) ≡ take n (bits_of octets ++ replicate 8 false)
first_bits [] n h = ap (take n) (enc_zero 8)
first_bits (o ∷ os) n h = sym (ap (take n) (append_assoc (enc 8 o) (bits_of os) (replicate 8 false)) ∙ take-append-le n (enc 8 o) _ (omega (arith, length-enc 8 o)))

pub join_odd : (old init new octets : List ℕ) (last used many : ℕ) (a b : List Bool) → Holds old a → Holds octets b → old ≡ init ++ last ∷ [] → used ≡ length a % 8 → 0 < used → last < 256 → get_or octets 0 0 < 256
    → bits_of new ≡ bits_of (init ++ ((last + get_or octets 0 0 / 2 ^ used) % 256) ∷ []) ++ take (8 * many) (drop (8 - used) (bits_of octets ++ replicate 8 false)) → IsBytes new
    → length new ≡ length old + many → length new ≡ (length a + length b + 7) / 8 → Holds new (a ++ b)
join_odd old init new octets last used many a b h k p u lo small fits e fit l n =
    let c = count_held old a h in
    let few = h.few in
    let len : length old ≡ length init + 1 = ap length p ∙ length_push init last in
    let pad : h.padding ≡ 8 - used = omega arith in
    let held : bits_of init ++ enc 8 last ≡ a ++ replicate (8 - used) false = sym (bits_of-push init last) ∙ ap bits_of (sym p) ∙ h.filled ∙ ap (λ m. a ++ replicate m false) pad in
    let ni : length (bits_of init) ≡ 8 * length init = length-bits_of init in
    let front : List Bool = drop (8 * length init) a in
    let d : enc 8 last ≡ front ++ replicate (8 - used) false = sym (drop_at (bits_of init) (enc 8 last) (8 * length init) ni) ∙ ap (drop (8 * length init)) held ∙ drop-append-le (8 * length init) a _ (omega arith) in
    let t : bits_of init ≡ take (8 * length init) a = sym (take_at (bits_of init) (enc 8 last) (8 * length init) ni) ∙ ap (take (8 * length init)) held ∙ take-append-le (8 * length init) a _ (omega arith) in
    let lf : length front ≡ used = omega (arith, length-drop (8 * length init) a) in
    let m = merged last (get_or octets 0 0) used front (omega arith) small fits lf d in
    let all : List Bool = bits_of octets ++ replicate 8 false in
    let olds : bits_of (init ++ ((last + get_or octets 0 0 / 2 ^ used) % 256) ∷ []) ≡ a ++ take (8 - used) all =
    bits_of-push init _ ∙ (λ i. t i ++ m i) ∙ ap (λ x. take (8 * length init) a ++ (front ++ x)) (first_bits octets (8 - used) (omega arith)) ∙ sym (append_assoc (take (8 * length init) a) front _) ∙ ap (λ x. x ++ take (8 - used) all) (take-append-drop (8 * length init) a) in
    let cut = held_zeros octets b ((8 - used) + 8 * many) k (omega arith) (omega arith) in
    record {
      octets_fit = fit;
      padding = ((8 - used) + 8 * many) - length b;
      few = omega arith;
      filled = e ∙ ap (λ x. x ++ take (8 * many) (drop (8 - used) all)) olds ∙ append_assoc a _ _ ∙ ap (λ x. a ++ x) (sym (take-add (8 - used) (8 * many) all) ∙ cut) ∙ sym (append_assoc a b _);
    }

pub front_bytes : (init : List ℕ) (x : ℕ) → IsBytes (init ++ x ∷ []) → IsBytes init
front_bytes [] x f i = omega arith
front_bytes (y ∷ init) x f zero = f 0
front_bytes (y ∷ init) x f (suc i) = front_bytes init x (λ j. f (suc j)) i

-- one more octet of a number
pub word_more : (os : List ℕ) (i : ℕ) → i < length os → get_or os i 0 < 256 → num (bits_of (take (i + 1) os)) ≡ num (bits_of (take i os)) * 256 + get_or os i 0
word_more os i h k =
    let l : length (enc 8 (get_or os i 0)) ≡ 8 = length-enc 8 (get_or os i 0) in
    let n : num (enc 8 (get_or os i 0)) ≡ get_or os i 0 = num-enc 8 (get_or os i 0) k in
    ap num (bits_of-more os i h) ∙ num_join (bits_of (take i os)) (enc 8 (get_or os i 0)) ∙ (λ j. num (bits_of (take i os)) * 2 ^ (l j) + n j)

pub word_below : (os : List ℕ) → num (bits_of os) < 2 ^ (8 * length os)
word_below os = let P : ℕ → Type 0 = λ n. num (bits_of os) < 2 ^ n in subst P (length-bits_of os) (num-below (bits_of os))

pub word_room : (os : List ℕ) (i : ℕ) → i ≤ 8 → num (bits_of (take i os)) < 2 ^ 64
word_room os i h =
    let p : 8 * length (take i os) ≤ 64 = omega (arith, length-take i os) in
    let q : 2 ^ (8 * length (take i os)) ≤ 2 ^ 64 = pow_mono p in
    omega (arith, q, word_below (take i os))

pub word_room_narrow : (os : List ℕ) (i : ℕ) → i ≤ 7 → num (bits_of (take i os)) < 2 ^ 56
word_room_narrow os i h =
    let p : 8 * length (take i os) ≤ 56 = omega (arith, length-take i os) in
    let q : 2 ^ (8 * length (take i os)) ≤ 2 ^ 56 = pow_mono p in
    omega (arith, q, word_below (take i os))

-- the low bits of a number as a number
pub num_low : (n v : ℕ) → num (enc n v) ≡ v % 2 ^ n
num_low n v =
    let e : enc n v ≡ enc n (v % 2 ^ n) = ap (enc n) (sym (shr_split v n)) ∙ enc_low n (v / 2 ^ n) (v % 2 ^ n) in
    ap num e ∙ num-enc n (v % 2 ^ n) (mod_below v (2 ^ n) (pow_pos n))

-- n bits from a place on, out of the number of the octets that they lie in
pub number_in : (os : List ℕ) (place n first end w : ℕ) → 8 * first ≤ place → place + n ≤ 8 * end → first ≤ end → end ≤ length os → w ≡ num (bits_of (slice_range os first end)) → (w / 2 ^ (8 * end - place - n)) % 2 ^ n ≡ num (take n (drop place (bits_of os)))
number_in os place n first end w a b c d e =
    let s : ℕ = place - 8 * first in
    let m : ℕ = 8 * end - place - n in
    let part : List ℕ = slice_range os first end in
    let k : ℕ = end - first in
    let count : length part ≡ k = length-take-le k (drop first os) (omega (arith, length-drop first os)) in
    let size : length (bits_of part) ≡ s + (n + m) = omega (arith, length-bits_of part, count) in
    let word : enc (s + (n + m)) w ≡ bits_of part = ap (λ j. enc j w) (sym size) ∙ ap (enc (length (bits_of part))) e ∙ enc-num (bits_of part) in
    let e0 : first + k ≡ end = omega arith in
    let bits : bits_of part ≡ take (8 * k) (drop (8 * first) (bits_of os)) = ap (λ j. bits_of (slice_range os first j)) (sym e0) ∙ bits_of-range os first k (omega arith) in
    let e8 : 8 * k ≡ s + (n + m) = omega arith in
    let ep : 8 * first + s ≡ place = omega arith in
    let inside : take n (drop s (bits_of part)) ≡ take n (drop place (bits_of os)) =
    ap (λ l. take n (drop s l)) (bits ∙ ap (λ j. take j (drop (8 * first) (bits_of os))) e8) ∙ ap (take n) (drop-take s (n + m) (drop (8 * first) (bits_of os))) ∙ take-take n (n + m) (drop s (drop (8 * first) (bits_of os))) (omega arith)
    ∙ ap (take n) (drop-drop s (8 * first) (bits_of os)) ∙ ap (λ j. take n (drop j (bits_of os))) ep in
    sym (num_low n (w / 2 ^ m)) ∙ ap num (sym (window s n m w) ∙ ap (λ l. take n (drop s l)) word ∙ inside)

-- up to eight bits from a place on, out of the octet that begins there
pub number_narrow : (bits : List Bool) (place n r : ℕ) → n ≤ 8 → place + n ≤ length bits → r < 256 → enc 8 r ≡ take 8 (drop place (bits ++ replicate 8 false)) → r / 2 ^ (8 - n) ≡ num (take n (drop place bits))
number_narrow bits place n r h k small e =
    let size : n + (8 - n) ≡ 8 = omega arith in
    let parts : enc 8 r ≡ enc n (r / 2 ^ (8 - n)) ++ enc (8 - n) r = ap (λ j. enc j r) (sym size) ∙ enc_split n (8 - n) r in
    let low : take n (enc 8 r) ≡ enc n (r / 2 ^ (8 - n)) = ap (take n) parts ∙ take_at (enc n (r / 2 ^ (8 - n))) (enc (8 - n) r) n (length-enc n _) in
    let inside : take n (take 8 (drop place (bits ++ replicate 8 false))) ≡ take n (drop place bits) =
    take-take n 8 (drop place (bits ++ replicate 8 false)) h ∙ ap (take n) (drop-append-le place bits (replicate 8 false) (omega arith)) ∙ take-append-le n (drop place bits) (replicate 8 false) (omega (arith, length-drop place bits)) in
    let fits : r / 2 ^ (8 - n) < 2 ^ n = shr_below r n (8 - n) (let P : ℕ → Type 0 = λ j. r < 2 ^ j in subst P (sym size) small) in
    sym (num-enc n (r / 2 ^ (8 - n)) fits) ∙ ap num (sym low ∙ ap (take n) e ∙ inside)

-- the same, as a mask gives it
pub number_masked : (os : List ℕ) (place n first end w : ℕ) → n ≤ 64 → 8 * first ≤ place → place + n ≤ 8 * end → first ≤ end → end ≤ length os → w ≡ num (bits_of (slice_range os first end))
    → bit_and (w / 2 ^ (8 * end - place - n)) (1 * 2 ^ n % 2 ^ 128 - 1) ≡ num (take n (drop place (bits_of os)))
number_masked os place n first end w l a b c d e =
    let one : 1 * 2 ^ n % 2 ^ 128 ≡ 1 * 2 ^ n = shl_whole 1 1 n 128 (omega arith) (omega arith) in
    let mask : 1 * 2 ^ n % 2 ^ 128 - 1 ≡ 2 ^ n - 1 = omega (arith, one) in
    ap (bit_and (w / 2 ^ (8 * end - place - n))) mask ∙ and_mask (w / 2 ^ (8 * end - place - n)) n ∙ number_in os place n first end w a b c d e

-- the low bits, as a mask gives them
pub low_masked : (w n : ℕ) → n < 64 → bit_and w (1 * 2 ^ n % 2 ^ 64 - 1) ≡ w % 2 ^ n
low_masked w n l =
    let one : 1 * 2 ^ n % 2 ^ 64 ≡ 1 * 2 ^ n = shl_whole 1 1 n 64 (omega arith) (omega arith) in
    let mask : 1 * 2 ^ n % 2 ^ 64 - 1 ≡ 2 ^ n - 1 = omega (arith, one) in
    ap (bit_and w) mask ∙ and_mask w n

one_less : (p q : ℕ) → 0 < q → p * q + (q - 1) ≡ (p + 1) * q - 1
one_less p q s =
    let more : (p + 1) * q ≡ p * q + q = grind arith in
    omega (arith, more, s)

all_ones : (n k : ℕ) → n + k ≡ 64 → 18446744073709551615 / 2 ^ k ≡ 2 ^ n - 1
all_ones n k e =
    let some : 0 < 2 ^ k = pow_pos k in
    let first : 0 < 2 ^ n = pow_pos n in
    let both : 2 ^ n * 2 ^ k ≡ 18446744073709551616 = sym (pow-add 2 n k) ∙ ap (λ m. 2 ^ m) e in
    let back : (2 ^ n - 1) + 1 ≡ 2 ^ n = omega (arith, first) in
    let whole : (2 ^ n - 1) * 2 ^ k + (2 ^ k - 1) ≡ 18446744073709551615 = one_less (2 ^ n - 1) (2 ^ k) some ∙ ap (λ m. m * 2 ^ k - 1) back ∙ ap (λ m. m - 1) both in
    ap (λ m. m / 2 ^ k) (sym whole) ∙ shr_high (2 ^ n - 1) k (2 ^ k - 1) (omega (arith, some))

-- the same by a mask of one shift, where there are some
pub low_shifted : (w n : ℕ) → 0 < n → n ≤ 64 → bit_and w (18446744073709551615 / 2 ^ (64 - n)) ≡ w % 2 ^ n
low_shifted w n some most = ap (bit_and w) (all_ones n (64 - n) (omega arith)) ∙ and_mask w n

pub low_whole : (w n : ℕ) → w < 2 ^ 64 → n ≡ 64 → w ≡ w % 2 ^ n
low_whole w n l e = rw e (omega arith)

-- one more octet of a number that is spelled
pub spell_more : (now new : List ℕ) (word many i o : ℕ) → i < many → bits_of now ≡ enc (8 * i) (word / 2 ^ (8 * (many - i))) → o ≡ word / 2 ^ (8 * (many - 1 - i)) % 256 → new ≡ now ++ o ∷ [] → bits_of new ≡ enc (8 * (i + 1)) (word / 2 ^ (8 * (many - (i + 1))))
spell_more now new word many i o h e v p =
    let k : ℕ = 8 * (many - 1 - i) in
    let a : 8 * (many - (i + 1)) ≡ k = omega arith in
    let b : 8 * (many - i) ≡ k + 8 = omega arith in
    let n : 8 * (i + 1) ≡ 8 * i + 8 = omega arith in
    let back : enc (8 * i + 8) (word / 2 ^ k) ≡ enc (8 * i) (word / 2 ^ (8 * (many - i))) ++ enc 8 (word / 2 ^ k) = enc_split (8 * i) 8 (word / 2 ^ k) ∙ ap (λ x. enc (8 * i) x ++ enc 8 (word / 2 ^ k)) (shr-shr word k 8 ∙ ap (λ j. word / 2 ^ j) (sym b)) in
    ap bits_of p ∙ bits_of-push now o ∙ (λ j. e j ++ (ap (enc 8) v ∙ octet_whole (word / 2 ^ k)) j) ∙ sym back ∙ (λ j. enc (sym n j) (word / 2 ^ (sym a j)))

pub spelled_first : (octets : List ℕ) (word many : ℕ) → octets ≡ [] → bits_of octets ≡ enc (8 * 0) (word / 2 ^ (8 * (many - 0)))
spelled_first octets word many e = ap bits_of e ∙ sym (enc_nil _)

pub spelled_all : (octets : List ℕ) (len value word many : ℕ) → IsBytes octets → len ≤ 64 → many ≡ (len + 7) / 8 → value < 2 ^ len → word ≡ value * 2 ^ (8 * many - len) % 2 ^ 64 → bits_of octets ≡ enc (8 * many) (word / 2 ^ (8 * (many - many))) → Holds octets (enc len value)
spelled_all octets len value word many fit l m below w e =
    let k : ℕ = 8 * many - len in
    let n : len + k ≡ 8 * many = omega arith in
    let z : 8 * (many - many) ≡ 0 = omega arith in
    let whole : word ≡ value * 2 ^ k = w ∙ shl_whole value len k 64 below (omega arith) in
    let none : value * 2 ^ k / 2 ^ 0 ≡ value * 2 ^ k + 0 = omega arith in
    record {
      octets_fit = fit;
      padding = k;
      few = omega arith;
      filled = e ∙ (λ j. enc (sym n j) (whole j / 2 ^ (z j))) ∙ ap (enc (len + k)) none ∙ enc_join len k value 0 (pow_pos k) ∙ ap (λ x. enc len value ++ x) (enc_zero k);
    }

pub ruleset octets = (read_at, front_bits_cut)

pub ruleset spelling = (spelled_first, spelled_all, IsBytes-nil)

pub ruleset numbering = (word_more, word_room, word_room_narrow, word_below)
