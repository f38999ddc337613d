-- Bits as the number that they spell.
use Rattle.std.proofs.Common.{◌≡◌, ℕ, zero, suc, ◌+◌, ◌*◌, ◌-◌, ◌/◌, ◌%◌, ◌^◌, ◌<◌, ◌≤◌, ◌==◌, Bool, true, false, List, [], ◌∷◌, ◌++◌, length, take, drop, replicate, get_or, refl, ap, sym, ◌∙◌, subst, arith, append_assoc, length-append}
use Rattle.std.proofs.lemmas.List.{drop_at, get_or-take, get_or-drop, length-replicate, length-drop}
use Rattle.std.proofs.lemmas.Nat.{shl_whole, pow_pos, shr_high, shr_split, shr_below}
use Rattle.std.proofs.lemmas.Nat.{pow-add}
use Rattle.std.proofs.Math.Nat.{pow-succ'}
use Rattle.std.proofs.Math.Pow.{pow_mono}
use Rattle.std.specs.Bool.{Decides}
use Rattle.std.proofs.lemmas.Option.{slice_get-get_or, slice_get_past}
use Rattle.std.specs.Prelude.{slice_get, slice_range, Some, None}
use Rattle.std.specs.Int.{bytes_high_first, byte_at, from_bool}
use Rattle.hex.specs.Hex.{IsBytes}
use Rattle.sem_bits.specs.declared.bits.Form.{Form}
use Rattle.sem_bits.specs.declared.bits.Form.TheVariants.{Word, Long}
use Rattle.sem_bits.specs.Number.{num, enc}
use Rattle.sem_bits.specs.Octets.{bits_of, Holds}
use Rattle.sem_bits.specs.Forms.{bits_in, IsForm}
use Rattle.sem_bits.proofs.Numbers.{length-enc, num-enc, enc-num, num-below, enc_nil, num_join}
use Rattle.sem_bits.proofs.CursorLists.{length_part}
use Rattle.sem_bits.proofs.NumberWindows.{window, num_low, enc_split, enc_join, enc_zero, part_padded, take_zeros, count_held, octet_whole, take_bits}
use Rattle.sem_bits.proofs.Octets.{length-bits_of}

-- ---- what the forms say

pub form_length : (f : Form) (n : ℕ) → IsForm f n → length (bits_in f n) ≡ n
form_length (Word w) n h = length-enc n w
form_length (Long l) n h = h.0

pub form_limit : (f : Form) (n : ℕ) → IsForm f n → n < 2 ^ 31
form_limit (Word w) n h = omega (arith, h.0)
form_limit (Long l) n h = h.2

pub seen_word : (f : Form) (n w : ℕ) (b : List Bool) → f ≡ Word w → bits_in f n ≡ b → IsForm f n → (enc n w ≡ b) × (n ≤ 64) × (w < 2 ^ n)
seen_word (Word x) n w b e v h =
    let same : x ≡ w = cc in
    let P : ℕ → Type 0 = λ z. (enc n z ≡ b) × (n ≤ 64) × (z < 2 ^ n) in
    let here : P x = (v, h.0, h.1) in
    subst P same here
seen_word (Long l) n w b e v h = absurd (cc)

pub counted : (f : Form) (n : ℕ) (b : List Bool) → bits_in f n ≡ b → IsForm f n → length b ≡ n
counted f n b v h = ap length (sym v) ∙ form_length f n h

pub word_few : (f : Form) (n w : ℕ) (b : List Bool) → f ≡ Word w → bits_in f n ≡ b → IsForm f n → length b ≤ 64
word_few f n w b e v h = let s = seen_word f n w b e v h in omega (arith, counted f n b v h, s.1)

-- a form that is a word has the number that the bits spell
pub word_value : (f : Form) (n w : ℕ) (b : List Bool) → f ≡ Word w → bits_in f n ≡ b → IsForm f n → (length b ≤ 64) × (w ≡ num b)
word_value f n w b e v h =
    let s = seen_word f n w b e v h in (omega (arith, ap length s.0, length-enc n w, s.1), sym (num-enc n w s.2) ∙ ap num s.0)

-- ---- bits of a word

pub enc_bit : (n w p : ℕ) → p < n → get_or (enc n w) p false ≡ (w / 2 ^ (n - 1 - p) % 2 == 1)
unfolding enc
enc_bit n w p h =
    let m : p + (1 + (n - 1 - p)) ≡ n = omega arith in
    let z : p + 0 ≡ p = omega arith in
    let one : take 1 (drop p (enc n w)) ≡ enc 1 (w / 2 ^ (n - 1 - p)) = ap (λ k. take 1 (drop p (enc k w))) (sym m) ∙ window p 1 (n - 1 - p) w in
    ap (λ k. get_or (enc n w) k false) (sym z) ∙ sym (get_or-drop p (enc n w) 0 false) ∙ sym (get_or-take 1 (drop p (enc n w)) 0 false (omega arith)) ∙ ap (λ l. get_or l 0 false) one

pub word_bit : (f : Form) (n w p : ℕ) (b : List Bool) → f ≡ Word w → bits_in f n ≡ b → IsForm f n → p < n → Some (w / 2 ^ (n - 1 - p) % 2 == 1) ≡ slice_get b p
word_bit f n w p b e v h l =
    let s = seen_word f n w b e v h in
    ap Some (sym (enc_bit n w p l)) ∙ sym (slice_get-get_or (enc n w) p false (omega (arith, length-enc n w))) ∙ ap (λ x. slice_get x p) s.0

pub past_all : (b : List Bool) (n p : ℕ) → length b ≡ n → n ≤ p → None ≡ slice_get b p
past_all b n p l h = sym (slice_get_past b p (omega (arith, l)))

-- ---- parts of a word

pub word_part : (f : Form) (n w p c : ℕ) (b : List Bool) → f ≡ Word w → bits_in f n ≡ b → IsForm f n → p + c ≤ n → w / 2 ^ (n - p - c) % 2 ^ c ≡ num (slice_range b p (p + c))
word_part f n w p c b e v h l =
    let s = seen_word f n w b e v h in
    let m : p + (c + (n - p - c)) ≡ n = omega arith in
    let d : (p + c) - p ≡ c = omega arith in
    let cut : take c (drop p (enc n w)) ≡ enc c (w / 2 ^ (n - p - c)) = ap (λ k. take c (drop p (enc k w))) (sym m) ∙ window p c (n - p - c) w in
    sym (num_low c (w / 2 ^ (n - p - c))) ∙ ap num (sym cut) ∙ ap (λ x. num (take c (drop p x))) s.0 ∙ ap (λ k. num (take k (drop p b))) (sym d)

-- what a part's number spells
pub part_spelled : (b : List Bool) (p q x : ℕ) → p ≤ q → q ≤ length b → x ≡ num (slice_range b p (p + (q - p))) → (x < 2 ^ (q - p)) × (enc (q - p) x ≡ slice_range b p q)
part_spelled b p q x h k e =
    let n : p + (q - p) ≡ q = omega arith in
    let l : length (slice_range b p (p + (q - p))) ≡ q - p = length_part b p (q - p) (omega (arith, length-drop p b)) in
    let v : num (slice_range b p (p + (q - p))) ≡ x = sym e in
    let same : enc (q - p) x ≡ slice_range b p (p + (q - p)) = (λ i. enc (sym l i) (e i)) ∙ enc-num (slice_range b p (p + (q - p))) in
    (rw (l, v) at (num-below (slice_range b p (p + (q - p)))), same ∙ ap (slice_range b p) n)

-- ---- words side by side

pub one_bit : (b : Bool) (x : ℕ) → x ≡ from_bool b → (x < 2) × (enc 1 x ≡ b ∷ [])
unfolding enc
one_bit true x e = rw e (omega arith, refl)
one_bit false x e = rw e (omega arith, refl)

pub beside_room : (a b : List Bool) (x y n m : ℕ) → length a ≡ n → length b ≡ m → n + m ≤ 64 → x ≡ num a → y ≡ num b → x * 2 ^ m + y < 2 ^ 64
beside_room a b x y n m l k h e f =
    let j : num (a ++ b) ≡ x * 2 ^ m + y = num_join a b ∙ (λ i. sym e i * 2 ^ (k i) + sym f i) in
    let c : length (a ++ b) ≤ 64 = omega (arith, length-append a b) in
    let p : 2 ^ length (a ++ b) ≤ 2 ^ 64 = pow_mono c in
    omega (arith, p, num-below (a ++ b), j)

pub beside_word : (a b : List Bool) (x y n m r : ℕ) → length a ≡ n → length b ≡ m → x ≡ num a → y ≡ num b → r ≡ x * 2 ^ m + y → (r < 2 ^ (n + m)) × (enc (n + m) r ≡ a ++ b)
beside_word a b x y n m r l k e f g =
    let c : length (a ++ b) ≡ n + m = omega (arith, length-append a b) in
    let v : num (a ++ b) ≡ r = num_join a b ∙ (λ i. sym e i * 2 ^ (k i) + sym f i) ∙ sym g in
    (rw (c, v) at (num-below (a ++ b)), (λ i. enc (sym c i) (sym v i)) ∙ enc-num (a ++ b))

-- ---- equal words

-- bits of one count are the same just where they spell one number
pub number_decides : (a b : List Bool) (n x y : ℕ) (r : Bool) → length a ≡ n → length b ≡ n → x ≡ num a → y ≡ num b → Decides r (x ≡ y) → Decides r (a ≡ b)
number_decides a b n x y r l k e f d = (
  (λ t. sym (enc-num a) ∙ (λ i. enc (l i) (sym e i)) ∙ ap (enc n) (d.0 t) ∙ (λ i. enc (sym k i) (f i)) ∙ enc-num b),
  (λ same. d.1 (e ∙ ap num same ∙ sym f)),
)

-- and are others where the counts are
pub count_decides : (a b : List Bool) (n m : ℕ) → length a ≡ n → length b ≡ m → (n ≡ m → ⊥) → Decides false (a ≡ b)
count_decides a b n m l k other = ((λ t. absurd (cc t)), (λ same. absurd (other (sym l ∙ ap length same ∙ k))))

-- ---- words of octets

-- the number of octets is that of the bits and of zero bits after them, or the octets hold no bits of that count
pub few_held : (os : List ℕ) (n w over : ℕ) → IsBytes os → length os ≡ (n + 7) / 8 → n ≤ 64 → over ≡ 8 * length os - n → w ≡ num (bits_of os) → w / 2 ^ over * 2 ^ over % 2 ^ 64 ≡ w → (w / 2 ^ over < 2 ^ n) × Holds os (enc n (w / 2 ^ over))
few_held os n w over fit l small o e same =
    let q : ℕ = w / 2 ^ over in
    let m : length (bits_of os) ≡ n + over = omega (arith, length-bits_of os) in
    let below : w < 2 ^ (n + over) = rw (← m, e) (num-below (bits_of os)) in
    let few : n + over ≤ 64 = omega arith in
    let room : 2 ^ (n + over) ≤ 2 ^ 64 = pow_mono few in
    let whole : w ≡ q * 2 ^ over + 0 = omega (arith, shr_split w over, room) in
    let all : bits_of os ≡ enc (n + over) w = sym (enc-num (bits_of os)) ∙ (λ i. enc (m i) (sym e i)) in (
      shr_below w n over below,
      record {
        octets_fit = fit;
        padding = over;
        few = omega arith;
        filled = all ∙ ap (enc (n + over)) whole ∙ enc_join n over q 0 (pow_pos over) ∙ ap (λ x. enc n q ++ x) (enc_zero over);
      },
    )

pub few_not : (os : List ℕ) (n w over : ℕ) (b : List Bool) → n ≤ 64 → length os ≡ (n + 7) / 8 → over ≡ 8 * length os - n → w ≡ num (bits_of os) → length b ≡ n → Holds os b → w / 2 ^ over * 2 ^ over % 2 ^ 64 ≡ w
few_not os n w over b small l o e m h =
    let c = count_held os b h in
    let pad : h.padding ≡ over = omega arith in
    let k : length (replicate over false) ≡ over = length-replicate over false in
    let z : num (replicate over false) ≡ 0 = ap num (sym (enc_zero over)) ∙ num-enc over 0 (pow_pos over) in
    let v : w ≡ num b * 2 ^ over + 0 = e ∙ ap num (h.filled ∙ ap (λ p. b ++ replicate p false) pad) ∙ num_join b (replicate over false) ∙ (λ i. num b * 2 ^ (k i) + z i) in
    let q : w / 2 ^ over ≡ num b = ap (λ x. x / 2 ^ over) v ∙ shr_high (num b) over 0 (pow_pos over) in
    let below : num b < 2 ^ n = rw (← m) (num-below b) in
    let whole : num b * 2 ^ over % 2 ^ 64 ≡ num b * 2 ^ over = shl_whole (num b) n over 64 below (omega arith) in
    ap (λ x. x * 2 ^ over % 2 ^ 64) q ∙ whole ∙ (omega (arith, v))

-- ---- octets of a word

octet_end : (w n p a : ℕ) → n ≡ 8 * p + a → a < 8 → w * 2 ^ (8 - a) % 2 ^ 64 % 256 ≡ num (take 8 (drop (8 * p) (enc n w ++ replicate 8 false)))
octet_end w n p a e h =
    let split : enc n w ≡ enc (8 * p) (w / 2 ^ a) ++ enc a w = ap (λ k. enc k w) e ∙ enc_split (8 * p) a w in
    let front : drop (8 * p) (enc n w ++ replicate 8 false) ≡ enc a w ++ replicate 8 false =
    ap (λ x. drop (8 * p) (x ++ replicate 8 false)) split ∙ ap (drop (8 * p)) (append_assoc (enc (8 * p) (w / 2 ^ a)) (enc a w) (replicate 8 false)) ∙ drop_at (enc (8 * p) (w / 2 ^ a)) _ (8 * p) (length-enc (8 * p) _) in
    let cut : take 8 (enc a w ++ replicate 8 false) ≡ enc a w ++ replicate (8 - a) false = take_zeros (enc a w) 8 8 (omega (arith, length-enc a w)) (omega (arith, length-enc a w)) ∙ ap (λ k. enc a w ++ replicate (8 - k) false) (length-enc a w) in
    let z : w * 2 ^ (8 - a) + 0 ≡ w * 2 ^ (8 - a) = omega arith in
    let m : a + (8 - a) ≡ 8 = omega arith in
    let whole : enc 8 (w * 2 ^ (8 - a)) ≡ enc a w ++ replicate (8 - a) false = (λ i. enc (sym m i) (sym z i)) ∙ enc_join a (8 - a) w 0 (pow_pos (8 - a)) ∙ ap (λ x. enc a w ++ x) (enc_zero (8 - a)) in
    let low : w * 2 ^ (8 - a) % 2 ^ 64 % 256 ≡ w * 2 ^ (8 - a) % 2 ^ 8 = omega arith in
    low ∙ sym (num_low 8 (w * 2 ^ (8 - a))) ∙ ap num (whole ∙ sym cut ∙ ap (take 8) (sym front))

octet_within : (w n p a : ℕ) → n ≡ 8 * p + a → 8 ≤ a → w / 2 ^ (a - 8) % 256 ≡ num (take 8 (drop (8 * p) (enc n w ++ replicate 8 false)))
octet_within w n p a e h =
    let m : 8 * p + (8 + (a - 8)) ≡ n = omega arith in
    let cut : take 8 (drop (8 * p) (enc n w)) ≡ enc 8 (w / 2 ^ (a - 8)) = ap (λ k. take 8 (drop (8 * p) (enc k w))) (sym m) ∙ window (8 * p) 8 (a - 8) w in
    let same : take 8 (drop (8 * p) (enc n w ++ replicate 8 false)) ≡ enc 8 (w / 2 ^ (a - 8)) = part_padded (enc n w) (replicate 8 false) (8 * p) 8 (omega (arith, length-enc n w)) ∙ cut in
    sym (num_low 8 (w / 2 ^ (a - 8))) ∙ ap num (sym same)

pub end_octet : (w n p : ℕ) → 8 * p < n → n - 8 * p < 8 → w * 2 ^ (8 - (n - 8 * p)) % 2 ^ 64 % 256 ≡ num (take 8 (drop (8 * p) (enc n w ++ replicate 8 false)))
end_octet w n p h l = octet_end w n p (n - 8 * p) (omega arith) l

pub inner_octet : (w n p : ℕ) → 8 * p < n → 8 ≤ n - 8 * p → w / 2 ^ (n - 8 * p - 8) % 256 ≡ num (take 8 (drop (8 * p) (enc n w ++ replicate 8 false)))
inner_octet w n p h l = octet_within w n p (n - 8 * p) (omega arith) l

-- the octets of a number, the highest first
pow_octets : (k : ℕ) → 256 ^ k ≡ 2 ^ (8 * k)
pow_octets zero = refl
pow_octets (suc k) =
    let n : 8 * suc k ≡ 8 + 8 * k = omega arith in
    pow-succ' 256 k ∙ ap (λ x. 256 * x) (pow_octets k) ∙ sym (pow-add 2 8 (8 * k)) ∙ ap (λ j. 2 ^ j) (sym n)

byte_is : (k w : ℕ) → byte_at k w ≡ w / 2 ^ (8 * k) % 256
byte_is zero w = let e : w / 1 ≡ w = omega arith in ap (λ x. x % 256) (sym e)
byte_is (suc k) w = ap (λ x. w / x % 256) (pow_octets (suc k))

bytes_bits : (k w : ℕ) → bits_of (bytes_high_first k w) ≡ enc (8 * k) w
bytes_bits zero w = sym (enc_nil w)
bytes_bits (suc k) w =
    let n : 8 * suc k ≡ 8 + 8 * k = omega arith in
    let first : enc 8 (byte_at k w) ≡ enc 8 (w / 2 ^ (8 * k)) = ap (enc 8) (byte_is k w) ∙ octet_whole (w / 2 ^ (8 * k)) in
    (λ i. first i ++ bytes_bits k w i) ∙ sym (ap (λ j. enc j w) n ∙ enc_split 8 (8 * k) w)

bytes_count : (k w : ℕ) → length (bytes_high_first k w) ≡ k
bytes_count zero w = refl
bytes_count (suc k) w = ap suc (bytes_count k w)

byte_small : (k w : ℕ) → byte_at k w < 256
byte_small k w = rw (byte_is k w) (omega arith)

bytes_fit : (k w : ℕ) → IsBytes (bytes_high_first k w)
bytes_fit zero w i = omega arith
bytes_fit (suc k) w zero = byte_small k w
bytes_fit (suc k) w (suc i) = bytes_fit k w i

take_bytes : (os : List ℕ) (n : ℕ) → IsBytes os → IsBytes (take n os)
take_bytes os zero fit i = omega arith
take_bytes [] (suc n) fit i = omega arith
take_bytes (o ∷ os) (suc n) fit zero = fit 0
take_bytes (o ∷ os) (suc n) fit (suc i) = take_bytes os n (λ j. fit (suc j)) i

front_held : (os : List ℕ) (w n : ℕ) → IsBytes os → length os ≡ 8 → n ≤ 64 → bits_of os ≡ enc 64 (w * 2 ^ (64 - n)) → Holds (take ((n + 7) / 8) os) (enc n w)
front_held os w n fit l h e =
    let many : ℕ = (n + 7) / 8 in
    let m : n + (64 - n) ≡ 64 = omega arith in
    let z : w * 2 ^ (64 - n) + 0 ≡ w * 2 ^ (64 - n) = omega arith in
    let all : bits_of os ≡ enc n w ++ replicate (64 - n) false = e ∙ (λ i. enc (sym m i) (sym z i)) ∙ enc_join n (64 - n) w 0 (pow_pos (64 - n)) ∙ ap (λ x. enc n w ++ x) (enc_zero (64 - n)) in
    let cut : take (8 * many) (enc n w ++ replicate (64 - n) false) ≡ enc n w ++ replicate (8 * many - length (enc n w)) false = take_zeros (enc n w) (64 - n) (8 * many) (omega (arith, length-enc n w)) (omega (arith, length-enc n w)) in
    record {
      octets_fit = take_bytes os many fit;
      padding = 8 * many - length (enc n w);
      few = omega (arith, length-enc n w);
      filled = sym (take_bits os many (omega arith)) ∙ ap (take (8 * many)) all ∙ cut;
    }

pub first_octets : (w n r : ℕ) → n ≤ 64 → r ≡ w * 2 ^ (64 - n) → Holds (take ((n + 7) / 8) (bytes_high_first 8 r)) (enc n w)
first_octets w n r h e = front_held (bytes_high_first 8 r) w n (bytes_fit 8 r) (bytes_count 8 r) h (bytes_bits 8 r ∙ ap (enc 64) e)

pub eight_spelled : (os : List ℕ) (r : ℕ) → r < 2 ^ 64 → bytes_high_first 8 r ≡ os → r ≡ num (bits_of os)
eight_spelled os r small is = sym (ap num (ap bits_of (sym is) ∙ bytes_bits 8 r) ∙ num-enc 64 r small)

pub ruleset forms = (form_length, form_limit, word_few, word_value, word_bit, word_part, past_all, enc_nil)

pub ruleset octet = (end_octet, inner_octet)
