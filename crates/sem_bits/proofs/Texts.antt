use Rattle.std.proofs.Common.{◌≡◌, ◌==◌, cond, ℕ, zero, suc, ◌+◌, ◌<◌, ◌≤◌, ◌^◌, ◌/◌, Bool, true, false, List, [], ◌∷◌, ◌++◌, length, take, drop, get_or, refl, sym, ap, ◌∙◌, arith, nat_lt, subst, length-append, ◌-◌}
use Rattle.std.specs.Prelude.{decimal, IsErr, MatchResult, IsOk, is_err, IfOk, IfSome, IfNone, Option, Some, None, Result, Ok, Err}
use Rattle.std.specs.Str.Parse.{AllDigits, IsNumeral, without_leading_plus}
use Rattle.std.proofs.lemmas.Str.Parse.{IsNumeralModel, numerals_by_value, tells_digits, not_in_digits}
use Rattle.std.proofs.lemmas.Fmt.{digits_decimal, decimal_injective, decimal_nonempty, decimal_digit, first_decimal, decimal-digits_value}
use Rattle.std.proofs.lemmas.List.{get_or-append_right, take_at}
use Rattle.std.specs.Str.Parse.{digits_value}
use Rattle.hex.specs.Hex.{decode_of, decode_sized, encode_lower, lower_digits}
use Rattle.hex.proofs.HexLemmas.{IsAscii-encode_with, decode_of-encode_lower, decode_of-ok, decode_sized-twice}
use Rattle.hex.specs.declared.error.FromHexError.{FromHexError}
use Rattle.std.specs.List.{list_all}
use Rattle.std.specs.Str.{IsUtf8, IsAscii}
use Rattle.std.proofs.lemmas.Bool.{ltb-true, and_parts}
use Rattle.std.proofs.lemmas.Bool.Decides.{Decides-eqb}
use Rattle.std.proofs.lemmas.Str.Ascii.{IsAscii-nil, IsAscii-cons}
use Rattle.std.proofs.lemmas.Str.{IsUtf8-from_ascii}
use Rattle.sem_bits.specs.Number.{enc}
use Rattle.sem_bits.proofs.Numbers.{length-enc}
use Rattle.sem_bits.specs.Octets.{Holds}
use Rattle.sem_bits.specs.Text.{IsText, ReadsAs}
use Rattle.sem_bits.proofs.OctetsHeld.{bits_same, octets_same}
use Rattle.sem_bits.proofs.NumberWindows.{count_held}

-- no octet of the text is a colon
abbrev pub Lacks : List ℕ → Type 0
Lacks xs = (i : ℕ) → i < length xs → get_or xs i 0 ≡ 58 → ⊥

own : IsNumeralModel (AllDigits 10) (digits_value 10)
own = numerals_by_value (AllDigits 10) tells_digits

pub Lacks-decimal : (n : ℕ) → n < 2 ^ 64 → Lacks (decimal n)
Lacks-decimal n h = not_in_digits own (decimal n) 58 (digits_decimal own n h) (λ r. absurd (omega arith))

-- digits that begin with no plus, and with no zero where others follow, are a number's own
not_equal : (x y : ℕ) → (x ≡ y → ⊥) → (x == y) ≡ false
not_equal x y h = by (x == y) refl
  where
    by : (b : Bool) → (x == y) ≡ b → (x == y) ≡ false
    by true e = absurd (h ((Decides-eqb x y).0 e))
    by false e = e

pub count_read : (text : List ℕ) (n : ℕ) → IsNumeral 10 (without_leading_plus text) × (digits_value 10 (without_leading_plus text) < 2 ^ 64) → n ≡ digits_value 10 (without_leading_plus text)
    → (get_or text 0 0 ≡ 43 → ⊥) → (get_or text 0 0 ≡ 48 → length text ≡ 1) → text ≡ decimal n
count_read text n is e plus zeros =
    let whole : without_leading_plus text ≡ text = ap (λ b. drop (cond b 1 0) text) (not_equal (get_or text 0 0) 43 plus) in
    let P : List ℕ → Type 0 = λ t. IsNumeral 10 t × (digits_value 10 t < 2 ^ 64) in
    let here : P text = subst P whole is in
    sym (ap decimal (e ∙ ap (digits_value 10) whole) ∙ decimal-digits_value own text here.0.1 here.0.0 zeros here.1)

pub count_plain : (text : List ℕ) (n : ℕ) → n < 2 ^ 64 → text ≡ decimal n → (get_or text 0 0 ≡ 43 → ⊥) × (get_or text 0 0 ≡ 48 → length text ≡ 1)
count_plain text n small e =
    let P : List ℕ → Type 0 = λ t. (get_or t 0 0 ≡ 43 → ⊥) × (get_or t 0 0 ≡ 48 → length t ≡ 1) in
    subst P (sym e) (not_in_digits own (decimal n) 43 (digits_decimal own n small) (λ r. absurd (omega arith)) 0 (decimal_nonempty n small), short n small)
  where
    short : (m : ℕ) → m < 2 ^ 64 → get_or (decimal m) 0 0 ≡ 48 → length (decimal m) ≡ 1
    short zero h z = ap length (decimal_digit 0 (omega arith))
    short (suc m) h z = absurd (omega (arith, first_decimal (suc m) (omega arith) h))

-- a text is cut at its first colon in one way
pub cut_same : (xs ys more rest : List ℕ) → Lacks xs → Lacks ys → xs ++ 58 ∷ more ≡ ys ++ 58 ∷ rest → (xs ≡ ys) × (more ≡ rest)
cut_same [] [] more rest l m e = (refl, cc)
cut_same [] (y ∷ ys) more rest l m e = let h : y ≡ 58 = cc in absurd (m 0 (omega arith) h)
cut_same (x ∷ xs) [] more rest l m e = let h : x ≡ 58 = cc in absurd (l 0 (omega arith) h)
cut_same (x ∷ xs) (y ∷ ys) more rest l m e =
    let r : xs ++ 58 ∷ more ≡ ys ++ 58 ∷ rest = cc in
    let same = cut_same xs ys more rest (λ i h. l (suc i) (omega arith)) (λ i h. m (suc i) (omega arith)) r in
    let first : x ≡ y = cc in
    ((λ k. first k ∷ same.0 k), same.1)

-- a text with a colon has one
pub no_colon : (text front digits : List ℕ) → Lacks text → text ≡ front ++ 58 ∷ digits → ⊥
no_colon text front digits l e =
    let here : get_or text (length front) 0 ≡ 58 = ap (λ t. get_or t (length front) 0) e ∙ get_or-append_right front (58 ∷ digits) (length front) (length front) 0 refl (omega arith) ∙ at_start in
    let inside : length front < length text = omega (arith, ap length e ∙ length-append front (58 ∷ digits)) in
    l (length front) inside here
  where
    at_start : get_or (58 ∷ digits) (length front - length front) 0 ≡ 58
    at_start = let z : length front - length front ≡ 0 = omega arith in rw z refl

-- what is read is cut as it was written
pub read_parts : (text front digits : List ℕ) (b : List Bool) → text ≡ front ++ 58 ∷ digits → Lacks front → length b < 2 ^ 31 → (r : ReadsAs text b) → (front ≡ decimal (length b)) × (digits ≡ r.digits)
read_parts text front digits b e l small r = cut_same front (decimal (length b)) digits r.digits l (Lacks-decimal (length b) (omega arith)) (sym e ∙ r.spelled)

pub read_found : {E : Type 0} (r : Result (Option (List Bool)) E) (text front digits octets : List ℕ) (count : ℕ) → text ≡ front ++ 58 ∷ digits → front ≡ decimal count → count ≤ 65536 → decode_of digits ≡ Ok octets
    → IfOk r (λ o. IfSome o (λ b. (length b ≡ count) × Holds octets b)) → IfOk r (λ o. IfSome o (λ b. ReadsAs text b × (length b ≤ 65536)))
read_found (Ok (Some b)) text front digits octets count cut spelled small d h = (
  record { octets = octets; digits = digits; held = h.1; spelled = cut ∙ ap (λ t. t ++ 58 ∷ digits) (spelled ∙ ap decimal (sym h.0)); decoded = d },
  omega (arith, h.0),
)
read_found (Ok None) text front digits octets count cut spelled small d h = h
read_found (Err e) text front digits octets count cut spelled small d h = h

same_count : (m n : ℕ) → m < 2 ^ 31 → n < 2 ^ 31 → decimal m ≡ decimal n → m ≡ n
same_count m n h k e = decimal_injective m n (omega arith) (omega arith) e

pub read_none : {E : Type 0} (r : Result (Option (List Bool)) E) (text front digits octets : List ℕ) (count : ℕ) → text ≡ front ++ 58 ∷ digits → Lacks front → front ≡ decimal count → count ≤ 65536 → decode_of digits ≡ Ok octets
    → IfOk r (λ o. IfNone o ((b : List Bool) → length b ≡ count → count < 2 ^ 31 → Holds octets b → ⊥)) → IfOk r (λ o. IfNone o ((b : List Bool) → length b ≤ 65536 → ReadsAs text b → ⊥))
read_none (Ok (Some b)) text front digits octets count cut l spelled small d h = h
read_none (Err e) text front digits octets count cut l spelled small d h = h
read_none (Ok None) text front digits octets count cut l spelled small d h = λ b k r.
    let parts = read_parts text front digits b cut l (omega arith) r in
    let n : length b ≡ count = same_count (length b) count (omega arith) (omega arith) (sym parts.0 ∙ spelled) in
    let o : Ok r.octets ≡ Ok octets = sym r.decoded ∙ ap decode_of (sym parts.1) ∙ d in
    let same : r.octets ≡ octets = cc in
    let held : Holds octets b = let P : List ℕ → Type 0 = λ x. Holds x b in subst P same r.held in
    h b n (omega arith) held

-- digits that no octets have are read as no bits
pub decoded_not : (text front digits : List ℕ) (b : List Bool) → text ≡ front ++ 58 ∷ digits → Lacks front → length b < 2 ^ 31 → IsErr (decode_of digits) → ReadsAs text b → ⊥
decoded_not text front digits b cut l small none r =
    let d : decode_of digits ≡ Ok r.octets = ap decode_of (read_parts text front digits b cut l small r).1 ∙ r.decoded in
    let no : IsErr {T = List ℕ} {E = FromHexError} (Ok r.octets) = rw d at none in
    cc

-- digits of at most 64 bits are as many as the octets have
sized : (digits : List ℕ) (count : ℕ) (b : List Bool) → count ≤ 64 → length b ≡ count → (r : ReadsAs (decimal count ++ 58 ∷ digits) b) → decode_sized digits ((count + 7) / 8) ≡ Ok r.octets
sized digits count b small n r =
    let parts = read_parts (decimal count ++ 58 ∷ digits) (decimal count) digits b refl (Lacks-decimal count (omega arith)) (omega arith) r in
    let read : decode_of digits ≡ Ok r.octets = ap decode_of parts.1 ∙ r.decoded in
    let held = count_held r.octets b r.held in
    let few = r.held.few in
    let twice = (decode_of-ok digits r.octets read).2 in
    decode_sized-twice digits ((count + 7) / 8) (omega (arith, held, few, n, twice)) ∙ read

abbrev Decoded : List ℕ → ℕ → Result Unit FromHexError → List ℕ → Type 0
Decoded digits n r out = MatchResult (decode_sized digits n) (λ bytes. (r ≡ Ok tt) × (out ≡ bytes)) (λ e. r ≡ Err e)

pub refused_not : (digits out : List ℕ) (count n : ℕ) (r : Result Unit FromHexError) → count ≤ 64 → n ≡ (count + 7) / 8 → Decoded digits n r out → true ≡ is_err r → (b : List Bool) → length b ≡ count → ReadsAs (decimal count ++ 58 ∷ digits) b → ⊥
refused_not digits out count n r small m d e b l reads =
    let s : decode_sized digits n ≡ Ok reads.octets = ap (decode_sized digits) m ∙ sized digits count b small l reads in
    let found = rw s at d in
    let wrong : true ≡ is_err {T = Unit} {E = FromHexError} (Ok tt) = e ∙ ap is_err found.0 in
    absurd (cc wrong)

pub word_none : (o : Option (List Bool)) (digits out rest : List ℕ) (count n : ℕ) (r : Result Unit FromHexError) → count ≤ 64 → n ≡ (count + 7) / 8 → Decoded digits n r out
    → IfNone o ((b : List Bool) → length b ≡ count → Holds (take ((count + 7) / 8) (out ++ rest)) b → ⊥) → IfNone o ((b : List Bool) → length b ≡ count → ReadsAs (decimal count ++ 58 ∷ digits) b → ⊥)
word_none (Some b) digits out rest count n r small m d h = h
word_none None digits out rest count n r small m d h = λ b l reads.
    let s : decode_sized digits n ≡ Ok reads.octets = ap (decode_sized digits) m ∙ sized digits count b small l reads in
    let found = rw s at d in
    let held = count_held reads.octets b reads.held in
    let few = reads.held.few in
    let front : take ((count + 7) / 8) (out ++ rest) ≡ reads.octets = ap (λ x. take ((count + 7) / 8) (x ++ rest)) found.1 ∙ take_at reads.octets rest ((count + 7) / 8) (omega (arith, held, few, l)) in
    let P : List ℕ → Type 0 = λ x. Holds x b in
    h b l (subst P (sym front) reads.held)

-- a text of at most 64 bits is read by its parts
pub word_read : (o : Option (List Bool)) (text front digits : List ℕ) (count : ℕ) → text ≡ front ++ 58 ∷ digits → Lacks front → front ≡ decimal count → count ≤ 64
    → IfNone o ((b : List Bool) → length b ≡ count → ReadsAs (decimal count ++ 58 ∷ digits) b → ⊥) → IfNone o ((b : List Bool) → length b ≤ 65536 → ReadsAs text b → ⊥)
word_read (Some b) text front digits count cut l spelled small h = h
word_read None text front digits count cut l spelled small h = λ b k r.
    let parts = read_parts text front digits b cut l (omega arith) r in
    let n : length b ≡ count = same_count (length b) count (omega arith) (omega arith) (sym parts.0 ∙ spelled) in
    let P : List ℕ → Type 0 = λ t. ReadsAs t b in
    h b n (subst P (cut ∙ ap (λ t. t ++ 58 ∷ digits) spelled) r)

ascii : (bs : List ℕ) → list_all (λ b. nat_lt b 128) bs ≡ true → IsAscii bs
ascii [] e = IsAscii-nil
ascii (b ∷ bs) e =
    let parts = and_parts (nat_lt b 128) (list_all (λ c. nat_lt c 128) bs) e in
    IsAscii-cons b bs (ltb-true b 128 parts.0) (ascii bs parts.1)

-- the digits of octets are a text
pub digits_text : (octets : List ℕ) → IsUtf8 (encode_lower octets)
digits_text octets = IsUtf8-from_ascii (encode_lower octets) (IsAscii-encode_with lower_digits octets (ascii lower_digits refl))

pub is_read : {S E : Type 0} (r : Result S E) (bytes : List ℕ) (P : S → Type 0) (Q : E → Type 0) → MatchResult r P (λ e. (¬ (IsUtf8 bytes)) × Q e) → IsUtf8 bytes → IsOk r
is_read (Ok s) bytes P Q m u = refl
is_read (Err e) bytes P Q m u = absurd (m.0 u)

pub word_text : {E : Type 0} {S : Type 0} (r : Result S E) (bytes : S → List ℕ) (octets : List ℕ) (count word : ℕ) → Holds octets (enc count word) → IfOk r (λ t. bytes t ≡ decimal count ++ 58 ∷ encode_lower octets) → IfOk r (λ t. IsText (bytes t) (enc count word))
word_text (Ok t) bytes octets count word h e = record { octets = octets; held = h; spelled = e ∙ ap (λ n. decimal n ++ 58 ∷ encode_lower octets) (sym (length-enc count word)) }
word_text (Err f) bytes octets count word h e = e

-- a printed text is read as the bits
pub reads_back : (text : List ℕ) (b : List Bool) → IsText text b → ReadsAs text b
reads_back text b t = record { octets = t.octets; digits = encode_lower t.octets; held = t.held; spelled = t.spelled; decoded = decode_of-encode_lower t.octets t.held.octets_fit }

-- and as no others
pub one_reading : (text : List ℕ) (a b : List Bool) → length a < 2 ^ 31 → length b < 2 ^ 31 → ReadsAs text a → ReadsAs text b → a ≡ b
one_reading text a b small less r s =
    let parts = read_parts text (decimal (length a)) r.digits b r.spelled (Lacks-decimal (length a) (omega arith)) less s in
    let n : length a ≡ length b = same_count (length a) (length b) small less parts.0 in
    let o : Ok r.octets ≡ Ok s.octets = sym r.decoded ∙ ap decode_of parts.1 ∙ s.decoded in
    let same : s.octets ≡ r.octets = cc in
    let held : Holds r.octets b = let P : List ℕ → Type 0 = λ x. Holds x b in subst P same s.held in
    bits_same r.octets a b r.held held n

-- the printed text is one
pub one_text : (s t : List ℕ) (b : List Bool) → IsText s b → IsText t b → s ≡ t
one_text s t b p q = p.spelled ∙ ap (λ o. decimal (length b) ++ 58 ∷ encode_lower o) (octets_same p.octets q.octets b p.held q.held) ∙ sym q.spelled
