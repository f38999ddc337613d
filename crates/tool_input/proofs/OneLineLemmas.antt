-- Texts of one line: joined texts, numbers and names, the lines of refused items and events.
use Rattle.std.proofs.Common.{◌≡◌, ◌≤◌, ℕ, zero, suc, ◌+◌, ◌/◌, ◌%◌, ◌==◌, ◌&&◌, nat_lt, Bool, true, false, not, List, [], ◌∷◌, ◌++◌, refl, sym, ap, subst, if◌then◌else◌, codes, arith}
use Rattle.std.specs.Prelude.{IfOk, Ok, Err, Result, String, string_bytes, decimal}
use Rattle.std.specs.Char.{is_ascii_alphabetic}
use Rattle.std.specs.Fmt.{digit_glyph, digits, digits_onto}
use Rattle.std.specs.Global.{Global}
use Rattle.std.specs.declared.alloc.AllocError.{AllocError}
use Rattle.std.specs.List.{list_all}
use Rattle.std.proofs.lemmas.Bool.{false≢true}
use Rattle.std.proofs.lemmas.Bool.Decides.{nat_tests}
use Rattle.text_source.specs.Names.{is_name, is_name_octet}
use Rattle.tool_input.proofs.BundleLines.{not_ten}
use Rattle.tool_input.specs.OneLine.{IsLine, is_line}

pub and_parts : (a b : Bool) → (a && b) ≡ true → (a ≡ true) × (b ≡ true)
and_parts true b h = (refl, h)
and_parts false b h = absurd (false≢true h)

append_line : (a b : List ℕ) → is_line a ≡ true → is_line b ≡ true → is_line (a ++ b) ≡ true
append_line [] b p q = q
append_line (x ∷ xs) b p q =
    let parts = and_parts (not (x == 10)) (is_line xs) p in
    rw (parts.0, append_line xs b parts.1 q) refl

-- two lines without a line feed between them are one
pub joined : {a b : List ℕ} → IsLine a → IsLine b → IsLine (a ++ b)
joined {a} {b} p q = record { no_feed = append_line a b p.no_feed q.no_feed }

-- a text that is told is one
pub told : (r : Result (String Global) AllocError) (line : List ℕ) → IsLine line → IfOk r (λ text. string_bytes text ≡ line) → IfOk r (λ text. IsLine (string_bytes text))
told (Err e) line h is = tt
told (Ok text) line h is = subst IsLine (sym is) h

pub above : (x : ℕ) → 11 ≤ x → not (x == 10) ≡ true
above x h = ap not (not_ten x (λ e. omega arith))

-- ---- numbers and names

glyph_high : (d : ℕ) → 48 ≤ digit_glyph false d
glyph_high d = elim (nat_lt d 10) as (λ b. 48 ≤ (if b then 48 + d else (if false then 55 + d else 87 + d))) [ true ↦ omega arith | false ↦ omega arith ]

digit_before : (d : ℕ) (acc : List ℕ) → is_line acc ≡ true → is_line (digit_glyph false d ∷ acc) ≡ true
digit_before d acc h =
    let high = glyph_high d in
    rw (above (digit_glyph false d) (omega arith), h) refl

digits_line : (k base n : ℕ) (acc : List ℕ) → is_line acc ≡ true → is_line (digits_onto k base false n acc) ≡ true
digits_line zero base n acc h = h
digits_line (suc k) base n acc h =
    let here = digit_before (n % base) acc h in
    elim (n / base == 0) as (λ b. is_line (if b then digit_glyph false (n % base) ∷ acc else digits_onto k base false (n / base) (digit_glyph false (n % base) ∷ acc)) ≡ true) [ true ↦ here | false ↦ digits_line k base (n / base) _ here ]

pub digits_in : (base n : ℕ) → IsLine (digits base false n)
unfolding digits
digits_in base n = record { no_feed = digits_line 64 base n [] refl }

pub number : (n : ℕ) → IsLine (decimal n)
number n = digits_in 10 n

octet_high : (c : ℕ) → is_name_octet c ≡ true → 48 ≤ c
octet_high c h = grind (arith, nat_tests)

letter_high : (c : ℕ) → is_ascii_alphabetic c ≡ true → 48 ≤ c
letter_high c h = grind (arith, nat_tests)

octets_line : (xs : List ℕ) → list_all is_name_octet xs ≡ true → is_line xs ≡ true
octets_line [] h = refl
octets_line (x ∷ xs) h =
    let parts = and_parts (is_name_octet x) (list_all is_name_octet xs) h in
    let high = octet_high x parts.0 in
    rw (above x (omega arith), octets_line xs parts.1) refl

name_line : (xs : List ℕ) → is_name xs ≡ true → is_line xs ≡ true
name_line [] h = absurd (false≢true h)
name_line (x ∷ xs) h =
    let parts = and_parts (is_ascii_alphabetic x) (list_all is_name_octet xs) h in
    let high = letter_high x parts.0 in
    rw (above x (omega arith), octets_line xs parts.1) refl

pub name : (xs : List ℕ) → is_name xs ≡ true → IsLine xs
name xs h = record { no_feed = name_line xs h }

-- ---- items and events

pub in_item : (n : ℕ) (words : List ℕ) → IsLine words → IsLine (codes "item " ++ decimal n ++ words)
in_item n words h =
    let item : IsLine (codes "item ") = record { no_feed = refl } in
    joined (joined item (number n)) h

pub asked_item : (n : ℕ) (x : List ℕ) → is_name x ≡ true → IsLine (codes "item " ++ decimal n ++ codes ": F2 Asked " ++ x)
asked_item n x h =
    let words : IsLine (codes ": F2 Asked ") = record { no_feed = refl } in
    joined (in_item n (codes ": F2 Asked ") words) (name x h)

pub in_event : (n : ℕ) (words : List ℕ) → IsLine words → IsLine (codes "event " ++ decimal n ++ words)
in_event n words h =
    let event : IsLine (codes "event ") = record { no_feed = refl } in
    joined (joined event (number n)) h

pub asked_event : (n : ℕ) (x : List ℕ) → is_name x ≡ true → IsLine (codes "event " ++ decimal n ++ codes ": F2 Asked " ++ x)
asked_event n x h =
    let words : IsLine (codes ": F2 Asked ") = record { no_feed = refl } in
    joined (in_event n (codes ": F2 Asked ") words) (name x h)
