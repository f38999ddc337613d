-- Where tokens stand.
use Rattle.std.proofs.Common.{◌≡◌, ℕ, suc, ◌+◌, ◌-◌, ◌<◌, ◌≤◌, List, [], ◌∷◌, ◌++◌, length, length-append, drop, sym, ap, subst, ◌∙◌, arith}
use Rattle.std.proofs.lemmas.List.{drop-drop}
use Rattle.std.specs.List.{AllByRecursion}
use Rattle.text_source.specs.declared.token.TokenKind.{TokenKind}
use Rattle.text_source.specs.declared.token.Token.{Token}
use Rattle.text_source.specs.Lexical as s
use Rattle.text_source.specs.Lexical.{Lexes, Lexed, Closes, IsGap, IsNumeral, IsToken, span_of, spelling}
use Rattle.text_source.specs.Laws.{Rise, IsItsText}
use Rattle.text_source.proofs.LexicalRuns.{run_len, run_drop}
use Rattle.text_source.proofs.LexicalWords.{closes_len}
use Rattle.text_source.proofs.LexicalFronts.{gap_len, token_len}

-- ---- spans rise

rise_from : (len : ℕ) (from : List ℕ) (ts : List Token) (low : ℕ) → Lexes len from [] ts → length from ≤ len → low ≤ len - length from → Rise low len ts
rise_from len _ _ low s.done le h = omega arith
rise_from len from ts low (s.gap {mid = mid} g h) le before = let lt = gap_len g in rise_from len mid ts low h (omega arith) (omega arith)
rise_from len from _ low (s.token {mid = mid} {ts = ts} g h) le before =
    let lt = token_len g in
    (before, omega arith, rise_from len mid ts (len - length mid) h (omega arith) (omega arith))

pub spans_rise : (text : List ℕ) (ts : List Token) → Lexed text ts → Rise 0 (length text) ts
spans_rise text ts h = rise_from (length text) text ts 0 h (omega arith) (omega arith)

-- ---- each token is its text

-- what is left after a part is left after its octets
cons_drop : (c : ℕ) (from to : List ℕ) → length to ≤ length from → drop (length from - length to) from ≡ to → drop (length (c ∷ from) - length to) (c ∷ from) ≡ to
cons_drop c from to le e =
    let more : suc (length from) - length to ≡ suc (length from - length to) = omega arith in
    ap (λ (n : ℕ). drop n (c ∷ from)) more ∙ e

here_drop : (to : List ℕ) → drop (length to - length to) to ≡ to
here_drop to = let zero_is : length to - length to ≡ 0 = omega arith in ap (λ (n : ℕ). drop n to) zero_is

one_drop : (c : ℕ) (to : List ℕ) → drop (length (c ∷ to) - length to) (c ∷ to) ≡ to
one_drop c to = cons_drop c to to (omega arith) (here_drop to)

quoted_drop : (from to : List ℕ) → length (39 ∷ to) ≤ length from → drop (length from - length (39 ∷ to)) from ≡ 39 ∷ to → drop (length (39 ∷ from) - length to) (39 ∷ from) ≡ to
quoted_drop from to le e =
    cons_drop 39 from to (omega arith)
    (let more : length from - length to ≡ (length from - length (39 ∷ to)) + 1 = omega arith in
    ap (λ (n : ℕ). drop n from) more ∙ sym (drop-drop 1 (length from - length (39 ∷ to)) from) ∙ ap (λ (us : List ℕ). drop 1 us) e)

closes_drop : {from to : List ℕ} → Closes from to → drop (length from - length to) from ≡ to
closes_drop {to = to} s.end = cons_drop 42 (47 ∷ to) to (omega arith) (one_drop 47 to)
closes_drop {to = to} (s.more {c = c} {from = from} e h) = let lt = closes_len h in cons_drop c from to (omega arith) (closes_drop h)

gap_drop : {from to : List ℕ} → IsGap from to → drop (length from - length to) from ≡ to
gap_drop {to = to} (s.space {c = c} e) = one_drop c to
gap_drop {to = to} (s.line {from = from} h) = let le = run_len h in cons_drop 47 (47 ∷ from) to (omega arith) (cons_drop 47 from to le (run_drop h))
gap_drop {to = to} (s.block {from = from} h) = let lt = closes_len h in cons_drop 47 (42 ∷ from) to (omega arith) (cons_drop 42 from to (omega arith) (closes_drop h))

numeral_drop : {base : ℕ} {from digits to : List ℕ} → IsNumeral base from digits to → drop (length from - length to) from ≡ to
numeral_drop {to = to} (s.decimal {c = c} {from = from} e p h) = cons_drop c from to (run_len h) (run_drop h)
numeral_drop {to = to} (s.binary {c = c} {from = from} e h) =
    let le = run_len h in cons_drop 48 (98 ∷ c ∷ from) to (omega arith) (cons_drop 98 (c ∷ from) to (omega arith) (cons_drop c from to le (run_drop h)))
numeral_drop {to = to} (s.hexadecimal {c = c} {from = from} e h) =
    let le = run_len h in cons_drop 48 (120 ∷ c ∷ from) to (omega arith) (cons_drop 120 (c ∷ from) to (omega arith) (cons_drop c from to le (run_drop h)))

-- after a front comes what follows it
front_drop : (front to : List ℕ) → drop (length (front ++ to) - length to) (front ++ to) ≡ to
front_drop [] to = here_drop to
front_drop (c ∷ front) to = let e = length-append front to in cons_drop c (front ++ to) to (omega arith) (front_drop front to)

pub token_drop : {kind : TokenKind} {from to : List ℕ} → IsToken kind from to → drop (length from - length to) from ≡ to
token_drop {to = to} (s.name {c = c} {from = from} e h never) = cons_drop c from to (run_len h) (run_drop h)
token_drop {to = to} (s.word mark {c = c} {from = from} r e h is) = cons_drop c from to (run_len h) (run_drop h)
token_drop (s.number h f g i) = numeral_drop h
token_drop (s.bit_text {from = from} {to = to} h e f g) = quoted_drop from to (run_len h) (run_drop h)
token_drop {to = to} (s.sign mark r e) = front_drop (spelling mark) to

-- what is left of the text is left after the octets before it
abbrev IsLeft : List ℕ → List ℕ → Type 0
IsLeft text from = (length from ≤ length text) × (drop (length text - length from) text ≡ from)

-- what is left of what is left
left_of : (text from to : List ℕ) → IsLeft text from → length to < length from → drop (length from - length to) from ≡ to → IsLeft text to
left_of text from to left lt e =
    let le = left.0 in
    let sum_is : length text - length to ≡ (length text - length from) + (length from - length to) = omega arith in
    (omega arith, ap (λ (n : ℕ). drop n text) sum_is ∙ sym (drop-drop (length from - length to) (length text - length from) text) ∙ ap (λ (us : List ℕ). drop (length from - length to) us) left.1 ∙ e)

texts_from : (text from : List ℕ) (ts : List Token) → Lexes (length text) from [] ts → IsLeft text from → AllByRecursion (IsItsText text) ts
texts_from text _ _ s.done left = tt
texts_from text from ts (s.gap {mid = mid} g h) left = texts_from text mid ts h (left_of text from mid left (gap_len g) (gap_drop g))
texts_from text from _ (s.token {mid = mid} {kind = kind} {ts = ts} g h) left =
    let after = left_of text from mid left (token_len g) (token_drop g) in
    (subst (λ (us : List ℕ). IsToken kind us (drop (length text - length mid) text)) (sym left.1) (subst (λ (us : List ℕ). IsToken kind from us) (sym after.1) g), texts_from text mid ts h after)

pub tokens_are_their_text : (text : List ℕ) (ts : List Token) → Lexed text ts → AllByRecursion (IsItsText text) ts
tokens_are_their_text text ts h = texts_from text text ts h (omega arith, here_drop text)
