-- Each token, gap and fault is found by the scanning functions.
use Rattle.std.proofs.Common.{◌≡◌, ◌==◌, ◌&&◌, ◌||◌, ◌^◌, ℕ, ◌<◌, ◌≤◌, List, [], ◌∷◌, ◌++◌, length, drop, Option, Some, None, Ok, Err, Bool, true, false, refl, sym, ap, subst, ◌∙◌, arith}
use Rattle.std.proofs.Common.{leb}
use Rattle.std.proofs.lemmas.Bool.{eqb-true, lt-ltb, le-ltb, leb-true, lt-leb}
use Rattle.std.specs.Char.{is_ascii_digit, is_ascii_alphabetic}
use Rattle.text_source.specs.declared.fault.FaultKind.{FaultKind}
use Rattle.text_source.specs.declared.fault.FaultKind.TheVariants as f
use Rattle.text_source.specs.declared.token.TokenKind.{TokenKind}
use Rattle.text_source.specs.declared.token.TokenKind.TheVariants as k
use Rattle.text_source.specs.declared.token.Mark.{Mark}
use Rattle.text_source.specs.declared.token.Mark.TheVariants as m
use Rattle.text_source.specs.Lexical as s
use Rattle.text_source.specs.Lexical.{Run, Ends, Closes, IsGap, IsToken, IsNumeral, IsLexeme, IsBad, IsLarge, IsOpen, Stops, begins, is_half, is_next, is_reserved, goes_on, spelling, number_of, text_of, is_bit, is_hex, is_word, is_space}
use Rattle.text_source.specs.Scan.{value, after_number, number, numeral, prefixed, quoted, after_bits, bit_text, slash, equals, with_equals, doubled, single, other, lexeme}
use Rattle.text_source.proofs.LexicalRuns.{run_of, bits_fit}
use Rattle.text_source.proofs.LexicalWords.{both, neither, word_found, no_word, comment_found, never_found, decimal_found, binary_found, hexadecimal_found}

-- a test that white space fails
not_space : (p : ℕ → Bool) → p 32 ≡ false → p 9 ≡ false → p 13 ≡ false → p 10 ≡ false → p 12 ≡ false → (c : ℕ) → p c ≡ true → is_space c ≡ false
not_space p e1 e2 e3 e4 e5 c e = rw (differs 32 e1, differs 9 e2, differs 13 e3, differs 10 e4, differs 12 e5) refl
  where
    differs : (d : ℕ) → p d ≡ false → (c == d) ≡ false
    differs d fails = by_test (c == d) refl
      where
        by_test : (b : Bool) → (c == d) ≡ b → (c == d) ≡ false
        by_test false h = h
        by_test true h = let clash : ◌≡◌ {A = Bool} true false = sym e ∙ ap p (eqb-true c d h) ∙ fails in absurd cc

letter_not_space : (c : ℕ) → is_ascii_alphabetic c ≡ true → is_space c ≡ false
letter_not_space = not_space is_ascii_alphabetic refl refl refl refl refl

digit_not_space : (c : ℕ) → is_ascii_digit c ≡ true → is_space c ≡ false
digit_not_space = not_space is_ascii_digit refl refl refl refl refl

digit_not_letter : (c : ℕ) → is_ascii_digit c ≡ true → is_ascii_alphabetic c ≡ false
digit_not_letter c e = let p = both (leb 48 c) (leb c 57) e in let le = leb-true c 57 p.1 in rw (lt-leb 65 c (omega arith), lt-leb 97 c (omega arith)) refl

-- ---- tokens and gaps

gap_found : {from to : List ℕ} → IsGap from to → lexeme from ≡ Ok (None, to)
unfolding lexeme other slash
gap_found (s.space e) = rw e refl
gap_found (s.line run) = rw (run_of run) refl
gap_found (s.block h) = rw (comment_found h) refl

number_found : (base n : ℕ) (from digits to : List ℕ) → Ends is_word to → n ≡ number_of base (text_of digits to) → n < 2 ^ 64 → number base from digits to ≡ Ok (Some (k.Number n), to)
unfolding number value after_number
number_found base n from digits [] ends is lt = rw (← is, lt-ltb n (2 ^ 64) lt) refl
number_found base n from digits (d ∷ to) ends is lt = rw (← is, lt-ltb n (2 ^ 64) lt, ends) refl

-- a numeral is read by its base
based : {base : ℕ} {from digits to : List ℕ} → IsNumeral base from digits to → lexeme from ≡ number base from digits to
unfolding lexeme
based (s.decimal {c = c} {from = from} {to = to} e prefix run) = rw (digit_not_space c e, digit_not_letter c e, e) (decimal_found c from to prefix run)
based (s.binary {c = c} {from = from} {to = to} e run) = binary_found c from to e run
based (s.hexadecimal {c = c} {from = from} {to = to} e run) = hexadecimal_found c from to e run

quoted_found : (from to : List ℕ) → Run is_bit from (39 ∷ to) → length (text_of from (39 ∷ to)) ≤ 64
    → quoted (39 ∷ from) (text_of from (39 ∷ to)) to ≡ Ok (Some (k.BitText (length (text_of from (39 ∷ to))) (number_of 2 (text_of from (39 ∷ to)))), to)
unfolding quoted value
quoted_found from to run le = rw (le-ltb 64 (length (text_of from (39 ∷ to))) le, lt-ltb (number_of 2 (text_of from (39 ∷ to))) (2 ^ 64) (bits_fit run le)) refl

bits_found : (from to : List ℕ) → Run is_bit from (39 ∷ to) → bit_text (39 ∷ from) from ≡ quoted (39 ∷ from) (text_of from (39 ∷ to)) to
unfolding bit_text after_bits
bits_found from to run = rw (run_of run) refl

-- a mark that nothing after it makes longer
sign_found : (mark : Mark) (to : List ℕ) → is_reserved mark ≡ false → goes_on mark to ≡ false → lexeme (spelling mark ++ to) ≡ Ok (Some (k.Mark mark), to)
unfolding lexeme other single equals slash with_equals doubled
sign_found m.OpenBrace to r e = refl
sign_found m.CloseBrace to r e = refl
sign_found m.Open to r e = refl
sign_found m.Close to r e = refl
sign_found m.OpenSquare to r e = refl
sign_found m.CloseSquare to r e = refl
sign_found m.Comma to r e = refl
sign_found m.Semicolon to r e = refl
sign_found m.Binds to r e = refl
sign_found m.Is [] r e = refl
sign_found m.Is (c ∷ to) r e = let p = neither (c == 61) (is_next 58 (c ∷ []) && is_next 61 to) e in rw (p.0, p.1) refl
sign_found m.Dot to r e = refl
sign_found m.Or to r e = refl
sign_found m.And to r e = refl
sign_found m.Equal to r e = refl
sign_found m.NotEqual to r e = refl
sign_found m.Less [] r e = refl
sign_found m.Less (c ∷ to) r e = rw e refl
sign_found m.Greater [] r e = refl
sign_found m.Greater (c ∷ to) r e = rw e refl
sign_found m.LessEqual to r e = refl
sign_found m.GreaterEqual to r e = refl
sign_found m.Plus to r e = refl
sign_found m.Minus to r e = refl
sign_found m.Times to r e = refl
sign_found m.Divide [] r e = refl
sign_found m.Divide (c ∷ to) r e = let p = neither (c == 47) (c == 42) e in rw (p.0, p.1) refl
sign_found m.Remainder to r e = refl
sign_found m.Power to r e = refl
sign_found m.Not [] r e = refl
sign_found m.Not (c ∷ to) r e = rw e refl
sign_found m.Uncompressed to r e = absurd cc
sign_found m.Control to r e = absurd cc
sign_found m.Initial to r e = absurd cc
sign_found m.Default to r e = absurd cc
sign_found m.Compressed to r e = absurd cc
sign_found m.Enforce to r e = absurd cc
sign_found m.This to r e = absurd cc
sign_found m.Variable to r e = absurd cc
sign_found m.Uvalue to r e = absurd cc
sign_found m.Ulength to r e = absurd cc
sign_found m.Cvalue to r e = absurd cc
sign_found m.Clength to r e = absurd cc
sign_found m.True to r e = absurd cc
sign_found m.False to r e = absurd cc

token_found : {kind : TokenKind} {from to : List ℕ} → IsToken kind from to → lexeme from ≡ Ok (Some kind, to)
unfolding lexeme other
token_found {to = to} (s.name {c = c} {from = from} e h never) = rw (letter_not_space c e, e, run_of h, no_word (text_of (c ∷ from) to) never) refl
token_found {to = to} (s.word mark {c = c} {from = from} r e h is) = rw (letter_not_space c e, e, run_of h, is, word_found mark r) refl
token_found {to = to} (s.number {base = base} {n = n} {from = from} {digits = digits} h ends is lt) = based h ∙ number_found base n from digits to ends is lt
token_found (s.bit_text {from = from} {to = to} h is le spells) =
    bits_found from to h ∙ quoted_found from to h (omega arith) ∙ (λ i. Ok (Some (k.BitText (sym is i) (sym spells i)), to))
token_found {to = to} (s.sign mark r e) = sign_found mark to r e

pub lexeme_found : (o : Option TokenKind) (from to : List ℕ) → IsLexeme o from to → lexeme from ≡ Ok (o, to)
lexeme_found None from to h = gap_found h
lexeme_found (Some kind) from to h = token_found h

-- ---- faults

alone_found : (c : ℕ) (cs : List ℕ) → begins c ≡ false → lexeme (c ∷ cs) ≡ Err (f.Character, c ∷ cs, cs)
unfolding lexeme other single
alone_found c cs e =
    let w1 = is_space c || is_ascii_alphabetic c in
    let w2 = w1 || is_ascii_digit c in
    let w3 = w2 || is_half c in
    let w4 = w3 || c == 39 in
    let w5 = w4 || c == 123 in
    let w6 = w5 || c == 125 in
    let w7 = w6 || c == 40 in
    let w8 = w7 || c == 41 in
    let w9 = w8 || c == 91 in
    let w10 = w9 || c == 93 in
    let w11 = w10 || c == 44 in
    let w12 = w11 || c == 59 in
    let w13 = w12 || c == 61 in
    let w14 = w13 || c == 46 in
    let w15 = w14 || c == 33 in
    let w16 = w15 || c == 60 in
    let w17 = w16 || c == 62 in
    let w18 = w17 || c == 43 in
    let w19 = w18 || c == 45 in
    let w20 = w19 || c == 42 in
    let w21 = w20 || c == 47 in
    let w22 = w21 || c == 37 in
    let p23 = neither w22 (c == 94) e in
    let p22 = neither w21 (c == 37) p23.0 in
    let p21 = neither w20 (c == 47) p22.0 in
    let p20 = neither w19 (c == 42) p21.0 in
    let p19 = neither w18 (c == 45) p20.0 in
    let p18 = neither w17 (c == 43) p19.0 in
    let p17 = neither w16 (c == 62) p18.0 in
    let p16 = neither w15 (c == 60) p17.0 in
    let p15 = neither w14 (c == 33) p16.0 in
    let p14 = neither w13 (c == 46) p15.0 in
    let p13 = neither w12 (c == 61) p14.0 in
    let p12 = neither w11 (c == 59) p13.0 in
    let p11 = neither w10 (c == 44) p12.0 in
    let p10 = neither w9 (c == 93) p11.0 in
    let p9 = neither w8 (c == 91) p10.0 in
    let p8 = neither w7 (c == 41) p9.0 in
    let p7 = neither w6 (c == 40) p8.0 in
    let p6 = neither w5 (c == 125) p7.0 in
    let p5 = neither w4 (c == 123) p6.0 in
    let p4 = neither w3 (c == 39) p5.0 in
    let p3 = neither w2 (is_half c) p4.0 in
    let p2 = neither w1 (is_ascii_digit c) p3.0 in
    let p1 = neither (is_space c) (is_ascii_alphabetic c) p2.0 in
    let h = neither (c == 38) (c == 124) p3.1 in
    rw (p1.0, p1.1, p2.1, h.0, h.1, p4.1, p5.1, p6.1, p7.1, p8.1, p9.1, p10.1, p11.1, p12.1, p13.1, p14.1, p15.1, p16.1, p17.1, p18.1, p19.1, p20.1, p21.1, p22.1, p23.1) refl

and_alone : (cs : List ℕ) → is_next 38 cs ≡ false → lexeme (38 ∷ cs) ≡ Err (f.Character, 38 ∷ cs, cs)
unfolding lexeme other doubled
and_alone [] e = refl
and_alone (c ∷ cs) e = rw e refl

or_alone : (cs : List ℕ) → is_next 124 cs ≡ false → lexeme (124 ∷ cs) ≡ Err (f.Character, 124 ∷ cs, cs)
unfolding lexeme other doubled
or_alone [] e = refl
or_alone (c ∷ cs) e = rw e refl

half_found : (c : ℕ) (cs : List ℕ) → is_half c ≡ true → is_next c cs ≡ false → lexeme (c ∷ cs) ≡ Err (f.Character, c ∷ cs, cs)
half_found c cs half next = by_test (c == 38) refl
  where
    IsRefused : ℕ → Type 0
    IsRefused x = is_next x cs ≡ false → lexeme (x ∷ cs) ≡ Err (f.Character, x ∷ cs, cs)

    by_test : (b : Bool) → (c == 38) ≡ b → lexeme (c ∷ cs) ≡ Err (f.Character, c ∷ cs, cs)
    by_test true h = subst (λ (x : ℕ). IsRefused x) (sym (eqb-true c 38 h)) (and_alone cs) next
    by_test false h = let other_half : (c == 124) ≡ true = rw h at half in subst (λ (x : ℕ). IsRefused x) (sym (eqb-true c 124 other_half)) (or_alone cs) next

no_bit_found : (at : List ℕ) → Ends is_bit at → lexeme (48 ∷ 98 ∷ at) ≡ Err (f.Character, at, drop 1 at)
unfolding lexeme numeral prefixed
no_bit_found [] e = refl
no_bit_found (c ∷ at) e = rw e refl

no_hex_found : (at : List ℕ) → Ends is_hex at → lexeme (48 ∷ 120 ∷ at) ≡ Err (f.Character, at, drop 1 at)
unfolding lexeme numeral prefixed
no_hex_found [] e = refl
no_hex_found (c ∷ at) e = rw e refl

number_refused : (base c : ℕ) (from digits at : List ℕ) → number_of base (text_of digits (c ∷ at)) < 2 ^ 64 → is_word c ≡ true → number base from digits (c ∷ at) ≡ Err (f.Character, c ∷ at, at)
unfolding number value after_number
number_refused base c from digits at lt word = rw (lt-ltb (number_of base (text_of digits (c ∷ at))) (2 ^ 64) lt, word) refl

bits_refused : (from at : List ℕ) → Run is_bit from at → Ends s.is_quote at → bit_text (39 ∷ from) from ≡ Err (f.Character, at, drop 1 at)
unfolding bit_text after_bits
bits_refused from [] run ends = rw (run_of run) refl
bits_refused from (d ∷ at) run ends = rw (run_of run, ends) refl

bad_found : {from at : List ℕ} → IsBad from at → lexeme from ≡ Err (f.Character, at, drop 1 at)
unfolding lexeme other
bad_found (s.alone {c = c} {cs = cs} e) = alone_found c cs e
bad_found (s.half {c = c} {cs = cs} half next) = half_found c cs half next
bad_found {at = at} (s.no_bit e) = no_bit_found at e
bad_found {at = at} (s.no_hex e) = no_hex_found at e
bad_found (s.after_number {base = base} {c = c} {from = from} {digits = digits} {at = at} h lt word) = based h ∙ number_refused base c from digits at lt word
bad_found {at = at} (s.in_bits {from = from} run ends) = bits_refused from at run ends

number_large : (base : ℕ) (from digits to : List ℕ) → 2 ^ 64 ≤ number_of base (text_of digits to) → number base from digits to ≡ Err (f.Large, from, to)
unfolding number value
number_large base from digits to le = rw (le-ltb (number_of base (text_of digits to)) (2 ^ 64) le) refl

quoted_large : (from to : List ℕ) → 64 < length (text_of from (39 ∷ to)) → quoted (39 ∷ from) (text_of from (39 ∷ to)) to ≡ Err (f.Large, 39 ∷ from, to)
unfolding quoted
quoted_large from to lt = rw (lt-ltb 64 (length (text_of from (39 ∷ to))) lt) refl

large_found : {from to : List ℕ} → IsLarge from to → lexeme from ≡ Err (f.Large, from, to)
unfolding lexeme other
large_found {to = to} (s.number {base = base} {from = from} {digits = digits} h le) = based h ∙ number_large base from digits to le
large_found (s.bit_text {from = from} {to = to} h lt) = bits_found from to h ∙ quoted_large from to lt

open_found : {from : List ℕ} → IsOpen from → lexeme from ≡ Err (f.OpenComment, from, [])
unfolding lexeme other slash
open_found (s.comment {inside = inside} never) = rw (never_found inside never) refl

pub stop_found : (kind : FaultKind) (from at to : List ℕ) → Stops kind from at to → lexeme from ≡ Err (kind, at, to)
stop_found f.Character from at to h = bad_found h.0 ∙ ap (λ (us : List ℕ). Err (f.Character, at, us)) (sym h.1)
stop_found f.OpenComment from at to h = open_found h.2 ∙ (λ i. Err (f.OpenComment, sym h.0 i, sym h.1 i))
stop_found f.Large from at to h = large_found h.1 ∙ ap (λ (us : List ℕ). Err (f.Large, us, to)) (sym h.0)
stop_found f.Nesting from at to h = absurd h
stop_found f.EmptyBracket from at to h = absurd h
stop_found f.RepeatedSection from at to h = absurd h
stop_found f.MixedRemainder from at to h = absurd h
stop_found f.TooLong from at to h = absurd h
stop_found f.NotUtf8 from at to h = absurd h
stop_found f.Unexpected from at to h = absurd h
stop_found f.TooManyParts from at to h = absurd h
