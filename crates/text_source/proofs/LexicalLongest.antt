-- A token is the longest that fits.
use Rattle.std.proofs.Common.{◌≡◌, ◌==◌, ◌&&◌, ◌||◌, nat_le, ℕ, zero, suc, ◌-◌, ◌<◌, ◌≤◌, List, [], ◌∷◌, ◌++◌, length, drop, Bool, true, false, refl, sym, ap, subst, ◌∙◌, arith, length-append, append_assoc}
use Rattle.std.proofs.lemmas.Bool.{eqb-true, leb-true, le-leb}
use Rattle.std.proofs.lemmas.List.{length-drop, length-take-le}
use Rattle.std.specs.Char.{is_ascii_digit, is_ascii_alphabetic}
use Rattle.text_source.specs.declared.token.TokenKind.{TokenKind}
use Rattle.text_source.specs.declared.token.TokenKind.TheVariants as k
use Rattle.text_source.specs.declared.token.Mark.{Mark}
use Rattle.text_source.specs.declared.token.Mark.TheVariants as m
use Rattle.text_source.specs.Lexical as s
use Rattle.text_source.specs.Lexical.{Run, Ends, IsToken, IsNumeral, is_word, is_bit, is_hex, is_reserved, goes_on, spelling, number_of, text_of}
use Rattle.text_source.proofs.LexicalWords.{both}
use Rattle.text_source.proofs.LexicalRuns.{run_len}
use Rattle.text_source.proofs.LexicalFronts.{token_len}
use Rattle.text_source.proofs.LexicalSlices.{token_drop}
use Rattle.text_source.proofs.LexicalUnique.{same_token}

-- ---- letters and digits

letter_word : (c : ℕ) → is_ascii_alphabetic c ≡ true → is_word c ≡ true
letter_word c e = rw e refl

or_true : (a b : Bool) → b ≡ true → (a || b) ≡ true
or_true true b e = refl
or_true false b e = e

digit_word : (c : ℕ) → is_ascii_digit c ≡ true → is_word c ≡ true
digit_word c e = by_letter (is_ascii_alphabetic c)
  where
    by_letter : (b : Bool) → (b || is_ascii_digit c || c == 95) ≡ true
    by_letter true = refl
    by_letter false = rw e refl

bit_word : (c : ℕ) → is_bit c ≡ true → is_word c ≡ true
bit_word c e = by_test (c == 48) refl
  where
    by_test : (b : Bool) → (c == 48) ≡ b → is_word c ≡ true
    by_test true h = ap is_word (eqb-true c 48 h)
    by_test false h = let other : (c == 49) ≡ true = rw h at e in ap is_word (eqb-true c 49 other)

small_word : (c : ℕ) → (nat_le 97 c && nat_le c 102) ≡ true → is_word c ≡ true
small_word c e =
    let p = both (nat_le 97 c) (nat_le c 102) e in
    let le = leb-true c 102 p.1 in
    letter_word c (or_true (nat_le 65 c && nat_le c 90) (nat_le 97 c && nat_le c 122) (rw (p.0, le-leb c 122 (omega arith)) refl))

capital_word : (c : ℕ) → (nat_le 65 c && nat_le c 70) ≡ true → is_word c ≡ true
capital_word c e =
    let p = both (nat_le 65 c) (nat_le c 70) e in
    let le = leb-true c 70 p.1 in
    letter_word c (rw (p.0, le-leb c 90 (omega arith)) refl)

hex_word : (c : ℕ) → is_hex c ≡ true → is_word c ≡ true
hex_word c = by_tests (is_ascii_digit c) (nat_le 97 c && nat_le c 102) (nat_le 65 c && nat_le c 70) (digit_word c) (small_word c) (capital_word c)
  where
    by_tests : (x y z : Bool) → (x ≡ true → is_word c ≡ true) → (y ≡ true → is_word c ≡ true) → (z ≡ true → is_word c ≡ true) → (x || y || z) ≡ true → is_word c ≡ true
    by_tests true y z f g h e = f refl
    by_tests false true z f g h e = g refl
    by_tests false false z f g h e = h e

-- ---- runs

run_ends : {test : ℕ → Bool} {from to : List ℕ} → Run test from to → Ends test to
run_ends (s.end e) = e
run_ends (s.more e h) = run_ends h

-- a run to the end passes each weaker test
weaker : {p q : ℕ → Bool} {from : List ℕ} → ((c : ℕ) → p c ≡ true → q c ≡ true) → Run p from [] → Run q from []
weaker f (s.end e) = s.end tt
weaker f (s.more {c = c} e h) = s.more (f c e) (weaker f h)

-- the same run where more follows what ends it
run_on : {test : ℕ → Bool} {from to : List ℕ} (c : ℕ) (rest : List ℕ) → Run test from (c ∷ to) → Run test (from ++ rest) (c ∷ to ++ rest)
run_on c rest (s.end e) = s.end e
run_on c rest (s.more e h) = s.more e (run_on c rest h)

numeral_words : {base : ℕ} {from digits : List ℕ} → IsNumeral base from digits [] → Run is_word from []
numeral_words (s.decimal {c = c} e p h) = s.more (digit_word c e) (weaker digit_word h)
numeral_words (s.binary {c = c} e h) = s.more refl (s.more refl (s.more (bit_word c e) (weaker bit_word h)))
numeral_words (s.hexadecimal {c = c} e h) = s.more refl (s.more refl (s.more (hex_word c e) (weaker hex_word h)))

numeral_ends : {base : ℕ} {from digits to : List ℕ} → IsNumeral base from digits to → 0 < length from
numeral_ends (s.decimal e p h) = omega arith
numeral_ends (s.binary e h) = omega arith
numeral_ends (s.hexadecimal e h) = omega arith

-- what ends a run of word octets isn't in a front of such octets
covers : (front rest to : List ℕ) (n : ℕ) → Run is_word front [] → drop n (front ++ rest) ≡ to → Ends is_word to → length to ≤ length rest
covers [] rest to n run e ends = let len = ap (λ (us : List ℕ). length us) e in let fall = length-drop n rest in omega arith
covers (c ∷ front) rest to zero (s.more word run) e ends = let clash : ◌≡◌ {A = Bool} true false = sym word ∙ subst (λ (us : List ℕ). Ends is_word us) (sym e) ends in absurd cc
covers (c ∷ front) rest to (suc n) (s.more word run) e ends = covers front rest to n run e ends

-- ---- first octets

abbrev starts_word : List ℕ → Bool
starts_word [] = false
starts_word (c ∷ cs) = is_word c

run_starts : (front rest : List ℕ) → 0 < length front → Run is_word front [] → starts_word (front ++ rest) ≡ true
run_starts [] rest some run = absurd (omega arith)
run_starts (c ∷ front) rest some (s.more word run) = word

sign_starts : (mark : Mark) (to : List ℕ) → is_reserved mark ≡ false → starts_word (spelling mark ++ to) ≡ false
sign_starts m.OpenBrace to r = refl
sign_starts m.CloseBrace to r = refl
sign_starts m.Open to r = refl
sign_starts m.Close to r = refl
sign_starts m.OpenSquare to r = refl
sign_starts m.CloseSquare to r = refl
sign_starts m.Comma to r = refl
sign_starts m.Semicolon to r = refl
sign_starts m.Binds to r = refl
sign_starts m.Is to r = refl
sign_starts m.Dot to r = refl
sign_starts m.Or to r = refl
sign_starts m.And to r = refl
sign_starts m.Equal to r = refl
sign_starts m.NotEqual to r = refl
sign_starts m.Less to r = refl
sign_starts m.Greater to r = refl
sign_starts m.LessEqual to r = refl
sign_starts m.GreaterEqual to r = refl
sign_starts m.Plus to r = refl
sign_starts m.Minus to r = refl
sign_starts m.Times to r = refl
sign_starts m.Divide to r = refl
sign_starts m.Remainder to r = refl
sign_starts m.Power to r = refl
sign_starts m.Not to r = refl
sign_starts m.Uncompressed to r = absurd cc
sign_starts m.Control to r = absurd cc
sign_starts m.Initial to r = absurd cc
sign_starts m.Default to r = absurd cc
sign_starts m.Compressed to r = absurd cc
sign_starts m.Enforce to r = absurd cc
sign_starts m.This to r = absurd cc
sign_starts m.Variable to r = absurd cc
sign_starts m.Uvalue to r = absurd cc
sign_starts m.Ulength to r = absurd cc
sign_starts m.Cvalue to r = absurd cc
sign_starts m.Clength to r = absurd cc
sign_starts m.True to r = absurd cc
sign_starts m.False to r = absurd cc

-- a mark of more than one octet is never part of a longer one
multi : (mark : Mark) → 2 ≤ length (spelling mark) → (to : List ℕ) → goes_on mark to ≡ false
multi m.OpenBrace le to = refl
multi m.CloseBrace le to = refl
multi m.Open le to = refl
multi m.Close le to = refl
multi m.OpenSquare le to = refl
multi m.CloseSquare le to = refl
multi m.Comma le to = refl
multi m.Semicolon le to = refl
multi m.Binds le to = refl
multi m.Is le to = absurd (omega arith)
multi m.Dot le to = refl
multi m.Or le to = refl
multi m.And le to = refl
multi m.Equal le to = refl
multi m.NotEqual le to = refl
multi m.Less le to = absurd (omega arith)
multi m.Greater le to = absurd (omega arith)
multi m.LessEqual le to = refl
multi m.GreaterEqual le to = refl
multi m.Plus le to = refl
multi m.Minus le to = refl
multi m.Times le to = refl
multi m.Divide le to = absurd (omega arith)
multi m.Remainder le to = refl
multi m.Power le to = refl
multi m.Not le to = absurd (omega arith)
multi m.Uncompressed le to = refl
multi m.Control le to = refl
multi m.Initial le to = refl
multi m.Default le to = refl
multi m.Compressed le to = refl
multi m.Enforce le to = refl
multi m.This le to = refl
multi m.Variable le to = refl
multi m.Uvalue le to = refl
multi m.Ulength le to = refl
multi m.Cvalue le to = refl
multi m.Clength le to = refl
multi m.True le to = refl
multi m.False le to = refl

-- ---- the law

-- where the longer front is of word octets alone
ends_before : (from to front rest : List ℕ) → drop (length from - length to) from ≡ to → Ends is_word to → from ≡ front ++ rest → length rest < length to → Run is_word front [] → ⊥
ends_before from to front rest is ends same lt run =
    let le = covers front rest to (length from - length to) run (ap (λ (us : List ℕ). drop (length from - length to) us) (sym same) ∙ is) ends in
    omega arith

word_longest : (kind : TokenKind) (from to front rest : List ℕ) → IsToken kind from to → from ≡ front ++ rest → length rest < length to → 0 < length front → Run is_word front [] → ⊥
word_longest _ _ to front rest (s.name {c = c} {from = from} e h never) same lt some run = ends_before (c ∷ from) to front rest (token_drop (s.name e h never)) (run_ends h) same lt run
word_longest _ _ to front rest (s.word mark {c = c} {from = from} r e h is) same lt some run = ends_before (c ∷ from) to front rest (token_drop (s.word mark r e h is)) (run_ends h) same lt run
word_longest _ from to front rest (s.number h f i l) same lt some run = ends_before from to front rest (token_drop (s.number h f i l)) f same lt run
word_longest _ _ to front rest (s.bit_text h e f g) same lt some run = let clash : ◌≡◌ {A = Bool} false true = ap starts_word same ∙ run_starts front rest some run in absurd cc
word_longest _ _ to front rest (s.sign mark r e) same lt some run = let clash : ◌≡◌ {A = Bool} false true = sym (sign_starts mark to r) ∙ ap starts_word same ∙ run_starts front rest some run in absurd cc

text_len : (from to : List ℕ) → length to ≤ length from → length (text_of from to) ≡ length from - length to
text_len from to le = length-take-le (length from - length to) from (omega arith)

bits_longest : (kind : TokenKind) (from to rest : List ℕ) → IsToken kind (39 ∷ from ++ rest) to → length rest < length to → Run is_bit from (39 ∷ []) → length (text_of from (39 ∷ [])) ≤ 64 → ⊥
bits_longest kind from to rest g lt run le =
    let some = run_len run in
    let sum = length-append from rest in
    let short = text_len from (39 ∷ []) some in
    let long = text_len (from ++ rest) (39 ∷ rest) (omega arith) in
    let other : IsToken (k.BitText (length (text_of (from ++ rest) (39 ∷ rest))) (number_of 2 (text_of (from ++ rest) (39 ∷ rest)))) (39 ∷ from ++ rest) rest =
    s.bit_text (run_on 39 rest run) refl (omega arith) refl in
    let e = ap (λ (us : List ℕ). length us) (same_token kind _ (39 ∷ from ++ rest) to rest g other).1 in
    omega arith

sign_longest : (mark : Mark) → is_reserved mark ≡ false → (kind : TokenKind) (to rest : List ℕ) → IsToken kind ((spelling mark ++ []) ++ rest) to → length rest < length to → ⊥
sign_longest mark r kind to rest g lt =
    let same = append_assoc (spelling mark) [] rest in
    let h : IsToken kind (spelling mark ++ rest) to = subst (λ (us : List ℕ). IsToken kind us to) same g in
    let shorter = token_len h in
    let sum = length-append (spelling mark) rest in
    let other : IsToken (k.Mark mark) (spelling mark ++ rest) rest = s.sign mark r (multi mark (omega arith) rest) in
    let e = ap (λ (us : List ℕ). length us) (same_token kind (k.Mark mark) (spelling mark ++ rest) to rest h other).1 in
    omega arith

pub longest : (kind other : TokenKind) (front rest to : List ℕ) → IsToken kind (front ++ rest) to → length rest < length to → IsToken other front [] → ⊥
longest kind _ _ rest to g lt (s.name {c = c} {from = from} e h never) = word_longest kind (c ∷ from ++ rest) to (c ∷ from) rest g refl lt (omega arith) (s.more (letter_word c e) h)
longest kind _ _ rest to g lt (s.word mark {c = c} {from = from} r e h is) = word_longest kind (c ∷ from ++ rest) to (c ∷ from) rest g refl lt (omega arith) (s.more (letter_word c e) h)
longest kind _ front rest to g lt (s.number h f i l) = word_longest kind (front ++ rest) to front rest g refl lt (numeral_ends h) (numeral_words h)
longest kind _ _ rest to g lt (s.bit_text {from = from} h e f i) = bits_longest kind from to rest g lt h (omega arith)
longest kind _ _ rest to g lt (s.sign mark r e) = sign_longest mark r kind to rest g lt
