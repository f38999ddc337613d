-- What the scanning functions find is a token, a gap or a fault.
use Rattle.std.proofs.Common.{◌≡◌, ◌==◌, ◌&&◌, ◌^◌, ltb, ℕ, ◌<◌, ◌≤◌, List, [], ◌∷◌, ◌++◌, length, drop, Option, Some, None, Ok, Err, Bool, true, false, cond, refl, sym, ap, subst, ◌∙◌, arith}
use Rattle.std.proofs.lemmas.Bool.{eqb-true, ltb-true, ltb-false, lt-ltb}
use Rattle.std.specs.Char.{is_ascii_digit, is_ascii_alphabetic}
use Rattle.text_source.specs.declared.token.TokenKind.TheVariants as k
use Rattle.text_source.specs.declared.token.Mark.{Mark}
use Rattle.text_source.specs.declared.token.Mark.TheVariants as m
use Rattle.text_source.specs.Lexical as s
use Rattle.text_source.specs.Lexical.{Run, IsToken, IsNumeral, IsLexeme, Stops, Closes, Ends, number_of, text_of, is_bit, is_hex, is_word, is_space, is_in_line, is_half, is_next, are_next, has_prefix, spelling, is_reserved, goes_on, begins}
use Rattle.text_source.specs.Scan.{Found, after_run, value, after_number, number, prefixed, numeral, reserved, word_kind, bits_by, quoted, after_bits, bit_text, after_comment, comment_by, slash, equals, with_equals, doubled, single, single_by, other, lexeme}
use Rattle.text_source.proofs.LexicalRuns.{run_is, bits_fit}
use Rattle.text_source.proofs.LexicalWords.{both, word_some, word_none, two_next, comment_is}

-- what is found at the front of `from`
abbrev pub Meant : List ℕ → Found → Type 0
Meant from (Ok p) = IsLexeme p.0 from p.1
Meant from (Err e) = Stops e.0 from e.1 e.2

tested : (from : List ℕ) (b : Bool) (x y : Found) → (b ≡ true → Meant from x) → (b ≡ false → Meant from y) → Meant from (cond b x y)
tested from true x y f g = f refl
tested from false x y f g = g refl

-- ---- numbers

after_number_meant : (base : ℕ) (from digits to : List ℕ) → IsNumeral base from digits to → number_of base (text_of digits to) < 2 ^ 64
    → Meant from (after_number from (number_of base (text_of digits to)) to)
unfolding after_number
after_number_meant base from digits [] h lt = s.number h tt refl lt
after_number_meant base from digits (c ∷ to) h lt = tested from (is_word c) _ _ (λ word. (s.after_number h lt word, refl)) (λ n. s.number h n refl lt)

number_meant : (base : ℕ) (from digits to : List ℕ) → IsNumeral base from digits to → Meant from (number base from digits to)
unfolding number value
number_meant base from digits to h = by_test (ltb (number_of base (text_of digits to)) (2 ^ 64)) refl
  where
    by_test : (b : Bool) → ltb (number_of base (text_of digits to)) (2 ^ 64) ≡ b → Meant from (number base from digits to)
    by_test true e = rw e (after_number_meant base from digits to h (ltb-true (number_of base (text_of digits to)) (2 ^ 64) e))
    by_test false e = rw e (refl, s.number h (ltb-false (number_of base (text_of digits to)) (2 ^ 64) e))

binary_meant : (cs : List ℕ) → Meant (48 ∷ 98 ∷ cs) (prefixed is_bit 2 (48 ∷ 98 ∷ cs) cs)
unfolding prefixed
binary_meant [] = (s.no_bit tt, refl)
binary_meant (c ∷ cs) =
    tested (48 ∷ 98 ∷ c ∷ cs) (is_bit c) _ _ (λ e. number_meant 2 (48 ∷ 98 ∷ c ∷ cs) (c ∷ cs) (after_run is_bit cs) (s.binary e (run_is is_bit cs))) (λ n. (s.no_bit n, refl))

hexadecimal_meant : (cs : List ℕ) → Meant (48 ∷ 120 ∷ cs) (prefixed is_hex 16 (48 ∷ 120 ∷ cs) cs)
unfolding prefixed
hexadecimal_meant [] = (s.no_hex tt, refl)
hexadecimal_meant (c ∷ cs) =
    tested (48 ∷ 120 ∷ c ∷ cs) (is_hex c) _ _ (λ e. number_meant 16 (48 ∷ 120 ∷ c ∷ cs) (c ∷ cs) (after_run is_hex cs) (s.hexadecimal e (run_is is_hex cs))) (λ n. (s.no_hex n, refl))

numeral_meant : (c : ℕ) (cs : List ℕ) → is_ascii_digit c ≡ true → Meant (c ∷ cs) (numeral c cs)
unfolding numeral
numeral_meant c cs digit =
    tested (c ∷ cs) (c == 48 && is_next 98 cs) _ _ (λ e. subst (λ (us : List ℕ). Meant us (prefixed is_bit 2 us (drop 1 cs))) (two_next 48 98 c cs e) (binary_meant (drop 1 cs))) (λ n1.
    tested (c ∷ cs) (c == 48 && is_next 120 cs) _ _ (λ e. subst (λ (us : List ℕ). Meant us (prefixed is_hex 16 us (drop 1 cs))) (two_next 48 120 c cs e) (hexadecimal_meant (drop 1 cs))) (λ n2.
    number_meant 10 (c ∷ cs) (c ∷ cs) (after_run is_ascii_digit cs) (s.decimal digit (rw (n1, n2) refl) (run_is is_ascii_digit cs))))

-- ---- names and reserved words

word_meant : (c : ℕ) (cs to : List ℕ) → is_ascii_alphabetic c ≡ true → Run is_word cs to → Meant (c ∷ cs) (Ok (Some (word_kind (reserved (text_of (c ∷ cs) to))), to))
word_meant c cs to letter run = by_answer (reserved (text_of (c ∷ cs) to)) refl
  where
    by_answer : (o : Option Mark) → reserved (text_of (c ∷ cs) to) ≡ o → IsToken (word_kind o) (c ∷ cs) to
    by_answer None e = s.name letter run (word_none (text_of (c ∷ cs) to) e)
    by_answer (Some mark) e = let p = word_some (text_of (c ∷ cs) to) mark e in s.word mark p.0 letter run p.1

-- ---- bit texts

quoted_meant : (cs to : List ℕ) → Run is_bit cs (39 ∷ to) → Meant (39 ∷ cs) (quoted (39 ∷ cs) (text_of cs (39 ∷ to)) to)
unfolding quoted value
quoted_meant cs to run =
    tested (39 ∷ cs) (ltb 64 (length (text_of cs (39 ∷ to)))) _ _ (λ h. (refl, s.bit_text run (ltb-true 64 (length (text_of cs (39 ∷ to))) h)))
    (λ n. fits (ltb-false 64 (length (text_of cs (39 ∷ to))) n))
  where
    fits : length (text_of cs (39 ∷ to)) ≤ 64 → Meant (39 ∷ cs) (bits_by (39 ∷ cs) (length (text_of cs (39 ∷ to))) (value 2 (text_of cs (39 ∷ to))) to)
    fits le = rw (lt-ltb (number_of 2 (text_of cs (39 ∷ to))) (2 ^ 64) (bits_fit run le)) (s.bit_text run refl le refl)

after_bits_meant : (cs to : List ℕ) → Run is_bit cs to → Meant (39 ∷ cs) (after_bits (39 ∷ cs) (text_of cs to) to)
unfolding after_bits
after_bits_meant cs [] run = (s.in_bits run tt, refl)
after_bits_meant cs (d ∷ to) run =
    tested (39 ∷ cs) (d == 39) _ _ (λ h. subst (λ (x : ℕ). Run is_bit cs (x ∷ to) → Meant (39 ∷ cs) (quoted (39 ∷ cs) (text_of cs (x ∷ to)) to)) (sym (eqb-true d 39 h)) (quoted_meant cs to) run)
    (λ n. (s.in_bits run n, refl))

bit_text_meant : (cs : List ℕ) → Meant (39 ∷ cs) (bit_text (39 ∷ cs) cs)
unfolding bit_text
bit_text_meant cs = after_bits_meant cs (after_run is_bit cs) (run_is is_bit cs)

-- ---- marks and comments

slash_meant : (cs : List ℕ) → Meant (47 ∷ cs) (slash cs)
unfolding slash
slash_meant [] = s.sign m.Divide refl refl
slash_meant (c ∷ cs) =
    tested (47 ∷ c ∷ cs) (c == 47) _ _ (λ e. subst (λ (x : ℕ). Meant (47 ∷ x ∷ cs) (Ok (None, after_run is_in_line cs))) (sym (eqb-true c 47 e)) (s.line (run_is is_in_line cs))) (λ n1.
    tested (47 ∷ c ∷ cs) (c == 42) _ _ (λ e. subst (λ (x : ℕ). Meant (47 ∷ x ∷ cs) (comment_by (47 ∷ x ∷ cs) (after_comment cs))) (sym (eqb-true c 42 e)) comment) (λ n2.
    s.sign m.Divide refl (rw (n1, n2) refl)))
  where
    comment : Meant (47 ∷ 42 ∷ cs) (comment_by (47 ∷ 42 ∷ cs) (after_comment cs))
    comment = by_answer (after_comment cs) (comment_is cs)
      where
        by_answer : (o : Option (List ℕ)) → Rattle.text_source.proofs.LexicalWords.IsAfter cs o → Meant (47 ∷ 42 ∷ cs) (comment_by (47 ∷ 42 ∷ cs) o)
        by_answer (Some to) h = s.block h
        by_answer None h = (refl, refl, s.comment h)

equals_meant : (cs : List ℕ) → Meant (61 ∷ cs) (equals cs)
unfolding equals
equals_meant [] = s.sign m.Is refl refl
equals_meant (c ∷ cs) =
    tested (61 ∷ c ∷ cs) (c == 61) _ _ (λ e. subst (λ (x : ℕ). IsToken (k.Mark m.Equal) (61 ∷ x ∷ cs) cs) (sym (eqb-true c 61 e)) (s.sign m.Equal refl refl)) (λ n1.
    tested (61 ∷ c ∷ cs) (c == 58 && is_next 61 cs) _ _
    (λ e. subst (λ (us : List ℕ). IsToken (k.Mark m.Binds) (61 ∷ us) (drop 1 cs)) (two_next 58 61 c cs e) (s.sign m.Binds refl refl)) (λ n2.
    s.sign m.Is refl (rw (n1, n2) refl)))

-- a mark that `=` makes longer
with_equals_meant : (long short : Mark) (c : ℕ) → is_reserved long ≡ false → is_reserved short ≡ false → spelling short ≡ c ∷ [] → spelling long ≡ c ∷ 61 ∷ []
    → ((to : List ℕ) → goes_on long to ≡ false) → ((to : List ℕ) → goes_on short to ≡ is_next 61 to) → (cs : List ℕ) → Meant (c ∷ cs) (with_equals long short cs)
unfolding with_equals
with_equals_meant long short c r1 r2 e1 e2 ends goes [] = subst (λ (us : List ℕ). IsToken (k.Mark short) (us ++ []) []) e1 (s.sign short r2 (goes []))
with_equals_meant long short c r1 r2 e1 e2 ends goes (d ∷ cs) =
    tested (c ∷ d ∷ cs) (d == 61) _ _ (λ e. subst (λ (us : List ℕ). IsToken (k.Mark long) us cs) (ap (λ (us : List ℕ). us ++ cs) e2 ∙ (λ i. c ∷ sym (eqb-true d 61 e) i ∷ cs)) (s.sign long r1 (ends cs)))
    (λ n. subst (λ (us : List ℕ). IsToken (k.Mark short) (us ++ d ∷ cs) (d ∷ cs)) e1 (s.sign short r2 (goes (d ∷ cs) ∙ n)))

doubled_meant : (mark : Mark) (c : ℕ) → is_half c ≡ true → is_reserved mark ≡ false → spelling mark ≡ c ∷ c ∷ [] → ((to : List ℕ) → goes_on mark to ≡ false)
    → (cs : List ℕ) → Meant (c ∷ cs) (doubled mark c cs)
unfolding doubled
doubled_meant mark c half r e ends [] = (s.half half refl, refl)
doubled_meant mark c half r e ends (d ∷ cs) =
    tested (c ∷ d ∷ cs) (d == c) _ _ (λ same. subst (λ (us : List ℕ). IsToken (k.Mark mark) us cs) (ap (λ (us : List ℕ). us ++ cs) e ∙ (λ i. c ∷ sym (eqb-true d c same) i ∷ cs)) (s.sign mark r (ends cs)))
    (λ n. (s.half half n, refl))

-- an octet that is a mark, whatever follows
is_single : (c d : ℕ) (cs : List ℕ) (mark : Mark) → IsToken (k.Mark mark) (d ∷ cs) cs → (c == d) ≡ true → Meant (c ∷ cs) (single_by c (Some mark) cs)
is_single c d cs mark h e = subst (λ (x : ℕ). IsToken (k.Mark mark) (x ∷ cs) cs) (sym (eqb-true c d e)) h

by_single : (c : ℕ) (cs : List ℕ) (b : Bool) (x y : Option Mark) → (b ≡ true → Meant (c ∷ cs) (single_by c x cs)) → (b ≡ false → Meant (c ∷ cs) (single_by c y cs)) → Meant (c ∷ cs) (single_by c (cond b x y) cs)
by_single c cs true x y f g = f refl
by_single c cs false x y f g = g refl

single_meant : (c : ℕ) (cs : List ℕ) → is_space c ≡ false → is_ascii_alphabetic c ≡ false → is_ascii_digit c ≡ false → (c == 39) ≡ false → (c == 61) ≡ false → (c == 47) ≡ false
    → (c == 33) ≡ false → (c == 60) ≡ false → (c == 62) ≡ false → (c == 38) ≡ false → (c == 124) ≡ false → Meant (c ∷ cs) (single_by c (single c) cs)
unfolding single
single_meant c cs h1 h2 h3 h4 h5 h6 h7 h8 h9 h10 h11 =
    by_single c cs (c == 123) _ _ (λ e. is_single c 123 cs m.OpenBrace (s.sign m.OpenBrace refl refl) e) (λ n1.
    by_single c cs (c == 125) _ _ (λ e. is_single c 125 cs m.CloseBrace (s.sign m.CloseBrace refl refl) e) (λ n2.
    by_single c cs (c == 40) _ _ (λ e. is_single c 40 cs m.Open (s.sign m.Open refl refl) e) (λ n3.
    by_single c cs (c == 41) _ _ (λ e. is_single c 41 cs m.Close (s.sign m.Close refl refl) e) (λ n4.
    by_single c cs (c == 91) _ _ (λ e. is_single c 91 cs m.OpenSquare (s.sign m.OpenSquare refl refl) e) (λ n5.
    by_single c cs (c == 93) _ _ (λ e. is_single c 93 cs m.CloseSquare (s.sign m.CloseSquare refl refl) e) (λ n6.
    by_single c cs (c == 44) _ _ (λ e. is_single c 44 cs m.Comma (s.sign m.Comma refl refl) e) (λ n7.
    by_single c cs (c == 59) _ _ (λ e. is_single c 59 cs m.Semicolon (s.sign m.Semicolon refl refl) e) (λ n8.
    by_single c cs (c == 46) _ _ (λ e. is_single c 46 cs m.Dot (s.sign m.Dot refl refl) e) (λ n9.
    by_single c cs (c == 43) _ _ (λ e. is_single c 43 cs m.Plus (s.sign m.Plus refl refl) e) (λ n10.
    by_single c cs (c == 45) _ _ (λ e. is_single c 45 cs m.Minus (s.sign m.Minus refl refl) e) (λ n11.
    by_single c cs (c == 42) _ _ (λ e. is_single c 42 cs m.Times (s.sign m.Times refl refl) e) (λ n12.
    by_single c cs (c == 37) _ _ (λ e. is_single c 37 cs m.Remainder (s.sign m.Remainder refl refl) e) (λ n13.
    by_single c cs (c == 94) _ _ (λ e. is_single c 94 cs m.Power (s.sign m.Power refl refl) e) (λ n14.
    (s.alone (rw (h1, h2, h3, h4, h5, h6, h7, h8, h9, h10, h11, n1, n2, n3, n4, n5, n6, n7, n8, n9, n10, n11, n12, n13, n14) refl), refl)))))))))))))))

other_meant : (c : ℕ) (cs : List ℕ) → is_space c ≡ false → is_ascii_alphabetic c ≡ false → is_ascii_digit c ≡ false → Meant (c ∷ cs) (other c cs)
unfolding other
other_meant c cs h1 h2 h3 =
    tested (c ∷ cs) (c == 39) _ _ (λ h. subst (λ (x : ℕ). Meant (x ∷ cs) (bit_text (x ∷ cs) cs)) (sym (eqb-true c 39 h)) (bit_text_meant cs)) (λ n1.
    tested (c ∷ cs) (c == 61) _ _ (λ h. subst (λ (x : ℕ). Meant (x ∷ cs) (equals cs)) (sym (eqb-true c 61 h)) (equals_meant cs)) (λ n2.
    tested (c ∷ cs) (c == 47) _ _ (λ h. subst (λ (x : ℕ). Meant (x ∷ cs) (slash cs)) (sym (eqb-true c 47 h)) (slash_meant cs)) (λ n3.
    tested (c ∷ cs) (c == 33) _ _ (λ h. subst (λ (x : ℕ). Meant (x ∷ cs) (with_equals m.NotEqual m.Not cs)) (sym (eqb-true c 33 h)) (with_equals_meant m.NotEqual m.Not 33 refl refl refl refl (λ to. refl) (λ to. refl) cs)) (λ n4.
    tested (c ∷ cs) (c == 60) _ _ (λ h. subst (λ (x : ℕ). Meant (x ∷ cs) (with_equals m.LessEqual m.Less cs)) (sym (eqb-true c 60 h)) (with_equals_meant m.LessEqual m.Less 60 refl refl refl refl (λ to. refl) (λ to. refl) cs)) (λ n5.
    tested (c ∷ cs) (c == 62) _ _ (λ h. subst (λ (x : ℕ). Meant (x ∷ cs) (with_equals m.GreaterEqual m.Greater cs)) (sym (eqb-true c 62 h)) (with_equals_meant m.GreaterEqual m.Greater 62 refl refl refl refl (λ to. refl) (λ to. refl) cs)) (λ n6.
    tested (c ∷ cs) (c == 38) _ _ (λ h. subst (λ (x : ℕ). Meant (x ∷ cs) (doubled m.And x cs)) (sym (eqb-true c 38 h)) (doubled_meant m.And 38 refl refl refl (λ to. refl) cs)) (λ n7.
    tested (c ∷ cs) (c == 124) _ _ (λ h. subst (λ (x : ℕ). Meant (x ∷ cs) (doubled m.Or x cs)) (sym (eqb-true c 124 h)) (doubled_meant m.Or 124 refl refl refl (λ to. refl) cs)) (λ n8.
    single_meant c cs h1 h2 h3 n1 n2 n3 n4 n5 n6 n7 n8))))))))

lexeme_meant : (c : ℕ) (cs : List ℕ) → Meant (c ∷ cs) (lexeme (c ∷ cs))
unfolding lexeme
lexeme_meant c cs =
    tested (c ∷ cs) (is_space c) _ _ (λ h. s.space h) (λ h1.
    tested (c ∷ cs) (is_ascii_alphabetic c) _ _ (λ h. word_meant c cs (after_run is_word cs) h (run_is is_word cs)) (λ h2.
    tested (c ∷ cs) (is_ascii_digit c) _ _ (λ h. numeral_meant c cs h) (λ h3. other_meant c cs h1 h2 h3)))

-- what was found at the front of what is left
pub meant_at : (from : List ℕ) (r : Found) → 0 < length from → r ≡ lexeme from → Meant from r
meant_at [] r h e = absurd (omega arith)
meant_at (c ∷ cs) r h e = subst (λ (x : Found). Meant (c ∷ cs) x) (sym e) (lexeme_meant c cs)
