-- Reserved words, comments and numbers with a base, as the scanning functions find them.
use Rattle.std.proofs.Common.{◌≡◌, ◌==◌, ◌&&◌, ◌||◌, ℕ, ◌<◌, List, [], ◌∷◌, length, drop, codes, Option, Some, None, Bool, true, false, cond, refl, sym, ap, subst, ◌∙◌, arith}
use Rattle.std.proofs.lemmas.Bool.{eqb-true}
use Rattle.std.proofs.lemmas.Slice.Eq.{bytes_eq-Decides}
use Rattle.std.specs.Char.{is_ascii_digit}
use Rattle.std.specs.Str.{bytes_eq}
use Rattle.text_source.specs.declared.token.Mark.{Mark}
use Rattle.text_source.specs.declared.token.Mark.TheVariants as m
use Rattle.text_source.specs.Lexical as s
use Rattle.text_source.specs.Lexical.{Closes, Run, spelling, is_reserved, is_next, are_next, has_prefix, is_bit, is_hex}
use Rattle.text_source.specs.Scan.{reserved, operand, after_comment, number, numeral, prefixed}
use Rattle.text_source.proofs.LexicalRuns.{run_of}

pub both : (a b : Bool) → (a && b) ≡ true → (a ≡ true) × (b ≡ true)
both true b e = (refl, e)
both false b e = absurd cc

pub neither : (a b : Bool) → (a || b) ≡ false → (a ≡ false) × (b ≡ false)
neither false b e = (refl, e)
neither true b e = absurd cc

-- ---- reserved words

-- what is found is a reserved word so written
abbrev IsWord : List ℕ → Option Mark → Type 0
IsWord text None = Unit {0}
IsWord text (Some mark) = (is_reserved mark ≡ true) × (text ≡ spelling mark)

worded : (text word : List ℕ) (mark : Mark) (o : Option Mark) → is_reserved mark ≡ true → word ≡ spelling mark → IsWord text o → IsWord text (cond (bytes_eq text word) (Some mark) o)
worded text word mark o r e h = by_test (bytes_eq text word) refl
  where
    by_test : (b : Bool) → bytes_eq text word ≡ b → IsWord text (cond b (Some mark) o)
    by_test true f = (r, (bytes_eq-Decides text word).0 f ∙ e)
    by_test false f = h

operand_is : (text : List ℕ) → IsWord text (operand text)
unfolding operand
operand_is text =
    worded text (codes "THIS") m.This _ refl refl
    (worded text (codes "UVALUE") m.Uvalue _ refl refl
    (worded text (codes "ULENGTH") m.Ulength _ refl refl
    (worded text (codes "CVALUE") m.Cvalue _ refl refl
    (worded text (codes "CLENGTH") m.Clength _ refl refl
    (worded text (codes "true") m.True _ refl refl
    (worded text (codes "false") m.False None refl refl tt))))))

reserved_is : (text : List ℕ) → IsWord text (reserved text)
unfolding reserved
reserved_is text =
    worded text (codes "UNCOMPRESSED") m.Uncompressed _ refl refl
    (worded text (codes "CONTROL") m.Control _ refl refl
    (worded text (codes "INITIAL") m.Initial _ refl refl
    (worded text (codes "DEFAULT") m.Default _ refl refl
    (worded text (codes "COMPRESSED") m.Compressed _ refl refl
    (worded text (codes "ENFORCE") m.Enforce _ refl refl
    (worded text (codes "VARIABLE") m.Variable _ refl refl (operand_is text)))))))

pub word_some : (text : List ℕ) (mark : Mark) → reserved text ≡ Some mark → (is_reserved mark ≡ true) × (text ≡ spelling mark)
word_some text mark e = subst (λ (o : Option Mark). IsWord text o) e (reserved_is text)

-- each reserved word is found
pub word_found : (mark : Mark) → is_reserved mark ≡ true → reserved (spelling mark) ≡ Some mark
unfolding reserved operand
word_found m.Uncompressed e = refl
word_found m.Control e = refl
word_found m.Initial e = refl
word_found m.Default e = refl
word_found m.Compressed e = refl
word_found m.Enforce e = refl
word_found m.This e = refl
word_found m.Variable e = refl
word_found m.Uvalue e = refl
word_found m.Ulength e = refl
word_found m.Cvalue e = refl
word_found m.Clength e = refl
word_found m.True e = refl
word_found m.False e = refl
word_found m.OpenBrace e = absurd cc
word_found m.CloseBrace e = absurd cc
word_found m.Open e = absurd cc
word_found m.Close e = absurd cc
word_found m.OpenSquare e = absurd cc
word_found m.CloseSquare e = absurd cc
word_found m.Comma e = absurd cc
word_found m.Semicolon e = absurd cc
word_found m.Binds e = absurd cc
word_found m.Is e = absurd cc
word_found m.Dot e = absurd cc
word_found m.Or e = absurd cc
word_found m.And e = absurd cc
word_found m.Equal e = absurd cc
word_found m.NotEqual e = absurd cc
word_found m.Less e = absurd cc
word_found m.Greater e = absurd cc
word_found m.LessEqual e = absurd cc
word_found m.GreaterEqual e = absurd cc
word_found m.Plus e = absurd cc
word_found m.Minus e = absurd cc
word_found m.Times e = absurd cc
word_found m.Divide e = absurd cc
word_found m.Remainder e = absurd cc
word_found m.Power e = absurd cc
word_found m.Not e = absurd cc

pub word_none : (text : List ℕ) → reserved text ≡ None → (mark : Mark) → is_reserved mark ≡ true → text ≡ spelling mark → ⊥
word_none text e mark r h = let clash : ◌≡◌ {A = Option Mark} None (Some mark) = sym e ∙ ap reserved h ∙ word_found mark r in absurd cc

pub no_word : (text : List ℕ) → ((mark : Mark) → is_reserved mark ≡ true → text ≡ spelling mark → ⊥) → reserved text ≡ None
no_word text never = by_answer (reserved text) (reserved_is text)
  where
    by_answer : (o : Option Mark) → IsWord text o → o ≡ None
    by_answer None h = refl
    by_answer (Some mark) h = absurd (never mark h.0 h.1)

-- ---- spellings

pub spelling_some : (mark : Mark) → 0 < length (spelling mark)
spelling_some m.OpenBrace = omega arith
spelling_some m.CloseBrace = omega arith
spelling_some m.Open = omega arith
spelling_some m.Close = omega arith
spelling_some m.OpenSquare = omega arith
spelling_some m.CloseSquare = omega arith
spelling_some m.Comma = omega arith
spelling_some m.Semicolon = omega arith
spelling_some m.Binds = omega arith
spelling_some m.Is = omega arith
spelling_some m.Dot = omega arith
spelling_some m.Or = omega arith
spelling_some m.And = omega arith
spelling_some m.Equal = omega arith
spelling_some m.NotEqual = omega arith
spelling_some m.Less = omega arith
spelling_some m.Greater = omega arith
spelling_some m.LessEqual = omega arith
spelling_some m.GreaterEqual = omega arith
spelling_some m.Plus = omega arith
spelling_some m.Minus = omega arith
spelling_some m.Times = omega arith
spelling_some m.Divide = omega arith
spelling_some m.Remainder = omega arith
spelling_some m.Power = omega arith
spelling_some m.Not = omega arith
spelling_some m.Uncompressed = omega arith
spelling_some m.Control = omega arith
spelling_some m.Initial = omega arith
spelling_some m.Default = omega arith
spelling_some m.Compressed = omega arith
spelling_some m.Enforce = omega arith
spelling_some m.This = omega arith
spelling_some m.Variable = omega arith
spelling_some m.Uvalue = omega arith
spelling_some m.Ulength = omega arith
spelling_some m.Cvalue = omega arith
spelling_some m.Clength = omega arith
spelling_some m.True = omega arith
spelling_some m.False = omega arith

-- ---- comments

-- what is left after the first `*/`, if there is one
abbrev pub IsAfter : List ℕ → Option (List ℕ) → Type 0
IsAfter from None = (to : List ℕ) → Closes from to → ⊥
IsAfter from (Some to) = Closes from to

next_is : (c : ℕ) (cs : List ℕ) → is_next c cs ≡ true → c ∷ drop 1 cs ≡ cs
next_is c [] e = absurd cc
next_is c (d ∷ cs) e = (λ i. sym (eqb-true d c e) i ∷ cs)

pub two_next : (a b c : ℕ) (cs : List ℕ) → (c == a && is_next b cs) ≡ true → a ∷ b ∷ drop 1 cs ≡ c ∷ cs
two_next a b c cs e = let p = both (c == a) (is_next b cs) e in (λ i. sym (eqb-true c a p.0) i ∷ next_is b cs p.1 i)

pub comment_is : (from : List ℕ) → IsAfter from (after_comment from)
unfolding after_comment
comment_is [] = λ to h. never [] to h refl
  where
    never : (from to : List ℕ) → Closes from to → from ≡ [] → ⊥
    never _ to s.end e = absurd cc
    never _ to (s.more f h) e = absurd cc
comment_is (c ∷ cs) = by_test (c == 42 && is_next 47 cs) refl (comment_is cs)
  where
    more_is : (o : Option (List ℕ)) → (c == 42 && is_next 47 cs) ≡ false → IsAfter cs o → IsAfter (c ∷ cs) o
    more_is (Some to) e h = s.more e h
    more_is None e h = λ to g. later (c ∷ cs) to g refl
      where
        later : (from to : List ℕ) → Closes from to → from ≡ c ∷ cs → ⊥
        later _ to s.end same = let clash : ◌≡◌ {A = Bool} true false = ap (λ (us : List ℕ). are_next 42 47 us) same ∙ e in absurd cc
        later _ to (s.more {from = from} f g) same = let tail : from ≡ cs = ap (λ (us : List ℕ). drop 1 us) same in h to (subst (λ (us : List ℕ). Closes us to) tail g)

    by_test : (b : Bool) → (c == 42 && is_next 47 cs) ≡ b → IsAfter cs (after_comment cs) → IsAfter (c ∷ cs) (after_comment (c ∷ cs))
    by_test true e h = rw e (subst (λ (us : List ℕ). Closes us (drop 1 cs)) (two_next 42 47 c cs e) s.end)
    by_test false e h = rw e (more_is (after_comment cs) e h)

pub comment_found : {from to : List ℕ} → Closes from to → after_comment from ≡ Some to
unfolding after_comment
comment_found s.end = refl
comment_found (s.more e h) = rw e (comment_found h)

pub never_found : (from : List ℕ) → ((to : List ℕ) → Closes from to → ⊥) → after_comment from ≡ None
never_found from never = by_answer (after_comment from) (comment_is from)
  where
    by_answer : (o : Option (List ℕ)) → IsAfter from o → o ≡ None
    by_answer None h = refl
    by_answer (Some to) h = absurd (never to h)

pub closes_len : {from to : List ℕ} → Closes from to → length to < length from
closes_len s.end = omega arith
closes_len (s.more e h) = let lt = closes_len h in omega arith

-- ---- numbers with a base

pub decimal_found : (c : ℕ) (from to : List ℕ) → has_prefix (c ∷ from) ≡ false → Run is_ascii_digit from to → numeral c from ≡ number 10 (c ∷ from) (c ∷ from) to
unfolding numeral
decimal_found c from to e run = let p = neither (c == 48 && is_next 98 from) (c == 48 && is_next 120 from) e in rw (p.0, p.1, run_of run) refl

pub binary_found : (c : ℕ) (from to : List ℕ) → is_bit c ≡ true → Run is_bit from to → numeral 48 (98 ∷ c ∷ from) ≡ number 2 (48 ∷ 98 ∷ c ∷ from) (c ∷ from) to
unfolding numeral prefixed
binary_found c from to e run = rw (e, run_of run) refl

pub hexadecimal_found : (c : ℕ) (from to : List ℕ) → is_hex c ≡ true → Run is_hex from to → numeral 48 (120 ∷ c ∷ from) ≡ number 16 (48 ∷ 120 ∷ c ∷ from) (c ∷ from) to
unfolding numeral prefixed
hexadecimal_found c from to e run = rw (e, run_of run) refl
