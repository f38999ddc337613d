-- How tokens are found, as functions of what is left of the text.
use Rattle.std.specs.Prelude.{ℕ, ◌^◌, Bool, ◌&&◌, ◌==◌, nat_lt, if◌then◌else◌, List, [], ◌∷◌, length, drop, codes, Option, Some, None, Result, Ok, Err}
use Rattle.std.specs.Char.{is_ascii_digit, is_ascii_alphabetic}
use Rattle.std.specs.Str.{bytes_eq}
use Rattle.std.specs.Borrow.{Bor}
use Rattle.text_source.specs.declared.fault.FaultKind.{FaultKind}
use Rattle.text_source.specs.declared.fault.FaultKind.TheVariants as f
use Rattle.text_source.specs.declared.token.TokenKind.{TokenKind}
use Rattle.text_source.specs.declared.token.TokenKind.TheVariants as k
use Rattle.text_source.specs.declared.token.Mark.{Mark}
use Rattle.text_source.specs.declared.token.Mark.TheVariants as m
use Rattle.text_source.specs.declared.lexer.Class.{Class}
use Rattle.text_source.specs.declared.lexer.Class.TheVariants as classes
use Rattle.text_source.specs.declared.lexer.Stop.{Stop}
use Rattle.text_source.specs.Lexical.{is_word, is_space, is_bit, is_hex, is_in_line, is_next, number_of, text_of}

unfoldable pub after_run : (ℕ → Bool) → List ℕ → List ℕ
after_run test [] = []
after_run test (c ∷ cs) = if test c then after_run test cs else c ∷ cs

-- the octets of a class
abbrev pub is_in : Class → ℕ → Bool
is_in classes.Word = is_word
is_in classes.Digit = is_ascii_digit
is_in classes.Bit = is_bit
is_in classes.Hex = is_hex
is_in classes.Line = is_in_line

-- a token, or none for a gap, and what is left after it; or the fault's kind and what is left at and after its place
abbrev pub Found : Type 0
Found = Result (Option TokenKind × List ℕ) (FaultKind × List ℕ × List ℕ)

-- what the code answers, without where it lies in memory
abbrev pub seen : Result (Option TokenKind × Bor (List ℕ)) Stop → Found
seen (Ok p) = Ok (p.0, p.1.now)
seen (Err e) = Err (e.kind, e.at.now, e.to.now)

-- the number of digits of a base, if it fits 64 bits
unfoldable pub value : ℕ → List ℕ → Option ℕ
value base digits = if nat_lt (number_of base digits) (2 ^ 64) then Some (number_of base digits) else None

-- after a number's digits
unfoldable pub after_number : List ℕ → ℕ → List ℕ → Found
after_number from n [] = Ok (Some (k.Number n), [])
after_number from n (c ∷ cs) = if is_word c then Err (f.Character, c ∷ cs, cs) else Ok (Some (k.Number n), c ∷ cs)

abbrev pub number_by : List ℕ → Option ℕ → List ℕ → Found
number_by from (Some n) to = after_number from n to
number_by from None to = Err (f.Large, from, to)

-- a number of `from` of that base, whose digits are those of `digits` up to `to`
unfoldable pub number : ℕ → List ℕ → List ℕ → List ℕ → Found
number base from digits to = number_by from (value base (text_of digits to)) to

-- after a prefix, the digits of its base being those that pass the test
unfoldable pub prefixed : (ℕ → Bool) → ℕ → List ℕ → List ℕ → Found
prefixed test base from [] = Err (f.Character, [], [])
prefixed test base from (c ∷ cs) = if test c then number base from (c ∷ cs) (after_run test cs) else Err (f.Character, c ∷ cs, cs)

-- what begins with a digit
unfoldable pub numeral : ℕ → List ℕ → Found
numeral c cs =
    if c == 48 && is_next 98 cs then prefixed is_bit 2 (c ∷ cs) (drop 1 cs)
    else (if c == 48 && is_next 120 cs then prefixed is_hex 16 (c ∷ cs) (drop 1 cs)
    else number 10 (c ∷ cs) (c ∷ cs) (after_run is_ascii_digit cs))

-- the word of an operand that is so written
unfoldable pub operand : List ℕ → Option Mark
operand text =
    if bytes_eq text (codes "THIS") then Some m.This
    else (if bytes_eq text (codes "UVALUE") then Some m.Uvalue
    else (if bytes_eq text (codes "ULENGTH") then Some m.Ulength
    else (if bytes_eq text (codes "CVALUE") then Some m.Cvalue
    else (if bytes_eq text (codes "CLENGTH") then Some m.Clength
    else (if bytes_eq text (codes "true") then Some m.True
    else (if bytes_eq text (codes "false") then Some m.False
    else None))))))

-- the reserved word that is so written
unfoldable pub reserved : List ℕ → Option Mark
reserved text =
    if bytes_eq text (codes "UNCOMPRESSED") then Some m.Uncompressed
    else (if bytes_eq text (codes "CONTROL") then Some m.Control
    else (if bytes_eq text (codes "INITIAL") then Some m.Initial
    else (if bytes_eq text (codes "DEFAULT") then Some m.Default
    else (if bytes_eq text (codes "COMPRESSED") then Some m.Compressed
    else (if bytes_eq text (codes "ENFORCE") then Some m.Enforce
    else (if bytes_eq text (codes "VARIABLE") then Some m.Variable
    else operand text))))))

abbrev pub word_kind : Option Mark → TokenKind
word_kind (Some mark) = k.Mark mark
word_kind None = k.Name

abbrev pub bits_by : List ℕ → ℕ → Option ℕ → List ℕ → Found
bits_by from count (Some n) to = Ok (Some (k.BitText count n), to)
bits_by from count None to = Err (f.Large, from, to)

-- digits between quotes
unfoldable pub quoted : List ℕ → List ℕ → List ℕ → Found
quoted from digits to = if nat_lt 64 (length digits) then Err (f.Large, from, to) else bits_by from (length digits) (value 2 digits) to

-- after a bit text's digits
unfoldable pub after_bits : List ℕ → List ℕ → List ℕ → Found
after_bits from digits [] = Err (f.Character, [], [])
after_bits from digits (c ∷ cs) = if c == 39 then quoted from digits cs else Err (f.Character, c ∷ cs, cs)

-- a bit text of `from`, of what comes after its first quote
unfoldable pub bit_text : List ℕ → List ℕ → Found
bit_text from inside = after_bits from (text_of inside (after_run is_bit inside)) (after_run is_bit inside)

abbrev pub marked : Mark → List ℕ → Found
marked mark to = Ok (Some (k.Mark mark), to)

-- what is left after the first `*/`
unfoldable pub after_comment : List ℕ → Option (List ℕ)
after_comment [] = None
after_comment (c ∷ cs) = if c == 42 && is_next 47 cs then Some (drop 1 cs) else after_comment cs

abbrev pub comment_by : List ℕ → Option (List ℕ) → Found
comment_by from (Some to) = Ok (None, to)
comment_by from None = Err (f.OpenComment, from, [])

-- what begins with `/`, after it
unfoldable pub slash : List ℕ → Found
slash [] = marked m.Divide []
slash (c ∷ cs) =
    if c == 47 then Ok (None, after_run is_in_line cs)
    else (if c == 42 then comment_by (47 ∷ c ∷ cs) (after_comment cs)
    else marked m.Divide (c ∷ cs))

-- what begins with `=`, after it
unfoldable pub equals : List ℕ → Found
equals [] = marked m.Is []
equals (c ∷ cs) =
    if c == 61 then marked m.Equal cs
    else (if c == 58 && is_next 61 cs then marked m.Binds (drop 1 cs)
    else marked m.Is (c ∷ cs))

-- what begins with a mark of one octet that `=` makes a longer one, after it
unfoldable pub with_equals : Mark → Mark → List ℕ → Found
with_equals long short [] = marked short []
with_equals long short (c ∷ cs) = if c == 61 then marked long cs else marked short (c ∷ cs)

-- what begins with half of a mark of two equal octets
unfoldable pub doubled : Mark → ℕ → List ℕ → Found
doubled mark half [] = Err (f.Character, half ∷ [], [])
doubled mark half (c ∷ cs) = if c == half then marked mark cs else Err (f.Character, half ∷ c ∷ cs, c ∷ cs)

-- the mark that this octet is, whatever follows
unfoldable pub single : ℕ → Option Mark
single c =
    if c == 123 then Some m.OpenBrace
    else (if c == 125 then Some m.CloseBrace
    else (if c == 40 then Some m.Open
    else (if c == 41 then Some m.Close
    else (if c == 91 then Some m.OpenSquare
    else (if c == 93 then Some m.CloseSquare
    else (if c == 44 then Some m.Comma
    else (if c == 59 then Some m.Semicolon
    else (if c == 46 then Some m.Dot
    else (if c == 43 then Some m.Plus
    else (if c == 45 then Some m.Minus
    else (if c == 42 then Some m.Times
    else (if c == 37 then Some m.Remainder
    else (if c == 94 then Some m.Power
    else None)))))))))))))

abbrev pub single_by : ℕ → Option Mark → List ℕ → Found
single_by c (Some mark) cs = marked mark cs
single_by c None cs = Err (f.Character, c ∷ cs, cs)

-- what begins with another octet
unfoldable pub other : ℕ → List ℕ → Found
other c cs =
    if c == 39 then bit_text (c ∷ cs) cs
    else (if c == 61 then equals cs
    else (if c == 47 then slash cs
    else (if c == 33 then with_equals m.NotEqual m.Not cs
    else (if c == 60 then with_equals m.LessEqual m.Less cs
    else (if c == 62 then with_equals m.GreaterEqual m.Greater cs
    else (if c == 38 then doubled m.And c cs
    else (if c == 124 then doubled m.Or c cs
    else single_by c (single c) cs)))))))

unfoldable pub lexeme : List ℕ → Found
lexeme [] = Err (f.Character, [], [])
lexeme (c ∷ cs) =
    if is_space c then Ok (None, cs)
    else (if is_ascii_alphabetic c then Ok (Some (word_kind (reserved (text_of (c ∷ cs) (after_run is_word cs)))), after_run is_word cs)
    else (if is_ascii_digit c then numeral c cs
    else other c cs))
