-- What the tokens of a text are. `X .. from to` says that the octets of `from` up to `to` are an X.
-- RFC 4997 gives names, numbers and marks by its grammar; how they part, and what is refused, docs/FORMATS.md says.
use Rattle.std.specs.Prelude.{◌≡◌, ℕ, ◌+◌, ◌-◌, ◌*◌, ◌^◌, ◌<◌, ◌≤◌, Bool, true, false, not, ◌&&◌, ◌||◌, ◌==◌, nat_le, if◌then◌else◌, List, [], ◌∷◌, ◌++◌, length, take, drop, codes, Option, Some, None}
use Rattle.std.specs.Char.{is_ascii_digit, is_ascii_alphabetic}
use Rattle.text_source.specs.declared.fault.Fault.{Fault}
use Rattle.text_source.specs.declared.fault.FaultKind.{FaultKind}
use Rattle.text_source.specs.declared.fault.FaultKind.TheVariants as f
use Rattle.text_source.specs.declared.fault.SourceError.{SourceError}
use Rattle.text_source.specs.declared.fault.SourceError.TheVariants as errors
use Rattle.text_source.specs.declared.span.Span.{Span}
use Rattle.text_source.specs.declared.token.TokenKind.{TokenKind}
use Rattle.text_source.specs.declared.token.TokenKind.TheVariants as k
use Rattle.text_source.specs.declared.token.Mark.{Mark}
use Rattle.text_source.specs.declared.token.Mark.TheVariants as m
use Rattle.text_source.specs.declared.token.Token.{Token}

-- what goes on in a name, and may not follow a number (docs/FORMATS.md)
abbrev pub is_word : ℕ → Bool
is_word c = is_ascii_alphabetic c || is_ascii_digit c || c == 95

-- space, tab, CR, LF and form feed (docs/FORMATS.md)
abbrev pub is_space : ℕ → Bool
is_space c = c == 32 || c == 9 || c == 13 || c == 10 || c == 12

-- the digits of the bases 2 and 16
abbrev pub is_bit : ℕ → Bool
is_bit c = c == 48 || c == 49

abbrev pub is_hex : ℕ → Bool
is_hex c = is_ascii_digit c || (nat_le 97 c && nat_le c 102) || (nat_le 65 c && nat_le c 70)

abbrev pub is_quote : ℕ → Bool
is_quote c = c == 39

-- not the line feed that ends a comment
abbrev pub is_in_line : ℕ → Bool
is_in_line c = not (c == 10)

-- that octet comes next
abbrev pub is_next : ℕ → List ℕ → Bool
is_next c [] = false
is_next c (d ∷ rest) = d == c

-- those two come next
abbrev pub are_next : ℕ → ℕ → List ℕ → Bool
are_next c d [] = false
are_next c d (x ∷ rest) = x == c && is_next d rest

-- the next octet, or none, fails the test
abbrev pub Ends : (ℕ → Bool) → List ℕ → Type 0
Ends test [] = Unit {0}
Ends test (c ∷ cs) = test c ≡ false

-- the longest run of octets that pass the test
pub data Run (test : ℕ → Bool) : List ℕ → List ℕ → Type 0 where
  end : {to : List ℕ} → Ends test to → Run test to to
  more : {c : ℕ} {from to : List ℕ} → test c ≡ true → Run test from to → Run test (c ∷ from) to

-- what is in a comment, up to and with the first `*/`
pub data Closes : List ℕ → List ℕ → Type 0 where
  end : {to : List ℕ} → Closes (42 ∷ 47 ∷ to) to
  more : {c : ℕ} {from to : List ℕ} → are_next 42 47 (c ∷ from) ≡ false → Closes from to → Closes (c ∷ from) to

-- White space and comments part tokens (docs/FORMATS.md).
pub data IsGap : List ℕ → List ℕ → Type 0 where
  space : {c : ℕ} {to : List ℕ} → is_space c ≡ true → IsGap (c ∷ to) to
  -- `//` up to the line's end
  line : {from to : List ℕ} → Run is_in_line from to → IsGap (47 ∷ 47 ∷ from) to
  -- `/*` up to the first `*/`
  block : {from to : List ℕ} → Closes from to → IsGap (47 ∷ 42 ∷ from) to

-- the octets of `from` up to `to`
abbrev pub text_of : List ℕ → List ℕ → List ℕ
text_of from to = take (length from - length to) from

-- the number that a digit stands for; after 9 come letters of either case
abbrev pub digit : ℕ → ℕ
digit c = if nat_le c 57 then c - 48 else (if nat_le c 70 then c - 55 else c - 87)

-- the number that digits of a base spell after those of n, the first one highest
abbrev pub number_from : ℕ → ℕ → List ℕ → ℕ
number_from base n [] = n
number_from base n (c ∷ cs) = number_from base (base * n + digit c) cs

abbrev pub number_of : ℕ → List ℕ → ℕ
number_of base = number_from base 0

-- `0b` or `0x` comes next
abbrev pub has_prefix : List ℕ → Bool
has_prefix from = are_next 48 98 from || are_next 48 120 from

-- the octets of `from` up to `to` are a number of that base with all its digits, which begin at `digits` (docs/FORMATS.md)
pub data IsNumeral : ℕ → List ℕ → List ℕ → List ℕ → Type 0 where
  decimal : {c : ℕ} {from to : List ℕ} → is_ascii_digit c ≡ true → has_prefix (c ∷ from) ≡ false → Run is_ascii_digit from to → IsNumeral 10 (c ∷ from) (c ∷ from) to
  binary : {c : ℕ} {from to : List ℕ} → is_bit c ≡ true → Run is_bit from to → IsNumeral 2 (48 ∷ 98 ∷ c ∷ from) (c ∷ from) to
  hexadecimal : {c : ℕ} {from to : List ℕ} → is_hex c ≡ true → Run is_hex from to → IsNumeral 16 (48 ∷ 120 ∷ c ∷ from) (c ∷ from) to

-- how a mark or a reserved word is written (RFC 4997; docs/FORMATS.md)
abbrev pub spelling : Mark → List ℕ
spelling m.OpenBrace = codes "{"
spelling m.CloseBrace = codes "}"
spelling m.Open = codes "("
spelling m.Close = codes ")"
spelling m.OpenSquare = codes "["
spelling m.CloseSquare = codes "]"
spelling m.Comma = codes ","
spelling m.Semicolon = codes ";"
spelling m.Binds = codes "=:="
spelling m.Is = codes "="
spelling m.Dot = codes "."
spelling m.Or = codes "||"
spelling m.And = codes "&&"
spelling m.Equal = codes "=="
spelling m.NotEqual = codes "!="
spelling m.Less = codes "<"
spelling m.Greater = codes ">"
spelling m.LessEqual = codes "<="
spelling m.GreaterEqual = codes ">="
spelling m.Plus = codes "+"
spelling m.Minus = codes "-"
spelling m.Times = codes "*"
spelling m.Divide = codes "/"
spelling m.Remainder = codes "%"
spelling m.Power = codes "^"
spelling m.Not = codes "!"
spelling m.Uncompressed = codes "UNCOMPRESSED"
spelling m.Control = codes "CONTROL"
spelling m.Initial = codes "INITIAL"
spelling m.Default = codes "DEFAULT"
spelling m.Compressed = codes "COMPRESSED"
spelling m.Enforce = codes "ENFORCE"
spelling m.This = codes "THIS"
spelling m.Variable = codes "VARIABLE"
spelling m.Uvalue = codes "UVALUE"
spelling m.Ulength = codes "ULENGTH"
spelling m.Cvalue = codes "CVALUE"
spelling m.Clength = codes "CLENGTH"
spelling m.True = codes "true"
spelling m.False = codes "false"

-- a reserved word, and no mark
abbrev pub is_reserved : Mark → Bool
is_reserved m.Uncompressed = true
is_reserved m.Control = true
is_reserved m.Initial = true
is_reserved m.Default = true
is_reserved m.Compressed = true
is_reserved m.Enforce = true
is_reserved m.This = true
is_reserved m.Variable = true
is_reserved m.Uvalue = true
is_reserved m.Ulength = true
is_reserved m.Cvalue = true
is_reserved m.Clength = true
is_reserved m.True = true
is_reserved m.False = true
is_reserved _ = false

-- what follows the mark makes a longer one of it, or a comment
abbrev pub goes_on : Mark → List ℕ → Bool
goes_on m.Is to = is_next 61 to || are_next 58 61 to
goes_on m.Not to = is_next 61 to
goes_on m.Less to = is_next 61 to
goes_on m.Greater to = is_next 61 to
goes_on m.Divide to = is_next 47 to || is_next 42 to
goes_on _ to = false

-- A token, the longest that fits.
pub data IsToken : TokenKind → List ℕ → List ℕ → Type 0 where
  -- a letter, then letters, digits and underscores, that are no reserved word (RFC 4997)
  name : {c : ℕ} {from to : List ℕ} → is_ascii_alphabetic c ≡ true → Run is_word from to
      → ((mark : Mark) → is_reserved mark ≡ true → text_of (c ∷ from) to ≡ spelling mark → ⊥) → IsToken k.Name (c ∷ from) to
  word : (mark : Mark) {c : ℕ} {from to : List ℕ} → is_reserved mark ≡ true → is_ascii_alphabetic c ≡ true → Run is_word from to
      → text_of (c ∷ from) to ≡ spelling mark → IsToken (k.Mark mark) (c ∷ from) to
  -- a number that no letter, digit or underscore follows, below 2^64 (docs/FORMATS.md)
  number : {base n : ℕ} {from digits to : List ℕ} → IsNumeral base from digits to → Ends is_word to
      → n ≡ number_of base (text_of digits to) → n < 2 ^ 64 → IsToken (k.Number n) from to
  -- up to 64 digits 0 and 1 between quotes (docs/FORMATS.md)
  bit_text : {count value : ℕ} {from to : List ℕ} → Run is_bit from (39 ∷ to) → count ≡ length (text_of from (39 ∷ to)) → count ≤ 64
      → value ≡ number_of 2 (text_of from (39 ∷ to)) → IsToken (k.BitText count value) (39 ∷ from) to
  sign : (mark : Mark) {to : List ℕ} → is_reserved mark ≡ false → goes_on mark to ≡ false → IsToken (k.Mark mark) (spelling mark ++ to) to

-- the place of what is left of a text of so many octets
abbrev pub span_of : ℕ → List ℕ → List ℕ → Span
span_of len from to = record { from = len - length from; to = len - length to }

-- the tokens of `from` up to `to`, in a text of so many octets
pub data Lexes (len : ℕ) : List ℕ → List ℕ → List Token → Type 0 where
  done : {to : List ℕ} → Lexes len to to []
  gap : {from mid to : List ℕ} {ts : List Token} → IsGap from mid → Lexes len mid to ts → Lexes len from to ts
  token : {from mid to : List ℕ} {kind : TokenKind} {ts : List Token} → IsToken kind from mid → Lexes len mid to ts
      → Lexes len from to (record { kind = kind; span = span_of len from mid } ∷ ts)

-- these are the tokens of the text
abbrev pub Lexed : List ℕ → List Token → Type 0
Lexed text ts = Lexes (length text) text [] ts

-- `&` or `|`, of which two make a mark
abbrev pub is_half : ℕ → Bool
is_half c = c == 38 || c == 124

-- a token or a gap begins with this octet
abbrev pub begins : ℕ → Bool
begins c = is_space c || is_ascii_alphabetic c || is_ascii_digit c || is_half c || c == 39 || c == 123 || c == 125 || c == 40 || c == 41 || c == 91 || c == 93 || c == 44
    || c == 59 || c == 61 || c == 46 || c == 33 || c == 60 || c == 62 || c == 43 || c == 45 || c == 42 || c == 47 || c == 37 || c == 94

-- The character at the front of `at`, or the end where that is empty, is not allowed in what begins at `from` (docs/FORMATS.md).
pub data IsBad : List ℕ → List ℕ → Type 0 where
  alone : {c : ℕ} {cs : List ℕ} → begins c ≡ false → IsBad (c ∷ cs) (c ∷ cs)
  -- one `&` or `|`
  half : {c : ℕ} {cs : List ℕ} → is_half c ≡ true → is_next c cs ≡ false → IsBad (c ∷ cs) (c ∷ cs)
  -- no digit after `0b` or `0x`
  no_bit : {at : List ℕ} → Ends is_bit at → IsBad (48 ∷ 98 ∷ at) at
  no_hex : {at : List ℕ} → Ends is_hex at → IsBad (48 ∷ 120 ∷ at) at
  -- a letter, digit or underscore after a number that is not too large
  after_number : {base c : ℕ} {from digits at : List ℕ} → IsNumeral base from digits (c ∷ at) → number_of base (text_of digits (c ∷ at)) < 2 ^ 64
      → is_word c ≡ true → IsBad from (c ∷ at)
  -- not the closing quote after a bit text's digits
  in_bits : {from at : List ℕ} → Run is_bit from at → Ends is_quote at → IsBad (39 ∷ from) at

-- The octets of `from` up to `to` are a number or a bit text that is too large (docs/FORMATS.md).
pub data IsLarge : List ℕ → List ℕ → Type 0 where
  number : {base : ℕ} {from digits to : List ℕ} → IsNumeral base from digits to → 2 ^ 64 ≤ number_of base (text_of digits to) → IsLarge from to
  bit_text : {from to : List ℕ} → Run is_bit from (39 ∷ to) → 64 < length (text_of from (39 ∷ to)) → IsLarge (39 ∷ from) to

-- a comment begins that nothing closes (docs/FORMATS.md)
pub data IsOpen : List ℕ → Type 0 where
  comment : {inside : List ℕ} → ((to : List ℕ) → Closes inside to → ⊥) → IsOpen (47 ∷ 42 ∷ inside)

-- Why no token and no gap is at the front of `from`: the fault's kind, and what is left at and after its place.
abbrev pub Stops : FaultKind → List ℕ → List ℕ → List ℕ → Type 0
Stops f.Character from at to = IsBad from at × (to ≡ drop 1 at)
Stops f.OpenComment from at to = (at ≡ from) × (to ≡ []) × IsOpen from
Stops f.Large from at to = (at ≡ from) × IsLarge from to
Stops _ from at to = ⊥

-- a token, or none for a gap
abbrev pub IsLexeme : Option TokenKind → List ℕ → List ℕ → Type 0
IsLexeme None = IsGap
IsLexeme (Some kind) = IsToken kind

-- The text is tokens and gaps up to `rest`, where the fault stops it. The fault's place is from `at` up to `to`.
pub record IsStopped (text : List ℕ) (fault : Fault) : Type 0 where
  pub rest : List ℕ
  pub front : List Token
  pub at : List ℕ
  pub to : List ℕ
  pub lexes : Lexes (length text) text rest front
  pub stops : Stops fault.kind rest at to
  pub place : fault.at ≡ span_of (length text) at to

-- What a failed reading of the tokens says of the text.
abbrev pub Refuses : List ℕ → SourceError → Type 0
Refuses text (errors.Fault fault) = IsStopped text fault
Refuses text errors.OutOfMemory = Unit {0}
