-- The lines of a certificate, each by what its words are (docs/FORMATS.md, The text of a certificate).
use Rattle.std.specs.Prelude.{◌≡◌, ℕ, ◌^◌, ◌<◌, ◌==◌, ◌&&◌, ◌⊎◌, not, Bool, true, false, if◌then◌else◌, List, [], ◌∷◌, length, codes, decimal, ℤ}
use Rattle.std.specs.Char.{is_ascii_digit}
use Rattle.std.specs.Fmt.{signed_decimal}
use Rattle.std.specs.List.{AllZip, list_all, slice_split}
use Rattle.std.specs.Str.{bytes_eq}
use Rattle.cert_types.specs.declared.certificate.Version.{Version}
use Rattle.cert_types.specs.declared.certificate.Version.TheVariants.{Two}
use Rattle.cert_types.specs.Kept.{offset_limit, IsWide}

-- the words of a line, parted by one space each
abbrev pub words : List ℕ → List (List ℕ)
words line = slice_split (λ octet. octet == 32) line

-- what a word is
pub data Kind : Type 0 where
  -- this very word, or one of these two
  exactly : List ℕ → Kind
  either : List ℕ → List ℕ → Kind
  -- a number: the offset of a bit, the constant of a test, that of a constraint
  an_offset : Kind
  a_constant : Kind
  a_constraint : Kind
  -- a name: of a method, of a format, of a parameter, of a header or control field, of a field
  a_method : Kind
  a_format : Kind
  a_parameter : Kind
  a_reference : Kind
  a_field : Kind

-- the lines that there are
pub data Row : Type 0 where
  first_row : Row
  method_row : Row
  bit_row : Row
  param_row : Row
  ref_row : Row
  leaf_row : Row
  none_row : Row
  format_row : Row
  read_row : Row
  write_row : Row
  take_row : Row
  call_row : Row
  library_row : Row
  length_row : Row
  length_by_row : Row
  solve_row : Row
  choose_row : Row
  ask_row : Row
  end_row : Row

-- their words
abbrev pub kinds : Row → List Kind
kinds first_row = exactly (codes "rohcfn-certificate") ∷ either (codes "1") (codes "2") ∷ []
kinds method_row = exactly (codes "method") ∷ a_method ∷ []
kinds bit_row = exactly (codes "bit") ∷ an_offset ∷ []
kinds param_row = exactly (codes "param") ∷ a_parameter ∷ a_constant ∷ []
kinds ref_row = exactly (codes "ref") ∷ a_reference ∷ a_constant ∷ []
kinds leaf_row = exactly (codes "leaf") ∷ a_format ∷ []
kinds none_row = exactly (codes "none") ∷ []
kinds format_row = exactly (codes "format") ∷ a_format ∷ []
kinds read_row = exactly (codes "read") ∷ []
kinds write_row = exactly (codes "write") ∷ []
kinds take_row = exactly (codes "take") ∷ a_field ∷ []
kinds call_row = exactly (codes "call") ∷ a_field ∷ []
kinds library_row = exactly (codes "library") ∷ a_field ∷ either (codes "up") (codes "down") ∷ []
kinds length_row = exactly (codes "length") ∷ a_field ∷ either (codes "U") (codes "C") ∷ exactly (codes "method") ∷ []
kinds length_by_row = exactly (codes "length") ∷ a_field ∷ either (codes "U") (codes "C") ∷ a_constraint ∷ []
kinds solve_row = exactly (codes "solve") ∷ a_field ∷ a_constraint ∷ []
kinds choose_row = exactly (codes "choose") ∷ a_field ∷ []
kinds ask_row = exactly (codes "ask") ∷ a_field ∷ []
kinds end_row = exactly (codes "end") ∷ []

-- the lines of a version: only the second one tests references
abbrev pub IsRowOf : Row → Version → Type 0
IsRowOf ref_row version = version ≡ Two
IsRowOf _ version = Unit {0}

-- those of nodes, and those of steps
abbrev pub IsNodeRow : Row → Type 0
IsNodeRow bit_row = Unit {0}
IsNodeRow param_row = Unit {0}
IsNodeRow ref_row = Unit {0}
IsNodeRow leaf_row = Unit {0}
IsNodeRow none_row = Unit {0}
IsNodeRow _ = ⊥

abbrev pub IsStepRow : Row → Type 0
IsStepRow take_row = Unit {0}
IsStepRow call_row = Unit {0}
IsStepRow library_row = Unit {0}
IsStepRow length_row = Unit {0}
IsStepRow length_by_row = Unit {0}
IsStepRow solve_row = Unit {0}
IsStepRow choose_row = Unit {0}
IsStepRow ask_row = Unit {0}
IsStepRow _ = ⊥

-- ---- words by themselves

-- a zero, and more
abbrev pub has_leading_zero : List ℕ → Bool
has_leading_zero (b ∷ c ∷ bs) = b == 48
has_leading_zero _ = false

-- digits without a leading zero
abbrev pub is_number : List ℕ → Bool
is_number bs = not (length bs == 0) && (list_all is_ascii_digit bs && not (has_leading_zero bs))

-- the same, with - before them where the number is negative
abbrev pub is_signed : List ℕ → Bool
is_signed [] = false
is_signed (b ∷ bs) = if b == 45 then is_number bs && not (bytes_eq bs (codes "0")) else is_number (b ∷ bs)

-- a word looks so; any word that is not empty looks like a name
abbrev pub LooksLike : Kind → List ℕ → Type 0
LooksLike (exactly v) word = word ≡ v
LooksLike (either v w) word = (word ≡ v) ⊎ (word ≡ w)
LooksLike an_offset word = is_number word ≡ true
LooksLike a_constant word = is_signed word ≡ true
LooksLike a_constraint word = is_number word ≡ true
LooksLike _ word = 0 < length word

-- the word spells a number below the limit
pub record IsBelow (limit : ℕ) (word : List ℕ) : Type 0 where
  pub number : ℕ
  pub below : number < limit
  pub spelled : word ≡ decimal number

-- it spells a number from -2^127 to 2^127 - 1
pub record IsConstant (word : List ℕ) : Type 0 where
  pub number : ℤ
  pub wide : IsWide number
  pub spelled : word ≡ signed_decimal number

-- a number is in its range
abbrev pub IsInRange : Kind → List ℕ → Type 0
IsInRange an_offset word = IsBelow offset_limit word
IsInRange a_constant word = IsConstant word
IsInRange a_constraint word = IsBelow (2 ^ 127) word
IsInRange _ word = Unit {0}

-- the words look like the line
pub record HasShape (version : Version) (row : Row) (words : List (List ℕ)) : Type 0 where
  pub in_version : IsRowOf row version
  pub alike : AllZip LooksLike (kinds row) words
