-- The members of an object of JSON, as tokens (RFC 8259, section 4; docs/FORMATS.md, JSON lines).
use Rattle.std.specs.Prelude.{◌≡◌, ℕ, Bool, List, [], ◌∷◌, ◌++◌, Option, Some, None, decimal, codes, length}
use Rattle.hex.specs.Hex.{encode_lower}
use Rattle.json.specs.Lex.{tokens}
use Rattle.json.specs.Token.{Token}
use Rattle.json.specs.Print.{print}
use Rattle.json.specs.Word.{after_number}
use Rattle.tool_input.specs.BitTexts.{octets_of}

abbrev pub opened : List Token
opened = Token.begin_object ∷ []

abbrev pub closed : List Token
closed = Token.end_object ∷ []

abbrev pub text : List ℕ → List ℕ → List Token
text key s = Token.key key ∷ Token.string s ∷ []

abbrev pub number : List ℕ → ℕ → List Token
number key n = Token.key key ∷ Token.number (decimal n) ∷ []

abbrev pub null_member : List ℕ → List Token
null_member key = Token.key key ∷ Token.null ∷ []

abbrev pub optional_text : List ℕ → Option (List ℕ) → List Token
optional_text key (Some s) = text key s
optional_text key None = null_member key

abbrev pub optional_number : List ℕ → Option ℕ → List Token
optional_number key (Some n) = number key n
optional_number key None = null_member key

-- by what follows a number at the front of the text: a number where nothing does
abbrev pub figure_by : Option (List ℕ) → List ℕ → Token
figure_by (Some []) s = Token.number s
figure_by (Some (c ∷ cs)) s = Token.string s
figure_by None s = Token.string s

-- a number where the whole text is one of JSON, else the text
abbrev pub figure : List ℕ → List ℕ → List Token
figure key s = Token.key key ∷ figure_by (after_number s) s ∷ []

abbrev pub counted : List ℕ → ℕ → List ℕ → List Token
counted key n hex = (Token.key key ∷ opened) ++ number (codes "bits") n ++ text (codes "hex") hex ++ closed

-- bits: their count, and in hex the octets that hold them, the last one filled with zero bits
abbrev pub bits : List ℕ → List Bool → List Token
bits key bs = counted key (length bs) (encode_lower (octets_of bs))

abbrev pub optional_bits : List ℕ → Option (List Bool) → List Token
optional_bits key (Some bs) = bits key bs
optional_bits key None = null_member key

abbrev pub array_opened : List ℕ → List Token
array_opened key = Token.key key ∷ Token.begin_array ∷ []

abbrev pub array_closed : List Token
array_closed = Token.end_array ∷ []

abbrev pub member_opened : List ℕ → List Token
member_opened key = Token.key key ∷ Token.begin_object ∷ []

-- a text in an array
abbrev pub element : List ℕ → List Token
element s = Token.string s ∷ []

-- the line of an object, of which these are the tokens before its end
abbrev pub line : List Token → List ℕ
line so_far = print (so_far ++ closed) ++ 10 ∷ []

-- what is printed for the tokens is read as them
abbrev pub ReadsBack : List Token → Type 0
ReadsBack ts = tokens (print ts) ≡ ts
