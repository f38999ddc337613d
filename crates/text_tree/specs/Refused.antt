-- What a refusal says of the tokens.
use Rattle.std.specs.Prelude.{◌≡◌, ℕ, ◌⊎◌, ◌||◌, Bool, true, false, List, [], ◌∷◌, ◌++◌}
use Rattle.text_source.specs.declared.span.Span.{Span}
use Rattle.text_source.specs.declared.fault.Fault.{Fault}
use Rattle.text_source.specs.declared.fault.FaultKind.{FaultKind}
use Rattle.text_source.specs.declared.fault.FaultKind.TheVariants as f
use Rattle.text_source.specs.declared.fault.SourceError.{SourceError}
use Rattle.text_source.specs.declared.fault.SourceError.TheVariants as sources
use Rattle.text_source.specs.declared.token.TokenKind.{TokenKind}
use Rattle.text_source.specs.declared.token.TokenKind.TheVariants as k
use Rattle.text_source.specs.declared.token.Mark.{Mark}
use Rattle.text_source.specs.declared.token.Mark.TheVariants as m
use Rattle.text_source.specs.declared.token.Token.{Token}
use Rattle.text_tree.specs.declared.refusal.FaultPlace.{FaultPlace}
use Rattle.text_tree.specs.declared.refusal.FaultPlace.TheVariants as places
use Rattle.text_tree.specs.declared.refusal.PlacedFault.{PlacedFault}
use Rattle.text_tree.specs.declared.tree.File.{File}
use Rattle.text_tree.specs.declared.tree.Expr.{Expr}
use Rattle.text_tree.specs.Grammar.{IsText, IsExpr, mark, name_at}
use Rattle.text_tree.specs.Limits.{IsShallow, IsUnrepeated, IsUnmixed, IsLimited}
use Rattle.text_tree.specs.Reading.{place}

-- The file keeps the rule that the fault speaks of. E10 and E12 speak of the grammar alone.
abbrev pub KeepsRule : FaultKind → File → Type 0
KeepsRule f.Nesting file = IsShallow file
KeepsRule f.RepeatedSection file = IsUnrepeated file
KeepsRule f.MixedRemainder file = IsUnmixed file
KeepsRule f.TooManyParts file = IsLimited file
KeepsRule _ file = Unit {0}

-- No text that keeps the fault's rule, whatever others it keeps, begins with the tokens in front and the next one; where
-- there is no next one, those in front are no such text.
abbrev pub NoText : FaultKind → List Token → List Token → Type 0
NoText kind front [] = (file : File) → IsText front file → KeepsRule kind file → ⊥
NoText kind front (t ∷ ts) = (more : List Token) (file : File) → IsText (front ++ t ∷ more) file → KeepsRule kind file → ⊥

-- The tokens that some text begins with: up to and with the one at fault, where a rule beside the grammar forbids it; else
-- those in front.
abbrev pub reached : FaultKind → List Token → List Token → List Token
reached f.Unexpected front rest = front
reached f.EmptyBracket front rest = front
reached _ front [] = front
reached _ front (t ∷ ts) = front ++ t ∷ []

-- the next token is a mark that passes the test
abbrev pub begins_by : (Mark → Bool) → TokenKind → Bool
begins_by test (k.Mark mark) = test mark
begins_by test _ = false

abbrev pub begins : (Mark → Bool) → List Token → Bool
begins test [] = false
begins test (t ∷ ts) = begins_by test t.kind

abbrev pub nests : Mark → Bool
nests m.Open = true
nests m.Not = true
nests _ = false

-- the words of the sections that may not repeat
abbrev pub stands_once : Mark → Bool
stands_once m.Control = true
stands_once m.Initial = true
stands_once m.Default = true
stands_once _ = false

-- these tokens are an operand: a number, a name, or what brackets hold
abbrev pub IsOperand : List Token → Type 0
IsOperand tokens = (x : Expr) × ((to : List Token) → IsExpr 0 (tokens ++ to) to x)

-- the tokens end with this operator, and an operand in front of it
pub record EndsIn (which : Mark) (sign : Span) (tokens : List Token) : Type 0 where
  pub start : List Token
  pub left : List Token
  pub parts : tokens ≡ start ++ (left ++ mark which sign ∷ [])
  pub operand : IsOperand left

-- the tokens end with an operand, and this operator in front of it
pub record LastOperator (which : Mark) (sign : Span) (tokens : List Token) : Type 0 where
  pub start : List Token
  pub right : List Token
  pub parts : tokens ≡ start ++ right
  pub operand : IsOperand right
  pub operator : EndsIn which sign start

abbrev pub is_remainder : Mark → Bool
is_remainder m.Remainder = true
is_remainder _ = false

-- one of ^ * / + -
abbrev pub is_plain : Mark → Bool
is_plain m.Power = true
is_plain m.Times = true
is_plain m.Divide = true
is_plain m.Plus = true
is_plain m.Minus = true
is_plain _ = false

-- what follows the NAME of a constant or a method
abbrev pub follows_name : Mark → Bool
follows_name m.Is = true
follows_name m.Open = true
follows_name m.OpenBrace = true
follows_name _ = false

abbrev pub IsThere : List Token → Type 0
IsThere [] = ⊥
IsThere (t ∷ ts) = Unit {0}

-- Where a fault stands, if the tokens in front are taken and the rest begins with the one that can't go on: at that
-- one, which is `(` or `!` (nesting) or the word of a section that may not repeat; at the NAME before it (a constant or
-- method too many), else at that one (another part too many); at the `[` before it (an empty bracket). Where the last
-- operator is a `%`, another of ^ * / % + - is refused at that `%`; where it is another of these, a `%` is refused itself.
-- No other fault is of the grammar.
abbrev pub Stands : FaultKind → FaultPlace → List Token → List Token → Type 0
Stands f.Unexpected at front rest = at ≡ place rest
Stands f.Nesting at front rest = (at ≡ place rest) × (begins nests rest ≡ true)
Stands f.RepeatedSection at front rest = (at ≡ place rest) × (begins stands_once rest ≡ true)
Stands f.TooManyParts at front rest =
    ((at ≡ place rest) × IsThere rest × ((begins follows_name rest ≡ false) ⊎ ((comma : Span) × (start : List Token) × (front ≡ start ++ mark m.Comma comma ∷ []))))
    ⊎ ((name : Span) × (start : List Token) × (front ≡ start ++ name_at name ∷ []) × (at ≡ places.At name) × (begins follows_name rest ≡ true))
Stands f.EmptyBracket at front rest = (first last : Span) × (start after : List Token)
    × (front ≡ start ++ mark m.OpenSquare first ∷ []) × (rest ≡ mark m.CloseSquare last ∷ after) × (at ≡ places.At first)
Stands f.MixedRemainder at front rest =
    ((sign : Span) × (at ≡ places.At sign) × LastOperator m.Remainder sign front × (begins (λ which. is_plain which || is_remainder which) rest ≡ true))
    ⊎ ((which : Mark) × (sign : Span) × (at ≡ place rest) × LastOperator which sign front × (is_plain which ≡ true) × (begins is_remainder rest ≡ true))
Stands _ at front rest = ⊥

-- some text of the grammar begins with these tokens
abbrev pub IsBegun : List Token → Type 0
IsBegun tokens = (more : List Token) × (file : File) × IsText (tokens ++ more) file

-- The tokens in front are taken, and the rest can't go on: some text begins with them, and where a rule beside the grammar
-- is at fault with the next one too, but none that keeps the rule.
pub record IsRefused (tokens : List Token) (kind : FaultKind) (at : FaultPlace) : Type 0 where
  pub front : List Token
  pub rest : List Token
  pub parts : tokens ≡ front ++ rest
  pub begun : IsBegun (reached kind front rest)
  pub no_text : NoText kind front rest
  pub stands : Stands kind at front rest

-- the end of the text is a place with no octet
abbrev pub span_at : ℕ → FaultPlace → Span
span_at len (places.At at) = at
span_at len places.End = record { from = len; to = len }

abbrev pub fault_of : ℕ → PlacedFault → Fault
fault_of len refusal = record { kind = refusal.kind; at = span_at len refusal.at }

-- What a failed reading says of the tokens, in a text of so many octets.
abbrev pub Refuses : ℕ → List Token → SourceError → Type 0
Refuses len tokens (sources.Fault fault) = (refusal : PlacedFault) × (fault ≡ fault_of len refusal) × IsRefused tokens refusal.kind refusal.at
Refuses len tokens sources.OutOfMemory = Unit {0}

-- a text has one tree
abbrev pub OneTree : Type 0
OneTree = (tokens : List Token) (a b : File) → IsText tokens a → IsText tokens b → a ≡ b
