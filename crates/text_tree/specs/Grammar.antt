-- The grammar of a profile (docs/FORMATS.md), without the rules beside it. `X from to x` says that the tokens of `from` up to
-- `to` are an X, and x is its tree.
use Rattle.std.specs.Prelude.{◌≡◌, ℕ, suc, Bool, true, false, List, [], ◌∷◌, Option, Some, None}
use Rattle.text_source.specs.declared.span.Span.{Span}
use Rattle.text_source.specs.declared.token.Mark.{Mark}
use Rattle.text_source.specs.declared.token.Mark.TheVariants as m
use Rattle.text_source.specs.declared.token.TokenKind.TheVariants as k
use Rattle.text_source.specs.declared.token.Token.{Token}
use Rattle.text_tree.specs.declared.tree.Operator.{Operator}
use Rattle.text_tree.specs.declared.tree.Attribute.{Attribute}
use Rattle.text_tree.specs.declared.tree.Attribute.TheVariants as attributes
use Rattle.text_tree.specs.declared.tree.Owner.TheVariants as owners
use Rattle.text_tree.specs.declared.tree.Expr.{Expr}
use Rattle.text_tree.specs.declared.tree.Expr.TheVariants as e
use Rattle.text_tree.specs.declared.tree.Encoding.{Encoding}
use Rattle.text_tree.specs.declared.tree.Encoding.TheVariants as encodings
use Rattle.text_tree.specs.declared.tree.Bracket.{Bracket}
use Rattle.text_tree.specs.declared.tree.Bracket.TheVariants as brackets
use Rattle.text_tree.specs.declared.tree.Bound.{Bound}
use Rattle.text_tree.specs.declared.tree.Item.{Item}
use Rattle.text_tree.specs.declared.tree.Item.TheVariants as i
use Rattle.text_tree.specs.declared.tree.SectionKind.{SectionKind}
use Rattle.text_tree.specs.declared.tree.SectionKind.TheVariants as kinds
use Rattle.text_tree.specs.declared.tree.Section.{Section}
use Rattle.text_tree.specs.declared.tree.Part.{Part}
use Rattle.text_tree.specs.declared.tree.Part.TheVariants as p
use Rattle.text_tree.specs.declared.tree.File.{File}
use Rattle.text_tree.specs.Spans.{cover, span_of}
use Rattle.text_tree.specs.Operators.{operator}

-- ---- tokens

abbrev pub mark : Mark → Span → Token
mark which at = record { kind = k.Mark which; span = at }

abbrev pub name_at : Span → Token
name_at at = record { kind = k.Name; span = at }

abbrev pub number_at : ℕ → Span → Token
number_at n at = record { kind = k.Number n; span = at }

abbrev pub bits_at : ℕ → ℕ → Span → Token
bits_at count value at = record { kind = k.BitText count value; span = at }

abbrev pub attribute_of : Mark → Option Attribute
attribute_of m.Uvalue = Some attributes.Uvalue
attribute_of m.Ulength = Some attributes.Ulength
attribute_of m.Cvalue = Some attributes.Cvalue
attribute_of m.Clength = Some attributes.Clength
attribute_of _ = None

-- ---- expressions

-- the left operand, the operator at its place, and the right operand
abbrev pub join : Operator → Span → Expr → Expr → Expr
join operator at x y = e.Binary (cover (span_of x) (span_of y)) operator at x y

-- An expression whose operators are of the tier or tighter. Tier 0 has no operator outside brackets, tier 1 at most one `^`;
-- operators of another tier group to the left.
pub data IsExpr : ℕ → List Token → List Token → Expr → Type 0 where
  number : {n : ℕ} {at : Span} {to : List Token} → IsExpr 0 (number_at n at ∷ to) to (e.Number at n)
  -- "-" NUMBER
  negative : {n : ℕ} {sign at : Span} {to : List Token} → IsExpr 0 (mark m.Minus sign ∷ number_at n at ∷ to) to (e.Negative (cover sign at) n)
  truth : {at : Span} {to : List Token} → IsExpr 0 (mark m.True at ∷ to) to (e.Truth at true)
  falsehood : {at : Span} {to : List Token} → IsExpr 0 (mark m.False at ∷ to) to (e.Truth at false)
  name : {at : Span} {to : List Token} → IsExpr 0 (name_at at ∷ to) to (e.Name at)
  -- NAME "." attribute
  attribute : {at dot last : Span} {word : Mark} {which : Attribute} {to : List Token} → attribute_of word ≡ Some which
      → IsExpr 0 (name_at at ∷ mark m.Dot dot ∷ mark word last ∷ to) to (e.Attribute (cover at last) (owners.Field at) which)
  -- "THIS" "." attribute
  this : {at dot last : Span} {word : Mark} {which : Attribute} {to : List Token} → attribute_of word ≡ Some which
      → IsExpr 0 (mark m.This at ∷ mark m.Dot dot ∷ mark word last ∷ to) to (e.Attribute (cover at last) owners.This which)
  -- "(" expr ")"
  group : {sign close : Span} {inner to : List Token} {x : Expr} → IsExpr 6 inner (mark m.Close close ∷ to) x
      → IsExpr 0 (mark m.Open sign ∷ inner) to (e.Group (cover sign close) x)
  -- "!" prim
  not : {sign : Span} {inner to : List Token} {x : Expr} → IsExpr 0 inner to x → IsExpr 0 (mark m.Not sign ∷ inner) to (e.Not (cover sign (span_of x)) x)
  -- what binds tighter is an operand
  operand : {tier : ℕ} {from to : List Token} {x : Expr} → IsExpr tier from to x → IsExpr (suc tier) from to x
  -- prim "^" prim
  power : {from after to : List Token} {t : Token} {o : Operator} {x y : Expr}
      → IsExpr 0 from (t ∷ after) x → operator 1 (Some t.kind) ≡ Some o → IsExpr 0 after to y → IsExpr 1 from to (join o t.span x y)
  operation : {tier : ℕ} {from after to : List Token} {t : Token} {o : Operator} {x y : Expr}
      → IsExpr (suc (suc tier)) from (t ∷ after) x → operator (suc (suc tier)) (Some t.kind) ≡ Some o → IsExpr (suc tier) after to y
      → IsExpr (suc (suc tier)) from to (join o t.span x y)

-- expr, the outermost
abbrev pub IsWhole : List Token → List Token → Expr → Type 0
IsWhole = IsExpr 6

-- ---- lists

-- { X }
pub data Many {A : Type 0} (X : List Token → List Token → A → Type 0) : List Token → List Token → List A → Type 0 where
  ended : {to : List Token} → Many X to to []
  more : {from mid to : List Token} {x : A} {xs : List A} → X from mid x → Many X mid to xs → Many X from to (x ∷ xs)

-- "," expr
pub data IsNext : List Token → List Token → Expr → Type 0 where
  next : {at : Span} {mid to : List Token} {x : Expr} → IsWhole mid to x → IsNext (mark m.Comma at ∷ mid) to x

-- expr { "," expr }
pub data IsExprs : List Token → List Token → List Expr → Type 0 where
  exprs : {from mid to : List Token} {x : Expr} {xs : List Expr} → IsWhole from mid x → Many IsNext mid to xs → IsExprs from to (x ∷ xs)

-- [ "[" "VARIABLE" "]" | "[" expr { "," expr } "]" ]
pub data IsBracket : List Token → List Token → Option Bracket → Type 0 where
  unbracketed : {to : List Token} → IsBracket to to None
  variable : {first at last : Span} {to : List Token}
      → IsBracket (mark m.OpenSquare first ∷ mark m.Variable at ∷ mark m.CloseSquare last ∷ to) to (Some (brackets.Variable (cover first last)))
  lengths : {first last : Span} {mid to : List Token} {xs : List Expr} → IsExprs mid (mark m.CloseSquare last ∷ to) xs
      → IsBracket (mark m.OpenSquare first ∷ mid) to (Some (brackets.Lengths (cover first last) xs))

-- [ "(" [ expr { "," expr } ] ")" ]
pub data IsArguments : List Token → List Token → List Expr → Type 0 where
  no_arguments : {to : List Token} → IsArguments to to []
  empty_arguments : {first last : Span} {to : List Token} → IsArguments (mark m.Open first ∷ mark m.Close last ∷ to) to []
  some_arguments : {first last : Span} {mid to : List Token} {xs : List Expr} → IsExprs mid (mark m.Close last ∷ to) xs → IsArguments (mark m.Open first ∷ mid) to xs

-- BITS | NAME [ arguments ]
pub data IsEncoding : List Token → List Token → Encoding → Type 0 where
  bits : {count value : ℕ} {at : Span} {to : List Token} → IsEncoding (bits_at count value at ∷ to) to (encodings.Bits at count value)
  call : {at : Span} {mid to : List Token} {xs : List Expr} → IsArguments mid to xs → IsEncoding (name_at at ∷ mid) to (encodings.Call at xs)

-- ---- statements and sections

-- NAME "=:=" enc [ bracket ] ";"
pub data IsBound : List Token → List Token → Bound → Type 0 where
  binding : {at sign end : Span} {mid after to : List Token} {c : Encoding} {b : Option Bracket} → IsEncoding mid after c → IsBracket after (mark m.Semicolon end ∷ to) b
      → IsBound (name_at at ∷ mark m.Binds sign ∷ mid) to (record { name = at; encoding = c; bracket = b })

pub data IsItem : List Token → List Token → Item → Type 0 where
  -- NAME [ bracket ] ";"
  field : {at end : Span} {mid to : List Token} {b : Option Bracket} → IsBracket mid (mark m.Semicolon end ∷ to) b → IsItem (name_at at ∷ mid) to (i.Field at b)
  bound : {from to : List Token} {b : Bound} → IsBound from to b → IsItem from to (i.Bound b)
  -- "ENFORCE" "(" expr ")" ";"
  enforce : {at first last end : Span} {mid to : List Token} {x : Expr} → IsWhole mid (mark m.Close last ∷ mark m.Semicolon end ∷ to) x
      → IsItem (mark m.Enforce at ∷ mark m.Open first ∷ mid) to (i.Enforce at x)

-- a statement of a section that holds any, or bound fields alone
pub data IsStatement : Bool → List Token → List Token → Item → Type 0 where
  any_item : {from to : List Token} {x : Item} → IsItem from to x → IsStatement false from to x
  bound_item : {from to : List Token} {b : Bound} → IsBound from to b → IsStatement true from to (i.Bound b)

-- the first words of a section, with the place of the first
pub data IsHead : List Token → List Token → Span → SectionKind → Type 0 where
  uncompressed : {at : Span} {to : List Token} → IsHead (mark m.Uncompressed at ∷ to) to at kinds.Uncompressed
  control : {at : Span} {to : List Token} → IsHead (mark m.Control at ∷ to) to at kinds.Control
  initial : {at : Span} {to : List Token} → IsHead (mark m.Initial at ∷ to) to at kinds.Initial
  default : {at : Span} {to : List Token} → IsHead (mark m.Default at ∷ to) to at kinds.Default
  unnamed : {at : Span} {to : List Token} → IsHead (mark m.Compressed at ∷ to) to at (kinds.Compressed None)
  named : {at called : Span} {to : List Token} → IsHead (mark m.Compressed at ∷ name_at called ∷ to) to at (kinds.Compressed (Some called))

-- INITIAL and DEFAULT hold bound fields alone
abbrev pub holds_bound : SectionKind → Bool
holds_bound kinds.Initial = true
holds_bound kinds.Default = true
holds_bound _ = false

-- head "{" { statement } "}"
pub data IsSection : List Token → List Token → Section → Type 0 where
  section : {at first last : Span} {from mid to : List Token} {kind : SectionKind} {xs : List Item} → IsHead from (mark m.OpenBrace first ∷ mid) at kind
      → Many (IsStatement (holds_bound kind)) mid (mark m.CloseBrace last ∷ to) xs → IsSection from to (record { kind = kind; word = at; items = xs })

-- ---- constants and methods

-- "," NAME
pub data IsParameter : List Token → List Token → Span → Type 0 where
  parameter : {sign at : Span} {to : List Token} → IsParameter (mark m.Comma sign ∷ name_at at ∷ to) to at

-- [ "(" [ NAME { "," NAME } ] ")" ]
pub data IsParameters : List Token → List Token → List Span → Type 0 where
  no_parameters : {to : List Token} → IsParameters to to []
  empty_parameters : {first last : Span} {to : List Token} → IsParameters (mark m.Open first ∷ mark m.Close last ∷ to) to []
  some_parameters : {first at last : Span} {mid to : List Token} {xs : List Span} → Many IsParameter mid (mark m.Close last ∷ to) xs
      → IsParameters (mark m.Open first ∷ name_at at ∷ mid) to (at ∷ xs)

-- [ ";" ]
pub data IsStop : List Token → List Token → Type 0 where
  unstopped : {to : List Token} → IsStop to to
  stopped : {at : Span} {to : List Token} → IsStop (mark m.Semicolon at ∷ to) to

pub data IsPart : List Token → List Token → Part → Type 0 where
  -- NAME "=" expr ";"
  constant : {at sign end : Span} {mid to : List Token} {x : Expr} → IsWhole mid (mark m.Semicolon end ∷ to) x
      → IsPart (name_at at ∷ mark m.Is sign ∷ mid) to (p.Constant (record { name = at; value = x }))
  -- NAME [ parameters ] "{" { section } "}" [ ";" ]
  method : {at first last : Span} {mid inner after to : List Token} {ps : List Span} {xs : List Section} → IsParameters mid (mark m.OpenBrace first ∷ inner) ps
      → Many IsSection inner (mark m.CloseBrace last ∷ after) xs → IsStop after to → IsPart (name_at at ∷ mid) to (p.Method (record { name = at; parameters = ps; sections = xs }))

-- ---- the whole

-- The tokens are a text of the grammar, and the file is its tree.
abbrev pub IsText : List Token → File → Type 0
IsText tokens file = Many IsPart tokens [] file.parts
