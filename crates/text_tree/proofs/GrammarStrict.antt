-- The grammar with the rules, as the parser counts. `X r .. from to x` says that the tokens of `from` up to `to` are an X
-- that keeps the rules, and x is its tree.
use Rattle.std.specs.Prelude.{◌≡◌, ℕ, suc, ◌&&◌, Bool, true, false, List, [], ◌∷◌, ◌++◌, length, Option, Some, None}
use Rattle.text_source.specs.declared.span.Span.{Span}
use Rattle.text_source.specs.declared.token.Mark.{Mark}
use Rattle.text_source.specs.declared.token.Mark.TheVariants as m
use Rattle.text_source.specs.declared.token.TokenKind.TheVariants as k
use Rattle.text_source.specs.declared.token.Token.{Token}
use Rattle.text_source.specs.Kinds.{is_mark}
use Rattle.text_tree.specs.declared.tree.Operator.{Operator}
use Rattle.text_tree.specs.declared.tree.Attribute.{Attribute}
use Rattle.text_tree.specs.declared.tree.Owner.TheVariants as owners
use Rattle.text_tree.specs.declared.tree.Expr.{Expr}
use Rattle.text_tree.specs.declared.tree.Expr.TheVariants as e
use Rattle.text_tree.specs.declared.tree.Encoding.{Encoding}
use Rattle.text_tree.specs.declared.tree.Encoding.TheVariants as encodings
use Rattle.text_tree.specs.declared.tree.Bracket.{Bracket}
use Rattle.text_tree.specs.declared.tree.Bracket.TheVariants as brackets
use Rattle.text_tree.specs.declared.tree.Bound.{Bound}
use Rattle.text_tree.specs.declared.tree.Item.{Item}
use Rattle.text_tree.specs.declared.tree.Item.TheVariants as i
use Rattle.text_tree.specs.declared.tree.SectionKind.{SectionKind}
use Rattle.text_tree.specs.declared.tree.SectionKind.TheVariants as kinds
use Rattle.text_tree.specs.declared.tree.Section.{Section}
use Rattle.text_tree.specs.declared.tree.Part.{Part}
use Rattle.text_tree.specs.declared.tree.Part.TheVariants as p
use Rattle.text_tree.specs.declared.tree.File.{File}
use Rattle.text_tree.specs.declared.progress.Progress.{Progress}
use Rattle.text_tree.specs.Spans.{cover, span_of}
use Rattle.text_tree.specs.Operators.{operator, step, start, inside, outside}
use Rattle.text_tree.specs.Rules.{Rules, Admits, is_full, is_out, nesting, most_parameters, most_statements, most_values}
use Rattle.text_tree.specs.Counts.{seen_in, is_repeated, tally_of}
use Rattle.text_tree.specs.Grammar.{mark, name_at, number_at, bits_at, attribute_of, join, holds_bound}

-- An expression whose operators are of the tier or tighter, with round brackets and `!` nested no deeper than the depth.
-- Tier 0 has no operator outside brackets, tier 1 at most one `^`; operators of another tier group to the left. The
-- progress is counted from before the expression to after it.
pub data IsExpr (r : Rules) : ℕ → ℕ → Progress → List Token → List Token → Expr → Progress → Type 0 where
  number : {depth n : ℕ} {p : Progress} {at : Span} {to : List Token} → IsExpr r depth 0 p (number_at n at ∷ to) to (e.Number at n) p
  -- "-" NUMBER
  negative : {depth n : ℕ} {p : Progress} {sign at : Span} {to : List Token}
      → IsExpr r depth 0 p (mark m.Minus sign ∷ number_at n at ∷ to) to (e.Negative (cover sign at) n) p
  truth : {depth : ℕ} {p : Progress} {at : Span} {to : List Token} → IsExpr r depth 0 p (mark m.True at ∷ to) to (e.Truth at true) p
  falsehood : {depth : ℕ} {p : Progress} {at : Span} {to : List Token} → IsExpr r depth 0 p (mark m.False at ∷ to) to (e.Truth at false) p
  name : {depth : ℕ} {p : Progress} {at : Span} {to : List Token} → IsExpr r depth 0 p (name_at at ∷ to) to (e.Name at) p
  -- NAME "." attribute
  attribute : {depth : ℕ} {p : Progress} {at dot last : Span} {word : Mark} {which : Attribute} {to : List Token} → attribute_of word ≡ Some which
      → IsExpr r depth 0 p (name_at at ∷ mark m.Dot dot ∷ mark word last ∷ to) to (e.Attribute (cover at last) (owners.Field at) which) p
  -- "THIS" "." attribute
  this : {depth : ℕ} {p : Progress} {at dot last : Span} {word : Mark} {which : Attribute} {to : List Token} → attribute_of word ≡ Some which
      → IsExpr r depth 0 p (mark m.This at ∷ mark m.Dot dot ∷ mark word last ∷ to) to (e.Attribute (cover at last) owners.This which) p
  -- "(" expr ")"
  group : {depth : ℕ} {p q : Progress} {sign close : Span} {inner to : List Token} {x : Expr}
      → IsExpr r depth 6 (inside p) inner (mark m.Close close ∷ to) x q
      → IsExpr r (suc depth) 0 p (mark m.Open sign ∷ inner) to (e.Group (cover sign close) x) (outside p q)
  -- "!" prim
  not : {depth : ℕ} {p q : Progress} {sign : Span} {inner to : List Token} {x : Expr}
      → IsExpr r depth 0 p inner to x q
      → IsExpr r (suc depth) 0 p (mark m.Not sign ∷ inner) to (e.Not (cover sign (span_of x)) x) q
  -- what binds tighter is an operand
  operand : {depth tier : ℕ} {p q : Progress} {from to : List Token} {x : Expr} → IsExpr r depth tier p from to x q → IsExpr r depth (suc tier) p from to x q
  -- prim "^" prim
  power : {depth : ℕ} {p q s : Progress} {from after to : List Token} {t : Token} {o : Operator} {x y : Expr}
      → IsExpr r depth 0 p from (t ∷ after) x q → operator 1 (Some t.kind) ≡ Some o → Admits r o q
      → IsExpr r depth 0 (step o t.span q) after to y s
      → IsExpr r depth 1 p from to (join o t.span x y) s
  operation : {depth tier : ℕ} {p q s : Progress} {from after to : List Token} {t : Token} {o : Operator} {x y : Expr}
      → IsExpr r depth (suc (suc tier)) p from (t ∷ after) x q → operator (suc (suc tier)) (Some t.kind) ≡ Some o → Admits r o q
      → IsExpr r depth (suc tier) (step o t.span q) after to y s
      → IsExpr r depth (suc (suc tier)) p from to (join o t.span x y) s

-- expr, the outermost
pub data IsWhole (r : Rules) : List Token → List Token → Expr → Type 0 where
  whole : {q : Progress} {from to : List Token} {x : Expr} → IsExpr r (nesting r) 6 start from to x q → IsWhole r from to x

-- ---- lists

-- { X }, each after those before it
pub data Many {A : Type 0} (X : List A → List Token → List Token → A → Type 0) : List A → List Token → List Token → List A → Type 0 where
  ended : {before : List A} {to : List Token} → Many X before to to []
  more : {before : List A} {from mid to : List Token} {x : A} {xs : List A} → X before from mid x → Many X (before ++ x ∷ []) mid to xs → Many X before from to (x ∷ xs)

-- "," expr
pub data IsNext (r : Rules) : List Expr → List Token → List Token → Expr → Type 0 where
  next : {before : List Expr} {at : Span} {mid to : List Token} {x : Expr} → is_full r most_values (length before) ≡ false
      → IsWhole r mid to x → IsNext r before (mark m.Comma at ∷ mid) to x

-- expr { "," expr }
pub data IsExprs (r : Rules) : List Token → List Token → List Expr → Type 0 where
  exprs : {from mid to : List Token} {x : Expr} {xs : List Expr} → IsWhole r from mid x → Many (IsNext r) (x ∷ []) mid to xs → IsExprs r from to (x ∷ xs)

-- [ "[" "VARIABLE" "]" | "[" expr { "," expr } "]" ]
pub data IsBracket (r : Rules) : List Token → List Token → Option Bracket → Type 0 where
  unbracketed : {to : List Token} → IsBracket r to to None
  variable : {first at last : Span} {to : List Token}
      → IsBracket r (mark m.OpenSquare first ∷ mark m.Variable at ∷ mark m.CloseSquare last ∷ to) to (Some (brackets.Variable (cover first last)))
  lengths : {first last : Span} {mid to : List Token} {xs : List Expr} → IsExprs r mid (mark m.CloseSquare last ∷ to) xs
      → IsBracket r (mark m.OpenSquare first ∷ mid) to (Some (brackets.Lengths (cover first last) xs))

-- [ "(" [ expr { "," expr } ] ")" ]
pub data IsArguments (r : Rules) : List Token → List Token → List Expr → Type 0 where
  no_arguments : {to : List Token} → IsArguments r to to []
  empty_arguments : {first last : Span} {to : List Token} → IsArguments r (mark m.Open first ∷ mark m.Close last ∷ to) to []
  some_arguments : {first last : Span} {mid to : List Token} {xs : List Expr} → IsExprs r mid (mark m.Close last ∷ to) xs → IsArguments r (mark m.Open first ∷ mid) to xs

-- BITS | NAME [ arguments ]
pub data IsEncoding (r : Rules) : List Token → List Token → Encoding → Type 0 where
  bits : {count value : ℕ} {at : Span} {to : List Token} → IsEncoding r (bits_at count value at ∷ to) to (encodings.Bits at count value)
  call : {at : Span} {mid to : List Token} {xs : List Expr} → IsArguments r mid to xs → IsEncoding r (name_at at ∷ mid) to (encodings.Call at xs)

-- ---- statements and sections

-- NAME "=:=" enc [ bracket ] ";"
pub data IsBound (r : Rules) : List Token → List Token → Bound → Type 0 where
  binding : {at sign end : Span} {mid after to : List Token} {c : Encoding} {b : Option Bracket} → IsEncoding r mid after c → IsBracket r after (mark m.Semicolon end ∷ to) b
      → IsBound r (name_at at ∷ mark m.Binds sign ∷ mid) to (record { name = at; encoding = c; bracket = b })

pub data IsItem (r : Rules) : List Token → List Token → Item → Type 0 where
  -- NAME [ bracket ] ";"
  field : {at end : Span} {mid to : List Token} {b : Option Bracket} → IsBracket r mid (mark m.Semicolon end ∷ to) b → IsItem r (name_at at ∷ mid) to (i.Field at b)
  bound : {from to : List Token} {b : Bound} → IsBound r from to b → IsItem r from to (i.Bound b)
  -- "ENFORCE" "(" expr ")" ";"
  enforce : {at first last end : Span} {mid to : List Token} {x : Expr} → IsWhole r mid (mark m.Close last ∷ mark m.Semicolon end ∷ to) x
      → IsItem r (mark m.Enforce at ∷ mark m.Open first ∷ mid) to (i.Enforce at x)

-- a statement of a section that holds any, or bound fields alone
pub data IsStatement (r : Rules) : Bool → List Item → List Token → List Token → Item → Type 0 where
  any_item : {before : List Item} {from to : List Token} {x : Item} → is_full r most_statements (length before) ≡ false → IsItem r from to x → IsStatement r false before from to x
  bound_item : {before : List Item} {from to : List Token} {b : Bound} → is_full r most_statements (length before) ≡ false → IsBound r from to b → IsStatement r true before from to (i.Bound b)

-- the first words of a section, with the first of them and its place
pub data IsHead : List Token → List Token → Mark → Span → SectionKind → Type 0 where
  uncompressed : {at : Span} {to : List Token} → IsHead (mark m.Uncompressed at ∷ to) to m.Uncompressed at kinds.Uncompressed
  control : {at : Span} {to : List Token} → IsHead (mark m.Control at ∷ to) to m.Control at kinds.Control
  initial : {at : Span} {to : List Token} → IsHead (mark m.Initial at ∷ to) to m.Initial at kinds.Initial
  default : {at : Span} {to : List Token} → IsHead (mark m.Default at ∷ to) to m.Default at kinds.Default
  unnamed : {at : Span} {to : List Token} → IsHead (mark m.Compressed at ∷ to) to m.Compressed at (kinds.Compressed None)
  named : {at called : Span} {to : List Token} → IsHead (mark m.Compressed at ∷ name_at called ∷ to) to m.Compressed at (kinds.Compressed (Some called))

-- head "{" { statement } "}"
pub data IsSection (r : Rules) : List Section → List Token → List Token → Section → Type 0 where
  section : {before : List Section} {word : Mark} {at first last : Span} {from mid to : List Token} {kind : SectionKind} {xs : List Item}
      → (r.repeats && is_repeated word (seen_in before)) ≡ false
      → (is_mark m.Compressed (k.Mark word) && is_out r (seen_in before).formats_left) ≡ false
      → IsHead from (mark m.OpenBrace first ∷ mid) word at kind
      → Many (IsStatement r (holds_bound kind)) [] mid (mark m.CloseBrace last ∷ to) xs
      → IsSection r before from to (record { kind = kind; word = at; items = xs })

-- ---- constants and methods

-- "," NAME
pub data IsParameter (r : Rules) : List Span → List Token → List Token → Span → Type 0 where
  parameter : {before : List Span} {sign at : Span} {to : List Token} → is_full r most_parameters (length before) ≡ false
      → IsParameter r before (mark m.Comma sign ∷ name_at at ∷ to) to at

-- [ "(" [ NAME { "," NAME } ] ")" ]
pub data IsParameters (r : Rules) : List Token → List Token → List Span → Type 0 where
  no_parameters : {to : List Token} → IsParameters r to to []
  empty_parameters : {first last : Span} {to : List Token} → IsParameters r (mark m.Open first ∷ mark m.Close last ∷ to) to []
  some_parameters : {first at last : Span} {mid to : List Token} {xs : List Span} → Many (IsParameter r) (at ∷ []) mid (mark m.Close last ∷ to) xs
      → IsParameters r (mark m.Open first ∷ name_at at ∷ mid) to (at ∷ xs)

-- [ ";" ]
pub data IsStop : List Token → List Token → Type 0 where
  unstopped : {to : List Token} → IsStop to to
  stopped : {at : Span} {to : List Token} → IsStop (mark m.Semicolon at ∷ to) to

pub data IsPart (r : Rules) : List Part → List Token → List Token → Part → Type 0 where
  -- NAME "=" expr ";"
  constant : {before : List Part} {at sign end : Span} {mid to : List Token} {x : Expr} → is_out r (tally_of before).constants_left ≡ false
      → IsWhole r mid (mark m.Semicolon end ∷ to) x
      → IsPart r before (name_at at ∷ mark m.Is sign ∷ mid) to (p.Constant (record { name = at; value = x }))
  -- NAME [ parameters ] "{" { section } "}" [ ";" ]
  method : {before : List Part} {at first last : Span} {mid inner after to : List Token} {ps : List Span} {xs : List Section}
      → is_out r (tally_of before).methods_left ≡ false
      → IsParameters r mid (mark m.OpenBrace first ∷ inner) ps
      → Many (IsSection r) [] inner (mark m.CloseBrace last ∷ after) xs → IsStop after to
      → IsPart r before (name_at at ∷ mid) to (p.Method (record { name = at; parameters = ps; sections = xs }))

-- ---- the whole

-- The tokens are a text of the grammar that keeps these rules, and the file is its tree.
pub data IsFile (r : Rules) (tokens : List Token) (file : File) : Type 0 where
  is_file : Many (IsPart r) [] tokens [] file.parts → IsFile r tokens file
