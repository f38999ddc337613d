-- How the rest of a text is read.
use Rattle.std.specs.Prelude.{ℕ, Bool, true, false, not, ◌&&◌, ◌||◌, List, [], ◌∷◌, ◌++◌, length, Option, Some, None}
use Rattle.text_source.specs.declared.span.Span.{Span}
use Rattle.text_source.specs.declared.fault.FaultKind.TheVariants as f
use Rattle.text_source.specs.declared.token.TokenKind.{TokenKind}
use Rattle.text_source.specs.declared.token.TokenKind.TheVariants as k
use Rattle.text_source.specs.declared.token.Mark.{Mark}
use Rattle.text_source.specs.declared.token.Mark.TheVariants as m
use Rattle.text_tree.specs.declared.tree.Expr.{Expr}
use Rattle.text_tree.specs.declared.tree.Encoding.{Encoding}
use Rattle.text_tree.specs.declared.tree.Encoding.TheVariants as encodings
use Rattle.text_tree.specs.declared.tree.Bracket.{Bracket}
use Rattle.text_tree.specs.declared.tree.Bracket.TheVariants as brackets
use Rattle.text_tree.specs.declared.tree.Bound.{Bound}
use Rattle.text_tree.specs.declared.tree.Item.{Item}
use Rattle.text_tree.specs.declared.tree.Item.TheVariants as i
use Rattle.text_tree.specs.declared.tree.SectionKind.{SectionKind}
use Rattle.text_tree.specs.declared.tree.SectionKind.TheVariants as kinds
use Rattle.text_tree.specs.declared.tree.Section.{Section}
use Rattle.text_tree.specs.declared.tree.Part.{Part}
use Rattle.text_tree.specs.declared.tree.Part.TheVariants as p
use Rattle.text_tree.specs.declared.counts.SectionsSoFar.{SectionsSoFar}
use Rattle.text_tree.specs.declared.counts.Tally.{Tally}
use Rattle.text_tree.specs.declared.file.SectionHead.{SectionHead}
use Rattle.text_tree.specs.Spans.{cover}
use Rattle.text_tree.specs.Rules.{Rules, is_full, is_out, most_parameters, most_statements, most_values}
use Rattle.text_tree.specs.Counts.{seen_in, is_repeated, tally_of}
use Rattle.text_tree.specs.Grammar.{holds_bound}
use Rattle.text_tree.specs.Reading.{Reader, ◌>>=◌, ◌>>◌, ◌<$>◌, pure, refuse, stops, stops_at, peek, take, expect, is_next, is_there, either, repeat}
use Rattle.text_tree.specs.Expr.{whole}

abbrev pub name_by : Option TokenKind → Reader Span
name_by (Some k.Name) = take
name_by _ = refuse

unfoldable pub name : Reader Span
name = peek >>= name_by

-- one more where the next token goes on, as the test says
unfoldable pub gather : {A : Type 0} → (Option TokenKind → Bool) → (List A → Reader A) → List A → Reader (Option (List A))
gather goes item found = peek >>= λ next. either (goes next) (Some <$> ((λ x. found ++ x ∷ []) <$> item found)) (pure None)

unfoldable pub many : {A : Type 0} → (Option TokenKind → Bool) → (List A → Reader A) → List A → Reader (List A)
many goes item = repeat (gather goes item)

-- no more where there are as many as may be, and another begins
unfoldable pub limited : {A : Type 0} → Bool → (Option TokenKind → Bool) → Reader A → Reader A
limited full begins item = peek >>= λ next. either (full && begins next) (stops f.TooManyParts) item

abbrev pub is_name : Option TokenKind → Bool
is_name (Some k.Name) = true
is_name _ = false

abbrev pub begins_expr : Option TokenKind → Bool
begins_expr (Some k.Name) = true
begins_expr (Some (k.Number n)) = true
begins_expr (Some (k.Mark m.Minus)) = true
begins_expr (Some (k.Mark m.True)) = true
begins_expr (Some (k.Mark m.False)) = true
begins_expr (Some (k.Mark m.This)) = true
begins_expr (Some (k.Mark m.Open)) = true
begins_expr (Some (k.Mark m.Not)) = true
begins_expr _ = false

abbrev pub before : Mark → Option TokenKind → Bool
before mark next = not (is_next mark next)

abbrev pub begins_statement : Bool → Option TokenKind → Bool
begins_statement bound next = is_name next || (not bound && is_next m.Enforce next)

abbrev pub begins_method : Option TokenKind → Bool
begins_method next = is_next m.Open next || is_next m.OpenBrace next

abbrev pub call_of : Span → List Expr → Encoding
call_of at xs = encodings.Call at xs

abbrev pub variable_of : Span → Span → Option Bracket
variable_of first last = Some (brackets.Variable (cover first last))

abbrev pub lengths_of : Span → List Expr → Span → Option Bracket
lengths_of first xs last = Some (brackets.Lengths (cover first last) xs)

abbrev pub head_at : SectionKind → Span → SectionHead
head_at kind at = record { word = at; kind = kind }

abbrev pub repeats : Option TokenKind → SectionsSoFar → Bool
repeats (Some (k.Mark word)) seen = is_repeated word seen
repeats _ seen = false

module _ (r : Rules) where
  -- "," expr, after so many
  unfoldable pub next_expr : ℕ → Reader Expr
  next_expr count = take >> limited (is_full r most_values count) begins_expr (whole r)

  unfoldable pub exprs : Reader (List Expr)
  exprs = whole r >>= λ first. many (is_next m.Comma) (λ found. next_expr (length found)) (first ∷ [])

  unfoldable pub variable : Span → Reader (Option Bracket)
  variable first = do
    take
    last ← expect m.CloseSquare
    pure (variable_of first last)

  unfoldable pub lengths : Span → Reader (Option Bracket)
  lengths first = do
    found ← exprs
    last ← expect m.CloseSquare
    pure (lengths_of first found last)

  -- what is not empty
  unfoldable pub filled : Span → Reader (Option Bracket)
  filled first = peek >>= λ next. either (is_next m.Variable next) (variable first) (lengths first)

  unfoldable pub bracket_of : Reader (Option Bracket)
  bracket_of = take >>= λ first. peek >>= λ next. either (is_next m.CloseSquare next) (stops_at f.EmptyBracket first) (filled first)

  unfoldable pub bracket : Reader (Option Bracket)
  bracket = peek >>= λ next. either (is_next m.OpenSquare next) bracket_of (pure None)

  unfoldable pub given : Reader (List Expr)
  given = do
    found ← exprs
    expect m.Close
    pure found

  unfoldable pub arguments_of : Reader (List Expr)
  arguments_of = take >> (peek >>= λ next. either (is_next m.Close next) (take >> pure []) given)

  unfoldable pub arguments : Reader (List Expr)
  arguments = peek >>= λ next. either (is_next m.Open next) arguments_of (pure [])

  abbrev pub encoding_by : Option TokenKind → Reader Encoding
  encoding_by (Some (k.BitText count value)) = (λ at. encodings.Bits at count value) <$> take
  encoding_by (Some k.Name) = take >>= λ at. call_of at <$> arguments
  encoding_by _ = refuse

  unfoldable pub encoding : Reader Encoding
  encoding = peek >>= encoding_by

  unfoldable pub field : Span → Reader Item
  field at = do
    found ← bracket
    expect m.Semicolon
    pure (i.Field at found)

  -- after the name
  unfoldable pub binding : Span → Reader Bound
  binding at = do
    expect m.Binds
    method ← encoding
    found ← bracket
    expect m.Semicolon
    pure (record { name = at; encoding = method; bracket = found })

  unfoldable pub bound : Reader Bound
  bound = name >>= λ at. binding at

  unfoldable pub named_item : Reader Item
  named_item = take >>= λ at. peek >>= λ next. either (is_next m.Binds next) ((λ b. i.Bound b) <$> binding at) (field at)

  unfoldable pub enforce : Reader Item
  enforce = do
    at ← take
    expect m.Open
    test ← whole r
    expect m.Close
    expect m.Semicolon
    pure (i.Enforce at test)

  abbrev pub item_by : Option TokenKind → Reader Item
  item_by (Some k.Name) = named_item
  item_by (Some (k.Mark m.Enforce)) = enforce
  item_by _ = refuse

  unfoldable pub item : Reader Item
  item = peek >>= item_by

  unfoldable pub any_statement : Bool → Reader Item
  any_statement only_bound = either only_bound ((λ b. i.Bound b) <$> bound) item

  -- a statement of a section, after so many
  unfoldable pub statement : Bool → ℕ → Reader Item
  statement only_bound count = limited (is_full r most_statements count) (begins_statement only_bound) (any_statement only_bound)

  unfoldable pub statements : Bool → Reader (List Item)
  statements only_bound = many (before m.CloseBrace) (λ found. statement only_bound (length found)) []

  abbrev pub called_by : Option TokenKind → Reader (Option Span)
  called_by (Some k.Name) = (λ at. Some at) <$> take
  called_by _ = pure None

  unfoldable pub called : Reader (Option Span)
  called = peek >>= called_by

  unfoldable pub format : Reader SectionHead
  format = take >>= λ at. (λ name. head_at (kinds.Compressed name) at) <$> called

  unfoldable pub plain : SectionKind → Reader SectionHead
  plain kind = head_at kind <$> take

  abbrev pub heading_by : Option TokenKind → Reader SectionHead
  heading_by (Some (k.Mark m.Uncompressed)) = plain kinds.Uncompressed
  heading_by (Some (k.Mark m.Control)) = plain kinds.Control
  heading_by (Some (k.Mark m.Initial)) = plain kinds.Initial
  heading_by (Some (k.Mark m.Default)) = plain kinds.Default
  heading_by (Some (k.Mark m.Compressed)) = format
  heading_by _ = refuse

  unfoldable pub heading : Reader SectionHead
  heading = peek >>= heading_by

  unfoldable pub section_of : Reader Section
  section_of = do
    h ← heading
    expect m.OpenBrace
    found ← statements (holds_bound h.kind)
    expect m.CloseBrace
    pure (record { kind = h.kind; word = h.word; items = found })

  -- a section, after those that were seen
  unfoldable pub section : SectionsSoFar → Reader Section
  section seen = peek >>= λ next.
      either (r.repeats && repeats next seen) (stops f.RepeatedSection)
      (either (is_next m.Compressed next && is_out r seen.formats_left) (stops f.TooManyParts) section_of)

  unfoldable pub sections : Reader (List Section)
  sections = many (before m.CloseBrace) (λ found. section (seen_in found)) []

  -- "," NAME, after so many
  unfoldable pub next_name : ℕ → Reader Span
  next_name count = take >> limited (is_full r most_parameters count) is_name name

  unfoldable pub names : Reader (List Span)
  names = name >>= λ first. many (is_next m.Comma) (λ found. next_name (length found)) (first ∷ [])

  unfoldable pub declared : Reader (List Span)
  declared = do
    found ← names
    expect m.Close
    pure found

  unfoldable pub parameters_of : Reader (List Span)
  parameters_of = take >> (peek >>= λ next. either (is_next m.Close next) (take >> pure []) declared)

  unfoldable pub parameters : Reader (List Span)
  parameters = peek >>= λ next. either (is_next m.Open next) parameters_of (pure [])

  unfoldable pub constant_of : Span → Reader Part
  constant_of at = do
    take
    value ← whole r
    expect m.Semicolon
    pure (p.Constant (record { name = at; value = value }))

  unfoldable pub stop : Reader (Unit {0})
  stop = peek >>= λ next. either (is_next m.Semicolon next) (take >> pure tt) (pure tt)

  unfoldable pub method_of : Span → Reader Part
  method_of at = do
    taken ← parameters
    expect m.OpenBrace
    found ← sections
    expect m.CloseBrace
    stop
    pure (p.Method (record { name = at; parameters = taken; sections = found }))

  -- a constant after its name, where so many more may come
  unfoldable pub constant : ℕ → Span → Reader Part
  constant left at = either (is_out r left) (stops_at f.TooManyParts at) (constant_of at)

  -- a method after its name, where so many more may come
  unfoldable pub method : ℕ → Span → Reader Part
  method left at = peek >>= λ next. either (is_out r left && begins_method next) (stops_at f.TooManyParts at) (method_of at)

  -- a constant or a method, where so many more may come
  unfoldable pub part : Tally → Reader Part
  part tally = name >>= λ at. peek >>= λ next. either (is_next m.Is next) (constant tally.constants_left at) (method tally.methods_left at)

  unfoldable pub parts : Reader (List Part)
  parts = many is_there (λ found. part (tally_of found)) []
