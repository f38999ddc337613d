-- How expressions are read.
use Rattle.std.specs.Prelude.{ℕ, zero, suc, ◌&&◌, true, false, Option, Some, None}
use Rattle.text_source.specs.declared.span.Span.{Span}
use Rattle.text_source.specs.declared.fault.FaultKind.TheVariants as f
use Rattle.text_source.specs.declared.token.TokenKind.{TokenKind}
use Rattle.text_source.specs.declared.token.TokenKind.TheVariants as k
use Rattle.text_source.specs.declared.token.Mark.TheVariants as m
use Rattle.text_tree.specs.declared.tree.Operator.{Operator}
use Rattle.text_tree.specs.declared.tree.Attribute.{Attribute}
use Rattle.text_tree.specs.declared.tree.Owner.{Owner}
use Rattle.text_tree.specs.declared.tree.Owner.TheVariants as owners
use Rattle.text_tree.specs.declared.tree.Expr.{Expr}
use Rattle.text_tree.specs.declared.tree.Expr.TheVariants as e
use Rattle.text_tree.specs.declared.progress.Sum.{Sum}
use Rattle.text_tree.specs.declared.progress.Sum.TheVariants as sums
use Rattle.text_tree.specs.declared.progress.Progress.{Progress}
use Rattle.text_tree.specs.declared.expr.Counted.{Counted}
use Rattle.text_tree.specs.Spans.{cover, span_of}
use Rattle.text_tree.specs.Operators.{operator, is_late, follows, step, start, inside, outside}
use Rattle.text_tree.specs.Rules.{Rules, is_full, nesting, most_operators}
use Rattle.text_tree.specs.Grammar.{attribute_of, join}
use Rattle.text_tree.specs.Reading.{Reader, ◌>>=◌, ◌>>◌, ◌<$>◌, pure, refuse, stops, stops_at, peek, take, expect, is_next, either, repeat}

abbrev pub counted : Progress → Expr → Counted
counted progress x = record { expr = x; after = progress }

abbrev pub joined : Operator → Span → Counted → Counted → Counted
joined operator at left right = record { expr = join operator at left.expr right.expr; after = right.after }

abbrev pub grouped : Span → Progress → Counted → Span → Counted
grouped sign progress inner close = record { expr = e.Group (cover sign close) inner.expr; after = outside progress inner.after }

abbrev pub denied : Span → Counted → Counted
denied sign inner = record { expr = e.Not (cover sign (span_of inner.expr)) inner.expr; after = inner.after }

-- the place of the first `%` of a sum
abbrev pub mixed : Sum → Reader Span
mixed (sums.Percent first) = stops_at f.MixedRemainder first
mixed _ = refuse

abbrev pub attribute_as : Span → Owner → Option Attribute → Reader Expr
attribute_as at owner (Some which) = (λ last. e.Attribute (cover at last) owner which) <$> take
attribute_as at owner None = refuse

abbrev pub attribute_by : Span → Owner → Option TokenKind → Reader Expr
attribute_by at owner (Some (k.Mark word)) = attribute_as at owner (attribute_of word)
attribute_by at owner _ = refuse

-- the word after the dot
unfoldable pub attribute : Span → Owner → Reader Expr
attribute at owner = peek >>= attribute_by at owner

-- NAME [ "." attribute ]
unfoldable pub named : Reader Expr
named = take >>= λ at. peek >>= λ next. either (is_next m.Dot next) (take >> attribute at (owners.Field at)) (pure (e.Name at))

-- "THIS" "." attribute
unfoldable pub this : Reader Expr
this = do
  at ← take
  expect m.Dot
  attribute at owners.This

abbrev pub negative_by : Span → Option TokenKind → Reader Expr
negative_by sign (Some (k.Number n)) = (λ at. e.Negative (cover sign at) n) <$> take
negative_by sign _ = refuse

unfoldable pub negative : Reader Expr
negative = take >>= λ sign. peek >>= negative_by sign

abbrev pub leaf_by : Option TokenKind → Reader Expr
leaf_by (Some k.Name) = named
leaf_by (Some (k.Number n)) = (λ at. e.Number at n) <$> take
leaf_by (Some (k.Mark m.Minus)) = negative
leaf_by (Some (k.Mark m.True)) = (λ at. e.Truth at true) <$> take
leaf_by (Some (k.Mark m.False)) = (λ at. e.Truth at false) <$> take
leaf_by (Some (k.Mark m.This)) = this
leaf_by _ = refuse

-- what has no other expression in it
unfoldable pub leaf : Reader Expr
leaf = peek >>= leaf_by

module _ (r : Rules) where
  -- an operator, where the rules let it stand
  unfoldable pub admit : Operator → Progress → Reader Span
  admit operator progress =
      either (is_full r most_operators progress.operators) (stops f.TooManyParts)
      (either (r.sums && is_late operator progress.sum) (stops f.MixedRemainder)
      (either (r.sums && follows operator progress.sum) (mixed progress.sum) take))

  -- an operator and its right operand
  unfoldable pub operation : (Progress → Reader Counted) → Counted → Operator → Reader Counted
  operation operand left operator = admit operator left.after >>= λ at. joined operator at left <$> operand (step operator at left.after)

  abbrev pub turn_by : (Progress → Reader Counted) → Counted → Option Operator → Reader (Option Counted)
  turn_by operand left None = pure None
  turn_by operand left (Some operator) = Some <$> operation operand left operator

  -- after an operand: an operator of this tier, and another operand
  unfoldable pub turn : (Progress → Reader Counted) → ℕ → Counted → Reader (Option Counted)
  turn operand tier left = peek >>= λ next. turn_by operand left (operator tier next)

  abbrev pub power_by : (Progress → Reader Counted) → Counted → Option Operator → Reader Counted
  power_by prim left None = pure left
  power_by prim left (Some operator) = operation prim left operator

  -- after an operand: at most one `^`, and another operand
  unfoldable pub power : (Progress → Reader Counted) → Counted → Reader Counted
  power prim left = peek >>= λ next. power_by prim left (operator 1 next)

  unfoldable pub tiers : ℕ → (Progress → Reader Counted) → Progress → Reader Counted
  tiers zero prim progress = prim progress
  tiers (suc zero) prim progress = prim progress >>= power prim
  tiers (suc (suc below)) prim progress = tiers (suc below) prim progress >>= repeat (turn (tiers (suc below) prim) (suc (suc below)))

  -- after an operand: operators of the tiers up to this one, and more operands
  unfoldable pub climb : ℕ → (Progress → Reader Counted) → Counted → Reader Counted
  climb zero prim first = pure first
  climb (suc zero) prim first = power prim first
  climb (suc (suc below)) prim first = climb (suc below) prim first >>= repeat (turn (tiers (suc below) prim) (suc (suc below)))

  unfoldable pub operations : ℕ → (Progress → Reader Counted) → Counted → Reader Counted
  operations below prim = repeat (turn (tiers below prim) (suc below))

  -- "(" expr ")"
  unfoldable pub group : (Progress → Reader Counted) → Progress → Reader Counted
  group prim progress = do
    sign ← take
    inner ← tiers 6 prim (inside progress)
    close ← expect m.Close
    pure (grouped sign progress inner close)

  -- "!" prim
  unfoldable pub denial : (Progress → Reader Counted) → Progress → Reader Counted
  denial prim progress = take >>= λ sign. denied sign <$> prim progress

  -- with round brackets and `!` nested no deeper than the number
  abbrev pub prim_by : (Progress → Reader Counted) → (Progress → Reader Counted) → Progress → Option TokenKind → Reader Counted
  prim_by grouped denied progress (Some (k.Mark m.Open)) = grouped progress
  prim_by grouped denied progress (Some (k.Mark m.Not)) = denied progress
  prim_by grouped denied progress _ = counted progress <$> leaf

  unfoldable pub flat : Progress → Reader Counted
  flat progress = peek >>= prim_by (λ _. stops f.Nesting) (λ _. stops f.Nesting) progress

  unfoldable pub nested : (Progress → Reader Counted) → Progress → Reader Counted
  nested prim progress = peek >>= prim_by (group prim) (denial prim) progress

  unfoldable pub prim : ℕ → Progress → Reader Counted
  prim zero progress = flat progress
  prim (suc depth) progress = nested (prim depth) progress

  -- expr, the outermost
  unfoldable pub whole : Reader Expr
  whole = (λ c. c.expr) <$> tiers 6 (prim (nesting r)) start
