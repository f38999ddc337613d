-- Operators, and what the rules on them look at.
use Rattle.std.specs.Prelude.{ℕ, ◌+◌, ◌==◌, nat_lt, nat_le, ◌&&◌, if◌then◌else◌, Bool, true, false, Option, Some, None}
use Rattle.text_source.specs.declared.span.Span.{Span}
use Rattle.text_source.specs.declared.token.Mark.{Mark}
use Rattle.text_source.specs.declared.token.Mark.TheVariants as m
use Rattle.text_source.specs.declared.token.TokenKind.{TokenKind}
use Rattle.text_source.specs.declared.token.TokenKind.TheVariants as k
use Rattle.text_tree.specs.declared.tree.Operator.{Operator}
use Rattle.text_tree.specs.declared.tree.Operator.TheVariants as op
use Rattle.text_tree.specs.declared.progress.Sum.{Sum}
use Rattle.text_tree.specs.declared.progress.Sum.TheVariants as sums
use Rattle.text_tree.specs.declared.progress.Progress.{Progress}

-- Tier 1 binds tightest.
abbrev pub binds : Operator → ℕ
binds op.Power = 1
binds op.Times = 2
binds op.Divide = 2
binds op.Remainder = 2
binds op.Plus = 3
binds op.Minus = 3
binds op.And = 5
binds op.Or = 6
binds _ = 4

abbrev pub operator_of : Mark → Option Operator
operator_of m.Power = Some op.Power
operator_of m.Times = Some op.Times
operator_of m.Divide = Some op.Divide
operator_of m.Remainder = Some op.Remainder
operator_of m.Plus = Some op.Plus
operator_of m.Minus = Some op.Minus
operator_of m.Equal = Some op.Equal
operator_of m.NotEqual = Some op.NotEqual
operator_of m.Less = Some op.Less
operator_of m.Greater = Some op.Greater
operator_of m.LessEqual = Some op.LessEqual
operator_of m.GreaterEqual = Some op.GreaterEqual
operator_of m.And = Some op.And
operator_of m.Or = Some op.Or
operator_of _ = None

abbrev pub in_tier : ℕ → Option Operator → Option Operator
in_tier tier (Some found) = if binds found == tier then Some found else None
in_tier tier None = None

-- the operator of this tier that the token is
abbrev pub operator : ℕ → Option TokenKind → Option Operator
operator tier (Some (k.Mark mark)) = in_tier tier (operator_of mark)
operator tier _ = None

abbrev pub in_tiers : ℕ → ℕ → Option Operator → Option Operator
in_tiers least most (Some found) = if nat_le least (binds found) && nat_le (binds found) most then Some found else None
in_tiers least most None = None

-- the operator that the token is, of the tiers from one to another
abbrev pub operator_within : ℕ → ℕ → Option TokenKind → Option Operator
operator_within least most (Some (k.Mark mark)) = in_tiers least most (operator_of mark)
operator_within least most _ = None

-- ^ * / % + -
abbrev pub is_integer : Operator → Bool
is_integer operator = nat_lt (binds operator) 4

-- a `%` after other integer operators of its sum
abbrev pub is_late : Operator → Sum → Bool
is_late op.Remainder sums.Plain = true
is_late op.Remainder sums.Empty = false
is_late op.Remainder (sums.Percent first) = false
is_late _ sum = false

-- an integer operator after a `%` of its sum
abbrev pub follows : Operator → Sum → Bool
follows operator (sums.Percent first) = is_integer operator
follows operator _ = false

abbrev pub beside : Sum → Sum
beside (sums.Percent first) = sums.Percent first
beside _ = sums.Plain

abbrev pub with_remainder : Span → Sum → Sum
with_remainder at (sums.Percent first) = sums.Percent first
with_remainder at _ = sums.Percent at

-- the sum after one more operator; after a comparison, `&&` or `||` another sum begins
abbrev pub after : Operator → Span → Sum → Sum
after op.Remainder at sum = with_remainder at sum
after operator at sum = if is_integer operator then beside sum else sums.Empty

-- the progress after one more operator
abbrev pub step : Operator → Span → Progress → Progress
step operator at progress = record { operators = progress.operators + 1; sum = after operator at progress.sum }

-- nothing is read yet
abbrev pub start : Progress
start = record { operators = 0; sum = sums.Empty }

-- in round brackets another sum begins
abbrev pub inside : Progress → Progress
inside progress = record { operators = progress.operators; sum = sums.Empty }

-- after round brackets the sum goes on
abbrev pub outside : Progress → Progress → Progress
outside before after = record { operators = after.operators; sum = before.sum }
