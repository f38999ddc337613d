-- What operators mean (RFC 4997, section 4.7).
use Rattle.text_tree.specs.declared.tree.Operator.{Operator as Sign}
use Rattle.text_tree.specs.declared.tree.Operator.TheVariants as signs
use Rattle.sem_expr.specs.declared.expr.Operator.TheVariants as operators
use Rattle.sem_expr.specs.declared.expr.Comparison.TheVariants as comparisons
use Rattle.text_statements.specs.declared.term.Meaning.{Meaning}
use Rattle.text_statements.specs.declared.term.Meaning.TheVariants.{Arithmetic, Comparison, And, Or}
use Rattle.text_statements.specs.declared.term.TermKind.{TermKind}
use Rattle.text_statements.specs.declared.term.TermKind.TheVariants.{Number, Truth}

abbrev pub meaning_of : Sign → Meaning
meaning_of signs.Power = Arithmetic operators.Power
meaning_of signs.Times = Arithmetic operators.Multiply
meaning_of signs.Divide = Arithmetic operators.Divide
meaning_of signs.Remainder = Arithmetic operators.Remainder
meaning_of signs.Plus = Arithmetic operators.Add
meaning_of signs.Minus = Arithmetic operators.Subtract
meaning_of signs.Equal = Comparison comparisons.Equal
meaning_of signs.NotEqual = Comparison comparisons.NotEqual
meaning_of signs.Less = Comparison comparisons.Less
meaning_of signs.Greater = Comparison comparisons.Greater
meaning_of signs.LessEqual = Comparison comparisons.AtMost
meaning_of signs.GreaterEqual = Comparison comparisons.AtLeast
meaning_of signs.And = And
meaning_of signs.Or = Or

-- the kind of the operands that an operator takes
abbrev pub operand_kind : Meaning → TermKind
operand_kind (Arithmetic operator) = Number
operand_kind (Comparison comparison) = Number
operand_kind And = Truth
operand_kind Or = Truth

-- the kind of what it gives
abbrev pub outcome_kind : Meaning → TermKind
outcome_kind (Arithmetic operator) = Number
outcome_kind (Comparison comparison) = Truth
outcome_kind And = Truth
outcome_kind Or = Truth
