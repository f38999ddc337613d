-- What an expression has as a constant follows from its tree and from what plain names stand for, whatever fields there are.
use Rattle.std.proofs.Common.{◌≡◌, ◌∙◌, ap, ℤ, Option, Some, None, Result, Ok, Err, refl, sym}
use Rattle.std.specs.Prelude.{pos, neg_ℤ}
use Rattle.text_source.specs.declared.span.Span.{Span}
use Rattle.text_tree.specs.declared.tree.Expr.{Expr as Tree, fold-Expr}
use Rattle.text_tree.specs.declared.tree.Expr.TheVariants.{rolls-Number, rolls-Negative, rolls-Truth, rolls-Name, rolls-Attribute, rolls-Group, rolls-Not, rolls-Binary}
use Rattle.text_tree.specs.declared.tree.Expr.TheFolds.{fold-roll-Expr}
use Rattle.text_tree.specs.declared.tree.Expr.TheOpen.{Expr-F}
use Rattle.sem_expr.specs.declared.expr.Expr.{Expr}
use Rattle.sem_expr.specs.declared.expr.Expr.TheVariants as expr
use Rattle.sem_expr.specs.declared.expr.Measure.{Measure}
use Rattle.sem_expr.specs.declared.expr.Side.{Side}
use Rattle.sem_expr.specs.declared.expr.Subject.{Subject}
use Rattle.sem_expr.specs.declared.expr.Subject.TheVariants as subjects
use Rattle.sem_expr.specs.declared.fault.RangeFault.{RangeFault}
use Rattle.sem_expr.specs.declared.interval.Interval.{Interval}
use Rattle.sem_expr.specs.Ranged.{joined, both_ranged}
use Rattle.sem_expr.specs.Values.{apply, both}
use Rattle.text_statements.specs.declared.term.Meaning.{Meaning}
use Rattle.text_statements.specs.declared.term.Meaning.TheVariants as meaning
use Rattle.text_statements.specs.declared.term.Term.{Term}
use Rattle.text_statements.specs.declared.term.Term.TheVariants.{Number, Truth}
use Rattle.text_statements.specs.Constants.{value_of, evaluated, evaluated_by}
use Rattle.text_statements.specs.Judged.{no_range}
use Rattle.text_statements.specs.Means as means
use Rattle.text_statements.specs.Names.{Names, plain, side_of, measure_of}
use Rattle.text_statements.specs.Operators.{meaning_of}
use Rattle.text_statements.specs.Ranges.{range_of}
use Rattle.sem_profile.specs.Constants.{constant, where_ranged}

-- the range and the value of a part while nothing is known
pub record Outcome : Type 0 where
  pub range : Result Interval RangeFault
  pub value : Option ℤ

abbrev pub of_number : Expr → Outcome
of_number e = record { range = range_of e; value = value_of e }

abbrev pub no_number : Outcome
no_number = record { range = no_range; value = None }

abbrev pub of_term : Term → Outcome
of_term (Number e) = of_number e
of_term (Truth c) = no_number

abbrev pub of_name : Option Expr → Outcome
of_name (Some e) = of_number e
of_name None = no_number

abbrev pub of_operator : Span → Meaning → Outcome → Outcome → Outcome
of_operator at (meaning.Arithmetic o) x y = record { range = both_ranged (joined at o) x.range y.range; value = both (apply o) x.value y.value }
of_operator at (meaning.Comparison o) x y = no_number
of_operator at meaning.And x y = no_number
of_operator at meaning.Or x y = no_number

-- an attribute has no value, whatever it is of
abbrev pub of_attribute : Span → Side → Measure → Outcome
of_attribute at side measure = of_number (expr.Attribute at record { subject = subjects.This; side = side; measure = measure })

abbrev pub step : (Span → Option Expr) → Expr-F Outcome → Outcome
step look (Expr-F.Number at n) = of_number (expr.Number at (pos n))
step look (Expr-F.Negative at n) = of_number (expr.Number at (neg_ℤ (pos n)))
step look (Expr-F.Truth at b) = no_number
step look (Expr-F.Name at) = of_name (look at)
step look (Expr-F.Attribute at owner which) = of_attribute at (side_of which) (measure_of which)
step look (Expr-F.Group at x) = x
step look (Expr-F.Not at x) = no_number
step look (Expr-F.Binary at operator sign x y) = of_operator at (meaning_of operator) x y

abbrev pub outcome : (Span → Option Expr) → Tree → Outcome
outcome look = fold-Expr Outcome (step look)

any_subject : (at : Span) (side : Side) (measure : Measure) (u : Subject) → of_attribute at side measure ≡ of_number (expr.Attribute at record { subject = u; side = side; measure = measure })
any_subject at side measure subjects.This = refl
any_subject at side measure (subjects.Field i) = refl

pub meant : (look : Span → Option Expr) (s : Names) → ((at : Span) → plain s at ≡ look at) → (part : Tree) (m : Term) → means.Means s part m → outcome look part ≡ of_term m
meant look s same part m (means.number {at = at} {n = n}) = ap (outcome look) (sym (rolls-Number at n)) ∙ fold-roll-Expr _ _ _
meant look s same part m (means.negative {at = at} {n = n}) = ap (outcome look) (sym (rolls-Negative at n)) ∙ fold-roll-Expr _ _ _
meant look s same part m (means.truth {at = at} {b = b}) = ap (outcome look) (sym (rolls-Truth at b)) ∙ fold-roll-Expr _ _ _
meant look s same part m (means.name {at = at} {e = e} is) = ap (outcome look) (sym (rolls-Name at)) ∙ (fold-roll-Expr _ _ _ ∙ ap of_name (sym (same at) ∙ is))
meant look s same part m (means.attribute {at = at} {owner = owner} {which = which} {whose = whose} has is) =
    ap (outcome look) (sym (rolls-Attribute at owner which)) ∙ (fold-roll-Expr _ _ _ ∙ any_subject at (side_of which) (measure_of which) whose)
meant look s same part m (means.group {at = at} {x = x} h) = ap (outcome look) (sym (rolls-Group at x)) ∙ (fold-roll-Expr _ _ _ ∙ meant look s same x m h)
meant look s same part m (means.denial {at = at} {x = x} h) = ap (outcome look) (sym (rolls-Not at x)) ∙ fold-roll-Expr _ _ _
meant look s same part m (means.arithmetic {at = at} {sign = sign} {operator = operator} {x = x} {y = y} {l = l} {r = r} is h k) =
    ap (outcome look) (sym (rolls-Binary at operator sign x y))
    ∙ (fold-roll-Expr _ _ _ ∙ (λ i. of_operator at (is i) (meant look s same x (Number l) h i) (meant look s same y (Number r) k i)))
meant look s same part m (means.comparison {at = at} {sign = sign} {operator = operator} {x = x} {y = y} is h k) =
    ap (outcome look) (sym (rolls-Binary at operator sign x y)) ∙ (fold-roll-Expr _ _ _ ∙ (λ i. of_operator at (is i) (outcome look x) (outcome look y)))
meant look s same part m (means.conjunction {at = at} {sign = sign} {operator = operator} {x = x} {y = y} is h k) =
    ap (outcome look) (sym (rolls-Binary at operator sign x y)) ∙ (fold-roll-Expr _ _ _ ∙ (λ i. of_operator at (is i) (outcome look x) (outcome look y)))
meant look s same part m (means.disjunction {at = at} {sign = sign} {operator = operator} {x = x} {y = y} is h k) =
    ap (outcome look) (sym (rolls-Binary at operator sign x y)) ∙ (fold-roll-Expr _ _ _ ∙ (λ i. of_operator at (is i) (outcome look x) (outcome look y)))

-- the constant that a tree is, by what plain names stand for
abbrev pub constant_by : (Span → Option Expr) → Tree → Option ℤ
constant_by look part = where_ranged (outcome look part).range (outcome look part).value

pub constant_meant : (look : Span → Option Expr) (s : Names) → ((at : Span) → plain s at ≡ look at) → (part : Tree) (e : Expr) → means.Means s part (Number e) → constant e ≡ constant_by look part
constant_meant look s same part e h = ap (λ (o : Outcome). where_ranged o.range o.value) (sym (meant look s same part (Number e) h))

by_parts : (at : Span) (o : Option ℤ) (r : Result Interval RangeFault) (v : ℤ) → evaluated_by at o r ≡ Ok v → where_ranged r o ≡ Some v
by_parts at (Some w) (Err g) v e = absurd cc
by_parts at None (Err g) v e = absurd cc
by_parts at (Some w) (Ok i) v e = let same : w ≡ v = cc in ap Some same
by_parts at None (Ok i) v e = absurd cc

pub evaluated_constant : (at : Span) (e : Expr) (v : ℤ) → evaluated at e ≡ Ok v → constant e ≡ Some v
evaluated_constant at e v is = by_parts at (value_of e) (range_of e) v is
