-- What an expression of the tree means (RFC 4997, section 4.7): a typed one, each part at its place. Round brackets vanish.
use Rattle.std.specs.Prelude.{◌≡◌, ℕ, pos, neg_ℤ, Bool, true, Some}
use Rattle.text_source.specs.declared.span.Span.{Span}
use Rattle.text_tree.specs.declared.tree.Expr.{Expr as Tree}
use Rattle.text_tree.specs.declared.tree.Expr.TheVariants as t
use Rattle.text_tree.specs.declared.tree.Operator.{Operator as Sign}
use Rattle.text_tree.specs.declared.tree.Owner.{Owner}
use Rattle.text_tree.specs.declared.tree.Attribute.{Attribute as Word}
use Rattle.sem_expr.specs.declared.expr.Subject.{Subject}
use Rattle.sem_expr.specs.declared.expr.Operator.{Operator}
use Rattle.sem_expr.specs.declared.expr.Comparison.{Comparison as Relation}
use Rattle.sem_expr.specs.declared.expr.Expr.{Expr}
use Rattle.sem_expr.specs.declared.expr.Expr.TheVariants as expr
use Rattle.sem_expr.specs.declared.expr.Expr.TheVariants.{Binary'}
use Rattle.sem_expr.specs.declared.expr.Cond.{Cond}
use Rattle.sem_expr.specs.declared.expr.Cond.TheVariants.{Constant, Compare, Not', And', Or'}
use Rattle.text_statements.specs.declared.term.Meaning.TheVariants as means
use Rattle.text_statements.specs.declared.term.Term.{Term}
use Rattle.text_statements.specs.declared.term.Term.TheVariants.{Number, Truth}
use Rattle.text_statements.specs.Names.{Names, plain, subject_of, side_of, measure_of}
use Rattle.text_statements.specs.Operators.{meaning_of}

pub data Means (s : Names) : Tree → Term → Type 0 where
  number : {at : Span} {n : ℕ} → Means s (t.Number at n) (Number (expr.Number at (pos n)))
  negative : {at : Span} {n : ℕ} → Means s (t.Negative at n) (Number (expr.Number at (neg_ℤ (pos n))))
  truth : {at : Span} {b : Bool} → Means s (t.Truth at b) (Truth (Constant at b))
  name : {at : Span} {e : Expr} → plain s at ≡ Some e → Means s (t.Name at) (Number e)
  attribute : {at : Span} {owner : Owner} {which : Word} {whose : Subject} → s.has_attributes ≡ true → subject_of s owner ≡ Some whose
      → Means s (t.Attribute at owner which) (Number (expr.Attribute at record { subject = whose; side = side_of which; measure = measure_of which }))
  group : {at : Span} {x : Tree} {m : Term} → Means s x m → Means s (t.Group at x) m
  denial : {at : Span} {x : Tree} {p : _} {c : Cond} → Means s x (Truth c) → Means s (t.Not at x) (Truth (Not' at p c))
  arithmetic : {at sign : Span} {operator : Sign} {x y : Tree} {o : Operator} {p : _} {l : Expr} {q : _} {r : Expr}
      → meaning_of operator ≡ means.Arithmetic o → Means s x (Number l) → Means s y (Number r)
      → Means s (t.Binary at operator sign x y) (Number (Binary' at o p l q r))
  comparison : {at sign : Span} {operator : Sign} {x y : Tree} {o : Relation} {l r : Expr}
      → meaning_of operator ≡ means.Comparison o → Means s x (Number l) → Means s y (Number r)
      → Means s (t.Binary at operator sign x y) (Truth (Compare at o l r))
  conjunction : {at sign : Span} {operator : Sign} {x y : Tree} {p : _} {c : Cond} {q : _} {d : Cond}
      → meaning_of operator ≡ means.And → Means s x (Truth c) → Means s y (Truth d)
      → Means s (t.Binary at operator sign x y) (Truth (And' at p c q d))
  disjunction : {at sign : Span} {operator : Sign} {x y : Tree} {p : _} {c : Cond} {q : _} {d : Cond}
      → meaning_of operator ≡ means.Or → Means s x (Truth c) → Means s y (Truth d)
      → Means s (t.Binary at operator sign x y) (Truth (Or' at p c q d))
