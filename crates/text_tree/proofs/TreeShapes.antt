-- What a fold gives for each form of an expression.
use Rattle.std.proofs.Common.{◌≡◌, ℕ, Bool, sym, ap, ◌∙◌}
use Rattle.text_source.specs.declared.span.Span.{Span}
use Rattle.text_tree.specs.declared.tree.Operator.{Operator}
use Rattle.text_tree.specs.declared.tree.Attribute.{Attribute}
use Rattle.text_tree.specs.declared.tree.Owner.{Owner}
use Rattle.text_tree.specs.declared.tree.Expr.{Expr, fold-Expr}
use Rattle.text_tree.specs.declared.tree.Expr.TheVariants as e
use Rattle.text_tree.specs.declared.tree.Expr.TheVariants.{rolls-Number, rolls-Negative, rolls-Truth, rolls-Name, rolls-Attribute, rolls-Group, rolls-Not, rolls-Binary}
use Rattle.text_tree.specs.declared.tree.Expr.TheFolds.{fold-roll-Expr}
use Rattle.text_tree.specs.declared.tree.Expr.TheOpen.{Expr-F}

module _ {A : Type 0} (make : Expr-F A → A) where
  pub of_number : (at : Span) (n : ℕ) → fold-Expr A make (e.Number at n) ≡ make (Expr-F.Number at n)
  of_number at n = ap (fold-Expr A make) (sym (rolls-Number at n)) ∙ fold-roll-Expr _ _ _

  pub of_negative : (at : Span) (n : ℕ) → fold-Expr A make (e.Negative at n) ≡ make (Expr-F.Negative at n)
  of_negative at n = ap (fold-Expr A make) (sym (rolls-Negative at n)) ∙ fold-roll-Expr _ _ _

  pub of_truth : (at : Span) (b : Bool) → fold-Expr A make (e.Truth at b) ≡ make (Expr-F.Truth at b)
  of_truth at b = ap (fold-Expr A make) (sym (rolls-Truth at b)) ∙ fold-roll-Expr _ _ _

  pub of_name : (at : Span) → fold-Expr A make (e.Name at) ≡ make (Expr-F.Name at)
  of_name at = ap (fold-Expr A make) (sym (rolls-Name at)) ∙ fold-roll-Expr _ _ _

  pub of_attribute : (at : Span) (owner : Owner) (which : Attribute) → fold-Expr A make (e.Attribute at owner which) ≡ make (Expr-F.Attribute at owner which)
  of_attribute at owner which = ap (fold-Expr A make) (sym (rolls-Attribute at owner which)) ∙ fold-roll-Expr _ _ _

  pub of_group : (at : Span) (x : Expr) → fold-Expr A make (e.Group at x) ≡ make (Expr-F.Group at (fold-Expr A make x))
  of_group at x = ap (fold-Expr A make) (sym (rolls-Group at x)) ∙ fold-roll-Expr _ _ _

  pub of_not : (at : Span) (x : Expr) → fold-Expr A make (e.Not at x) ≡ make (Expr-F.Not at (fold-Expr A make x))
  of_not at x = ap (fold-Expr A make) (sym (rolls-Not at x)) ∙ fold-roll-Expr _ _ _

  pub of_binary : (at : Span) (operator : Operator) (sign : Span) (x y : Expr) → fold-Expr A make (e.Binary at operator sign x y) ≡ make (Expr-F.Binary at operator sign (fold-Expr A make x) (fold-Expr A make y))
  of_binary at operator sign x y = ap (fold-Expr A make) (sym (rolls-Binary at operator sign x y)) ∙ fold-roll-Expr _ _ _
