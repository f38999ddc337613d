-- What names data in the tree names it when typed.
use Rattle.std.proofs.Common.{◌≡◌, ◌∙◌, ap, refl, sym, cond, ℕ, ℤ, Bool, false, Option, Some, None}
use Rattle.std.specs.Prelude.{is_some}
use Rattle.std.specs.Option.{option_or, option_map}
use Rattle.text_source.specs.declared.span.Span.{Span}
use Rattle.text_tree.specs.declared.tree.Expr.{Expr as Tree}
use Rattle.text_tree.specs.declared.tree.Expr.TheVariants.{rolls-Number, rolls-Negative, rolls-Truth, rolls-Name, rolls-Attribute, rolls-Group, rolls-Not, rolls-Binary}
use Rattle.text_tree.specs.declared.tree.Expr.TheFolds.{fold-roll-Expr}
use Rattle.text_tree.specs.declared.tree.Attribute.TheVariants as words
use Rattle.sem_expr.specs.declared.expr.Expr.{Expr}
use Rattle.sem_expr.specs.declared.expr.Expr.TheVariants as expr
use Rattle.text_statements.specs.declared.crc_data.CrcData.{CrcData}
use Rattle.text_statements.specs.declared.term.Term.{Term}
use Rattle.text_statements.specs.declared.term.Term.TheVariants.{Number, Truth}
use Rattle.text_statements.specs.Names.{Names, number_named, index_of}
use Rattle.text_statements.specs.Judged.{Judgement, judged, found, wrong_kind}
use Rattle.text_statements.specs.Means as means
use Rattle.text_statements.specs.CrcData.{is_data, data_fault, named}

plain_names_none : (at : Span) (e : Expr) (p : Option ℕ) (v : Option ℤ)
    → option_or (option_map (λ i. expr.Parameter at i) p) (option_map (λ n. expr.Number at n) v) ≡ Some e → false ≡ is_some (named (Number e))
plain_names_none at e (Some i) v is = let same : expr.Parameter at i ≡ e = cc in ap (λ x. is_some (named (Number x))) same
plain_names_none at e None (Some n) is = let same : expr.Number at n ≡ e = cc in ap (λ x. is_some (named (Number x))) same
plain_names_none at e None None is = absurd cc

typed : (s : Names) (part : Tree) (m : Term) → means.Means s part m → is_data part ≡ is_some (named m)
typed s part m (means.number {at = at} {n = n}) = ap is_data (sym (rolls-Number at n)) ∙ fold-roll-Expr _ _ _
typed s part m (means.negative {at = at} {n = n}) = ap is_data (sym (rolls-Negative at n)) ∙ fold-roll-Expr _ _ _
typed s part m (means.truth {at = at} {b = b}) = ap is_data (sym (rolls-Truth at b)) ∙ fold-roll-Expr _ _ _
typed s part m (means.name {at = at} {e = e} is) =
    ap is_data (sym (rolls-Name at)) ∙ fold-roll-Expr _ _ _ ∙ plain_names_none at e (index_of s.text s.parameters at) (number_named s at) is
typed s part m (means.attribute {at = at} {owner = owner} {which = words.Uvalue} has is) = ap is_data (sym (rolls-Attribute at owner words.Uvalue)) ∙ fold-roll-Expr _ _ _
typed s part m (means.attribute {at = at} {owner = owner} {which = words.Cvalue} has is) = ap is_data (sym (rolls-Attribute at owner words.Cvalue)) ∙ fold-roll-Expr _ _ _
typed s part m (means.attribute {at = at} {owner = owner} {which = words.Ulength} has is) = ap is_data (sym (rolls-Attribute at owner words.Ulength)) ∙ fold-roll-Expr _ _ _
typed s part m (means.attribute {at = at} {owner = owner} {which = words.Clength} has is) = ap is_data (sym (rolls-Attribute at owner words.Clength)) ∙ fold-roll-Expr _ _ _
typed s part m (means.group {at = at} {x = x} h) = ap is_data (sym (rolls-Group at x)) ∙ fold-roll-Expr _ _ _ ∙ typed s x m h
typed s part m (means.denial {at = at} {x = x} h) = ap is_data (sym (rolls-Not at x)) ∙ fold-roll-Expr _ _ _
typed s part m (means.arithmetic {at = at} {sign = sign} {operator = operator} {x = x} {y = y} is h k) = ap is_data (sym (rolls-Binary at operator sign x y)) ∙ fold-roll-Expr _ _ _
typed s part m (means.comparison {at = at} {sign = sign} {operator = operator} {x = x} {y = y} is h k) = ap is_data (sym (rolls-Binary at operator sign x y)) ∙ fold-roll-Expr _ _ _
typed s part m (means.conjunction {at = at} {sign = sign} {operator = operator} {x = x} {y = y} is h k) = ap is_data (sym (rolls-Binary at operator sign x y)) ∙ fold-roll-Expr _ _ _
typed s part m (means.disjunction {at = at} {sign = sign} {operator = operator} {x = x} {y = y} is h k) = ap is_data (sym (rolls-Binary at operator sign x y)) ∙ fold-roll-Expr _ _ _

none_inside : (m : Term) (b : Bool) → option_or (found m).fault (cond b None (Some (wrong_kind (found m).place))) ≡ cond b None (Some (wrong_kind (found m).place))
none_inside (Number e) b = refl
none_inside (Truth c) b = refl

as_typed : (s : Names) (part : Tree) (m : Term) → means.Means s part m → judged s part ≡ found m → data_fault s part ≡ cond (is_some (named m)) None (Some (wrong_kind (found m).place))
as_typed s part m h is =
    ap (λ (j : Judgement). option_or j.fault (cond (is_data part) None (Some (wrong_kind j.place)))) is
    ∙ none_inside m (is_data part) ∙ ap (λ b. cond b None (Some (wrong_kind (found m).place))) (typed s part m h)

pub data_right : (s : Names) (part : Tree) (m : Term) (d : CrcData) → means.Means s part m → judged s part ≡ found m → named m ≡ Some d → data_fault s part ≡ None
data_right s part m d h is names = as_typed s part m h is ∙ ap (λ o. cond (is_some o) None (Some (wrong_kind (found m).place))) names

pub data_wrong : (s : Names) (part : Tree) (m : Term) → means.Means s part m → judged s part ≡ found m → named m ≡ None
    → data_fault s part ≡ Some (wrong_kind (found m).place)
data_wrong s part m h is names = as_typed s part m h is ∙ ap (λ o. cond (is_some o) None (Some (wrong_kind (found m).place))) names
