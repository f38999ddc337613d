-- The judgements of names and attributes.
use Rattle.std.proofs.Common.{◌≡◌, ◌∙◌, ap, cond, subst, ℕ, true, false, Some, None, sym, IfOk, Result, Ok, Err}
use Rattle.std.specs.Prelude.{IfErr, Option, pos, neg_ℤ}
use Rattle.std.specs.Option.{option_map}
use Rattle.std.specs.Result.{result_err}
use Rattle.text_source.specs.declared.span.Span.{Span}
use Rattle.text_tree.specs.declared.tree.Attribute.{Attribute as Word}
use Rattle.text_tree.specs.declared.tree.Owner.{Owner}
use Rattle.text_tree.specs.declared.tree.Expr.TheVariants as t
use Rattle.text_tree.specs.declared.tree.Expr.TheVariants.{rolls-Name, rolls-Attribute, rolls-Number, rolls-Negative}
use Rattle.text_tree.specs.declared.tree.Expr.TheFolds.{fold-roll-Expr}
use Rattle.text_tree.specs.declared.tree.Expr.TheOpen.{Expr-F}
use Rattle.sem_expr.specs.declared.expr.Expr.{Expr}
use Rattle.sem_expr.specs.declared.interval.Interval.{Interval}
use Rattle.sem_expr.specs.declared.fault.RangeFault.{RangeFault}
use Rattle.sem_expr.specs.declared.expr.Expr.TheVariants as expr
use Rattle.sem_expr.specs.declared.expr.Subject.{Subject}
use Rattle.sem_expr.specs.declared.expr.Side.{Side}
use Rattle.sem_expr.specs.declared.expr.Measure.{Measure}
use Rattle.sem_profile.specs.declared.fault.ProfileFault.{ProfileFault}
use Rattle.text_statements.specs.declared.term.TermKind.TheVariants as kinds
use Rattle.text_statements.specs.declared.term.Term.TheVariants.{Number}
use Rattle.text_statements.specs.Names.{Names, plain, subject_of, side_of, measure_of}
use Rattle.text_statements.specs.Means.{Means, name}
use Rattle.text_statements.specs.Ranges.{range_of, of_range}
use Rattle.text_statements.specs.Judged.{Judgement, judged, judge, found, place_of, unless_known, owner_fault, wrong_kind, if_allowed, range_fault, name_judgement, attribute_range}

name_shape : (s : Names) (at : Span) → judged s (t.Name at) ≡ judge s (Expr-F.Name at)
name_shape s at = ap (judged s) (sym (rolls-Name at)) ∙ fold-roll-Expr _ _ _

attribute_shape : (s : Names) (at : Span) (owner : Owner) (which : Word) → judged s (t.Attribute at owner which) ≡ judge s (Expr-F.Attribute at owner which)
attribute_shape s at owner which = ap (judged s) (sym (rolls-Attribute at owner which)) ∙ fold-roll-Expr _ _ _

named : (s : Names) (at : Span) (o : Option Expr) → o ≡ plain s at → judged s (t.Name at) ≡ name_judgement s at o
named s at o is = name_shape s at ∙ ap (name_judgement s at) (sym is)

pub name_means : (s : Names) (at : Span) (e : Expr) (r : Result Expr ProfileFault) → Some e ≡ plain s at → IfOk r (λ x. x ≡ e) → IfOk r (λ x. Means s (t.Name at) (Number x))
name_means s at e (Ok x) is same = subst (λ y. Means s (t.Name at) (Number y)) (sym same) (name (sym is))
name_means s at e (Err f) is same = tt

pub name_right : (s : Names) (at : Span) (e : Expr) (r : Result Expr ProfileFault) → Some e ≡ plain s at → place_of e ≡ at → IfOk r (λ x. x ≡ e) → IfOk r (λ _. range_fault s (range_of e) ≡ None)
    → IfOk r (λ x. judged s (t.Name at) ≡ found (Number x))
name_right s at e (Ok x) is place same right =
    named s at (Some e) is ∙ (λ i. record { kind = kinds.Number; place = sym place i; fault = right i; range = range_of e }) ∙ ap (λ y. found (Number y)) (sym same)
name_right s at e (Err f) is place same right = tt

pub name_limited : (s : Names) (at : Span) (e : Expr) (r : Result Expr ProfileFault) → Some e ≡ plain s at → IfErr r (λ f. range_fault s (range_of e) ≡ Some f)
    → IfErr r (λ f. (judged s (t.Name at)).fault ≡ Some f)
name_limited s at e (Ok x) is refused = tt
name_limited s at e (Err f) is refused = ap (λ (j : Judgement). j.fault) (named s at (Some e) is) ∙ refused

pub name_refused : (s : Names) (at : Span) (f : ProfileFault) → None ≡ plain s at → unless_known {A = Expr} at None ≡ Some f → (judged s (t.Name at)).fault ≡ Some f
name_refused s at f is h = ap (λ (j : Judgement). j.fault) (named s at None is) ∙ h

pub attribute_right : (s : Names) (at : Span) (owner : Owner) (which : Word) (whose : Subject) (sd : Side) (m : Measure) → s.has_attributes ≡ true → owner_fault s owner ≡ None → subject_of s owner ≡ Some whose
    → sd ≡ side_of which → m ≡ measure_of which → judged s (t.Attribute at owner which) ≡ found (Number (expr.Attribute at record { subject = whose; side = sd; measure = m }))
attribute_right s at owner which whose sd m has known is side-is measure-is =
    attribute_shape s at owner which ∙ (λ i. record { kind = kinds.Number; place = at; fault = if_allowed (has i) at (known i); range = attribute_range at which (is i) })
    ∙ (λ i. found (Number (expr.Attribute at record { subject = whose; side = sym side-is i; measure = sym measure-is i })))

pub attribute_refused : (s : Names) (at : Span) (owner : Owner) (which : Word) (f : ProfileFault) → s.has_attributes ≡ true → owner_fault s owner ≡ Some f
    → (judged s (t.Attribute at owner which)).fault ≡ Some f
attribute_refused s at owner which f has unknown = ap (λ (j : Judgement). j.fault) (attribute_shape s at owner which) ∙ (λ i. if_allowed (has i) at (unknown i))

pub no_attributes : (s : Names) (at : Span) (owner : Owner) (which : Word) → s.has_attributes ≡ false → (judged s (t.Attribute at owner which)).fault ≡ Some (wrong_kind at)
no_attributes s at owner which has = ap (λ (j : Judgement). j.fault) (attribute_shape s at owner which) ∙ (λ i. if_allowed (has i) at (owner_fault s owner))

-- what a literal stands for, whose range has no fault
pub number_right : (s : Names) (at : Span) (n : ℕ) (e : Expr) → e ≡ expr.Number at (pos n) → range_fault s (range_of e) ≡ None → judged s (t.Number at n) ≡ found (Number e)
number_right s at n e is fine =
    let here : range_fault s (range_of (expr.Number at (pos n))) ≡ None = subst (λ x. range_fault s (range_of x) ≡ None) is fine in
    (ap (judged s) (sym (rolls-Number at n)) ∙ fold-roll-Expr _ _ _) ∙ (λ i. record { kind = kinds.Number; place = at; fault = here i; range = range_of (expr.Number at (pos n)) }) ∙ ap (λ y. found (Number y)) (sym is)

pub negative_right : (s : Names) (at : Span) (n : ℕ) (e : Expr) → e ≡ expr.Number at (neg_ℤ (pos n)) → range_fault s (range_of e) ≡ None → judged s (t.Negative at n) ≡ found (Number e)
negative_right s at n e is fine =
    let here : range_fault s (range_of (expr.Number at (neg_ℤ (pos n)))) ≡ None = subst (λ x. range_fault s (range_of x) ≡ None) is fine in
    (ap (judged s) (sym (rolls-Negative at n)) ∙ fold-roll-Expr _ _ _) ∙ (λ i. record { kind = kinds.Number; place = at; fault = here i; range = range_of (expr.Number at (neg_ℤ (pos n))) }) ∙ ap (λ y. found (Number y)) (sym is)

-- where attributes may stand, ranges are not judged
pub unjudged : (s : Names) (r : Result Interval RangeFault) → s.has_attributes ≡ true → range_fault s r ≡ None
unjudged s r has = ap (λ b. cond b None (option_map of_range (result_err r))) has
