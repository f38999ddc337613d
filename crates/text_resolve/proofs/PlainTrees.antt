-- What an expression of the tree means is one, up to boxes: the same as what a fold over the tree makes of it.
use Rattle.std.proofs.Common.{◌≡◌, ◌∙◌, ap, Bool, true, false, cond, List, [], ◌∷◌, ◌++◌, Option, Some, None, map, refl, sym}
use Rattle.std.specs.Prelude.{pos, neg_ℤ}
use Rattle.std.specs.List.{AllZip}
use Rattle.std.proofs.lemmas.List.{map-append}
use Rattle.text_source.specs.declared.span.Span.{Span}
use Rattle.text_tree.specs.declared.tree.Attribute.{Attribute as Word}
use Rattle.text_tree.specs.declared.tree.Expr.{Expr as Tree, fold-Expr}
use Rattle.text_tree.specs.declared.tree.Expr.TheVariants as t
use Rattle.text_tree.specs.declared.tree.Expr.TheVariants.{rolls-Number, rolls-Negative, rolls-Truth, rolls-Name, rolls-Attribute, rolls-Group, rolls-Not, rolls-Binary}
use Rattle.text_tree.specs.declared.tree.Expr.TheFolds.{fold-roll-Expr}
use Rattle.text_tree.specs.declared.tree.Expr.TheOpen.{Expr-F}
use Rattle.text_tree.specs.declared.tree.Operator.{Operator as Sign}
use Rattle.text_tree.specs.declared.tree.Operator.TheVariants as signs
use Rattle.text_tree.specs.declared.tree.Owner.{Owner}
use Rattle.text_tree.specs.Spans.{span_of}
use Rattle.sem_expr.specs.declared.expr.Attribute.{Attribute}
use Rattle.sem_expr.specs.declared.expr.Expr.{Expr}
use Rattle.sem_expr.specs.declared.expr.Side.{Side}
use Rattle.sem_expr.specs.declared.expr.Subject.{Subject}
use Rattle.sem_profile.specs.declared.profile.Constraint.{Constraint}
use Rattle.text_statements.specs.declared.crc_data.CrcData.{CrcData}
use Rattle.text_statements.specs.declared.term.Meaning.{Meaning}
use Rattle.text_statements.specs.declared.term.Meaning.TheVariants as meaning
use Rattle.text_statements.specs.declared.term.Term.{Term}
use Rattle.text_statements.specs.declared.term.Term.TheVariants.{Number, Truth}
use Rattle.text_statements.specs.Conjuncts as conjuncts
use Rattle.text_statements.specs.Conjuncts.{AreConjuncts, is_conjunction}
use Rattle.text_statements.specs.CrcData.{IsData}
use Rattle.text_statements.specs.Means as means
use Rattle.text_statements.specs.Names.{Names, plain, subject_of, side_of, measure_of}
use Rattle.text_statements.specs.Operators.{meaning_of}
use Rattle.text_statements.specs.Arguments.{IsNumber}
use Rattle.text_resolve.specs.Plain.{PlainExpr, number, parameter, attribute, binary, plain_expr, PlainCond, constant, compare, denial, conjunction, disjunction, plain_cond, PlainConstraint, enforce, plain_constraint}

pub data PlainTerm : Type 0 where
  of_number : PlainExpr → PlainTerm
  of_truth : PlainCond → PlainTerm
  no_term : PlainTerm

abbrev pub plain_term : Term → PlainTerm
plain_term (Number e) = of_number (plain_expr e)
plain_term (Truth c) = of_truth (plain_cond c)

-- what is read of a part: its place, what it means, and its conjuncts
pub record Reading : Type 0 where
  pub span : Span
  pub plain : PlainTerm
  pub parts : List PlainConstraint

abbrev pub enforced_by : PlainTerm → Span → List PlainConstraint
enforced_by (of_truth c) at = enforce c at ∷ []
enforced_by (of_number e) at = []
enforced_by no_term at = []

abbrev pub alone : Span → PlainTerm → Reading
alone at p = record { span = at; plain = p; parts = enforced_by p at }

abbrev pub name_term : Option Expr → PlainTerm
name_term (Some e) = of_number (plain_expr e)
name_term None = no_term

abbrev pub attribute_term : Span → Word → Option Subject → PlainTerm
attribute_term at which (Some whose) = of_number (attribute at record { subject = whose; side = side_of which; measure = measure_of which })
attribute_term at which None = no_term

abbrev pub denied : Span → PlainTerm → PlainTerm
denied at (of_truth c) = of_truth (denial at c)
denied at (of_number e) = no_term
denied at no_term = no_term

abbrev pub joined_by : Span → Meaning → PlainTerm → PlainTerm → PlainTerm
joined_by at (meaning.Arithmetic o) (of_number x) (of_number y) = of_number (binary at o x y)
joined_by at (meaning.Comparison o) (of_number x) (of_number y) = of_truth (compare at o x y)
joined_by at meaning.And (of_truth x) (of_truth y) = of_truth (conjunction at x y)
joined_by at meaning.Or (of_truth x) (of_truth y) = of_truth (disjunction at x y)
joined_by at _ _ _ = no_term

abbrev pub is_and : Meaning → Bool
is_and meaning.And = true
is_and meaning.Or = false
is_and (meaning.Arithmetic o) = false
is_and (meaning.Comparison o) = false

abbrev pub step : Names → Expr-F Reading → Reading
step s (Expr-F.Number at n) = alone at (of_number (number at (pos n)))
step s (Expr-F.Negative at n) = alone at (of_number (number at (neg_ℤ (pos n))))
step s (Expr-F.Truth at b) = alone at (of_truth (constant at b))
step s (Expr-F.Name at) = alone at (name_term (plain s at))
step s (Expr-F.Attribute at owner which) = alone at (attribute_term at which (subject_of s owner))
step s (Expr-F.Group at x) = alone at x.plain
step s (Expr-F.Not at x) = alone at (denied at x.plain)
step s (Expr-F.Binary at operator sign x y) =
    let p = joined_by at (meaning_of operator) x.plain y.plain in
    record { span = at; plain = p; parts = cond (is_and (meaning_of operator)) (x.parts ++ y.parts) (enforced_by p at) }

abbrev pub reading : Names → Tree → Reading
reading s = fold-Expr Reading (step s)

-- ---- one part of the tree

of_name : (s : Names) (at : Span) → reading s (t.Name at) ≡ step s (Expr-F.Name at)
of_name s at = ap (reading s) (sym (rolls-Name at)) ∙ fold-roll-Expr _ _ _

of_attribute : (s : Names) (at : Span) (owner : Owner) (which : Word) → reading s (t.Attribute at owner which) ≡ step s (Expr-F.Attribute at owner which)
of_attribute s at owner which = ap (reading s) (sym (rolls-Attribute at owner which)) ∙ fold-roll-Expr _ _ _

of_group : (s : Names) (at : Span) (x : Tree) → reading s (t.Group at x) ≡ alone at (reading s x).plain
of_group s at x = ap (reading s) (sym (rolls-Group at x)) ∙ fold-roll-Expr _ _ _

of_not : (s : Names) (at : Span) (x : Tree) → reading s (t.Not at x) ≡ alone at (denied at (reading s x).plain)
of_not s at x = ap (reading s) (sym (rolls-Not at x)) ∙ fold-roll-Expr _ _ _

of_binary : (s : Names) (at : Span) (operator : Sign) (sign : Span) (x y : Tree) → reading s (t.Binary at operator sign x y) ≡ step s (Expr-F.Binary at operator sign (reading s x) (reading s y))
of_binary s at operator sign x y = ap (reading s) (sym (rolls-Binary at operator sign x y)) ∙ fold-roll-Expr _ _ _

binary_alone : (s : Names) (at : Span) (operator : Sign) (sign : Span) (x y : Tree) (m : Meaning) → meaning_of operator ≡ m → is_and m ≡ false
    → reading s (t.Binary at operator sign x y) ≡ alone at (joined_by at (meaning_of operator) (reading s x).plain (reading s y).plain)
binary_alone s at operator sign x y m is other =
    let p = joined_by at (meaning_of operator) (reading s x).plain (reading s y).plain in
    let no_and : is_and (meaning_of operator) ≡ false = ap is_and is ∙ other in
    of_binary s at operator sign x y ∙ (λ i. record { span = at; plain = p; parts = cond (no_and i) ((reading s x).parts ++ (reading s y).parts) (enforced_by p at) })

span_binary : (at : Span) (operator : Sign) (sign : Span) (x y : Tree) → span_of (t.Binary at operator sign x y) ≡ at
span_binary at operator sign x y = ap span_of (sym (rolls-Binary at operator sign x y)) ∙ fold-roll-Expr _ _ _

-- ---- what it means

pub term_is : (s : Names) (part : Tree) (m : Term) → means.Means s part m → (reading s part).plain ≡ plain_term m
term_is s part m (means.number {at = at} {n = n}) = ap (λ (r : Reading). r.plain) (ap (reading s) (sym (rolls-Number at n)) ∙ fold-roll-Expr _ _ _)
term_is s part m (means.negative {at = at} {n = n}) = ap (λ (r : Reading). r.plain) (ap (reading s) (sym (rolls-Negative at n)) ∙ fold-roll-Expr _ _ _)
term_is s part m (means.truth {at = at} {b = b}) = ap (λ (r : Reading). r.plain) (ap (reading s) (sym (rolls-Truth at b)) ∙ fold-roll-Expr _ _ _)
term_is s part m (means.name {at = at} {e = e} is) = ap (λ (r : Reading). r.plain) (of_name s at) ∙ ap name_term is
term_is s part m (means.attribute {at = at} {owner = owner} {which = which} {whose = whose} has is) = ap (λ (r : Reading). r.plain) (of_attribute s at owner which) ∙ ap (attribute_term at which) is
term_is s part m (means.group {at = at} {x = x} h) = ap (λ (r : Reading). r.plain) (of_group s at x) ∙ term_is s x m h
term_is s part m (means.denial {at = at} {x = x} {c = c} h) = ap (λ (r : Reading). r.plain) (of_not s at x) ∙ ap (denied at) (term_is s x (Truth c) h)
term_is s part m (means.arithmetic {at = at} {sign = sign} {operator = operator} {x = x} {y = y} {l = l} {r = r} is h k) =
    ap (λ (r : Reading). r.plain) (of_binary s at operator sign x y) ∙ (λ i. joined_by at (is i) (term_is s x (Number l) h i) (term_is s y (Number r) k i))
term_is s part m (means.comparison {at = at} {sign = sign} {operator = operator} {x = x} {y = y} {l = l} {r = r} is h k) =
    ap (λ (r : Reading). r.plain) (of_binary s at operator sign x y) ∙ (λ i. joined_by at (is i) (term_is s x (Number l) h i) (term_is s y (Number r) k i))
term_is s part m (means.conjunction {at = at} {sign = sign} {operator = operator} {x = x} {y = y} {c = c} {d = d} is h k) =
    ap (λ (r : Reading). r.plain) (of_binary s at operator sign x y) ∙ (λ i. joined_by at (is i) (term_is s x (Truth c) h i) (term_is s y (Truth d) k i))
term_is s part m (means.disjunction {at = at} {sign = sign} {operator = operator} {x = x} {y = y} {c = c} {d = d} is h k) =
    ap (λ (r : Reading). r.plain) (of_binary s at operator sign x y) ∙ (λ i. joined_by at (is i) (term_is s x (Truth c) h i) (term_is s y (Truth d) k i))

-- the whole number that a part is
abbrev pub number_in : PlainTerm → PlainExpr
number_in (of_number e) = e
number_in (of_truth c) = number (record { from = 0; to = 0 }) (pos 0)
number_in no_term = number (record { from = 0; to = 0 }) (pos 0)

abbrev pub number_of : Names → Tree → PlainExpr
number_of s part = number_in (reading s part).plain

pub number_is : (s : Names) (part : Tree) (e : Expr) → IsNumber s part e → plain_expr e ≡ number_of s part
number_is s part e h = ap number_in (sym (term_is s part (Number e) h))

pub numbers_are : (s : Names) (xs : List Tree) (es : List Expr) → AllZip (IsNumber s) xs es → map plain_expr es ≡ map (number_of s) xs
numbers_are s [] [] all = refl
numbers_are s [] (e ∷ es) all = absurd all
numbers_are s (x ∷ xs) [] all = absurd all
numbers_are s (x ∷ xs) (e ∷ es) all = λ i. number_is s x e all.0 i ∷ numbers_are s xs es all.1 i

-- the data that a part is
abbrev pub attribute_in : PlainExpr → Attribute → Attribute
attribute_in (attribute at u) d = u
attribute_in (number at n) d = d
attribute_in (parameter at i) d = d
attribute_in (binary at o x y) d = d

abbrev pub subject_given : Names → Tree → Attribute → Subject
subject_given s part d = (attribute_in (number_of s part) d).subject

abbrev pub side_given : Names → Tree → Attribute → Side
side_given s part d = (attribute_in (number_of s part) d).side

pub data_is : (s : Names) (part : Tree) (c : CrcData) (d : Attribute) → IsData s part c → (c.subject ≡ subject_given s part d) × (c.side ≡ side_given s part d)
data_is s part c d is =
    let read = number_is s part _ is.means in
    (ap (λ e. (attribute_in e d).subject) read, ap (λ e. (attribute_in e d).side) read)

-- ---- conjuncts

and_only : (operator : Sign) → meaning_of operator ≡ meaning.And → operator ≡ signs.And
and_only signs.Power e = absurd cc
and_only signs.Times e = absurd cc
and_only signs.Divide e = absurd cc
and_only signs.Remainder e = absurd cc
and_only signs.Plus e = absurd cc
and_only signs.Minus e = absurd cc
and_only signs.Equal e = absurd cc
and_only signs.NotEqual e = absurd cc
and_only signs.Less e = absurd cc
and_only signs.Greater e = absurd cc
and_only signs.LessEqual e = absurd cc
and_only signs.GreaterEqual e = absurd cc
and_only signs.And e = refl
and_only signs.Or e = absurd cc

alone_by : (s : Names) (part : Tree) (at : Span) (p : PlainTerm) → reading s part ≡ alone at p → span_of part ≡ at → (reading s part).parts ≡ enforced_by (reading s part).plain (span_of part)
alone_by s part at p e f = ap (λ (r : Reading). r.parts) e ∙ (λ i. enforced_by (sym e i).plain (sym f i))

-- what is no conjunction is its one conjunct
alone_is : (s : Names) (part : Tree) (m : Term) → means.Means s part m → is_conjunction part ≡ false → (reading s part).parts ≡ enforced_by (reading s part).plain (span_of part)
alone_is s part m (means.number {at = at} {n = n}) other =
    alone_by s part at (of_number (number at (pos n))) (ap (reading s) (sym (rolls-Number at n)) ∙ fold-roll-Expr _ _ _) (ap span_of (sym (rolls-Number at n)) ∙ fold-roll-Expr _ _ _)
alone_is s part m (means.negative {at = at} {n = n}) other =
    alone_by s part at (of_number (number at (neg_ℤ (pos n)))) (ap (reading s) (sym (rolls-Negative at n)) ∙ fold-roll-Expr _ _ _) (ap span_of (sym (rolls-Negative at n)) ∙ fold-roll-Expr _ _ _)
alone_is s part m (means.truth {at = at} {b = b}) other =
    alone_by s part at (of_truth (constant at b)) (ap (reading s) (sym (rolls-Truth at b)) ∙ fold-roll-Expr _ _ _) (ap span_of (sym (rolls-Truth at b)) ∙ fold-roll-Expr _ _ _)
alone_is s part m (means.name {at = at} is) other = alone_by s part at (name_term (plain s at)) (of_name s at) (ap span_of (sym (rolls-Name at)) ∙ fold-roll-Expr _ _ _)
alone_is s part m (means.attribute {at = at} {owner = owner} {which = which} has is) other =
    alone_by s part at (attribute_term at which (subject_of s owner)) (of_attribute s at owner which) (ap span_of (sym (rolls-Attribute at owner which)) ∙ fold-roll-Expr _ _ _)
alone_is s part m (means.group {at = at} {x = x} h) other = alone_by s part at (reading s x).plain (of_group s at x) (ap span_of (sym (rolls-Group at x)) ∙ fold-roll-Expr _ _ _)
alone_is s part m (means.denial {at = at} {x = x} h) other = alone_by s part at (denied at (reading s x).plain) (of_not s at x) (ap span_of (sym (rolls-Not at x)) ∙ fold-roll-Expr _ _ _)
alone_is s part m (means.arithmetic {at = at} {sign = sign} {operator = operator} {x = x} {y = y} is h k) other =
    alone_by s part at _ (binary_alone s at operator sign x y _ is refl) (span_binary at operator sign x y)
alone_is s part m (means.comparison {at = at} {sign = sign} {operator = operator} {x = x} {y = y} is h k) other =
    alone_by s part at _ (binary_alone s at operator sign x y _ is refl) (span_binary at operator sign x y)
alone_is s part m (means.disjunction {at = at} {sign = sign} {operator = operator} {x = x} {y = y} is h k) other =
    alone_by s part at _ (binary_alone s at operator sign x y _ is refl) (span_binary at operator sign x y)
alone_is s part m (means.conjunction {at = at} {sign = sign} {operator = operator} {x = x} {y = y} is h k) other =
    let joins : is_conjunction (t.Binary at signs.And sign x y) ≡ true = ap is_conjunction (sym (rolls-Binary at signs.And sign x y)) ∙ fold-roll-Expr _ _ _ in
    let wrong : true ≡ false = sym joins ∙ (ap (λ o. is_conjunction (t.Binary at o sign x y)) (sym (and_only operator is)) ∙ other) in
    absurd cc

pub conjuncts_are : (s : Names) (part : Tree) (cs : List Constraint) → AreConjuncts s part cs → map plain_constraint cs ≡ (reading s part).parts
conjuncts_are s part cs (conjuncts.both {at = at} {sign = sign} {x = x} {y = y} {left = ls} {right = rs} h k) =
    map-append plain_constraint ls rs ∙ ((λ i. conjuncts_are s x ls h i ++ conjuncts_are s y rs k i) ∙ sym (ap (λ (r : Reading). r.parts) (of_binary s at signs.And sign x y)))
conjuncts_are s part cs (conjuncts.single {c = c} {place = place} other means is) =
    (λ i. enforced_by (sym (term_is s part (Truth c) means) i) (is i)) ∙ sym (alone_is s part (Truth c) means other)
