-- What an expression means, and its fault, stay the same where fields are added behind the others.
use Rattle.std.proofs.Common.{◌≡◌, ◌∙◌, ap, refl, sym, cond, not, ℕ, ◌+◌, ◌<◌, suc, Bool, true, false, List, [], ◌∷◌, ◌++◌, length, nat_lt, Option, Some, None, arith}
use Rattle.std.specs.Prelude.{position}
use Rattle.std.specs.List.{position_or_len}
use Rattle.std.specs.Option.{option_map, option_or}
use Rattle.std.proofs.lemmas.Grind.{common_steps}
use Rattle.std.proofs.lemmas.List.{length-append}
use Rattle.text_source.specs.declared.span.Span.{Span}
use Rattle.text_tree.specs.declared.tree.Expr.{Expr as Tree}
use Rattle.text_tree.specs.declared.tree.Expr.TheOpen.{Expr-F}
use Rattle.text_tree.specs.declared.tree.Owner.{Owner}
use Rattle.text_tree.specs.declared.tree.Owner.TheVariants as owners
use Rattle.text_tree.specs.declared.tree.Attribute.{Attribute as Word}
use Rattle.text_tree.specs.declared.tree.Operator.{Operator as Sign}
use Rattle.text_tree.specs.declared.tree.Operator.TheVariants as signs
use Rattle.text_tree.proofs.TreeShapes.{of_number, of_negative, of_truth, of_name, of_attribute, of_group, of_not, of_binary}
use Rattle.sem_expr.specs.declared.expr.Subject.{Subject}
use Rattle.sem_expr.specs.declared.expr.Subject.TheVariants as subjects
use Rattle.sem_profile.specs.declared.profile.Constraint.{Constraint}
use Rattle.text_statements.specs.declared.term.TermKind.TheVariants as kinds
use Rattle.text_statements.specs.declared.term.Meaning.{Meaning}
use Rattle.text_statements.specs.declared.term.Meaning.TheVariants as meanings
use Rattle.text_statements.specs.declared.term.Term.{Term}
use Rattle.text_statements.specs.declared.crc_data.CrcData.{CrcData}
use Rattle.text_statements.specs.Names.{Names, index_of, field_of, subject_of}
use Rattle.text_statements.specs.Operators.{meaning_of}
use Rattle.text_statements.specs.Judged.{Judgement, judge, judged, wrong_kind, if_allowed, unless_known, attribute_range, operator_judgement}
use Rattle.text_statements.specs.Means as means
use Rattle.text_statements.specs.Conjuncts.{AreConjuncts, both, single}
use Rattle.text_statements.specs.CrcData.{IsData, is_data, data_fault}

-- the same names, and more fields
abbrev pub widened : Names → List (List ℕ) → Names
widened s more = record { text = s.text; constants = s.constants; values = s.values; parameters = s.parameters; fields = s.fields ++ more; has_attributes = s.has_attributes }

first_stays : {X : Type 0} (p : X → Bool) (xs more : List X) → position_or_len p xs < length xs → position_or_len p (xs ++ more) ≡ position_or_len p xs
first_stays p [] more lt = absurd (omega arith)
first_stays p (x ∷ xs) more lt = by (p x) lt (first_stays p xs more)
  where
    by : (b : Bool) → cond (not b) (1 + position_or_len p xs) 0 < suc (length xs) → (position_or_len p xs < length xs → position_or_len p (xs ++ more) ≡ position_or_len p xs)
        → cond (not b) (1 + position_or_len p (xs ++ more)) 0 ≡ cond (not b) (1 + position_or_len p xs) 0
    by true h rest = refl
    by false h rest = ap (λ n. 1 + n) (rest (omega arith))

found_there : (k n i : ℕ) → k ≡ i → i < n → cond (nat_lt k n) (Some k) None ≡ Some i
found_there k n i e lt = grind (arith, common_steps)

place_stays : {X : Type 0} (p : X → Bool) (xs more : List X) (i : ℕ) → position p xs ≡ Some i → position p (xs ++ more) ≡ Some i
place_stays p xs more i e =
    let at : position_or_len p xs ≡ i = grind (arith, common_steps) in
    let inside : i < length xs = grind (arith, common_steps) in
    let long : length (xs ++ more) ≡ length xs + length more = length-append xs more in
    found_there (position_or_len p (xs ++ more)) (length (xs ++ more)) i (first_stays p xs more (omega arith) ∙ at) (omega arith)

pub field_stays : (s : Names) (more : List (List ℕ)) (name : Span) (i : ℕ) → field_of s name ≡ Some i → field_of (widened s more) name ≡ Some i
field_stays s more name i e = place_stays _ s.fields more i e

subject_by : (s : Names) (more : List (List ℕ)) (name : Span) (whose : Subject) (o : Option ℕ) → index_of s.text s.fields name ≡ o → option_map (λ i. subjects.Field i) o ≡ Some whose
    → subject_of (widened s more) (owners.Field name) ≡ subject_of s (owners.Field name)
subject_by s more name whose (Some i) e is = ap (option_map (λ i. subjects.Field i)) (field_stays s more name i e ∙ sym e)
subject_by s more name whose None e is = absurd cc

subject_stays : (s : Names) (more : List (List ℕ)) (owner : Owner) (whose : Subject) → subject_of s owner ≡ Some whose → subject_of (widened s more) owner ≡ subject_of s owner
subject_stays s more owners.This whose is = refl
subject_stays s more (owners.Field name) whose is = subject_by s more name whose (index_of s.text s.fields name) refl is

-- what a part means, it means among more fields
pub meaning_stays : (s : Names) (more : List (List ℕ)) (part : Tree) (m : Term) → means.Means s part m → means.Means (widened s more) part m
meaning_stays s more part m means.number = means.number
meaning_stays s more part m means.negative = means.negative
meaning_stays s more part m means.truth = means.truth
meaning_stays s more part m (means.name is) = means.name is
meaning_stays s more part m (means.attribute {owner = owner} {whose = whose} has is) = means.attribute has (subject_stays s more owner whose is ∙ is)
meaning_stays s more part m (means.group {x = x} h) = means.group (meaning_stays s more x _ h)
meaning_stays s more part m (means.denial {x = x} h) = means.denial (meaning_stays s more x _ h)
meaning_stays s more part m (means.arithmetic {x = x} {y = y} is h k) = means.arithmetic is (meaning_stays s more x _ h) (meaning_stays s more y _ k)
meaning_stays s more part m (means.comparison {x = x} {y = y} is h k) = means.comparison is (meaning_stays s more x _ h) (meaning_stays s more y _ k)
meaning_stays s more part m (means.conjunction {x = x} {y = y} is h k) = means.conjunction is (meaning_stays s more x _ h) (meaning_stays s more y _ k)
meaning_stays s more part m (means.disjunction {x = x} {y = y} is h k) = means.disjunction is (meaning_stays s more x _ h) (meaning_stays s more y _ k)

operator_stays : (s : Names) (more : List (List ℕ)) (at : Span) (o : Meaning) (x y : Judgement) → operator_judgement (widened s more) at o x y ≡ operator_judgement s at o x y
operator_stays s more at (meanings.Arithmetic o) x y = refl
operator_stays s more at (meanings.Comparison o) x y = refl
operator_stays s more at meanings.And x y = refl
operator_stays s more at meanings.Or x y = refl

attribute_stays : (s : Names) (more : List (List ℕ)) (at : Span) (owner : Owner) (which : Word) → subject_of (widened s more) owner ≡ subject_of s owner
    → judge (widened s more) (Expr-F.Attribute at owner which) ≡ judge s (Expr-F.Attribute at owner which)
attribute_stays s more at owners.This which e = refl
attribute_stays s more at (owners.Field name) which e =
    ap (λ (o : Option Subject). record { kind = kinds.Number; place = at; fault = if_allowed s.has_attributes at (unless_known name o); range = attribute_range at which o }) e

binary_stays : (s : Names) (more : List (List ℕ)) (at sign : Span) (operator : Sign) (x y : Tree) → judged (widened s more) x ≡ judged s x → judged (widened s more) y ≡ judged s y
    → judge (widened s more) (Expr-F.Binary at operator sign (judged (widened s more) x) (judged (widened s more) y)) ≡ judge s (Expr-F.Binary at operator sign (judged s x) (judged s y))
binary_stays s more at sign operator x y e f =
    operator_stays s more at (meaning_of operator) (judged (widened s more) x) (judged (widened s more) y) ∙ (λ i. operator_judgement s at (meaning_of operator) (e i) (f i))

-- what has a meaning is judged the same among more fields
pub judgement_stays : (s : Names) (more : List (List ℕ)) (part : Tree) (m : Term) → means.Means s part m → judged (widened s more) part ≡ judged s part
judgement_stays s more part m (means.number {at = at} {n = n}) = of_number (judge (widened s more)) at n ∙ sym (of_number (judge s) at n)
judgement_stays s more part m (means.negative {at = at} {n = n}) = of_negative (judge (widened s more)) at n ∙ sym (of_negative (judge s) at n)
judgement_stays s more part m (means.truth {at = at} {b = b}) = of_truth (judge (widened s more)) at b ∙ sym (of_truth (judge s) at b)
judgement_stays s more part m (means.name {at = at} is) = of_name (judge (widened s more)) at ∙ sym (of_name (judge s) at)
judgement_stays s more part m (means.attribute {at = at} {owner = owner} {which = which} {whose = whose} has is) =
    of_attribute (judge (widened s more)) at owner which ∙ attribute_stays s more at owner which (subject_stays s more owner whose is) ∙ sym (of_attribute (judge s) at owner which)
judgement_stays s more part m (means.group {at = at} {x = x} h) =
    of_group (judge (widened s more)) at x ∙ judgement_stays s more x _ h ∙ sym (of_group (judge s) at x)
judgement_stays s more part m (means.denial {at = at} {x = x} h) =
    of_not (judge (widened s more)) at x ∙ ap (λ j. judge s (Expr-F.Not at j)) (judgement_stays s more x _ h) ∙ sym (of_not (judge s) at x)
judgement_stays s more part m (means.arithmetic {at = at} {sign = sign} {operator = operator} {x = x} {y = y} is h k) =
    of_binary (judge (widened s more)) at operator sign x y
    ∙ binary_stays s more at sign operator x y (judgement_stays s more x _ h) (judgement_stays s more y _ k) ∙ sym (of_binary (judge s) at operator sign x y)
judgement_stays s more part m (means.comparison {at = at} {sign = sign} {operator = operator} {x = x} {y = y} is h k) =
    of_binary (judge (widened s more)) at operator sign x y
    ∙ binary_stays s more at sign operator x y (judgement_stays s more x _ h) (judgement_stays s more y _ k) ∙ sym (of_binary (judge s) at operator sign x y)
judgement_stays s more part m (means.conjunction {at = at} {sign = sign} {operator = operator} {x = x} {y = y} is h k) =
    of_binary (judge (widened s more)) at operator sign x y
    ∙ binary_stays s more at sign operator x y (judgement_stays s more x _ h) (judgement_stays s more y _ k) ∙ sym (of_binary (judge s) at operator sign x y)
judgement_stays s more part m (means.disjunction {at = at} {sign = sign} {operator = operator} {x = x} {y = y} is h k) =
    of_binary (judge (widened s more)) at operator sign x y
    ∙ binary_stays s more at sign operator x y (judgement_stays s more x _ h) (judgement_stays s more y _ k) ∙ sym (of_binary (judge s) at operator sign x y)

-- so are conjuncts
pub conjuncts_stay : (s : Names) (more : List (List ℕ)) (part : Tree) (cs : List Constraint) → AreConjuncts s part cs → AreConjuncts (widened s more) part cs
conjuncts_stay s more part cs (both {x = x} {y = y} l r) = both (conjuncts_stay s more x _ l) (conjuncts_stay s more y _ r)
conjuncts_stay s more part cs (single one means at) = single one (meaning_stays s more part _ means) at

pub conjuncts_judged : (s : Names) (more : List (List ℕ)) (part : Tree) (cs : List Constraint) → AreConjuncts s part cs → judged (widened s more) part ≡ judged s part
conjuncts_judged s more part cs (both {at = at} {sign = sign} {x = x} {y = y} l r) =
    of_binary (judge (widened s more)) at signs.And sign x y
    ∙ binary_stays s more at sign signs.And x y (conjuncts_judged s more x _ l) (conjuncts_judged s more y _ r) ∙ sym (of_binary (judge s) at signs.And sign x y)
conjuncts_judged s more part cs (single one means at) = judgement_stays s more part _ means

-- so are the data of a crc
pub data_stay : (s : Names) (more : List (List ℕ)) (part : Tree) (d : CrcData) → IsData s part d → IsData (widened s more) part d
data_stay s more part d h = record { at = h.at; means = meaning_stays s more part _ h.means }

pub data_judged : (s : Names) (more : List (List ℕ)) (part : Tree) (d : CrcData) → IsData s part d → data_fault (widened s more) part ≡ data_fault s part
data_judged s more part d h =
    ap (λ (j : Judgement). option_or j.fault (cond (is_data part) None (Some (wrong_kind j.place)))) (judgement_stays s more part _ h.means)
