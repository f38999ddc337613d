-- What has a meaning has no fault: the arguments of encodings, brackets and conditions.
use Rattle.std.proofs.Common.{◌≡◌, ◌∙◌, ap, ℕ, eq-eqb, true, false, cond, List, [], ◌∷◌, Option, Some, None, fold, length, refl, sym, subst}
use Rattle.std.specs.Prelude.{is_some}
use Rattle.std.specs.List.{AllZip}
use Rattle.std.specs.Option.{option_map, option_or}
use Rattle.text_source.specs.declared.span.Span.{Span}
use Rattle.text_tree.specs.declared.tree.Attribute.TheVariants as words
use Rattle.text_tree.specs.declared.tree.Bracket.{Bracket}
use Rattle.text_tree.specs.declared.tree.Encoding.{Encoding as TreeEncoding}
use Rattle.text_tree.specs.declared.tree.Expr.{Expr as Tree}
use Rattle.text_tree.specs.declared.tree.Expr.TheVariants.{rolls-Number, rolls-Negative, rolls-Truth, rolls-Name, rolls-Attribute, rolls-Group, rolls-Not, rolls-Binary}
use Rattle.text_tree.specs.declared.tree.Expr.TheFolds.{fold-roll-Expr}
use Rattle.text_tree.specs.declared.tree.Item.{Item}
use Rattle.text_tree.specs.declared.tree.Operator.TheVariants.{And}
use Rattle.sem_expr.specs.declared.expr.Cond.{Cond}
use Rattle.sem_expr.specs.declared.expr.Expr.{Expr}
use Rattle.sem_expr.specs.declared.expr.Expr.TheVariants as exprs
use Rattle.sem_expr.specs.declared.expr.Side.{Side}
use Rattle.sem_profile.specs.declared.fault.ProfileFault.{ProfileFault}
use Rattle.sem_profile.specs.declared.profile.Constraint.{Constraint}
use Rattle.sem_profile.specs.declared.profile.CrcArguments.{CrcArguments}
use Rattle.sem_profile.specs.declared.profile.Encoding.{Encoding}
use Rattle.sem_profile.specs.Precedence.{earlier}
use Rattle.text_statements.specs.declared.crc_data.CrcData.{CrcData}
use Rattle.text_statements.specs.declared.term.TermKind.TheVariants as kinds
use Rattle.text_statements.specs.declared.term.Term.{Term}
use Rattle.text_statements.specs.declared.term.Term.TheVariants.{Number, Truth}
use Rattle.text_statements.specs.Conjuncts as conjuncts
use Rattle.text_statements.specs.Conjuncts.{AreConjuncts}
use Rattle.text_statements.specs.CrcData.{IsData, is_data, data_fault, named}
use Rattle.text_statements.specs.Judged.{Judgement, wrong_kind, judged, fault_of, first_of}
use Rattle.text_statements.specs.Means as means
use Rattle.text_statements.specs.Names.{Names, index_of, number_named}
use Rattle.text_statements.specs.declared.arguments.Pair.{Pair}
use Rattle.text_statements.specs.declared.callee.Callee.{Callee}
use Rattle.text_statements.specs.declared.callee.Callee.TheVariants as callees
use Rattle.text_statements.specs.declared.callee.Methods.{Methods}
use Rattle.text_statements.specs.Arguments.{IsNumber, AreCrc, are_crc, wrong_count, count_fault, numbers_fault, crc_fault}
use Rattle.text_statements.specs.Callees.{arity}
use Rattle.text_statements.specs.Constraints.{BracketMeans, OptionalMeans, ItemMeans, bracket_fault, optional_fault, item_fault}
use Rattle.text_statements.specs.Constraints as statements
use Rattle.text_statements.specs.Encodings.{Calls, Means, call_fault, callee_fault}
use Rattle.text_statements.specs.Encodings as encodings
use Rattle.text_methods.specs.Constraints.{Statement, AreNumbered, none, more, statement_fault}
use Rattle.text_methods.specs.Encodings.{GivenMeans, given_fault}
use Rattle.text_methods.specs.Encodings as formats
use Rattle.text_resolve.proofs.PlainForms.{means_free, wanted_none}

-- ---- numbers

number_right : (s : Names) → s.has_attributes ≡ true → (part : Tree) (e : Expr) → IsNumber s part e → fault_of kinds.Number s part ≡ None
number_right s has part e h = let free = means_free s has part (Number e) h in wanted_none kinds.Number (judged s part) free.0 free.1

truth_right : (s : Names) → s.has_attributes ≡ true → (part : Tree) (c : Cond) → means.Means s part (Truth c) → ((judged s part).fault ≡ None) × ((judged s part).kind ≡ kinds.Truth)
truth_right s has part c h = means_free s has part (Truth c) h

all_right : (s : Names) → s.has_attributes ≡ true → (xs : List Tree) (es : List Expr) → AllZip (IsNumber s) xs es → first_of (fault_of kinds.Number s) xs ≡ None
all_right s has [] [] all = refl
all_right s has [] (e ∷ es) all = absurd all
all_right s has (x ∷ xs) [] all = absurd all
all_right s has (x ∷ xs) (e ∷ es) all = λ i. option_or (number_right s has x e all.0 i) (all_right s has xs es all.1 i)

count_right : (name : Span) (count : ℕ) (xs : List Tree) → length xs ≡ count → count_fault name count xs ≡ None
count_right name count xs e = ap (λ b. cond b None (Some (wrong_count name))) (eq-eqb (length xs) count e)

numbers_right : (s : Names) → s.has_attributes ≡ true → (name : Span) (count : ℕ) (xs : List Tree) (es : List Expr) → length xs ≡ count → AllZip (IsNumber s) xs es → numbers_fault s name count xs ≡ None
numbers_right s has name count xs es e all = λ i. option_or (count_right name count xs e i) (all_right s has xs es all i)

pair_right : (s : Names) → s.has_attributes ≡ true → (name : Span) (xs : List Tree) (x y : Tree) (p : Pair) → xs ≡ x ∷ y ∷ [] → IsNumber s x p.first → IsNumber s y p.second → numbers_fault s name 2 xs ≡ None
pair_right s has name xs x y p e first second =
    numbers_right s has name 2 xs (p.first ∷ p.second ∷ []) (ap length e) (subst (λ l. AllZip (IsNumber s) l (p.first ∷ p.second ∷ [])) (sym e) (first, (second, tt)))

-- ---- the data of a crc

no_plain : (at : Span) (e : Expr) (p : Option ℕ) (v : Option _) → option_or (option_map (λ i. exprs.Parameter at i) p) (option_map (λ n. exprs.Number at n) v) ≡ Some e → is_some (named (Number e)) ≡ false
no_plain at e (Some i) v is = let same : exprs.Parameter at i ≡ e = cc in ap (λ x. is_some (named (Number x))) (sym same)
no_plain at e None (Some n) is = let same : exprs.Number at n ≡ e = cc in ap (λ x. is_some (named (Number x))) (sym same)
no_plain at e None None is = absurd cc

typed : (s : Names) (part : Tree) (m : Term) → means.Means s part m → is_data part ≡ is_some (named m)
typed s part m (means.number {at = at} {n = n}) = ap is_data (sym (rolls-Number at n)) ∙ fold-roll-Expr _ _ _
typed s part m (means.negative {at = at} {n = n}) = ap is_data (sym (rolls-Negative at n)) ∙ fold-roll-Expr _ _ _
typed s part m (means.truth {at = at} {b = b}) = ap is_data (sym (rolls-Truth at b)) ∙ fold-roll-Expr _ _ _
typed s part m (means.name {at = at} {e = e} is) = ap is_data (sym (rolls-Name at)) ∙ (fold-roll-Expr _ _ _ ∙ sym (no_plain at e (index_of s.text s.parameters at) (number_named s at) is))
typed s part m (means.attribute {at = at} {owner = owner} {which = words.Uvalue} has is) = ap is_data (sym (rolls-Attribute at owner words.Uvalue)) ∙ fold-roll-Expr _ _ _
typed s part m (means.attribute {at = at} {owner = owner} {which = words.Cvalue} has is) = ap is_data (sym (rolls-Attribute at owner words.Cvalue)) ∙ fold-roll-Expr _ _ _
typed s part m (means.attribute {at = at} {owner = owner} {which = words.Ulength} has is) = ap is_data (sym (rolls-Attribute at owner words.Ulength)) ∙ fold-roll-Expr _ _ _
typed s part m (means.attribute {at = at} {owner = owner} {which = words.Clength} has is) = ap is_data (sym (rolls-Attribute at owner words.Clength)) ∙ fold-roll-Expr _ _ _
typed s part m (means.group {at = at} {x = x} h) = ap is_data (sym (rolls-Group at x)) ∙ (fold-roll-Expr _ _ _ ∙ typed s x m h)
typed s part m (means.denial {at = at} {x = x} h) = ap is_data (sym (rolls-Not at x)) ∙ fold-roll-Expr _ _ _
typed s part m (means.arithmetic {at = at} {sign = sign} {operator = operator} {x = x} {y = y} is h k) = ap is_data (sym (rolls-Binary at operator sign x y)) ∙ fold-roll-Expr _ _ _
typed s part m (means.comparison {at = at} {sign = sign} {operator = operator} {x = x} {y = y} is h k) = ap is_data (sym (rolls-Binary at operator sign x y)) ∙ fold-roll-Expr _ _ _
typed s part m (means.conjunction {at = at} {sign = sign} {operator = operator} {x = x} {y = y} is h k) = ap is_data (sym (rolls-Binary at operator sign x y)) ∙ fold-roll-Expr _ _ _
typed s part m (means.disjunction {at = at} {sign = sign} {operator = operator} {x = x} {y = y} is h k) = ap is_data (sym (rolls-Binary at operator sign x y)) ∙ fold-roll-Expr _ _ _

data_right : (s : Names) → s.has_attributes ≡ true → (part : Tree) (d : CrcData) → IsData s part d → data_fault s part ≡ None
data_right s has part d is =
    let free = means_free s has part _ is.means in
    let known : is_data part ≡ true = typed s part _ is.means in
    λ i. option_or (free.0 i) (cond (known i) None (Some (wrong_kind (judged s part).place)))

crc_right : (s : Names) → s.has_attributes ≡ true → (name : Span) (xs : List Tree) (c : CrcArguments) → AreCrc s xs c → crc_fault s name xs ≡ None
crc_right s has name xs c (are_crc {bits = b} {polynomial = p} {initial = j} {data_part = d} {length_part = l} five) =
    let of_bits = number_right s has b c.bits five.bits_is in
    let of_polynomial = number_right s has p c.polynomial five.polynomial_is in
    let of_initial = number_right s has j c.initial five.initial_is in
    let of_data = data_right s has d _ five.data_is in
    let of_length = number_right s has l c.length five.length_is in
    λ i. option_or (of_bits i) (option_or (of_polynomial i) (option_or (of_initial i) (option_or (of_data i) (of_length i))))

-- ---- encodings

call_right : (s : Names) → s.has_attributes ≡ true → (methods : Methods) (name : Span) (c : Callee) (xs : List Tree) (r : Encoding) → Calls s methods c xs r → call_fault s methods name c xs ≡ None
call_right s has methods name c xs r (encodings.uncompressed_value p are) = pair_right s has name xs are.0 are.1 p are.2 are.3 are.4
call_right s has methods name c xs r (encodings.compressed_value p are) = pair_right s has name xs are.0 are.1 p are.2 are.3 are.4
call_right s has methods name c xs r (encodings.irregular {e = e} is) =
    numbers_right s has name 1 xs (e ∷ []) (ap length is.1) (subst (λ l. AllZip (IsNumber s) l (e ∷ [])) (sym is.1) (is.2, tt))
call_right s has methods name c xs r (encodings.static are) = count_right name 0 xs (ap length are)
call_right s has methods name c xs r (encodings.lsb p are) = pair_right s has name xs are.0 are.1 p are.2 are.3 are.4
call_right s has methods name c xs r (encodings.crc {c = d} are) = crc_right s has name xs d are
call_right s has methods name c xs r (encodings.own {k = k} {es = es} are) = numbers_right s has name (arity methods (callees.Own k)) xs es are.0 are.1

encoding_right : (s : Names) → s.has_attributes ≡ true → (methods : Methods) (e : TreeEncoding) (r : Encoding) → Means s methods e r → encodings.fault_of s methods e ≡ None
encoding_right s has methods e r encodings.bits = refl
encoding_right s has methods e r (encodings.call {name = name} {arguments = xs} c known calls) = ap (λ o. callee_fault s methods name o xs) known ∙ call_right s has methods name c xs r calls

pub given_right : (s : Names) → s.has_attributes ≡ true → (methods : Methods) (o : Option TreeEncoding) (r : Encoding) → GivenMeans s methods o r → given_fault s methods o ≡ None
given_right s has methods o r formats.bare = refl
given_right s has methods o r (formats.encoded {e = e} h) = encoding_right s has methods e r h

-- ---- constraints

conjuncts_right : (s : Names) → s.has_attributes ≡ true → (part : Tree) (cs : List Constraint) → AreConjuncts s part cs → ((judged s part).fault ≡ None) × ((judged s part).kind ≡ kinds.Truth)
conjuncts_right s has part cs (conjuncts.both {at = at} {sign = sign} {x = x} {y = y} {left = ls} {right = rs} h k) =
    let first = conjuncts_right s has x ls h in
    let second = conjuncts_right s has y rs k in
    let is = ap (judged s) (sym (rolls-Binary at And sign x y)) ∙ fold-roll-Expr _ _ _ in (
      ap (λ (j : Judgement). j.fault) is ∙ (λ i. option_or (wanted_none kinds.Truth (judged s x) first.0 first.1 i) (wanted_none kinds.Truth (judged s y) second.0 second.1 i)),
      ap (λ (j : Judgement). j.kind) is,
    )
conjuncts_right s has part cs (conjuncts.single {c = c} other h at) = truth_right s has part c h

bracket_right : (s : Names) → s.has_attributes ≡ true → (side : Side) (name : Span) (b : Bracket) (cs : List Constraint) → BracketMeans s side name b cs → bracket_fault s b ≡ None
bracket_right s has side name b cs statements.variable = refl
bracket_right s has side name b cs (statements.lengths {parts = xs} es all) = all_right s has xs es all

optional_right : (s : Names) → s.has_attributes ≡ true → (side : Side) (name : Span) (b : Option Bracket) (cs : List Constraint) → OptionalMeans s side name b cs → optional_fault s b ≡ None
optional_right s has side name b cs statements.no_bracket = refl
optional_right s has side name b cs (statements.with_bracket {b = inner} h) = bracket_right s has side name inner cs h

item_right : (s : Names) → s.has_attributes ≡ true → (side : Side) (item : Item) (cs : List Constraint) → ItemMeans s side item cs → item_fault s item ≡ None
item_right s has side item cs (statements.field {name = name} {bracket = b} h) = optional_right s has side name b cs h
item_right s has side item cs (statements.bound {b = b} h) = optional_right s has side b.name b.bracket cs h
item_right s has side item cs (statements.enforced {condition = condition} h) =
    let free = conjuncts_right s has condition cs h in wanted_none kinds.Truth (judged s condition) free.0 free.1

abbrev pub folded_faults : Names → Option ProfileFault → List Statement → Option ProfileFault
folded_faults s o xs = fold (λ found x. earlier found (statement_fault s x)) o xs

pub numbered_right : (s : Names) → s.has_attributes ≡ true → (xs : List Statement) (cs : List Constraint) → AreNumbered s xs cs → (o : Option ProfileFault) → o ≡ None → folded_faults s o xs ≡ None
numbered_right s has xs cs none o e = e
numbered_right s has xs cs (more {x = x} {xs = rest} {cs = first} {ds = ds} h others) o e =
    numbered_right s has rest ds others (earlier o (statement_fault s x)) (λ i. earlier (e i) (item_right s has x.side x.item first h i))
