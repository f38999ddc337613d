-- The methods of a file have one normal form, up to boxes.
use Rattle.std.proofs.Common.{◌≡◌, ◌∙◌, ap, ℕ, ◌+◌, ℤ, Bool, true, false, cond, List, [], ◌∷◌, ◌++◌, Option, Some, None, Result, Ok, Err, drop, get_or, length, map, refl, sym, subst, arith}
use Rattle.std.specs.Prelude.{slice_get}
use Rattle.std.specs.Option.{option_map, option_or}
use Rattle.std.specs.Result.{result_err}
use Rattle.text_source.specs.declared.span.Span.{Span}
use Rattle.text_tree.specs.declared.tree.Bound.{Bound}
use Rattle.text_tree.specs.declared.tree.Bracket.{Bracket}
use Rattle.text_tree.specs.declared.tree.Constant.{Constant}
use Rattle.text_tree.specs.declared.tree.Encoding.{Encoding as TreeEncoding}
use Rattle.text_tree.specs.declared.tree.Encoding.TheVariants as trees
use Rattle.text_tree.specs.declared.tree.Expr.{Expr as Tree}
use Rattle.text_tree.specs.declared.tree.Expr.TheVariants.{rolls-Number, rolls-Negative, rolls-Truth, rolls-Name, rolls-Attribute, rolls-Group, rolls-Not, rolls-Binary}
use Rattle.text_tree.specs.declared.tree.Expr.TheFolds.{fold-roll-Expr}
use Rattle.text_tree.specs.declared.tree.Item.{Item}
use Rattle.text_tree.specs.declared.tree.Item.TheVariants as items
use Rattle.text_tree.specs.declared.tree.Method.{Method as TreeMethod}
use Rattle.text_tree.specs.declared.tree.Owner.{Owner}
use Rattle.text_tree.specs.declared.tree.Owner.TheVariants as owners
use Rattle.text_tree.specs.declared.tree.Section.{Section}
use Rattle.text_tree.specs.Spans.{span_of}
use Rattle.sem_expr.specs.declared.expr.Subject.{Subject}
use Rattle.sem_expr.specs.declared.fault.RangeFault.{RangeFault}
use Rattle.sem_expr.specs.declared.interval.Interval.{Interval}
use Rattle.sem_library.specs.Methods.{Spells, uncompressed_value}
use Rattle.sem_library.proofs.MethodsSolutions.{one_up}
use Rattle.sem_profile.specs.declared.fault.ProfileFault.{ProfileFault}
use Rattle.sem_profile.specs.declared.profile.Format.{Format}
use Rattle.sem_profile.specs.declared.profile.Method.{Method}
use Rattle.sem_profile.specs.Words.{word, is_new, with_word}
use Rattle.text_sections.specs.declared.mention.Mention.{Mention}
use Rattle.text_sections.specs.declared.mention.Group.TheVariants as groups
use Rattle.text_sections.specs.Mentions.{is_in}
use Rattle.text_statements.specs.declared.term.TermKind.{TermKind}
use Rattle.text_statements.specs.declared.term.TermKind.TheVariants as kinds
use Rattle.text_statements.specs.declared.term.Term.{Term}
use Rattle.text_statements.specs.declared.term.Term.TheVariants.{Number, Truth}
use Rattle.text_statements.specs.Constants.{evaluated_by, IsValue, ValueFault, ill_formed, valueless, earlier, AreValues, no_values, next_value}
use Rattle.text_statements.specs.Judged.{Judgement, wanted, differing, if_allowed, unless_known, owner_fault, range_fault, name_judgement, operator_judgement, judged}
use Rattle.text_statements.specs.Means as means
use Rattle.text_statements.specs.Names.{Names, names, plain, subject_of}
use Rattle.text_statements.specs.Ranges.{of_range}
use Rattle.text_statements.specs.declared.callee.Methods.{Methods}
use Rattle.text_statements.specs.Initial.{AreArguments, are_arguments, IsEncoded, is_encoded}
use Rattle.text_statements.specs.declared.method.Givens.{Givens}
use Rattle.text_statements.specs.Asked.{control_items, only_length, is_set, IsAsked, is_asked, IsNotAsked, encoded, enforces, no_length, no_constant, enforced, AreAsked, no_items, asks, asks_none}
use Rattle.text_statements.specs.Enforced.{set_names}
use Rattle.text_statements.specs.Givens.{AreGiven}
use Rattle.text_statements.specs.Initials.{bounds_in, AreInitials, first, again}
use Rattle.text_statements.specs.Initials as initials
use Rattle.text_methods.specs.declared.drafts.Setting.{Setting}
use Rattle.text_methods.specs.declared.methods.FileSetting.{FileSetting}
use Rattle.text_methods.specs.MethodFormats.{AreFormats, no_sections, gives, gives_none}
use Rattle.text_methods.specs.Methods.{bare_scope, distinct_words, IsMethod}
use Rattle.sem_graph.proofs.OrderPushing.{some_is, get_last, pushed_length}
use Rattle.text_resolve.specs.Methods.{constant_mentions, is_at, AreMethods, no_methods, a_method}
use Rattle.text_resolve.specs.Parts.{constants_of, constant_names, methods_of}
use Rattle.text_resolve.specs.Plain.{PlainFormat, plain_format, plain_method, OneForm}
use Rattle.text_resolve.proofs.MethodsAskedLengths.{name_in}
use Rattle.text_resolve.proofs.PlainFormats.{Ground, ground_of, format_form, format_is}
use Rattle.text_resolve.proofs.MethodsTreeValues.{Outcome, meant, constant_meant, evaluated_constant}

-- ---- lists that end alike

abbrev pub front : {X : Type 0} → List X → List X
front [] = []
front (x ∷ []) = []
front (x ∷ y ∷ ys) = x ∷ front (y ∷ ys)

pub front_of : {X : Type 0} (xs : List X) (x : X) → front (xs ++ x ∷ []) ≡ xs
front_of [] x = refl
front_of (y ∷ []) x = refl
front_of (y ∷ z ∷ zs) x = ap (λ ys. y ∷ ys) (front_of (z ∷ zs) x)

pub same_front : {X : Type 0} (xs ys : List X) (x y : X) → xs ++ x ∷ [] ≡ ys ++ y ∷ [] → xs ≡ ys
same_front xs ys x y e = sym (front_of xs x) ∙ (ap front e ∙ front_of ys y)

pub same_last : {X : Type 0} (xs ys : List X) (x y : X) → xs ++ x ∷ [] ≡ ys ++ y ∷ [] → x ≡ y
same_last xs ys x y e = some_is (sym (get_last xs x) ∙ ((λ i. slice_get (e i) (length (same_front xs ys x y e i))) ∙ get_last ys y))

not_empty : {X : Type 0} (xs : List X) (x : X) → [] ≡ xs ++ x ∷ [] → ⊥
not_empty xs x e = omega (arith, ap length e, pushed_length xs x)

-- ---- constants

pub value_one : (s : Names) (part : Tree) (v w : ℤ) → IsValue s part v → IsValue s part w → v ≡ w
value_one s part v w a b =
    let constants = constant_meant (plain s) s (λ at. refl) part a.expr a.means ∙ sym (constant_meant (plain s) s (λ at. refl) part b.expr b.means) in
    some_is (sym (evaluated_constant (span_of part) a.expr v a.value) ∙ (constants ∙ evaluated_constant (span_of part) b.expr w b.value))

pub values_one : (text : List ℕ) (ns : List (List ℕ)) (cs ds : List Constant) (vs ws : List ℤ) → cs ≡ ds → AreValues text ns cs vs → AreValues text ns ds ws → vs ≡ ws
values_one text ns cs ds vs ws e no_values no_values = refl
values_one text ns cs ds vs ws e no_values (next_value {constants = others} d b is) = absurd (not_empty others d e)
values_one text ns cs ds vs ws e (next_value {constants = before} c a is) no_values = absurd (not_empty before c (sym e))
values_one text ns cs ds vs ws e (next_value {constants = before} {values = front_values} c {v = v} a is_v) (next_value {constants = others} {values = other_values} d {v = w} b is_w) =
    let one_constant = same_last before others c d e in
    let same = values_one text ns before others front_values other_values (same_front before others c d e) a b in
    let moved = subst (λ (z : Constant). IsValue (earlier text ns front_values) z.value w) (sym one_constant) (subst (λ zs. IsValue (earlier text ns zs) d.value w) (sym same) is_w) in
    let last_value = value_one (earlier text ns front_values) c.value v w is_v moved in
    λ i. same i ++ last_value i ∷ []

-- ---- the values of INITIAL

arguments_one : (s : Names) (xs ys : List Tree) (a b : List Bool) → xs ≡ ys → AreArguments s xs a → AreArguments s ys b → a ≡ b
arguments_one s xs ys a b e (are_arguments {x = x} {y = y} count value is_count is_value spelled) (are_arguments {x = x2} {y = y2} count2 value2 is_count2 is_value2 spelled2) =
    let first_part : x ≡ x2 = ap (λ l. get_or l 0 x) e in
    let second_part : y ≡ y2 = ap (λ l. get_or l 1 y) e in
    let counts = value_one s x count count2 is_count (subst (λ z. IsValue s z count2) (sym first_part) is_count2) in
    let values = value_one s y value value2 is_value (subst (λ z. IsValue s z value2) (sym second_part) is_value2) in
    let moved = subst (λ z. Spells count z b) (sym values) (subst (λ z. Spells z value2 b) (sym counts) spelled2) in
    one_up (uncompressed_value count value) None a b [] (spelled, refl) (moved, refl)

abbrev arguments_in : TreeEncoding → List Tree
arguments_in (trees.Call name arguments) = arguments
arguments_in (trees.Bits at count value) = []

encoded_one : (s : Names) (e f : TreeEncoding) (a b : List Bool) → e ≡ f → IsEncoded s e a → IsEncoded s f b → a ≡ b
encoded_one s e f a b same (is_encoded {arguments = xs} named are) (is_encoded {arguments = ys} named2 are2) = arguments_one s xs ys a b (ap arguments_in same) are are2

initials_one : (s : Names) (bs cs : List Bound) (ns ms : List (List ℕ)) (vs ws : List (List Bool)) → bs ≡ cs → AreInitials s bs ns vs → AreInitials s cs ms ws → (ns ≡ ms) × (vs ≡ ws)
initials_one s bs cs ns ms vs ws e initials.no_values initials.no_values = (refl, refl)
initials_one s bs cs ns ms vs ws e initials.no_values (first {bs = others} c bits are new is) = absurd (not_empty others c e)
initials_one s bs cs ns ms vs ws e initials.no_values (again {bs = others} c bits are old is) = absurd (not_empty others c e)
initials_one s bs cs ns ms vs ws e (first {bs = before} b bits are new is) initials.no_values = absurd (not_empty before b (sym e))
initials_one s bs cs ns ms vs ws e (again {bs = before} b bits are old is) initials.no_values = absurd (not_empty before b (sym e))
initials_one s bs cs ns ms vs ws e (first {bs = before} {names = n} {values = v} b bits are new is) (first {bs = others} {names = m} {values = w} c bits2 are2 new2 is2) =
    let rest = initials_one s before others n m v w (same_front before others b c e) are are2 in
    let one_bound = same_last before others b c e in
    let one_value = encoded_one s b.encoding c.encoding bits bits2 (ap (λ (z : Bound). z.encoding) one_bound) is.encoded is2.encoded in
    (λ i. rest.0 i ++ word s.text (one_bound i).name ∷ [], λ i. rest.1 i ++ one_value i ∷ [])
initials_one s bs cs ns ms vs ws e (first {bs = before} {names = n} {values = v} b bits are new is) (again {bs = others} {names = m} {values = w} c bits2 are2 old2 is2) =
    let rest = initials_one s before others n m v w (same_front before others b c e) are are2 in
    let one_bound = same_last before others b c e in
    let wrong : true ≡ false = sym new ∙ ((λ i. is_new (rest.0 i) (word s.text (one_bound i).name)) ∙ old2) in
    absurd cc
initials_one s bs cs ns ms vs ws e (again {bs = before} {names = n} {values = v} b bits are old is) (first {bs = others} {names = m} {values = w} c bits2 are2 new2 is2) =
    let rest = initials_one s before others n m v w (same_front before others b c e) are are2 in
    let one_bound = same_last before others b c e in
    let wrong : false ≡ true = sym old ∙ ((λ i. is_new (rest.0 i) (word s.text (one_bound i).name)) ∙ new2) in
    absurd cc
initials_one s bs cs ns ms vs ws e (again {bs = before} {names = n} {values = v} b bits are old is) (again {bs = others} {names = m} {values = w} c bits2 are2 old2 is2) =
    initials_one s before others n m v w (same_front before others b c e) are are2

-- ---- what has a meaning has no fault

abbrev kind_of : Term → TermKind
kind_of (Number e) = kinds.Number
kind_of (Truth c) = kinds.Truth

same_kind : (k : TermKind) (at : Span) → differing k k at ≡ None
same_kind kinds.Number at = refl
same_kind kinds.Truth at = refl

pub wanted_none : (k : TermKind) (j : Judgement) → j.fault ≡ None → j.kind ≡ k → wanted k j ≡ None
wanted_none k j fine is = (λ i. option_or (fine i) (differing k (is i) j.place)) ∙ same_kind k j.place

range_free : (s : Names) (r : Result Interval RangeFault) → s.has_attributes ≡ true → range_fault s r ≡ None
range_free s r has = ap (λ b. cond b None (option_map of_range (result_err r))) has

pub owner_known : (s : Names) (owner : Owner) (whose : Subject) → subject_of s owner ≡ Some whose → owner_fault s owner ≡ None
owner_known s owners.This whose is = refl
owner_known s (owners.Field name) whose is = ap (unless_known name) is

abbrev IsFree : Names → Tree → Term → Type 0
IsFree s part m = ((judged s part).fault ≡ None) × ((judged s part).kind ≡ kind_of m)

free_as : (s : Names) (part : Tree) (m : Term) (j : Judgement) → judged s part ≡ j → j.fault ≡ None → j.kind ≡ kind_of m → IsFree s part m
free_as s part m j e fine is = (ap (λ (z : Judgement). z.fault) e ∙ fine, ap (λ (z : Judgement). z.kind) e ∙ is)

pub both_none : (a b c : Option ProfileFault) → a ≡ None → b ≡ None → c ≡ None → option_or (option_or a b) c ≡ None
both_none a b c p q r = λ i. option_or (option_or (p i) (q i)) (r i)

pub means_free : (s : Names) → s.has_attributes ≡ true → (part : Tree) (m : Term) → means.Means s part m → IsFree s part m
means_free s has part m (means.number {at = at} {n = n}) = free_as s part m _ (ap (judged s) (sym (rolls-Number at n)) ∙ fold-roll-Expr _ _ _) (range_free s _ has) refl
means_free s has part m (means.negative {at = at} {n = n}) = free_as s part m _ (ap (judged s) (sym (rolls-Negative at n)) ∙ fold-roll-Expr _ _ _) (range_free s _ has) refl
means_free s has part m (means.truth {at = at} {b = b}) = free_as s part m _ (ap (judged s) (sym (rolls-Truth at b)) ∙ fold-roll-Expr _ _ _) refl refl
means_free s has part m (means.name {at = at} {e = e} is) =
    free_as s part m (name_judgement s at (Some e)) (ap (judged s) (sym (rolls-Name at)) ∙ (fold-roll-Expr _ _ _ ∙ ap (name_judgement s at) is)) (range_free s _ has) refl
means_free s has part m (means.attribute {at = at} {owner = owner} {which = which} {whose = whose} allowed is) =
    free_as s part m _ (ap (judged s) (sym (rolls-Attribute at owner which)) ∙ fold-roll-Expr _ _ _) (λ i. if_allowed (has i) at (owner_known s owner whose is i)) refl
means_free s has part m (means.group {at = at} {x = x} h) =
    let inner = means_free s has x m h in
    free_as s part m (judged s x) (ap (judged s) (sym (rolls-Group at x)) ∙ fold-roll-Expr _ _ _) inner.0 inner.1
means_free s has part m (means.denial {at = at} {x = x} {c = c} h) =
    let inner = means_free s has x (Truth c) h in
    free_as s part m _ (ap (judged s) (sym (rolls-Not at x)) ∙ fold-roll-Expr _ _ _) (wanted_none kinds.Truth (judged s x) inner.0 inner.1) refl
means_free s has part m (means.arithmetic {at = at} {sign = sign} {operator = operator} {x = x} {y = y} {l = l} {r = r} is h k) =
    let left_part = means_free s has x (Number l) h in
    let right_part = means_free s has y (Number r) k in
    free_as s part m _ (ap (judged s) (sym (rolls-Binary at operator sign x y)) ∙ (fold-roll-Expr _ _ _ ∙ (λ i. operator_judgement s at (is i) (judged s x) (judged s y))))
    (both_none _ _ _ (wanted_none kinds.Number (judged s x) left_part.0 left_part.1) (wanted_none kinds.Number (judged s y) right_part.0 right_part.1) (range_free s _ has)) refl
means_free s has part m (means.comparison {at = at} {sign = sign} {operator = operator} {x = x} {y = y} {l = l} {r = r} is h k) =
    let left_part = means_free s has x (Number l) h in
    let right_part = means_free s has y (Number r) k in
    free_as s part m _ (ap (judged s) (sym (rolls-Binary at operator sign x y)) ∙ (fold-roll-Expr _ _ _ ∙ (λ i. operator_judgement s at (is i) (judged s x) (judged s y))))
    (λ i. option_or (wanted_none kinds.Number (judged s x) left_part.0 left_part.1 i) (wanted_none kinds.Number (judged s y) right_part.0 right_part.1 i)) refl
means_free s has part m (means.conjunction {at = at} {sign = sign} {operator = operator} {x = x} {y = y} {c = c} {d = d} is h k) =
    let left_part = means_free s has x (Truth c) h in
    let right_part = means_free s has y (Truth d) k in
    free_as s part m _ (ap (judged s) (sym (rolls-Binary at operator sign x y)) ∙ (fold-roll-Expr _ _ _ ∙ (λ i. operator_judgement s at (is i) (judged s x) (judged s y))))
    (λ i. option_or (wanted_none kinds.Truth (judged s x) left_part.0 left_part.1 i) (wanted_none kinds.Truth (judged s y) right_part.0 right_part.1 i)) refl
means_free s has part m (means.disjunction {at = at} {sign = sign} {operator = operator} {x = x} {y = y} {c = c} {d = d} is h k) =
    let left_part = means_free s has x (Truth c) h in
    let right_part = means_free s has y (Truth d) k in
    free_as s part m _ (ap (judged s) (sym (rolls-Binary at operator sign x y)) ∙ (fold-roll-Expr _ _ _ ∙ (λ i. operator_judgement s at (is i) (judged s x) (judged s y))))
    (λ i. option_or (wanted_none kinds.Truth (judged s x) left_part.0 left_part.1 i) (wanted_none kinds.Truth (judged s y) right_part.0 right_part.1 i)) refl

-- a part with a value has no fault of one without
pub value_no_fault : (s : Names) (part : Tree) (v : ℤ) (f : ProfileFault) → s.has_attributes ≡ true → IsValue s part v → ValueFault s part f → ⊥
value_no_fault s part v f has is (ill_formed e) =
    let free = means_free s has part (Number is.expr) is.means in
    let wrong : None ≡ Some f = sym (wanted_none kinds.Number (judged s part) free.0 free.1) ∙ e in
    absurd cc
value_no_fault s part v f has is (valueless {e = other} means_other refused) =
    let alike = sym (meant (plain s) s (λ at. refl) part (Number other) means_other) ∙ meant (plain s) s (λ at. refl) part (Number is.expr) is.means in
    let wrong : Err f ≡ Ok v = sym refused ∙ (ap (λ (o : Outcome). evaluated_by (span_of part) o.value o.range) alike ∙ is.value) in
    absurd cc

-- ---- asked fields

abbrev bracket_in : Item → Option Bracket
bracket_in (items.Field name b) = b
bracket_in (items.Bound b) = b.bracket
bracket_in (items.Enforce at condition) = None

conflict : (s : Names) (set : List (List ℕ)) (item other : Item) (span : Span) → s.has_attributes ≡ true → item ≡ other → IsAsked s set item span → IsNotAsked s set other → ⊥
conflict s set item other span has e (is_asked {name = name} {bracket = b} part v only is free) (encoded {b = bound}) = let wrong : items.Field name b ≡ items.Bound bound = e in absurd cc
conflict s set item other span has e (is_asked {name = name} {bracket = b} part v only is free) (enforces {at = at} {condition = condition}) =
    let wrong : items.Field name b ≡ items.Enforce at condition = e in absurd cc
conflict s set item other span has e (is_asked {name = name} {bracket = b} part v only is free) (no_length {bracket = c} none) =
    let wrong : Some part ≡ None = sym only ∙ (ap only_length (ap bracket_in e) ∙ none) in absurd cc
conflict s set item other span has e (is_asked {name = name} {bracket = b} part v only is free) (no_constant {bracket = c} part2 f only2 fault) =
    let same : part ≡ part2 = some_is (sym only ∙ (ap only_length (ap bracket_in e) ∙ only2)) in
    value_no_fault s part2 v f has (subst (λ z. IsValue s z v) same is) fault
conflict s set item other span has e (is_asked {name = name} {bracket = b} part v only is free) (enforced {name = name2} there) =
    let same : name ≡ name2 = some_is (ap name_in e) in
    let wrong : false ≡ true = sym free ∙ (ap (λ n. is_set set (word s.text n)) same ∙ there) in
    absurd cc

asked_name : (s : Names) (set : List (List ℕ)) (item : Item) (span : Span) → IsAsked s set item span → name_in item ≡ Some span
asked_name s set item span (is_asked part v only is free) = refl

asked_one : (s : Names) (set : List (List ℕ)) (xs ys : List Item) (ns ms : List (List ℕ)) → s.has_attributes ≡ true → xs ≡ ys → AreAsked s set xs ns → AreAsked s set ys ms → ns ≡ ms
asked_one s set xs ys ns ms has e no_items no_items = refl
asked_one s set xs ys ns ms has e no_items (asks {statements = others} item span are is) = absurd (not_empty others item e)
asked_one s set xs ys ns ms has e no_items (asks_none {statements = others} item are is) = absurd (not_empty others item e)
asked_one s set xs ys ns ms has e (asks {statements = before} item span are is) no_items = absurd (not_empty before item (sym e))
asked_one s set xs ys ns ms has e (asks_none {statements = before} item are is) no_items = absurd (not_empty before item (sym e))
asked_one s set xs ys ns ms has e (asks {statements = before} {names = n} item span are is) (asks {statements = others} {names = m} item2 span2 are2 is2) =
    let rest = asked_one s set before others n m has (same_front before others item item2 e) are are2 in
    let one_item = same_last before others item item2 e in
    let one_span : span ≡ span2 = some_is (sym (asked_name s set item span is) ∙ (ap name_in one_item ∙ asked_name s set item2 span2 is2)) in
    λ i. with_word (rest i) (word s.text (one_span i))
asked_one s set xs ys ns ms has e (asks {statements = before} item span are is) (asks_none {statements = others} item2 are2 not2) =
    absurd (conflict s set item item2 span has (same_last before others item item2 e) is not2)
asked_one s set xs ys ns ms has e (asks_none {statements = before} item are not_asked) (asks {statements = others} item2 span2 are2 is2) =
    absurd (conflict s set item2 item span2 has (sym (same_last before others item item2 e)) is2 not_asked)
asked_one s set xs ys ns ms has e (asks_none {statements = before} {names = n} item are not_asked) (asks_none {statements = others} {names = m} item2 are2 not2) =
    asked_one s set before others n m has (same_front before others item item2 e) are are2

asked_alike : (s : Names) (sections : List Section) (is_top : Bool) (g h : Givens) → s.has_attributes ≡ true → AreGiven s sections is_top g → AreGiven s sections is_top h → g.asked ≡ h.asked
asked_alike s sections true g h has a b = asked_one s (set_names s.text (control_items sections)) (control_items sections) (control_items sections) g.asked h.asked has refl (a.asked refl) (b.asked refl)
asked_alike s sections false g h has a b = a.inner refl ∙ sym (b.inner refl)

-- ---- methods

abbrev formats_form : Ground → ℕ → List Section → List PlainFormat
formats_form g k [] = []
formats_form g k (s ∷ ss) = cond (is_in groups.Formats s.kind) (format_form g k s ∷ formats_form g (k + 1) ss) (formats_form g (k + 1) ss)

formats_are : (x : Setting) (k : ℕ) (sections : List Section) (fs : List Format) → AreFormats x k sections fs → map plain_format fs ≡ formats_form (ground_of x) k sections
formats_are x k sections fs no_sections = refl
formats_are x k sections fs (gives {section = s} {sections = ss} {format = f} {formats = more} kind form rest) =
    (λ i. format_is x k s f form i ∷ formats_are x (k + 1) ss more rest i)
    ∙ ap (λ b. cond b (format_form (ground_of x) k s ∷ formats_form (ground_of x) (k + 1) ss) (formats_form (ground_of x) (k + 1) ss)) (sym kind)
formats_are x k sections fs (gives_none {section = s} {sections = ss} kind rest) =
    formats_are x (k + 1) ss fs rest
    ∙ ap (λ b. cond b (format_form (ground_of x) k s ∷ formats_form (ground_of x) (k + 1) ss) (formats_form (ground_of x) (k + 1) ss)) (sym kind)

-- two settings of a file tell the same of it
record AreOne (file other : FileSetting) : Type 0 where
  text : file.text.now ≡ other.text.now
  constants : file.constants.now ≡ other.constants.now
  values : file.values.now ≡ other.values.now
  methods : file.methods.now.names.now ≡ other.methods.now.names.now

method_one : (file other : FileSetting) (constants : List Mention) (m : TreeMethod) (is_top : Bool) (r q : Method) → AreOne file other → IsMethod file constants m is_top r → IsMethod other constants m is_top q
    → plain_method r ≡ plain_method q
method_one file other constants m is_top r q one_file a b =
    let x = a.body.setting in
    let y = b.body.setting in
    let s = bare_scope file m in
    let scopes : bare_scope other m ≡ s =
    λ i. names (sym one_file.text i) (sym one_file.constants i) (sym one_file.values i) (distinct_words (sym one_file.text i) m.parameters) [] in
    let given = subst (λ z. AreGiven z m.sections is_top b.body.givens) scopes b.body.given in
    let of_initial =
    initials_one s (bounds_in m.sections) (bounds_in m.sections) a.body.givens.names b.body.givens.names a.body.givens.values b.body.givens.values refl a.body.given.initials given.initials in
    let of_control = asked_alike s m.sections is_top a.body.givens b.body.givens refl a.body.given given in
    let p = a.body.is_setting in
    let t = b.body.is_setting in
    let names_in = λ (z : Methods). z.names.now in
    let grounds : ground_of x ≡ ground_of y = λ i. record {
      text = (p.text_is ∙ (one_file.text ∙ sym t.text_is)) i;
      constants = (p.constants_are ∙ (one_file.constants ∙ sym t.constants_are)) i;
      values = (p.values_are ∙ (one_file.values ∙ sym t.values_are)) i;
      parameters = (p.parameters_are ∙ (ap (λ text. distinct_words text m.parameters) one_file.text ∙ sym t.parameters_are)) i;
      methods = (ap names_in p.methods_are ∙ (one_file.methods ∙ ap names_in (sym t.methods_are))) i;
      sections = (p.sections_are ∙ sym t.sections_are) i;
      initial_names = (a.body.has_givens.names_are ∙ (of_initial.0 ∙ sym b.body.has_givens.names_are)) i;
      initial_values = (a.body.has_givens.values_are ∙ (of_initial.1 ∙ sym b.body.has_givens.values_are)) i;
      asked = (a.body.has_givens.asked_are ∙ (of_control ∙ sym b.body.has_givens.asked_are)) i;
    } in
    let formats = formats_are x 0 m.sections r.formats a.body.formats_are ∙ (ap (λ g. formats_form g 0 m.sections) grounds ∙ sym (formats_are y 0 m.sections q.formats b.body.formats_are)) in
    λ i. record {
      name = (a.name_is ∙ (ap (λ text. word text m.name) one_file.text ∙ sym b.name_is)) i;
      place = (a.place_is ∙ sym b.place_is) i;
      parameters = (a.parameters_are ∙ (ap (λ text. map (word text) m.parameters) one_file.text ∙ sym b.parameters_are)) i;
      formats = formats i;
    }

methods_one : (file other : FileSetting) (constants : List Mention) (top : Option ℕ) (k : ℕ) (ms ns : List TreeMethod) (rs qs : List Method) → AreOne file other → ms ≡ ns → AreMethods file constants top k ms rs
    → AreMethods other constants top k ns qs → map plain_method rs ≡ map plain_method qs
methods_one file other constants top k ms ns rs qs one_file e no_methods no_methods = refl
methods_one file other constants top k ms ns rs qs one_file e no_methods (a_method {m = m} {ms = more} is rest) = let wrong : [] ≡ m ∷ more = e in absurd cc
methods_one file other constants top k ms ns rs qs one_file e (a_method {m = m} {ms = more} is rest) no_methods = let wrong : m ∷ more ≡ [] = e in absurd cc
methods_one file other constants top k ms ns rs qs one_file e (a_method {m = m} {ms = more} {r = r} {rs = others} is rest) (a_method {m = n} {ms = more2} {r = q} {rs = others2} is2 rest2) =
    let same : m ≡ n = ap (λ l. get_or l 0 m) e in
    let after : more ≡ more2 = ap (drop 1) e in
    let here = method_one file other constants m (is_at top k) r q one_file is (subst (λ z. IsMethod other constants z (is_at top k) q) (sym same) is2) in
    let later = methods_one file other constants top (k + 1) more more2 others others2 one_file after rest rest2 in
    λ i. here i ∷ later i

pub one_form : OneForm
one_form text parts top methods others a b =
    let one_file : AreOne a.file b.file = record {
      text = a.is_file.text_is ∙ sym b.is_file.text_is;
      constants = a.is_file.constants_are ∙ sym b.is_file.constants_are;
      values = values_one text (constant_names text parts) (constants_of parts) (constants_of parts) a.file.values.now b.file.values.now refl a.is_file.values_are b.is_file.values_are;
      methods = a.is_file.methods_are ∙ sym b.is_file.methods_are;
    } in
    methods_one a.file b.file (constant_mentions parts) top 0 (methods_of parts) (methods_of parts) methods others one_file refl a.are_methods b.are_methods
