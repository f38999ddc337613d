-- A file with a normal form defines no name twice, and each of its constants has a value.
use Rattle.std.proofs.Common.{◌≡◌, ◌∙◌, ap, ℕ, ℤ, Bool, true, false, cond, List, [], ◌∷◌, ◌++◌, Option, Some, None, Result, Ok, Err, length, map, refl, sym, subst, arith}
use Rattle.std.specs.Prelude.{slice_get, Contains}
use Rattle.std.specs.List.{IsDistinct}
use Rattle.std.specs.Option.{option_map}
use Rattle.std.specs.Result.{result_err}
use Rattle.std.specs.Str.{bytes_eq}
use Rattle.std.proofs.lemmas.List.{map-append}
use Rattle.std.proofs.lemmas.List.Elements.{filter_map-append}
use Rattle.std.proofs.lemmas.Option.{slice_get-get_or}
use Rattle.text_source.specs.declared.span.Span.{Span}
use Rattle.text_tree.specs.declared.tree.Constant.{Constant}
use Rattle.text_tree.specs.declared.tree.Expr.{Expr as Tree}
use Rattle.text_tree.specs.declared.tree.Expr.TheVariants.{rolls-Number, rolls-Negative, rolls-Name, rolls-Attribute, rolls-Group, rolls-Binary}
use Rattle.text_tree.specs.declared.tree.Expr.TheFolds.{fold-roll-Expr}
use Rattle.text_tree.specs.declared.tree.Method.{Method}
use Rattle.text_tree.specs.declared.tree.Part.{Part}
use Rattle.text_tree.specs.declared.tree.Part.TheVariants as part
use Rattle.text_tree.specs.Spans.{span_of}
use Rattle.sem_expr.specs.declared.expr.Expr.{Expr}
use Rattle.sem_expr.specs.declared.fault.RangeFault.{RangeFault}
use Rattle.sem_expr.specs.declared.interval.Interval.{Interval}
use Rattle.sem_expr.specs.Ranged.{joined, both_ranged}
use Rattle.sem_profile.specs.declared.fault.ProfileFault.{ProfileFault}
use Rattle.sem_profile.specs.Words.{word}
use Rattle.text_statements.specs.declared.term.TermKind.TheVariants as kinds
use Rattle.text_statements.specs.declared.term.Term.{Term}
use Rattle.text_statements.specs.declared.term.Term.TheVariants.{Number, Truth}
use Rattle.text_statements.specs.Constants.{evaluated_by, value_of, IsValue, ValueFault, ill_formed, valueless, earlier, AreValues, no_values, next_value}
use Rattle.text_statements.specs.Judged.{Judgement, range_fault, name_judgement, attribute_range, operator_judgement, judged, if_allowed}
use Rattle.text_statements.specs.Means as means
use Rattle.text_statements.specs.Names.{Names, plain}
use Rattle.text_statements.specs.Ranges.{range_of, of_range}
use Rattle.text_resolve.specs.Excluded.{NoCauseOfHead}
use Rattle.text_resolve.specs.FileNames as heads
use Rattle.text_resolve.specs.FileNames.{HeadCause}
use Rattle.text_resolve.specs.Parts.{as_constant, as_method, constants_of, methods_of, constant_names, method_names}
use Rattle.text_resolve.specs.Twice.{AreDistinct, Twice, constant_twice, method_twice, library_twice}
use Rattle.text_resolve.proofs.KnownParts.{both_right}
use Rattle.text_resolve.proofs.MethodsMentioned.{get_left, once_distinct}
use Rattle.text_resolve.proofs.PlainForms.{front, front_of, same_front, same_last, values_one, wanted_none, owner_known, both_none}
use Rattle.text_resolve.proofs.MethodsTreeValues.{Outcome, meant}

-- ---- names

get_middle : {X : Type 0} (xs : List X) (y : X) (ys : List X) → slice_get (xs ++ y ∷ ys) (length xs) ≡ Some y
get_middle [] y ys = refl
get_middle (x ∷ xs) y ys = get_middle xs y ys

not_twice : (names before after : List (List ℕ)) (a : List ℕ) → names ≡ before ++ a ∷ after → IsDistinct bytes_eq names → Contains before a → ⊥
not_twice names before after a e distinct has =
    let lt = has.1 in
    let here : slice_get before has.0 ≡ Some a = slice_get-get_or before has.0 a lt ∙ ap Some has.2 in
    let same = once_distinct (before ++ a ∷ after) has.0 (length before) a (subst (IsDistinct bytes_eq) e distinct) (get_left before (a ∷ after) has.0 a here) (get_middle before a after) in
    omega (arith, same, lt)

constants_split : (text : List ℕ) (before after : List Part) (c : Constant) → constant_names text (before ++ part.Constant c ∷ after) ≡ constant_names text before ++ word text c.name ∷ constant_names text after
constants_split text before after c =
    ap (map (λ (d : Constant). word text d.name)) (filter_map-append as_constant before (part.Constant c ∷ after)) ∙ map-append (λ (d : Constant). word text d.name) (constants_of before) (c ∷ constants_of after)

methods_split : (before after : List Part) (m : Method) → methods_of (before ++ part.Method m ∷ after) ≡ methods_of before ++ m ∷ methods_of after
methods_split before after m = filter_map-append as_method before (part.Method m ∷ after)

names_split : (text : List ℕ) (before after : List Part) (m : Method) → method_names text (before ++ part.Method m ∷ after) ≡ method_names text before ++ word text m.name ∷ method_names text after
names_split text before after m =
    ap (map (λ (d : Method). word text d.name)) (methods_split before after m) ∙ map-append (λ (d : Method). word text d.name) (methods_of before) (m ∷ methods_of after)

no_twice : (text : List ℕ) (parts : List Part) → AreDistinct text parts → (f : ProfileFault) → Twice text parts f → ⊥
no_twice text parts distinct f (constant_twice before after c e has) =
    not_twice (constant_names text parts) (constant_names text before) (constant_names text after) (word text c.name) (ap (constant_names text) e ∙ constants_split text before after c) distinct.constants has
no_twice text parts distinct f (method_twice before after m e has) =
    not_twice (method_names text parts) (method_names text before) (method_names text after) (word text m.name) (ap (method_names text) e ∙ names_split text before after m) distinct.methods has
no_twice text parts distinct f (library_twice before after m e is) =
    let at : slice_get (methods_of parts) (length (methods_of before)) ≡ Some m =
    ap (λ ms. slice_get ms (length (methods_of before))) (ap methods_of e ∙ methods_split before after m) ∙ get_middle (methods_of before) m (methods_of after) in
    let wrong : true ≡ false = sym is ∙ distinct.own (length (methods_of before)) m at in
    absurd cc

-- ---- what has a value has no fault of one without, also where ranges are judged

-- a judgement of a whole number that has no fault where it has a range
record IsRight (j : Judgement) (e : Expr) : Type 0 where
  range : j.range ≡ range_of e
  kind : j.kind ≡ kinds.Number
  free : result_err (range_of e) ≡ None → j.fault ≡ None

abbrev OfTerm : Judgement → Term → Type 0
OfTerm j (Number e) = IsRight j e
OfTerm j (Truth c) = Unit {0}

range_right : (s : Names) (r : Result Interval RangeFault) → result_err r ≡ None → range_fault s r ≡ None
range_right s r e = by s.has_attributes
  where
    by : (b : Bool) → cond b None (option_map of_range (result_err r)) ≡ None
    by true = refl
    by false = ap (option_map of_range) e

means_right : (s : Names) (part : Tree) (m : Term) → means.Means s part m → OfTerm (judged s part) m
means_right s part m (means.number {at = at} {n = n}) =
    subst (λ j. OfTerm j m) (sym (ap (judged s) (sym (rolls-Number at n)) ∙ fold-roll-Expr _ _ _)) (record { range = refl; kind = refl; free = λ e. range_right s _ e })
means_right s part m (means.negative {at = at} {n = n}) =
    subst (λ j. OfTerm j m) (sym (ap (judged s) (sym (rolls-Negative at n)) ∙ fold-roll-Expr _ _ _)) (record { range = refl; kind = refl; free = λ e. range_right s _ e })
means_right s part m means.truth = tt
means_right s part m (means.name {at = at} {e = e} is) =
    subst (λ j. OfTerm j m) (sym (ap (judged s) (sym (rolls-Name at)) ∙ (fold-roll-Expr _ _ _ ∙ ap (name_judgement s at) is)))
    (record { range = refl; kind = refl; free = λ none. range_right s (range_of e) none })
means_right s part m (means.attribute {at = at} {owner = owner} {which = which} {whose = whose} has is) =
    subst (λ j. OfTerm j m) (sym (ap (judged s) (sym (rolls-Attribute at owner which)) ∙ fold-roll-Expr _ _ _))
    (record { range = ap (attribute_range at which) is; kind = refl; free = λ none. λ i. if_allowed (has i) at (owner_known s owner whose is i) })
means_right s part m (means.group {at = at} {x = x} h) =
    subst (λ j. OfTerm j m) (sym (ap (judged s) (sym (rolls-Group at x)) ∙ fold-roll-Expr _ _ _)) (means_right s x m h)
means_right s part m (means.denial h) = tt
means_right s part m (means.arithmetic {at = at} {sign = sign} {operator = operator} {x = x} {y = y} {o = o} {l = l} {r = r} is h k) =
    let first = means_right s x (Number l) h in
    let second = means_right s y (Number r) k in
    let range : both_ranged (joined at o) (judged s x).range (judged s y).range ≡ both_ranged (joined at o) (range_of l) (range_of r) = λ i. both_ranged (joined at o) (first.range i) (second.range i) in
    subst (λ j. OfTerm j m)
    (sym (ap (judged s) (sym (rolls-Binary at operator sign x y)) ∙ (fold-roll-Expr _ _ _ ∙ (λ i. operator_judgement s at (is i) (judged s x) (judged s y)))))
    (record {
      range = range;
      kind = refl;
      free = λ none.
          let parts = both_right (joined at o) (range_of l) (range_of r) none in
          both_none _ _ _ (wanted_none kinds.Number (judged s x) (first.free parts.0) first.kind) (wanted_none kinds.Number (judged s y) (second.free parts.1) second.kind)
          (range_right s (both_ranged (joined at o) (judged s x).range (judged s y).range) (ap result_err range ∙ none));
    })
means_right s part m (means.comparison is h k) = tt
means_right s part m (means.conjunction is h k) = tt
means_right s part m (means.disjunction is h k) = tt

ranged_value : (at : Span) (o : Option ℤ) (r : Result Interval RangeFault) (v : ℤ) → evaluated_by at o r ≡ Ok v → result_err r ≡ None
ranged_value at o (Ok i) v e = refl
ranged_value at o (Err g) v e = let wrong : Err (of_range g) ≡ Ok v = e in absurd cc

pub value_right : (s : Names) (part : Tree) (v : ℤ) (f : ProfileFault) → IsValue s part v → ValueFault s part f → ⊥
value_right s part v f is (ill_formed e) =
    let right_number = means_right s part (Number is.expr) is.means in
    let free = right_number.free (ranged_value (span_of part) (value_of is.expr) (range_of is.expr) v is.value) in
    let wrong : None ≡ Some f = sym (wanted_none kinds.Number (judged s part) free right_number.kind) ∙ e in
    absurd cc
value_right s part v f is (valueless {e = other} means_other refused) =
    let alike = sym (meant (plain s) s (λ at. refl) part (Number other) means_other) ∙ meant (plain s) s (λ at. refl) part (Number is.expr) is.means in
    let wrong : Err f ≡ Ok v = sym refused ∙ (ap (λ (o : Outcome). evaluated_by (span_of part) o.value o.range) alike ∙ is.value) in
    absurd cc

-- ---- constants

no_split : {X : Type 0} (xs : List X) (y : X) (ys : List X) → [] ≡ xs ++ y ∷ ys → ⊥
no_split [] y ys e = absurd cc
no_split (x ∷ xs) y ys e = absurd cc

front_split : {X : Type 0} (xs : List X) (y z : X) (zs : List X) → front (xs ++ y ∷ z ∷ zs) ≡ xs ++ y ∷ front (z ∷ zs)
front_split [] y z zs = refl
front_split (x ∷ []) y z zs = refl
front_split (x ∷ w ∷ ws) y z zs = ap (λ l. x ∷ l) (front_split (w ∷ ws) y z zs)

-- the values of the constants before one, and its own
record HasValue (text : List ℕ) (names : List (List ℕ)) (before : List Constant) (c : Constant) : Type 0 where
  values : List ℤ
  are : AreValues text names before values
  value : ℤ
  is : IsValue (earlier text names values) c.value value

value_at : (text : List ℕ) (names : List (List ℕ)) (cs : List Constant) (vs : List ℤ) → AreValues text names cs vs → (before : List Constant) (c : Constant) (after : List Constant) → cs ≡ before ++ c ∷ after
    → HasValue text names before c
value_at text names cs vs no_values before c after e = absurd (no_split before c after e)
value_at text names cs vs (next_value {constants = own} {values = own_values} d {v = v} are is) before c [] e =
    let same = same_front own before d c e in
    let one_constant = same_last own before d c e in
    record { values = own_values; are = subst (λ l. AreValues text names l own_values) same are; value = v; is = subst (λ (z : Constant). IsValue (earlier text names own_values) z.value v) one_constant is }
value_at text names cs vs (next_value {constants = own} {values = own_values} d are is) before c (x ∷ xs) e =
    value_at text names own own_values are before c (front (x ∷ xs)) (sym (front_of own d) ∙ (ap front e ∙ front_split before c x xs))

pub no_cause_of_head : NoCauseOfHead
no_cause_of_head text parts name p form f (heads.named_twice twice) = no_twice text parts form.distinct f twice
no_cause_of_head text parts name p form f (heads.valueless distinct first) =
    let names = constant_names text parts in
    let has = value_at text names (constants_of parts) form.forms.file.values.now form.forms.is_file.values_are first.before first.constant first.after first.split in
    let same = values_one text names first.before first.before has.values first.values refl has.are first.have in
    value_right (earlier text names first.values) first.constant.value has.value f (subst (λ vs. IsValue (earlier text names vs) first.constant.value has.value) same has.is) first.cause
