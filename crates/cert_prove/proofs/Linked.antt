-- The steps that the rows leave out have no rule.
use Rattle.std.proofs.Common.{◌≡◌, refl, sym, ◌∙◌, ap, ℕ, suc, ◌+◌, ◌<◌, Bool, true, false, List, [], ◌∷◌, ◌++◌, map, length, get_or, arith}
use Rattle.std.specs.Prelude.{Option, Some, None, slice_get, option_map, option_and_then, nat_eq, ◌&&◌, ◌||◌}
use Rattle.std.specs.List.{flat_map, range_with_len, cons_option}
use Rattle.std.proofs.lemmas.Bool.{or_parts}
use Rattle.std.proofs.lemmas.List.Elements.{filter_map-append}
use Rattle.sem_expr.specs.declared.expr.Side.{Side}
use Rattle.sem_expr.specs.declared.expr.Side.TheVariants.{Uncompressed}
use Rattle.sem_expr.specs.declared.expr.Measure.{Measure}
use Rattle.sem_expr.specs.declared.expr.Measure.TheVariants as measure
use Rattle.sem_expr.specs.declared.expr.Operator.{Operator}
use Rattle.sem_expr.specs.declared.expr.Operator.TheVariants.{Add, Subtract, Multiply, Divide, Remainder, Power}
use Rattle.sem_expr.specs.declared.expr.Comparison.TheVariants.{Equal}
use Rattle.sem_expr.specs.declared.expr.Subject.{Subject}
use Rattle.sem_expr.specs.declared.expr.Subject.TheVariants as subject
use Rattle.sem_expr.specs.declared.expr.Expr.{Expr}
use Rattle.sem_expr.specs.declared.expr.Expr.TheVariants as expr
use Rattle.sem_expr.specs.declared.expr.Expr.TheVariants.{Number, Parameter, Binary'}
use Rattle.sem_expr.specs.declared.expr.Cond.TheVariants.{Compare}
use Rattle.sem_profile.specs.declared.profile.Constraint.{Constraint}
use Rattle.sem_profile.specs.declared.profile.Constraint.TheVariants.{Bracket, Enforce}
use Rattle.sem_profile.specs.declared.profile.Sizes.{Sizes}
use Rattle.sem_profile.specs.declared.profile.Format.{Format}
use Rattle.sem_profile.specs.declared.profile.FormatSizes.{FormatSizes}
use Rattle.sem_profile.specs.declared.profile.MethodSizes.{MethodSizes}
use Rattle.cert_types.specs.declared.certificate.Version.{Version}
use Rattle.cert_types.specs.declared.certificate.Direction.{Direction}
use Rattle.cert_types.specs.declared.certificate.Direction.TheVariants.{Read, Write}
use Rattle.cert_types.specs.declared.certificate.Step.{Step}
use Rattle.cert_types.specs.declared.certificate.Step.TheVariants.{MethodLength, ConstraintLength, Solve}
use Rattle.cert_types.specs.declared.rule.Fact.TheVariants.{LengthOf, BitsOf}
use Rattle.cert_types.specs.declared.rule.Rule.{Rule}
use Rattle.sem_profile.specs.Constants.{constant}
use Rattle.cert_types.specs.declared.certificate.Version.TheVariants.{One, Two}
use Rattle.cert_rules.specs.Facts.{same_side, inputs}
use Rattle.cert_rules.specs.Rules.{rule, same_subject, same_measure, when, first_or, is_attribute, equated, sole, bracketed, attribute_of, Congruence, addend, added, congruence, reduction, reduced, congruent, is_reached, length_given, value_given, remainder_given, from_two, by_length, by_equation, by_remainder, by_value}
use Rattle.cert_rules.specs.Plans.{rule_of}
use Rattle.cert_prove.specs.declared.kinds.StepKind.{StepKind}
use Rattle.cert_prove.specs.declared.kinds.StepKind.TheVariants as kind
use Rattle.cert_prove.specs.Linking as spec
use Rattle.cert_prove.specs.Linking.{field_named, named, operands, summed, naming, is_this, is_among, tells_of, number_if, telling, AreRows, by_rows, candidates_of}
use Rattle.cert_prove.specs.Order.{kinds_of, steps_of, in_order, order_of}
use Rattle.cert_prove.specs.Searching.{Ruled, with_rule, possible_of}

-- ---- a constraint that tells nothing of a field

subject_same : (i : ℕ) (s : Subject) → same_subject s (subject.Field i) ≡ is_this i (field_named s)
subject_same i (subject.Field j) = refl
subject_same i subject.This = refl

not_attribute : (i : ℕ) (side : Side) (m : Measure) (e : Expr) → is_this i (named e) ≡ false → is_attribute (attribute_of i side m) e ≡ false
not_attribute i side m (expr.Attribute s t) h = ap (λ b. b && (same_side t.side side && same_measure t.measure m)) (subject_same i t.subject ∙ h)
not_attribute i side m (Number s n) h = refl
not_attribute i side m (Parameter s p) h = refl
not_attribute i side m (Binary' s op p x q y) h = refl

-- none of several
none_left : (i : ℕ) (xs ys : List (Option ℕ)) → is_among i (xs ++ ys) ≡ false → is_among i xs ≡ false
none_left i [] ys h = refl
none_left i (x ∷ xs) ys h = let p = or_parts (is_this i x) (is_among i (xs ++ ys)) h in ap (λ b. b || is_among i xs) p.0 ∙ none_left i xs ys p.1

none_right : (i : ℕ) (xs ys : List (Option ℕ)) → is_among i (xs ++ ys) ≡ false → is_among i ys ≡ false
none_right i [] ys h = h
none_right i (x ∷ xs) ys h = none_right i xs ys (or_parts (is_this i x) (is_among i (xs ++ ys)) h).1

-- an expression that names other fields is no attribute of this one
not_named : (i : ℕ) (side : Side) (m : Measure) (e : Expr) → is_among i (naming e) ≡ false → is_attribute (attribute_of i side m) e ≡ false
not_named i side m (expr.Attribute s t) h = not_attribute i side m (expr.Attribute s t) (or_parts (is_this i (field_named t.subject)) (is_among i (None ∷ [])) h).0
not_named i side m (Number s n) h = refl
not_named i side m (Parameter s p) h = refl
not_named i side m (Binary' s op p x q y) h = refl

not_equated : (i : ℕ) (side : Side) (m : Measure) (k : Constraint) → tells_of i k ≡ false → equated (attribute_of i side m) k ≡ None
not_equated i side m (Enforce (Compare s Equal x y) place) h =
    ap (λ b. first_or (when b y) (when (is_attribute (attribute_of i side m) y) x)) (not_named i side m x (none_left i (naming x) (naming y) h))
    ∙ ap (λ b. when b x) (not_named i side m y (none_right i (naming x) (naming y) h))
not_equated i side m _ h = refl

-- nor is it a remainder of a sum with one
not_addend : (i : ℕ) (side : Side) (m : Measure) (op : Operator) (x y : Expr) → is_among i (operands op x y) ≡ false → addend (attribute_of i side m) op x y ≡ None
not_addend i side m Add x y h =
    let p = or_parts (is_this i (named x)) (is_among i (named y ∷ [])) h in
    let q = or_parts (is_this i (named y)) (is_among i []) p.1 in
    ap (λ b. first_or (when b y) (when (is_attribute (attribute_of i side m) y) x)) (not_attribute i side m x p.0) ∙ ap (λ b. when b x) (not_attribute i side m y q.0)
not_addend i side m Subtract x y h = refl
not_addend i side m Multiply x y h = refl
not_addend i side m Divide x y h = refl
not_addend i side m Remainder x y h = refl
not_addend i side m Power x y h = refl

not_added : (i : ℕ) (side : Side) (m : Measure) (e : Expr) → is_among i (summed e) ≡ false → added (attribute_of i side m) e ≡ None
not_added i side m (Binary' s op p x q y) h = not_addend i side m op x y h
not_added i side m (expr.Attribute s t) h = refl
not_added i side m (Number s n) h = refl
not_added i side m (Parameter s p) h = refl

not_reduction : (i : ℕ) (side : Side) (m : Measure) (op : Operator) (x y left : Expr) → is_among i (spec.reduced op x) ≡ false → reduction (attribute_of i side m) op x y left ≡ None
not_reduction i side m Remainder x y left h = ap (λ o. congruence o (constant y) left) (not_added i side m x h)
not_reduction i side m Add x y left h = refl
not_reduction i side m Subtract x y left h = refl
not_reduction i side m Multiply x y left h = refl
not_reduction i side m Divide x y left h = refl
not_reduction i side m Power x y left h = refl

not_reduced : (i : ℕ) (side : Side) (m : Measure) (e left : Expr) → is_among i (naming e) ≡ false → reduced (attribute_of i side m) e left ≡ None
not_reduced i side m (Binary' s op p x q y) left h = not_reduction i side m op x y left h
not_reduced i side m (expr.Attribute s t) left h = refl
not_reduced i side m (Number s n) left h = refl
not_reduced i side m (Parameter s p) left h = refl

not_congruent : (i : ℕ) (side : Side) (m : Measure) (k : Constraint) → tells_of i k ≡ false → congruent (attribute_of i side m) k ≡ None
not_congruent i side m (Enforce (Compare s Equal x y) place) h =
    ap (λ o. first_or o (reduced (attribute_of i side m) y x)) (not_reduced i side m x y (none_left i (naming x) (naming y) h))
    ∙ not_reduced i side m y x (none_right i (naming x) (naming y) h)
not_congruent i side m _ h = refl

no_remainder : (sizes : FormatSizes) (i : ℕ) (k : Constraint) → tells_of i k ≡ false → remainder_given sizes i k ≡ None
no_remainder sizes i k h = ap (option_and_then (λ (c : Congruence). option_and_then (λ (b : Sizes). when (is_reached b.uncompressed.most c.by) c) (slice_get sizes.fields i))) (not_congruent i Uncompressed measure.Value k h)

not_when : {A : Type 0} (b c : Bool) (o : Option A) → b ≡ false → option_and_then (λ e. when (b && c) e) o ≡ None
not_when true c o h = absurd (cc)
not_when false c None h = refl
not_when false c (Some e) h = refl

not_bracketed : (i : ℕ) (side : Side) (k : Constraint) → tells_of i k ≡ false → bracketed i side k ≡ None
not_bracketed i side (Bracket j which lengths place) h = not_when (nat_eq j i) (same_side which side) (sole lengths) h
not_bracketed i side (Enforce condition place) h = refl

no_value : (i : ℕ) (k : Constraint) → tells_of i k ≡ false → value_given i k ≡ None
no_value i k h = not_equated i Uncompressed measure.Value k h

no_length : (i : ℕ) (side : Side) (k : Constraint) → tells_of i k ≡ false → length_given i side k ≡ None
no_length i side k h = ap (λ o. first_or o (equated (attribute_of i side measure.Length) k)) (not_bracketed i side k h) ∙ not_equated i side measure.Length k h

-- ---- its steps have no rule

pub of_neither : (version : Version) → first_or {A = Rule} None (from_two version None) ≡ None
of_neither One = refl
of_neither Two = refl

pub nothing_then : {A B : Type 0} (o : Option A) (p : Option B) → p ≡ None → option_and_then (λ x. p) o ≡ None
nothing_then None p h = refl
nothing_then (Some x) p h = h

module _ (version : Version) (direction : Direction) (table : List MethodSizes) (sizes : FormatSizes) (format : Format) where
  abbrev rules : Step → Option Rule
  rules = rule_of version direction table sizes format

  pub solve_rule : (i n : ℕ) → rules (Solve i n) ≡ option_and_then (λ d. by_value version sizes format i n) (slice_get format.fields i)
  solve_rule i n = by direction where
    by : (direction : Direction) → rule_of version direction table sizes format (Solve i n) ≡ option_and_then (λ d. by_value version sizes format i n) (slice_get format.fields i)
    by Read = refl
    by Write = refl

  pub length_rule : (i : ℕ) (side : Side) (n : ℕ) → rules (ConstraintLength i side n) ≡ option_and_then (λ d. by_length format i side n) (slice_get format.fields i)
  length_rule i side n = by direction where
    by : (direction : Direction) → rule_of version direction table sizes format (ConstraintLength i side n) ≡ option_and_then (λ d. by_length format i side n) (slice_get format.fields i)
    by Read = refl
    by Write = refl

  none_solves : (i n : ℕ) (k : Constraint) → slice_get format.constraints n ≡ Some k → tells_of i k ≡ false → rules (Solve i n) ≡ None
  none_solves i n k is h =
      let direct : by_equation format i n ≡ None = ap (option_map (λ e. rule (LengthOf Uncompressed i ∷ inputs format e) (BitsOf Uncompressed i ∷ []))) (ap (option_and_then (value_given i)) is ∙ no_value i k h) in
      let remainder : by_remainder sizes format i n ≡ None =
      ap (option_map (λ (c : Congruence). rule (LengthOf Uncompressed i ∷ inputs format c.more ++ inputs format c.left) (BitsOf Uncompressed i ∷ []))) (ap (option_and_then (remainder_given sizes i)) is ∙ no_remainder sizes i k h) in
      let value : by_value version sizes format i n ≡ None = (λ j. first_or (direct j) (from_two version (remainder j))) ∙ of_neither version in
      solve_rule i n ∙ nothing_then (slice_get format.fields i) (by_value version sizes format i n) value

  none_lengths : (i : ℕ) (side : Side) (n : ℕ) (k : Constraint) → slice_get format.constraints n ≡ Some k → tells_of i k ≡ false → rules (ConstraintLength i side n) ≡ None
  none_lengths i side n k is h =
      let value : by_length format i side n ≡ None = ap (option_map (λ e. rule (inputs format e) (LengthOf side i ∷ []))) (ap (option_and_then (length_given i side)) is ∙ no_length i side k h) in
      length_rule i side n ∙ nothing_then (slice_get format.fields i) (by_length format i side n) value

  -- ---- so the rows have all that have one

  abbrev possible : List Step → List Ruled
  possible steps = possible_of rules steps

  module _ (i : ℕ) (f : ℕ → Step) (none : (n : ℕ) (k : Constraint) → slice_get format.constraints n ≡ Some k → tells_of i k ≡ false → rules (f n) ≡ None) where
    row_more : (n : ℕ) (k : Constraint) (xs ys : List ℕ) (b : Bool) → tells_of i k ≡ b → slice_get format.constraints n ≡ Some k → possible (map f xs) ≡ possible (map f ys) →
        possible (map f (number_if b n ++ xs)) ≡ possible (map f (n ∷ ys))
    row_more n k xs ys true e is same = ap (cons_option (with_rule (f n) (rules (f n)))) same
    row_more n k xs ys false e is same = same ∙ ap (λ (o : Option Rule). cons_option (with_rule (f n) o) (possible (map f ys))) (sym (none n k is e))

    row_same : (n : ℕ) (ks : List Constraint) → ((j : ℕ) → slice_get ks j ≡ slice_get format.constraints (n + j)) → possible (map f (telling i n ks)) ≡ possible (map f (range_with_len n (length ks)))
    row_same n [] at = refl
    row_same n (k ∷ ks) at =
        let first : n + 0 ≡ n = omega arith in
        let is : slice_get format.constraints n ≡ Some k = ap (slice_get format.constraints) (sym first) ∙ sym (at 0) in
        let more : (j : ℕ) → n + suc j ≡ (n + 1) + j = λ j. omega arith in
        row_more n k (telling i (n + 1) ks) (range_with_len (n + 1) (length ks)) (tells_of i k) refl is (row_same (n + 1) ks (λ j. at (suc j) ∙ ap (slice_get format.constraints) (more j)))

  abbrev numbers : List ℕ
  numbers = range_with_len 0 (length format.constraints)

  at_start : (j : ℕ) → slice_get format.constraints j ≡ slice_get format.constraints (0 + j)
  at_start j = let e : j ≡ 0 + j = omega arith in ap (slice_get format.constraints) e

  field_same : (k : StepKind) (i : ℕ) → possible (steps_of (telling i 0 format.constraints) k i) ≡ possible (steps_of numbers k i)
  field_same kind.TakeOrCall i = refl
  field_same kind.Ask i = refl
  field_same kind.Up i = refl
  field_same kind.Down i = refl
  field_same kind.Solve i = row_same i (Solve i) (none_solves i) 0 format.constraints at_start
  field_same (kind.Length side) i =
      ap (cons_option (with_rule (MethodLength i side) (rules (MethodLength i side)))) (row_same i (ConstraintLength i side) (none_lengths i side) 0 format.constraints at_start)
  field_same kind.Choose i = refl

  both_same : (xs ys us vs : List Step) → possible xs ≡ possible us → possible ys ≡ possible vs → possible (xs ++ ys) ≡ possible (us ++ vs)
  both_same xs ys us vs e h =
      filter_map-append (λ step. with_rule step (rules step)) xs ys ∙ (λ i. e i ++ h i) ∙ sym (filter_map-append (λ step. with_rule step (rules step)) us vs)

  fields_same : (k : StepKind) (n : ℕ) (rows : List (List ℕ)) → ((j : ℕ) → j < length rows → get_or rows j [] ≡ telling (n + j) 0 format.constraints) →
      possible (by_rows k n rows) ≡ possible (flat_map (steps_of numbers k) (range_with_len n (length rows)))
  fields_same k n [] right = refl
  fields_same k n (row ∷ rows) right =
      let first : n + 0 ≡ n = omega arith in
      let more : (j : ℕ) → n + suc j ≡ (n + 1) + j = λ j. omega arith in
      let is : row ≡ telling n 0 format.constraints = right 0 (omega arith) ∙ ap (λ m. telling m 0 format.constraints) first in
      both_same (steps_of row k n) (by_rows k (n + 1) rows) (steps_of numbers k n) (flat_map (steps_of numbers k) (range_with_len (n + 1) (length rows)))
      (ap (λ r. possible (steps_of r k n)) is ∙ field_same k n)
      (fields_same k (n + 1) rows (λ j h. right (suc j) (omega (arith, h)) ∙ ap (λ m. telling m 0 format.constraints) (more j)))

  kinds_same : (rows : List (List ℕ)) → AreRows format rows → (kinds : List StepKind) → possible (candidates_of kinds rows) ≡ possible (in_order kinds (range_with_len 0 (length rows)) numbers)
  kinds_same rows are [] = refl
  kinds_same rows are (k ∷ kinds) =
      let first : (j : ℕ) → j ≡ 0 + j = λ j. omega arith in
      both_same (by_rows k 0 rows) (candidates_of kinds rows) (flat_map (steps_of numbers k) (range_with_len 0 (length rows))) (in_order kinds (range_with_len 0 (length rows)) numbers)
      (fields_same k 0 rows (λ j h. are.right j h ∙ ap (λ m. telling m 0 format.constraints) (first j))) (kinds_same rows are kinds)

  -- the steps by the rows that have a rule are those of the order
  pub rows_have_all : (rows : List (List ℕ)) → AreRows format rows → possible (candidates_of (kinds_of direction) rows) ≡ possible (order_of direction format)
  rows_have_all rows are = kinds_same rows are (kinds_of direction) ∙ ap (λ n. possible (in_order (kinds_of direction) (range_with_len 0 n) numbers)) are.each
