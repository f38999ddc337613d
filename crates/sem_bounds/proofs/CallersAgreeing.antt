-- A table without a fault by known ranges has none by all, since each parameter of a method with a format has a range.
use Rattle.std.proofs.Common.{◌≡◌, ◌∙◌, ap, sym, refl, subst, ℕ, ◌+◌, ◌<◌, ◌≤◌, Bool, true, false, cond, nat_le, ◌^◌, ◌||◌, List, [], ◌∷◌, suc, zero, length, map, arith}
use Rattle.std.specs.Prelude.{slice_get, Some, None, Option, Result, Ok, Err, IsOk}
use Rattle.std.specs.Int.{int_min, int_max}
use Rattle.std.specs.List.{list_any}
use Rattle.std.specs.Option.{option_map, option_and_then, unwrap_or}
use Rattle.std.specs.Result.{result_err, result_ok, is_err}
use Rattle.std.proofs.lemmas.Option.{slice_get_within, slice_get-map}
use Rattle.std.proofs.lemmas.Bool.{eqb-true, and_from, and_parts}
use Rattle.std.proofs.lemmas.Int.{ints, clamps}
use Rattle.text_source.specs.declared.span.Span.{Span}
use Rattle.sem_expr.specs.declared.expr.Expr.{Expr}
use Rattle.sem_expr.specs.declared.expr.Expr.TheVariants as expr
use Rattle.sem_expr.specs.declared.expr.Expr.TheVariants.{Number, Parameter, Binary'}
use Rattle.sem_expr.specs.declared.expr.Cond.{Cond}
use Rattle.sem_expr.specs.declared.expr.Cond.TheVariants.{Constant, Compare, Not', And', Or'}
use Rattle.sem_expr.specs.declared.fault.RangeFault.{RangeFault}
use Rattle.sem_expr.specs.declared.interval.Interval.{Interval}
use Rattle.sem_expr.specs.declared.ranges.Ranges.{Ranges}
use Rattle.sem_expr.specs.Rules.{from_to, is_within, is_limited}
use Rattle.sem_expr.specs.Ranged.{Bounding, limited, ranged, fault_in, first_fault}
use Rattle.sem_expr.specs.Bounds.{bounding_of, every}
use Rattle.sem_expr.proofs.RulesLimits.{is_within_by, limited_is}
use Rattle.sem_expr.proofs.RulesParts.{limited_ok}
use Rattle.sem_expr.proofs.RangedLie.{ranged_limited}
use Rattle.sem_profile.specs.declared.fault.ProfileFault.{ProfileFault}
use Rattle.sem_profile.specs.declared.profile.Sizes.{Sizes}
use Rattle.sem_profile.specs.declared.profile.FormatSizes.{FormatSizes}
use Rattle.sem_profile.specs.declared.profile.MethodSizes.{MethodSizes}
use Rattle.sem_profile.specs.declared.profile.Encoding.{Encoding}
use Rattle.sem_profile.specs.declared.profile.Encoding.TheVariants as encoding
use Rattle.sem_profile.specs.declared.profile.Constraint.{Constraint}
use Rattle.sem_profile.specs.declared.profile.Constraint.TheVariants.{Bracket, Enforce}
use Rattle.sem_profile.specs.declared.profile.Field.{Field}
use Rattle.sem_profile.specs.declared.profile.Format.{Format}
use Rattle.sem_profile.specs.declared.profile.Method.{Method}
use Rattle.sem_profile.specs.Faults.{of_range}
use Rattle.sem_profile.specs.Precedence.{earlier}
use Rattle.sem_profile.specs.declared.extent.Extent.TheVariants.{Whole, Known}
use Rattle.sem_bounds.specs.Callers.{is_caller, IsCalled, AreCalled}
use Rattle.sem_profile.specs.Calling.{IsArgument, ranges_in}
use Rattle.sem_profile.specs.BoundsFaults.{earliest, wide_in, wide_in_condition, expr_fault, encoding_fault, constraint_fault, format_fault}
use Rattle.sem_profile.specs.Fields.{bounds, sides, whole_at}
use Rattle.sem_profile.specs.Formats.{format_sizes}
use Rattle.sem_profile.specs.Extents.{lacks, known_fault, known_condition_fault}
use Rattle.sem_profile.specs.BoundsLaws.{encoding_exprs, in_encoding}
use Rattle.sem_profile.specs.Methods.{formats_hull, is_short, is_within as bits_within, HasSizes, CallsMethod, IsOrder, SizedBefore}
use Rattle.sem_profile.specs.Outcome.{FormatAt, IsFine, IsFaulty, is_wide, in_format}
use Rattle.sem_profile.specs.Parameters.{is_call, calls, joined, argument_range, with_method, with_entry, gathered, only_zero, beyond, RangedFrom}
use Rattle.sem_profile.specs.Ranging.{format_ranges}
use Rattle.sem_bounds.proofs.ParametersCalling.{folded-same}
use Rattle.sem_profile.proofs.FaultsFaultless.{faultless}
use Rattle.sem_bounds.proofs.CallersRows.{uncalled-entry}
use Rattle.sem_profile.proofs.FieldsRuling.{there}
use Rattle.sem_bounds.proofs.MethodsTables.{has-same, map-same, all-sized}
use Rattle.sem_profile.proofs.ParametersWidening.{KeptBy, entry-joined, gathered-keeps, gathered-brings, gathered-count, map-length}

-- ---- both looks, where each parameter has a range

-- each range of a parameter is within the limit
abbrev AreLimited : List Interval → Type 0
AreLimited ps = (q : ℕ) (i : Interval) → slice_get ps q ≡ Some i → is_limited i ≡ true

abbrev NoneLacks : Bounding → Type 0
NoneLacks r = (at : Span) (q : ℕ) → is_err (ranged r (Parameter at q)) ≡ false

none-lacks : (s : FormatSizes) (ps : List Interval) → AreLimited ps → NoneLacks (bounding_of (format_ranges s ps))
none-lacks s ps all at q = by (slice_get ps q) refl
  where
    by : (o : Option Interval) → slice_get ps q ≡ o → is_err (limited at (unwrap_or o every)) ≡ false
    by None found = refl
    by (Some i) found = ap is_err (limited_ok at i (all q i found))

or-none : (a b : Bool) → a ≡ false → b ≡ false → (a || b) ≡ false
or-none true b e f = e
or-none false b e f = f

lacks-none : (r : Bounding) → NoneLacks r → (e : Expr) → lacks r e ≡ false
lacks-none r none (Number s n) = refl
lacks-none r none (Parameter s i) = none s i
lacks-none r none (expr.Attribute s t) = refl
lacks-none r none (Binary' s op p x q y) = or-none (lacks r x) (lacks r y) (lacks-none r none x) (lacks-none r none y)

no-error : (o : Result Interval RangeFault) → is_err o ≡ false → None ≡ result_err o
no-error (Ok i) e = refl
no-error (Err f) e = let wrong : true ≡ false = e in absurd cc

same-fault : (r : Bounding) → NoneLacks r → (e : Expr) → known_fault r e ≡ result_err (ranged r e)
same-fault r none (Number s n) = refl
same-fault r none (Parameter s i) = no-error (ranged r (Parameter s i)) (none s i)
same-fault r none (expr.Attribute s t) = refl
same-fault r none (Binary' s op p x q y) =
    ap (λ b. cond b (first_fault (known_fault r x) (known_fault r y)) (result_err (ranged r (Binary' s op p x q y)))) (lacks-none r none (Binary' s op p x q y))

same-condition : (r : Bounding) → NoneLacks r → (c : Cond) → known_condition_fault r c ≡ fault_in r c
same-condition r none (Constant s b) = refl
same-condition r none (Compare s op x y) = let f = same-fault r none x in let g = same-fault r none y in λ i. first_fault (f i) (g i)
same-condition r none (Not' s p x) = same-condition r none x
same-condition r none (And' s p x q y) = let f = same-condition r none x in let g = same-condition r none y in λ i. first_fault (f i) (g i)
same-condition r none (Or' s p x q y) = let f = same-condition r none x in let g = same-condition r none y in λ i. first_fault (f i) (g i)

abbrev Judges : Type 0
Judges = Expr → Option ProfileFault

same-judges : (format : Format) (s : FormatSizes) (r : Ranges) → NoneLacks (bounding_of r) → (e : Expr) → expr_fault Known format s r e ≡ expr_fault Whole format s r e
same-judges format s r none e = ap (λ o. earlier (wide_in format s e) (option_map of_range o)) (same-fault (bounding_of r) none e)

same-constraints : (format : Format) (s : FormatSizes) (r : Ranges) → NoneLacks (bounding_of r) → (c : Constraint) → constraint_fault Known format s r c ≡ constraint_fault Whole format s r c
same-constraints format s r none (Bracket field side lengths place) = ap (λ (judge : Judges). earliest judge lengths) (λ i e. same-judges format s r none e i)
same-constraints format s r none (Enforce c place) = ap (λ o. earlier (wide_in_condition format s c) (option_map of_range o)) (same-condition (bounding_of r) none c)

-- both looks find the same fault of a format
same-format : (format : Format) (s : FormatSizes) (r : Ranges) → NoneLacks (bounding_of r) → format_fault Known format s r ≡ format_fault Whole format s r
same-format format s r none =
    let fields : earliest (λ (d : Field). encoding_fault (expr_fault Known format s r) d.encoding) format.fields ≡ earliest (λ (d : Field). encoding_fault (expr_fault Whole format s r) d.encoding) format.fields =
    ap (λ (judge : Judges). earliest (λ (d : Field). encoding_fault judge d.encoding) format.fields) (λ i e. same-judges format s r none e i) in
    let constraints : earliest (constraint_fault Known format s r) format.constraints ≡ earliest (constraint_fault Whole format s r) format.constraints =
    ap (λ (judge : Constraint → Option ProfileFault). earliest judge format.constraints) (λ i c. same-constraints format s r none c i) in
    λ i. earlier (fields i) (constraints i)

-- ---- ranges that are joined stay within the limit

abbrev AllLimited : List (Option Interval) → Type 0
AllLimited found = (q : ℕ) (i : Interval) → slice_get found q ≡ Some (Some i) → is_limited i ≡ true

hull-limited : (i j : Interval) → is_limited i ≡ true → is_limited j ≡ true → is_limited (from_to (int_min i.from j.from) (int_max i.to j.to)) ≡ true
hull-limited i j h k =
    let a = limited_is i h in
    let b = limited_is j k in
    let a-from-low = a.from.low in
    let a-from-high = a.from.high in
    let a-to-low = a.to.low in
    let a-to-high = a.to.high in
    let b-from-low = b.from.low in
    let b-from-high = b.from.high in
    let b-to-low = b.to.low in
    let b-to-high = b.to.high in
    and_from (is_within (int_min i.from j.from)) (is_within (int_max i.to j.to))
    (is_within_by (int_min i.from j.from) record { low = omega (arith, ints, clamps); high = omega (arith, ints, clamps) })
    (is_within_by (int_max i.to j.to) record { low = omega (arith, ints, clamps); high = omega (arith, ints, clamps) })

joined-limited : (o more : Option Interval) → ((i : Interval) → o ≡ Some i → is_limited i ≡ true) → ((i : Interval) → more ≡ Some i → is_limited i ≡ true)
    → (i : Interval) → joined o more ≡ Some i → is_limited i ≡ true
joined-limited None more h k i is = k i is
joined-limited (Some x) None h k i is = h i is
joined-limited (Some x) (Some y) h k i is =
    let same : from_to (int_min x.from y.from) (int_max x.to y.to) ≡ i = cc in
    subst (λ j. is_limited j ≡ true) same (hull-limited x y (h x refl) (k y refl))

argument-limited : (r : Ranges) (es : List Expr) (q : ℕ) (i : Interval) → argument_range r es q ≡ Some i → is_limited i ≡ true
argument-limited r es q i is = by (slice_get es q) is
  where
    on : (e : Expr) (o : Result Interval RangeFault) → ranged (bounding_of r) e ≡ o → result_ok o ≡ Some i → is_limited i ≡ true
    on e (Ok j) range found = let same : j ≡ i = cc in subst (λ k. is_limited k ≡ true) same (ranged_limited (bounding_of r) e j range)
    on e (Err f) range found = let wrong : None ≡ Some i = found in absurd cc

    by : (o : Option Expr) → option_and_then (λ e. result_ok (ranged (bounding_of r) e)) o ≡ Some i → is_limited i ≡ true
    by None found = let wrong : None ≡ Some i = found in absurd cc
    by (Some e) found = on e (ranged (bounding_of r) e) refl found

limited-kept : KeptBy AllLimited
limited-kept r es found all q i at =
    let old = entry-joined r es found q (Some i) at in
    joined-limited old.0 (argument_range r es q) (λ j e. all q j (old.1 ∙ ap Some e)) (argument-limited r es q) i old.2

none-yet : (names : List (List ℕ)) → AllLimited (map (λ p. None) names)
none-yet names q i at = by (slice_get names q) (sym (slice_get-map (λ p. None) names q) ∙ at)
  where
    by : (o : Option (List ℕ)) → option_map (λ p. None) o ≡ Some (Some i) → is_limited i ≡ true
    by None e = let wrong : None ≡ Some (Some i) = e in absurd cc
    by (Some p) e = let wrong : None ≡ Some i = cc in absurd cc

-- ---- two tables of the same methods

pub record BothSized (methods : List Method) (order : List ℕ) (known table : List MethodSizes) : Type 0 where
  pub ordered : IsOrder methods order
  pub known_sized : SizedBefore methods order (length order) known
  pub table_sized : SizedBefore methods order (length order) table

no-entry : (methods : List Method) (t : List MethodSizes) (k : ℕ) → length t ≡ length methods → slice_get methods k ≡ None → slice_get t k ≡ None
no-entry methods t k same none = by (slice_get t k) refl
  where
    by : (o : Option MethodSizes) → slice_get t k ≡ o → o ≡ None
    by None at = refl
    by (Some s) at =
        let within : k < length t = slice_get_within t k s at in
        let m = there methods k (omega (arith, same)) in
        let wrong : None ≡ Some m.0 = sym none ∙ m.1 in
        absurd cc

whole-is : (t : List MethodSizes) (k : ℕ) (o : Option MethodSizes) → slice_get t k ≡ o → whole_at t k ≡ unwrap_or (option_map (λ m. m.whole) o) (sides (bounds 0 0) (bounds 0 0))
whole-is t k o at = ap (λ e. unwrap_or (option_map (λ m. m.whole) e) (sides (bounds 0 0) (bounds 0 0))) at

formats-agree : (t u : List MethodSizes) (m : Method) (s r : MethodSizes) → ((k : ℕ) → CallsMethod m k → whole_at t k ≡ whole_at u k) → HasSizes t m s → HasSizes u m r → s.formats ≡ r.formats
formats-agree t u m s r same h g = (has-same t u m s same h).formats_are ∙ sym g.formats_are

wholes-agree : (t u : List MethodSizes) (m : Method) (s r : MethodSizes) → ((k : ℕ) → CallsMethod m k → whole_at t k ≡ whole_at u k) → HasSizes t m s → HasSizes u m r → s.whole ≡ r.whole
wholes-agree t u m s r same h g = h.whole_is ∙ ap formats_hull (formats-agree t u m s r same h g) ∙ sym g.whole_is

before-agree : (methods : List Method) (order : List ℕ) (t u : List MethodSizes) → BothSized methods order t u → (count p k : ℕ) → p < count → slice_get order p ≡ Some k → whole_at t k ≡ whole_at u k
before-agree methods order t u both zero p k lt at = absurd (omega arith)
before-agree methods order t u both (suc count) p k lt at =
    by (slice_get methods k) refl (λ m here j calls.
    let earlier = both.ordered.before p k j m at here calls in before-agree methods order t u both count earlier.0 j (omega (arith, earlier.1)) earlier.2)
  where
    by : (o : Option Method) → slice_get methods k ≡ o → ((m : Method) → slice_get methods k ≡ Some m → (j : ℕ) → CallsMethod m j → whole_at t j ≡ whole_at u j) → whole_at t k ≡ whole_at u k
    by None here same =
        whole-is t k None (no-entry methods t k both.known_sized.each here) ∙ sym (whole-is u k None (no-entry methods u k both.table_sized.each here))
    by (Some m) here same =
        let s = both.known_sized.sized p k m (slice_get_within order p k at) at here in
        let r = both.table_sized.sized p k m (slice_get_within order p k at) at here in
        whole-is t k (Some s.0) s.1 ∙ wholes-agree t u m s.0 r.0 (same m here) s.2 r.2 ∙ sym (whole-is u k (Some r.0) r.1)

called-agree : (methods : List Method) (order : List ℕ) (t u : List MethodSizes) → BothSized methods order t u → (k : ℕ) (m : Method) → slice_get methods k ≡ Some m
    → (j : ℕ) → CallsMethod m j → whole_at t j ≡ whole_at u j
called-agree methods order t u both k m here j calls =
    let place = both.ordered.each k (slice_get_within methods k m here) in
    let earlier = both.ordered.before place.0 k j m place.1 here calls in
    before-agree methods order t u both (suc earlier.0) earlier.0 j (omega arith) earlier.2

-- ---- a method and its callers

one-passes : {A : Type 0} → (p : A → Bool) (xs : List A) → list_any p xs ≡ true → (i : ℕ) × (x : A) × (slice_get xs i ≡ Some x) × (p x ≡ true)
one-passes p [] e = absurd cc
one-passes {A = A} p (x ∷ xs) e = by (p x) refl e (one-passes p xs)
  where
    by : (b : Bool) → p x ≡ b → (b || list_any p xs) ≡ true → (list_any p xs ≡ true → (i : ℕ) × (y : A) × (slice_get xs i ≡ Some y) × (p y ≡ true))
        → (i : ℕ) × (y : A) × (slice_get (x ∷ xs) i ≡ Some y) × (p y ≡ true)
    by true is so rest = (0, x, refl, is)
    by false is so rest = let r = rest so in (suc r.0, r.1, r.2, r.3)

call-is : (k : ℕ) (e : Encoding) → is_call k e ≡ true → (es : List Expr) × (e ≡ encoding.Call k es)
call-is k encoding.Bare h = absurd cc
call-is k (encoding.Library l) h = absurd cc
call-is k (encoding.Call j es) h = let same : j ≡ k = eqb-true j k h in (es, ap (λ n. encoding.Call n es) same)

caller-calls : (k : ℕ) (m : Method) → is_caller k m ≡ true → CallsMethod m k
caller-calls k m h =
    let format = one-passes (calls k) m.formats h in
    let field = one-passes (λ (d : Field). is_call k d.encoding) format.1.fields format.3 in
    let call = call-is k field.1.encoding field.3 in
    record {
      format = format.1;
      format_place = format.0;
      format_at = format.2;
      field = field.1;
      field_place = field.0;
      field_at = field.2;
      arguments = call.0;
      is_call = call.1;
    }

-- ---- the ranges of parameters in both tables

pub record BothRanged (methods : List Method) (order : List ℕ) (known table : List MethodSizes) : Type 0 where
  pub sized : BothSized methods order known table
  pub called : AreCalled methods
  pub known_ranged : RangedFrom beyond methods order 0 known
  pub table_ranged : RangedFrom only_zero methods order 0 table
  pub fine : IsFine Known methods known

-- where the method has a format, its parameters have the same ranges in both, within the limit
record Agrees (methods : List Method) (known table : List MethodSizes) (k : ℕ) : Type 0 where
  same : (m : Method) (s r : MethodSizes) → slice_get methods k ≡ Some m → slice_get known k ≡ Some s → slice_get table k ≡ Some r → 0 < length m.formats → s.parameters ≡ r.parameters
  limited : (m : Method) (s : MethodSizes) → slice_get methods k ≡ Some m → slice_get known k ≡ Some s → 0 < length m.formats → AreLimited s.parameters

abbrev CallersAgree : List Method → List MethodSizes → List MethodSizes → ℕ → Type 0
CallersAgree methods known table k = (j : ℕ) (c : Method) → slice_get methods j ≡ Some c → CallsMethod c k → Agrees methods known table j

some-format : (m : Method) (k : ℕ) → CallsMethod m k → 0 < length m.formats
some-format m k c = let within = slice_get_within m.formats c.format_place c.format c.format_at in omega (arith, within)

whole-fine : (methods : List Method) (known : List MethodSizes) (m : Method) (format : Format) (s : MethodSizes) (sizes : FormatSizes) → IsFine Known methods known → AreLimited s.parameters
    → FormatAt methods known m format s sizes → format_fault Whole format sizes (format_ranges sizes s.parameters) ≡ None
whole-fine methods known m format s sizes fine all at =
    sym (same-format format sizes (format_ranges sizes s.parameters) (none-lacks sizes s.parameters all)) ∙ fine.accepted m format s sizes at

range-of : (o : Result Interval RangeFault) → IsOk o → (i : Interval) × (o ≡ Ok i)
range-of (Ok i) h = (i, refl)
range-of (Err f) h = absurd cc

-- an argument of a caller gives the parameter at its place a range
brings-range : (methods : List Method) (order : List ℕ) (known table : List MethodSizes) (k q : ℕ) (m : Method) (found : List (Option Interval)) → BothRanged methods order known table
    → CallersAgree methods known table k → q < length m.parameters → IsCalled methods k m → slice_get (gathered methods known k found) q ≡ Some None → ⊥
brings-range methods order known table k q m found both agree lt called at =
    let c = called.calls in
    let inside : called.place < length known = let w = slice_get_within methods called.place called.caller called.caller_at in omega (arith, w, both.sized.known_sized.each) in
    let s = there known called.place inside in
    let has = all-sized methods order known both.sized.ordered both.sized.known_sized called.place called.caller s.0 called.caller_at s.1 in
    let sizes = format_sizes known c.format in
    let sizes-at : slice_get s.0.formats c.format_place ≡ Some sizes =
    ap (λ fs. slice_get fs c.format_place) has.formats_are ∙ slice_get-map (format_sizes known) called.caller.formats c.format_place ∙ ap (option_map (format_sizes known)) c.format_at in
    let format-at : FormatAt methods known called.caller c.format s.0 sizes = record {
      method_place = called.place;
      method_at = called.caller_at;
      whole_at = s.1;
      format_place = c.format_place;
      format_at = c.format_at;
      sizes_at = sizes-at;
    } in
    let all = (agree called.place called.caller called.caller_at c).limited called.caller s.0 called.caller_at s.1 (some-format called.caller k c) in
    let e = there c.arguments q (omega (arith, lt, called.as_many)) in
    let argument : IsArgument c.format k q e.0 = record { field = c.field; field_place = c.field_place; field_at = c.field_at; arguments = c.arguments; is_call = c.is_call; argument_at = e.1 } in
    let sound = faultless c.format sizes (format_ranges sizes s.0.parameters) (whole-fine methods known called.caller c.format s.0 sizes both.fine all format-at) in
    let accepted = (sound.expressions e.0 (in_encoding c.field_place q c.field_at (ap (λ d. slice_get (encoding_exprs d) q) c.is_call ∙ e.1))).accepted in
    let range = range-of (ranged (ranges_in sizes s.0) e.0) accepted in
    let around = gathered-brings methods known k q found called.caller c.format s.0 sizes e.0 range.0 format-at argument range.1 None at in
    let wrong : None ≡ Some around.interval = around.is in
    absurd cc

abbrev start-of : Method → List (Option Interval)
start-of m = map (λ p. None) m.parameters

-- so where the method has a format, each of its parameters has a range
each-has-range : (methods : List Method) (order : List ℕ) (known table : List MethodSizes) (k : ℕ) (m : Method) → BothRanged methods order known table → CallersAgree methods known table k
    → slice_get methods k ≡ Some m → 0 < length m.formats → (q : ℕ) (o : Option Interval) → slice_get (gathered methods known k (start-of m)) q ≡ Some o → (i : Interval) × (o ≡ Some i)
each-has-range methods order known table k m both agree here some q (Some i) at = (i, refl)
each-has-range methods order known table k m both agree here some q None at =
    let inside : q < length (gathered methods known k (start-of m)) = slice_get_within (gathered methods known k (start-of m)) q None at in
    let lt : q < length m.parameters = omega (arith, inside, gathered-count methods known k (start-of m), map-length {B = Option Interval} (λ (p : List ℕ). None) m.parameters) in
    let none = both.called.each k m here some (λ called. brings-range methods order known table k q m (start-of m) both agree lt called at) in
    absurd (omega (arith, lt, none))

entries-agree : (methods : List Method) (order : List ℕ) (known table : List MethodSizes) (k i : ℕ) (c : Method) (found : List (Option Interval)) → BothRanged methods order known table
    → CallersAgree methods known table k → slice_get methods i ≡ Some c → with_entry (slice_get known i) k found c ≡ with_entry (slice_get table i) k found c
entries-agree methods order known table k i c found both agree here = by (is_caller k c) refl
  where
    within : i < length methods
    within = slice_get_within methods i c here

    s : (s : MethodSizes) × (slice_get known i ≡ Some s)
    s = there known i (omega (arith, within, both.sized.known_sized.each))

    r : (r : MethodSizes) × (slice_get table i ≡ Some r)
    r = there table i (omega (arith, within, both.sized.table_sized.each))

    by : (b : Bool) → is_caller k c ≡ b → with_entry (slice_get known i) k found c ≡ with_entry (slice_get table i) k found c
    by false e = uncalled-entry (slice_get known i) k found c e ∙ sym (uncalled-entry (slice_get table i) k found c e)
    by true e =
        let call = caller-calls k c e in
        let formats = formats-agree known table c s.0 r.0 (called-agree methods order known table both.sized i c here)
        (all-sized methods order known both.sized.ordered both.sized.known_sized i c s.0 here s.1) (all-sized methods order table both.sized.ordered both.sized.table_sized i c r.0 here r.1) in
        let parameters = (agree i c here call).same c s.0 r.0 here s.1 r.1 (some-format c k call) in
        ap (λ o. with_entry o k found c) s.1 ∙ (λ j. with_method (formats j) (parameters j) k found c) ∙ sym (ap (λ o. with_entry o k found c) r.1)

gathered-agree : (methods : List Method) (order : List ℕ) (known table : List MethodSizes) (k : ℕ) (found : List (Option Interval)) → BothRanged methods order known table
    → CallersAgree methods known table k → gathered methods known k found ≡ gathered methods table k found
gathered-agree methods order known table k found both agree =
    folded-same (λ i o c. with_entry (slice_get known i) k o c) (λ i o c. with_entry (slice_get table i) k o c) 0 found methods (λ i c here o.
    let zero-i : i ≡ 0 + i = omega arith in
    subst (λ n. with_entry (slice_get known n) k o c ≡ with_entry (slice_get table n) k o c) zero-i (entries-agree methods order known table k i c o both agree here))

settled-same : (found : List (Option Interval)) (x y : Interval) → ((q : ℕ) (o : Option Interval) → slice_get found q ≡ Some o → (i : Interval) × (o ≡ Some i))
    → map (λ o. unwrap_or o x) found ≡ map (λ o. unwrap_or o y) found
settled-same found x y each =
    map-same (λ o. unwrap_or o x) (λ o. unwrap_or o y) found (λ q o at.
    let i = each q o at in ap (λ z. unwrap_or z x) i.1 ∙ sym (ap (λ z. unwrap_or z y) i.1))

settled-limited : (found : List (Option Interval)) (x : Interval) → ((q : ℕ) (o : Option Interval) → slice_get found q ≡ Some o → (i : Interval) × (o ≡ Some i)) → AllLimited found
    → AreLimited (map (λ o. unwrap_or o x) found)
settled-limited found x each all q i at = by (slice_get found q) refl (sym (slice_get-map (λ o. unwrap_or o x) found q) ∙ at)
  where
    by : (e : Option (Option Interval)) → slice_get found q ≡ e → option_map (λ o. unwrap_or o x) e ≡ Some i → is_limited i ≡ true
    by None is so = let wrong : None ≡ Some i = so in absurd cc
    by (Some o) is so =
        let j = each q o is in
        let first : unwrap_or o x ≡ i = cc in
        let same : j.0 ≡ i = sym (ap (λ z. unwrap_or z x) j.1) ∙ first in
        subst (λ z. is_limited z ≡ true) same (all q j.0 (is ∙ ap Some j.1))

-- one more method agrees, where those that call it do
agrees-next : (methods : List Method) (order : List ℕ) (known table : List MethodSizes) (p k : ℕ) → BothRanged methods order known table → slice_get order p ≡ Some k
    → CallersAgree methods known table k → Agrees methods known table k
agrees-next methods order known table p k both at agree = record {
  same = λ m s r here in-known in-table some.
      both.known_ranged.ranged p k m s (omega arith) at here in-known
      ∙ settled-same (gathered methods known k (start-of m)) beyond only_zero (each-has-range methods order known table k m both agree here some)
      ∙ ap (map (λ o. unwrap_or o only_zero)) (gathered-agree methods order known table k (start-of m) both agree)
      ∙ sym (both.table_ranged.ranged p k m r (omega arith) at here in-table);
  limited = λ m s here in-known some.
      subst AreLimited (sym (both.known_ranged.ranged p k m s (omega arith) at here in-known))
      (settled-limited (gathered methods known k (start-of m)) beyond (each-has-range methods order known table k m both agree here some)
      (gathered-keeps AllLimited limited-kept methods known k (start-of m) (none-yet m.parameters)));
}

-- the methods at the last places agree, as many as the count
last-agree : (methods : List Method) (order : List ℕ) (known table : List MethodSizes) → BothRanged methods order known table
    → (count p k : ℕ) → length order ≤ p + count → slice_get order p ≡ Some k → k < length methods → Agrees methods known table k
last-agree methods order known table both zero p k le at within = let lt : p < length order = slice_get_within order p k at in absurd (omega arith)
last-agree methods order known table both (suc count) p k le at within =
    agrees-next methods order known table p k both at (λ j c here calls.
    let inside : j < length methods = slice_get_within methods j c here in
    let place = both.sized.ordered.each j inside in
    let earlier = both.sized.ordered.before place.0 j k c place.1 here calls in
    let same : earlier.0 ≡ p = both.sized.ordered.once earlier.0 p k within earlier.2 at in
    last-agree methods order known table both count place.0 j (omega (arith, same, earlier.1, le)) place.1 inside)

all-agree : (methods : List Method) (order : List ℕ) (known table : List MethodSizes) (k : ℕ) → BothRanged methods order known table → k < length methods → Agrees methods known table k
all-agree methods order known table k both within =
    let place = both.sized.ordered.each k within in
    last-agree methods order known table both (length order) place.0 k (omega arith) place.1 within

-- ---- the whole table

pub fine-by-all : (methods : List Method) (order : List ℕ) (known table : List MethodSizes) → BothRanged methods order known table → IsFine Whole methods table
fine-by-all methods order known table both = record {
  within = λ k m r here in-table.
      let inside : k < length methods = slice_get_within methods k m here in
      let s = there known k (omega (arith, inside, both.sized.known_sized.each)) in
      let whole = wholes-agree known table m s.0 r (called-agree methods order known table both.sized k m here)
      (all-sized methods order known both.sized.ordered both.sized.known_sized k m s.0 here s.1) (all-sized methods order table both.sized.ordered both.sized.table_sized k m r here in-table) in
      subst (λ w. bits_within w ≡ true) whole (both.fine.within k m s.0 here s.1);
  accepted = λ m format r sizes at.
      let inside : at.method_place < length methods = slice_get_within methods at.method_place m at.method_at in
      let s = there known at.method_place (omega (arith, inside, both.sized.known_sized.each)) in
      let formats = formats-agree known table m s.0 r (called-agree methods order known table both.sized at.method_place m at.method_at)
      (all-sized methods order known both.sized.ordered both.sized.known_sized at.method_place m s.0 at.method_at s.1)
      (all-sized methods order table both.sized.ordered both.sized.table_sized at.method_place m r at.method_at at.whole_at) in
      let agrees = all-agree methods order known table at.method_place both inside in
      let some : 0 < length m.formats = let w = slice_get_within m.formats at.format_place format at.format_at in omega (arith, w) in
      let in-known : FormatAt methods known m format s.0 sizes = record {
        method_place = at.method_place;
        method_at = at.method_at;
        whole_at = s.1;
        format_place = at.format_place;
        format_at = at.format_at;
        sizes_at = ap (λ fs. slice_get fs at.format_place) formats ∙ at.sizes_at;
      } in
      subst (λ ps. format_fault Whole format sizes (format_ranges sizes ps) ≡ None) (agrees.same m s.0 r at.method_at s.1 at.whole_at some)
      (whole-fine methods known m format s.0 sizes both.fine (agrees.limited m s.0 at.method_at s.1 some) in-known);
}

not-long : (s : Sizes) → bits_within s ≡ true → is_short s ≡ false → ⊥
not-long s within long =
    let short = (and_parts (is_short s) (nat_le s.compressed.most (2 ^ 18)) within).0 in
    let wrong : true ≡ false = sym short ∙ long in
    absurd cc

-- so a table with a fault has one by known ranges
pub not-fine : (methods : List Method) (table : List MethodSizes) (f : ProfileFault) → IsFaulty Whole methods table f → IsFine Whole methods table → ⊥
not-fine methods table f (is_wide w) fine = not-long w.sizes.whole (fine.within w.place w.method w.sizes w.method_at w.sizes_at) w.beyond
not-fine methods table f (in_format {m = m} {format = format} {s = s} {sizes = sizes} at some) fine =
    let wrong : None ≡ Some f = sym (fine.accepted m format s sizes at) ∙ some in absurd cc
