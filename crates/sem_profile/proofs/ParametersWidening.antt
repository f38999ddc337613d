-- Joining intervals only widens them, so each argument of a call lies in the range of its parameter.
use Rattle.std.proofs.Common.{◌≡◌, ◌∙◌, ap, sym, refl, subst, ℕ, ◌+◌, ◌<◌, Bool, true, false, cond, eq-eqb, nat_eq, ℤ, List, [], ◌∷◌, suc, zero, length, map, fold, arith}
use Rattle.std.specs.Prelude.{slice_get, Some, None, Option, Result, Ok, Err, IsOk}
use Rattle.std.specs.Int.{int_min, int_max}
use Rattle.std.specs.Int.Signed.{≤ℤ_refl}
use Rattle.std.specs.Option.{option_map, option_and_then, unwrap_or}
use Rattle.std.specs.Result.{result_ok}
use Rattle.std.proofs.lemmas.Option.{slice_get_within, slice_get-map}
use Rattle.std.proofs.lemmas.Int.{ints, clamps}
use Rattle.sem_expr.specs.declared.expr.Expr.{Expr}
use Rattle.sem_expr.specs.declared.fault.RangeFault.{RangeFault}
use Rattle.sem_expr.specs.declared.interval.Interval.{Interval}
use Rattle.sem_expr.specs.declared.ranges.Ranges.{Ranges}
use Rattle.sem_expr.specs.Values.{Assignment, val}
use Rattle.sem_expr.specs.Rules.{IsIn, is_within}
use Rattle.sem_expr.specs.Ranged.{ranged}
use Rattle.sem_expr.specs.Spread.{LieIn, IsAccepted}
use Rattle.sem_expr.specs.Bounds.{bounding_of, every}
use Rattle.sem_expr.proofs.RangedLie.{lies, val_within}
use Rattle.sem_expr.proofs.RulesLimits.{within}
use Rattle.sem_profile.specs.declared.profile.FormatSizes.{FormatSizes}
use Rattle.sem_profile.specs.declared.profile.MethodSizes.{MethodSizes}
use Rattle.sem_profile.specs.declared.profile.Encoding.{Encoding}
use Rattle.sem_profile.specs.declared.profile.Encoding.TheVariants as encoding
use Rattle.sem_profile.specs.declared.profile.Format.{Format}
use Rattle.sem_profile.specs.declared.profile.Method.{Method}
use Rattle.sem_profile.specs.Passes.{folded}
use Rattle.sem_profile.specs.Ranging.{format_ranges}
use Rattle.sem_profile.specs.Parameters.{joined, argument_range, with_arguments, with_call, with_fields, with_format, with_method, with_entry, gathered, only_zero, parameter_ranges}
use Rattle.sem_profile.specs.BoundsLaws.{encoding_exprs, in_encoding}
use Rattle.sem_profile.specs.Outcome.{AreSizes, FormatAt}
use Rattle.sem_profile.specs.Calling.{IsArgument, LiesWithin, ranges_in, ArgumentsLieInParameters}
use Rattle.sem_profile.proofs.PassesPlaces.{indexed-at, indexed-length}
use Rattle.sem_profile.proofs.FaultsFaultless.{faultless}
use Rattle.sem_profile.proofs.FieldsRuling.{there}

-- ---- what each step of a pass keeps, and what one step brings

fold-keeps : {A B : Type 0} → (P : B → Type 0) (f : B → A → B) → ((b : B) (x : A) → P b → P (f b x)) → (b : B) (xs : List A) → P b → P (fold f b xs)
fold-keeps P f keeps b [] p = p
fold-keeps P f keeps b (x ∷ xs) p = fold-keeps P f keeps (f b x) xs (keeps b x p)

fold-brings : {A B : Type 0} → (P : B → Type 0) (f : B → A → B) → ((b : B) (x : A) → P b → P (f b x)) → (b : B) (xs : List A) (i : ℕ) (x : A) → slice_get xs i ≡ Some x
    → ((c : B) → P (f c x)) → P (fold f b xs)
fold-brings P f keeps b [] i x at brings = let wrong : None ≡ Some x = at in absurd cc
fold-brings P f keeps b (y ∷ ys) zero x at brings =
    let same : y ≡ x = cc in
    fold-keeps P f keeps (f b y) ys (subst (λ z. P (f b z)) (sym same) (brings b))
fold-brings P f keeps b (y ∷ ys) (suc i) x at brings = fold-brings P f keeps (f b y) ys i x at brings

folded-keeps : {A B : Type 0} → (P : B → Type 0) (f : ℕ → B → A → B) → ((n : ℕ) (b : B) (x : A) → P b → P (f n b x)) → (n : ℕ) (b : B) (xs : List A) → P b → P (folded f n b xs)
folded-keeps P f keeps n b [] p = p
folded-keeps P f keeps n b (x ∷ xs) p = folded-keeps P f keeps (n + 1) (f n b x) xs (keeps n b x p)

folded-brings : {A B : Type 0} → (P : B → Type 0) (f : ℕ → B → A → B) → ((n : ℕ) (b : B) (x : A) → P b → P (f n b x)) → (n : ℕ) (b : B) (xs : List A) (i : ℕ) (x : A)
    → slice_get xs i ≡ Some x → ((c : B) → P (f (n + i) c x)) → P (folded f n b xs)
folded-brings P f keeps n b [] i x at brings = let wrong : None ≡ Some x = at in absurd cc
folded-brings P f keeps n b (y ∷ ys) zero x at brings =
    let same : y ≡ x = cc in
    let here : n + 0 ≡ n = omega arith in
    folded-keeps P f keeps (n + 1) (f n b y) ys (subst (λ z. P (f n b z)) (sym same) (subst (λ k. P (f k b x)) here (brings b)))
folded-brings P f keeps n b (y ∷ ys) (suc i) x at brings =
    let next : n + suc i ≡ n + 1 + i = omega arith in
    folded-brings P f keeps (n + 1) (f n b y) ys i x at (λ c. subst (λ k. P (f k c x)) next (brings c))

-- ---- intervals that are joined

pub record Around (i : Interval) (o : Option Interval) : Type 0 where
  pub interval : Interval
  pub is : o ≡ Some interval
  pub within : LiesWithin i interval

-- the interval found at the place, where the list has the place, lies around the other one
abbrev pub Covers : ℕ → Interval → List (Option Interval) → Type 0
Covers q i found = (o : Option Interval) → slice_get found q ≡ Some o → Around i o

around-more : (i : Interval) (o more : Option Interval) → Around i o → Around i (joined o more)
around-more i None more r = let wrong : None ≡ Some r.interval = r.is in absurd cc
around-more i (Some j) None r = r
around-more i (Some j) (Some k) r =
    let same : r.interval ≡ j = cc in
    let w = subst (LiesWithin i) same r.within in
    let low = w.from in
    let high = w.to in
    record { interval = record { from = int_min j.from k.from; to = int_max j.to k.to }; is = refl; within = record { from = omega (arith, ints, clamps); to = omega (arith, ints, clamps) } }

around-joined : (i : Interval) (o : Option Interval) → Around i (joined o (Some i))
around-joined i None = record { interval = i; is = refl; within = record { from = ≤ℤ_refl i.from; to = ≤ℤ_refl i.to } }
around-joined i (Some j) =
    record { interval = record { from = int_min j.from i.from; to = int_max j.to i.to }; is = refl; within = record { from = omega (arith, ints, clamps); to = omega (arith, ints, clamps) } }

-- ---- one call

-- an entry after a call is the one before it, joined with the argument
pub entry-joined : (r : Ranges) (es : List Expr) (found : List (Option Interval)) (q : ℕ) (o : Option Interval) → slice_get (with_arguments r es found) q ≡ Some o
    → (p : Option Interval) × (slice_get found q ≡ Some p) × (joined p (argument_range r es q) ≡ o)
entry-joined r es found q o at = by (slice_get found q) refl (sym (indexed-at (λ n p. joined p (argument_range r es n)) 0 found q) ∙ at)
  where
    by : (e : Option (Option Interval)) → slice_get found q ≡ e → option_map (λ p. joined p (argument_range r es (0 + q))) e ≡ Some o
        → (p : Option Interval) × (slice_get found q ≡ Some p) × (joined p (argument_range r es q) ≡ o)
    by None is e = let wrong : None ≡ Some o = e in absurd cc
    by (Some p) is e =
        let zero-q : q ≡ 0 + q = omega arith in
        let same : joined p (argument_range r es (0 + q)) ≡ o = cc in
        (p, is, ap (λ n. joined p (argument_range r es n)) zero-q ∙ same)

arguments-keep : (q : ℕ) (i : Interval) (r : Ranges) (es : List Expr) (found : List (Option Interval)) → Covers q i found → Covers q i (with_arguments r es found)
arguments-keep q i r es found covers o at =
    let old = entry-joined r es found q o at in
    subst (Around i) old.2 (around-more i old.0 (argument_range r es q) (covers old.0 old.1))

argument-at : (q : ℕ) (i : Interval) (r : Ranges) (es : List Expr) (e : Expr) → slice_get es q ≡ Some e → ranged (bounding_of r) e ≡ Ok i → argument_range r es q ≡ Some i
argument-at q i r es e at is = ap (option_and_then (λ x. result_ok (ranged (bounding_of r) x))) at ∙ ap result_ok is

arguments-bring : (q : ℕ) (i : Interval) (r : Ranges) (es : List Expr) (found : List (Option Interval)) (e : Expr) → slice_get es q ≡ Some e → ranged (bounding_of r) e ≡ Ok i
    → Covers q i (with_arguments r es found)
arguments-bring q i r es found e at is o found-at =
    let old = entry-joined r es found q o found-at in
    subst (Around i) (ap (joined old.0) (sym (argument-at q i r es e at is)) ∙ old.2) (around-joined i old.0)

-- what the arguments of a call keep of the ranges so far, whatever the call
abbrev pub KeptBy : (List (Option Interval) → Type 0) → Type 0
KeptBy P = (r : Ranges) (es : List Expr) (found : List (Option Interval)) → P found → P (with_arguments r es found)

call-keeps : (P : List (Option Interval) → Type 0) → KeptBy P → (r : Ranges) (k : ℕ) (found : List (Option Interval)) (c : Encoding) → P found → P (with_call r k found c)
call-keeps P kept r k found encoding.Bare p = p
call-keeps P kept r k found (encoding.Library l) p = p
call-keeps P kept r k found (encoding.Call j es) p = by (nat_eq j k)
  where
    by : (b : Bool) → P (cond b (with_arguments r es found) found)
    by true = kept r es found p
    by false = p

call-brings : (q : ℕ) (i : Interval) (r : Ranges) (k : ℕ) (found : List (Option Interval)) (c : Encoding) (es : List Expr) (e : Expr) → c ≡ encoding.Call k es
    → slice_get es q ≡ Some e → ranged (bounding_of r) e ≡ Ok i → Covers q i (with_call r k found c)
call-brings q i r k found c es e is at range =
    let self : nat_eq k k ≡ true = eq-eqb k k refl in
    subst (λ d. Covers q i (with_call r k found d)) (sym is)
    (subst (λ b. Covers q i (cond b (with_arguments r es found) found)) (sym self) (arguments-bring q i r es found e at range))

-- ---- all calls

fields-keep : (P : List (Option Interval) → Type 0) → KeptBy P → (r : Ranges) (k : ℕ) (found : List (Option Interval)) (format : Format) → P found → P (with_fields r k found format)
fields-keep P kept r k found format p = fold-keeps P (λ o d. with_call r k o d.encoding) (λ o d. call-keeps P kept r k o d.encoding) found format.fields p

fields-bring : (q : ℕ) (i : Interval) (r : Ranges) (k : ℕ) (found : List (Option Interval)) (format : Format) (e : Expr) → IsArgument format k q e → ranged (bounding_of r) e ≡ Ok i
    → Covers q i (with_fields r k found format)
fields-bring q i r k found format e is range =
    fold-brings (Covers q i) (λ o d. with_call r k o d.encoding) (λ o d. call-keeps (Covers q i) (arguments-keep q i) r k o d.encoding) found format.fields is.field_place is.field is.field_at
    (λ o. call-brings q i r k o is.field.encoding is.arguments e is.is_call is.argument_at range)

format-keeps : (P : List (Option Interval) → Type 0) → KeptBy P → (ps : List Interval) (k : ℕ) (found : List (Option Interval)) (format : Format) (s : Option FormatSizes) → P found
    → P (with_format ps k found format s)
format-keeps P kept ps k found format None p = p
format-keeps P kept ps k found format (Some s) p = fields-keep P kept (format_ranges s ps) k found format p

method-keeps : (P : List (Option Interval) → Type 0) → KeptBy P → (fs : List FormatSizes) (ps : List Interval) (k : ℕ) (found : List (Option Interval)) (m : Method) → P found
    → P (with_method fs ps k found m)
method-keeps P kept fs ps k found m p =
    folded-keeps P (λ n o format. with_format ps k o format (slice_get fs n)) (λ n o format. format-keeps P kept ps k o format (slice_get fs n)) 0 found m.formats p

entry-keeps : (P : List (Option Interval) → Type 0) → KeptBy P → (s : Option MethodSizes) (k : ℕ) (found : List (Option Interval)) (m : Method) → P found → P (with_entry s k found m)
entry-keeps P kept None k found m p = p
entry-keeps P kept (Some s) k found m p = method-keeps P kept s.formats s.parameters k found m p

pub gathered-keeps : (P : List (Option Interval) → Type 0) → KeptBy P → (methods : List Method) (table : List MethodSizes) (k : ℕ) (found : List (Option Interval)) → P found
    → P (gathered methods table k found)
gathered-keeps P kept methods table k found p =
    folded-keeps P (λ i o c. with_entry (slice_get table i) k o c) (λ i o c. entry-keeps P kept (slice_get table i) k o c) 0 found methods p

pub gathered-brings : (methods : List Method) (table : List MethodSizes) (k q : ℕ) (found : List (Option Interval)) (m : Method) (format : Format) (s : MethodSizes) (sizes : FormatSizes) (e : Expr) (i : Interval)
    → FormatAt methods table m format s sizes → IsArgument format k q e → ranged (ranges_in sizes s) e ≡ Ok i → Covers q i (gathered methods table k found)
gathered-brings methods table k q found m format s sizes e i at is range =
    folded-brings (Covers q i) (λ n o c. with_entry (slice_get table n) k o c) (λ n o c. entry-keeps (Covers q i) (arguments-keep q i) (slice_get table n) k o c) 0 found methods at.method_place m at.method_at
    (λ o. subst (λ x. Covers q i (with_entry x k o m)) (sym (ap (slice_get table) (zero-plus at.method_place) ∙ at.whole_at)) (in-method o))
  where
    zero-plus : (n : ℕ) → 0 + n ≡ n
    zero-plus n = omega arith

    in-method : (o : List (Option Interval)) → Covers q i (with_method s.formats s.parameters k o m)
    in-method o =
        folded-brings (Covers q i) (λ n c f. with_format s.parameters k c f (slice_get s.formats n)) (λ n c f. format-keeps (Covers q i) (arguments-keep q i) s.parameters k c f (slice_get s.formats n)) 0 o m.formats
        at.format_place format at.format_at
        (λ c. subst (λ x. Covers q i (with_format s.parameters k c format x)) (sym (ap (slice_get s.formats) (zero-plus at.format_place) ∙ at.sizes_at))
        (fields-bring q i (format_ranges sizes s.parameters) k c format e is range))

-- ---- as many ranges as parameters

pub gathered-count : (methods : List Method) (table : List MethodSizes) (k : ℕ) (found : List (Option Interval)) → length (gathered methods table k found) ≡ length found
gathered-count methods table k found =
    gathered-keeps (λ c. length c ≡ length found) (λ r es c same. indexed-length (λ q o. joined o (argument_range r es q)) 0 c ∙ same) methods table k found refl

pub map-length : {A B : Type 0} → (f : A → B) (xs : List A) → length (map f xs) ≡ length xs
map-length f [] = refl
map-length f (x ∷ xs) = ap suc (map-length f xs)

abbrev zero-if-none : Option Interval → Interval
zero-if-none o = unwrap_or o only_zero

ranges-count : (methods : List Method) (table : List MethodSizes) (k : ℕ) (m : Method) → length (parameter_ranges only_zero methods table k m) ≡ length m.parameters
ranges-count methods table k m =
    let start = map (λ p. None) m.parameters in
    map-length zero-if-none (gathered methods table k start)
    ∙ gathered-count methods table k start
    ∙ map-length (λ p. None) m.parameters

-- ---- the law

settled-around : (i p : Interval) (o : Option Interval) → Around i o → zero-if-none o ≡ p → LiesWithin i p
settled-around i p o r e =
    let same : r.interval ≡ p = sym (ap zero-if-none r.is) ∙ e in
    subst (LiesWithin i) same r.within

covered : (found : List (Option Interval)) (q : ℕ) (i p : Interval) → Covers q i found → slice_get (map zero-if-none found) q ≡ Some p → LiesWithin i p
covered found q i p covers at = by (slice_get found q) refl (sym (slice_get-map zero-if-none found q) ∙ at)
  where
    by : (o : Option (Option Interval)) → slice_get found q ≡ o → option_map zero-if-none o ≡ Some p → LiesWithin i p
    by None is e = let wrong : None ≡ Some p = e in absurd cc
    by (Some o) is e = let same : zero-if-none o ≡ p = cc in settled-around i p o (covers o is) same

-- the entries of the table are of methods
method-of : (methods : List Method) (table : List MethodSizes) → AreSizes methods table → (k : ℕ) (t : MethodSizes) → slice_get table k ≡ Some t → (m : Method) × (slice_get methods k ≡ Some m)
method-of methods table are k t at = let within : k < length table = slice_get_within table k t at in there methods k (omega (arith, are.each))

range-within : (methods : List Method) (table : List MethodSizes) → AreSizes methods table → (m : Method) (format : Format) (s : MethodSizes) (sizes : FormatSizes)
    → FormatAt methods table m format s sizes → (k q : ℕ) (e : Expr) → IsArgument format k q e → (t : MethodSizes) (i p : Interval)
    → slice_get table k ≡ Some t → ranged (ranges_in sizes s) e ≡ Ok i → slice_get t.parameters q ≡ Some p → LiesWithin i p
range-within methods table are m format s sizes at k q e is t i p in-table range in-parameters =
    let called = method-of methods table are k t in-table in
    let start = map (λ n. None) called.0.parameters in
    covered (gathered methods table k start) q i p (gathered-brings methods table k q start m format s sizes e i at is range)
    (ap (λ ps. slice_get ps q) (sym (are.ranged k called.0 t called.1 in-table)) ∙ in-parameters)

accepted : (methods : List Method) (table : List MethodSizes) → AreSizes methods table → (m : Method) (format : Format) (s : MethodSizes) (sizes : FormatSizes)
    → FormatAt methods table m format s sizes → (k q : ℕ) (e : Expr) → IsArgument format k q e → IsAccepted (ranges_in sizes s) e
accepted methods table are m format s sizes at k q e is =
    ((faultless format sizes (format_ranges sizes s.parameters) (are.fine.accepted m format s sizes at)).expressions e
    (in_encoding is.field_place q is.field_at (ap (λ c. slice_get (encoding_exprs c) q) is.is_call ∙ is.argument_at))).accepted

range-of : (o : Result Interval RangeFault) → IsOk o → (i : Interval) × (o ≡ Ok i)
range-of (Ok i) h = (i, refl)
range-of (Err f) h = absurd cc

in-wider : (i p : Interval) (v : ℤ) → LiesWithin i p → IsIn i v → IsIn p v
in-wider i p v w h = let low = w.from in let high = w.to in let above = h.above in let below = h.below in record { above = omega (arith, ints); below = omega (arith, ints) }

in-every : (v : ℤ) → is_within v ≡ true → IsIn every v
in-every v e = let w = within v e in record { above = w.low; below = w.high }

value-within : (methods : List Method) (table : List MethodSizes) → AreSizes methods table → (m : Method) (format : Format) (s : MethodSizes) (sizes : FormatSizes)
    → FormatAt methods table m format s sizes → (k q : ℕ) (e : Expr) → IsArgument format k q e → (a : Assignment) (v : ℤ) (t : MethodSizes) (called : FormatSizes)
    → slice_get table k ≡ Some t → LieIn a (ranges_in sizes s) → val a e ≡ Some v → IsIn ((ranges_in called t).parameter q) v
value-within methods table are m format s sizes at k q e is a v t called in-table lie value =
    by (slice_get t.parameters q) refl (range-of (ranged (ranges_in sizes s) e) (accepted methods table are m format s sizes at k q e is))
  where
    by : (o : Option Interval) → slice_get t.parameters q ≡ o → (i : Interval) × (ranged (ranges_in sizes s) e ≡ Ok i) → IsIn (unwrap_or o every) v
    by None found r = in-every v (val_within a (ranges_in sizes s) lie e r.0 v r.1 value)
    by (Some p) found r =
        in-wider r.0 p v (range-within methods table are m format s sizes at k q e is t r.0 p in-table r.1 found) (lies a (ranges_in sizes s) lie e r.0 v r.1 value)

pub lie-in-parameters : ArgumentsLieInParameters
lie-in-parameters methods table are = record {
  each = λ k m t in-methods in-table. ap length (are.ranged k m t in-methods in-table) ∙ ranges-count methods table k m;
  accepted = accepted methods table are;
  range_within = range-within methods table are;
  value_within = value-within methods table are;
}
