-- Where a table of bounds is fine, each parameter of a method that is called has a range.
use Rattle.std.proofs.Common.{◌≡◌, ◌∙◌, ap, ℕ, ◌+◌, suc, zero, ◌<◌, ◌⊎◌, inl, inr, Bool, true, false, cond, nat_eq, eq-eqb, List, [], ◌∷◌, Option, Some, None, Result, Ok, Err, fold, length, refl, sym, subst, arith}
use Rattle.std.specs.Prelude.{slice_get, is_some, IsOk}
use Rattle.std.specs.Option.{option_map, option_and_then, unwrap_or}
use Rattle.std.specs.Result.{result_ok}
use Rattle.std.proofs.lemmas.List.{length-map}
use Rattle.std.proofs.lemmas.Option.{slice_get_within}
use Rattle.sem_expr.specs.declared.expr.Expr.{Expr}
use Rattle.sem_expr.specs.declared.fault.RangeFault.{RangeFault}
use Rattle.sem_expr.specs.declared.interval.Interval.{Interval}
use Rattle.sem_expr.specs.declared.ranges.Ranges.{Ranges}
use Rattle.sem_expr.specs.Bounds.{bounding_of}
use Rattle.sem_expr.specs.Ranged.{ranged}
use Rattle.sem_profile.specs.declared.profile.Encoding.{Encoding}
use Rattle.sem_profile.specs.declared.profile.Encoding.TheVariants as encoding
use Rattle.sem_profile.specs.declared.profile.Field.{Field}
use Rattle.sem_profile.specs.declared.profile.Format.{Format}
use Rattle.sem_profile.specs.declared.profile.FormatSizes.{FormatSizes}
use Rattle.sem_profile.specs.declared.profile.Method.{Method}
use Rattle.sem_profile.specs.declared.profile.MethodSizes.{MethodSizes}
use Rattle.sem_profile.specs.Calling.{IsArgument, ranges_in}
use Rattle.sem_profile.specs.Methods.{CallsMethod}
use Rattle.sem_profile.specs.Outcome.{AreSizes, FormatAt}
use Rattle.sem_profile.specs.Parameters.{joined, argument_range, with_arguments, with_call, with_fields, with_format, with_method, with_entry, gathered, only_zero}
use Rattle.sem_profile.specs.Passes.{folded}
use Rattle.sem_profile.specs.Ranging.{format_ranges}
use Rattle.sem_profile.proofs.PassesPlaces.{indexed-at}
use Rattle.sem_profile.proofs.FieldsRuling.{there}
use Rattle.sem_profile.proofs.ParametersWidening.{lie-in-parameters}
use Rattle.text_resolve.proofs.PlainOneTable.{AreFilled, nothing_for}

-- ---- what each step of a pass keeps, and what one step brings

fold_keeps : {A B : Type 0} (P : B → Type 0) (f : B → A → B) → ((b : B) (x : A) → P b → P (f b x)) → (b : B) (xs : List A) → P b → P (fold f b xs)
fold_keeps P f keeps b [] p = p
fold_keeps P f keeps b (x ∷ xs) p = fold_keeps P f keeps (f b x) xs (keeps b x p)

fold_brings : {A B : Type 0} (P : B → Type 0) (f : B → A → B) → ((b : B) (x : A) → P b → P (f b x)) → (b : B) (xs : List A) (i : ℕ) (x : A) → slice_get xs i ≡ Some x
    → ((c : B) → P (f c x)) → P (fold f b xs)
fold_brings P f keeps b [] i x at brings = let wrong : None ≡ Some x = at in absurd cc
fold_brings P f keeps b (y ∷ ys) zero x at brings = let same : y ≡ x = cc in fold_keeps P f keeps (f b y) ys (subst (λ z. P (f b z)) (sym same) (brings b))
fold_brings P f keeps b (y ∷ ys) (suc i) x at brings = fold_brings P f keeps (f b y) ys i x at brings

folded_keeps : {A B : Type 0} (P : B → Type 0) (f : ℕ → B → A → B) → ((n : ℕ) (b : B) (x : A) → P b → P (f n b x)) → (n : ℕ) (b : B) (xs : List A) → P b → P (folded f n b xs)
folded_keeps P f keeps n b [] p = p
folded_keeps P f keeps n b (x ∷ xs) p = folded_keeps P f keeps (n + 1) (f n b x) xs (keeps n b x p)

folded_brings : {A B : Type 0} (P : B → Type 0) (f : ℕ → B → A → B) → ((n : ℕ) (b : B) (x : A) → P b → P (f n b x)) → (n : ℕ) (b : B) (xs : List A) (i : ℕ) (x : A)
    → slice_get xs i ≡ Some x → ((c : B) → P (f (n + i) c x)) → P (folded f n b xs)
folded_brings P f keeps n b [] i x at brings = let wrong : None ≡ Some x = at in absurd cc
folded_brings P f keeps n b (y ∷ ys) zero x at brings =
    let same : y ≡ x = cc in
    let here : n + 0 ≡ n = omega arith in
    folded_keeps P f keeps (n + 1) (f n b y) ys (subst (λ z. P (f n b z)) (sym same) (subst (λ k. P (f k b x)) here (brings b)))
folded_brings P f keeps n b (y ∷ ys) (suc i) x at brings =
    let next : n + suc i ≡ n + 1 + i = omega arith in
    folded_brings P f keeps (n + 1) (f n b y) ys i x at (λ c. subst (λ k. P (f k c x)) next (brings c))

-- ---- the argument of a call has a range

-- the entry at the place has a range, where the list has the place
abbrev HasRange : ℕ → List (Option Interval) → Type 0
HasRange q found = (o : Option Interval) → slice_get found q ≡ Some o → is_some o ≡ true

joined_keeps : (o more : Option Interval) → is_some o ≡ true → is_some (joined o more) ≡ true
joined_keeps None more e = absurd cc
joined_keeps (Some i) None e = refl
joined_keeps (Some i) (Some j) e = refl

joined_brings : (o : Option Interval) (i : Interval) → is_some (joined o (Some i)) ≡ true
joined_brings None i = refl
joined_brings (Some j) i = refl

-- an entry after a call is the one before it, joined with the argument
entry_joined : (r : Ranges) (es : List Expr) (found : List (Option Interval)) (q : ℕ) (o : Option Interval) → slice_get (with_arguments r es found) q ≡ Some o
    → (p : Option Interval) × (slice_get found q ≡ Some p) × (joined p (argument_range r es q) ≡ o)
entry_joined r es found q o at = by (slice_get found q) refl (sym (indexed-at (λ n p. joined p (argument_range r es n)) 0 found q) ∙ at)
  where
    by : (e : Option (Option Interval)) → slice_get found q ≡ e → option_map (λ p. joined p (argument_range r es (0 + q))) e ≡ Some o
        → (p : Option Interval) × (slice_get found q ≡ Some p) × (joined p (argument_range r es q) ≡ o)
    by None is e = let wrong : None ≡ Some o = e in absurd cc
    by (Some p) is e =
        let zero_q : q ≡ 0 + q = omega arith in
        let same : joined p (argument_range r es (0 + q)) ≡ o = cc in
        (p, is, ap (λ n. joined p (argument_range r es n)) zero_q ∙ same)

arguments_keep : (q : ℕ) (r : Ranges) (es : List Expr) (found : List (Option Interval)) → HasRange q found → HasRange q (with_arguments r es found)
arguments_keep q r es found has o at =
    let old = entry_joined r es found q o at in
    sym (ap is_some old.2) ∙ joined_keeps old.0 (argument_range r es q) (has old.0 old.1)

arguments_bring : (q : ℕ) (i : Interval) (r : Ranges) (es : List Expr) (found : List (Option Interval)) (e : Expr) → slice_get es q ≡ Some e → ranged (bounding_of r) e ≡ Ok i
    → HasRange q (with_arguments r es found)
arguments_bring q i r es found e at is o found_at =
    let old = entry_joined r es found q o found_at in
    let range : argument_range r es q ≡ Some i = ap (option_and_then (λ x. result_ok (ranged (bounding_of r) x))) at ∙ ap result_ok is in
    sym (ap is_some old.2) ∙ (ap (λ o. is_some (joined old.0 o)) range ∙ joined_brings old.0 i)

call_keeps : (q : ℕ) (r : Ranges) (k : ℕ) (found : List (Option Interval)) (c : Encoding) → HasRange q found → HasRange q (with_call r k found c)
call_keeps q r k found encoding.Bare has = has
call_keeps q r k found (encoding.Library l) has = has
call_keeps q r k found (encoding.Call j es) has = by (nat_eq j k)
  where
    by : (b : Bool) → HasRange q (cond b (with_arguments r es found) found)
    by true = arguments_keep q r es found has
    by false = has

call_brings : (q : ℕ) (i : Interval) (r : Ranges) (k : ℕ) (found : List (Option Interval)) (c : Encoding) (es : List Expr) (e : Expr) → c ≡ encoding.Call k es
    → slice_get es q ≡ Some e → ranged (bounding_of r) e ≡ Ok i → HasRange q (with_call r k found c)
call_brings q i r k found c es e is at range =
    let self : nat_eq k k ≡ true = eq-eqb k k refl in
    subst (λ d. HasRange q (with_call r k found d)) (sym is)
    (subst (λ b. HasRange q (cond b (with_arguments r es found) found)) (sym self) (arguments_bring q i r es found e at range))

-- ---- all calls

format_keeps : (q : ℕ) (ps : List Interval) (k : ℕ) (found : List (Option Interval)) (format : Format) (s : Option FormatSizes) → HasRange q found → HasRange q (with_format ps k found format s)
format_keeps q ps k found format None has = has
format_keeps q ps k found format (Some s) has =
    fold_keeps (HasRange q) (λ o (d : Field). with_call (format_ranges s ps) k o d.encoding) (λ o d. call_keeps q (format_ranges s ps) k o d.encoding) found format.fields has

entry_keeps : (q : ℕ) (s : Option MethodSizes) (k : ℕ) (found : List (Option Interval)) (m : Method) → HasRange q found → HasRange q (with_entry s k found m)
entry_keeps q None k found m has = has
entry_keeps q (Some s) k found m has =
    folded_keeps (HasRange q) (λ n o format. with_format s.parameters k o format (slice_get s.formats n)) (λ n o format. format_keeps q s.parameters k o format (slice_get s.formats n)) 0 found m.formats has

gathered_brings : (methods : List Method) (table : List MethodSizes) (k q : ℕ) (found : List (Option Interval)) (m : Method) (format : Format) (s : MethodSizes) (sizes : FormatSizes) (e : Expr) (i : Interval)
    → FormatAt methods table m format s sizes → IsArgument format k q e → ranged (ranges_in sizes s) e ≡ Ok i → HasRange q (gathered methods table k found)
gathered_brings methods table k q found m format s sizes e i at is range =
    folded_brings (HasRange q) (λ n o c. with_entry (slice_get table n) k o c) (λ n o c. entry_keeps q (slice_get table n) k o c) 0 found methods at.method_place m at.method_at
    (λ o. subst (λ x. HasRange q (with_entry x k o m)) (sym (ap (slice_get table) (zero_plus at.method_place) ∙ at.whole_at)) (in_method o))
  where
    zero_plus : (n : ℕ) → 0 + n ≡ n
    zero_plus n = omega arith

    in_fields : (c : List (Option Interval)) → HasRange q (with_fields (format_ranges sizes s.parameters) k c format)
    in_fields c =
        fold_brings (HasRange q) (λ o (d : Field). with_call (format_ranges sizes s.parameters) k o d.encoding) (λ o d. call_keeps q (format_ranges sizes s.parameters) k o d.encoding) c format.fields
        is.field_place is.field is.field_at (λ o. call_brings q i (format_ranges sizes s.parameters) k o is.field.encoding is.arguments e is.is_call is.argument_at range)

    in_method : (o : List (Option Interval)) → HasRange q (with_method s.formats s.parameters k o m)
    in_method o =
        folded_brings (HasRange q) (λ n c f. with_format s.parameters k c f (slice_get s.formats n)) (λ n c f. format_keeps q s.parameters k c f (slice_get s.formats n)) 0 o m.formats
        at.format_place format at.format_at
        (λ c. subst (λ x. HasRange q (with_format s.parameters k c format x)) (sym (ap (slice_get s.formats) (zero_plus at.format_place) ∙ at.sizes_at)) (in_fields c))

-- ---- the parameters of a method

-- a method calls it with so many arguments
pub record IsCalled (methods : List Method) (k count : ℕ) : Type 0 where
  pub place : ℕ
  pub caller : Method
  pub at : slice_get methods place ≡ Some caller
  pub calling : CallsMethod caller k
  pub arguments : length calling.arguments ≡ count

range_of : (o : Result Interval RangeFault) → IsOk o → (i : Interval) × (o ≡ Ok i)
range_of (Ok i) h = (i, refl)
range_of (Err f) h = absurd cc

pub have_ranges : (methods : List Method) (table : List MethodSizes) → AreSizes methods table → (k : ℕ) (m : Method) → slice_get methods k ≡ Some m
    → (m.parameters ≡ []) ⊎ IsCalled methods k (length m.parameters) → AreFilled (gathered methods table k (nothing_for m))
have_ranges methods table are k m here calling q o at =
    let found = gathered methods table k (nothing_for m) in
    let take = lie-in-parameters methods table are in
    let t = there table k (omega (arith, slice_get_within methods k m here, are.each)) in
    let count : length t.0.parameters ≡ length found = ap length (are.ranged k m t.0 here t.1) ∙ length-map found (λ o. unwrap_or o only_zero) in
    let below : q < length m.parameters = omega (arith, count, take.each k m t.0 here t.1, slice_get_within found q o at) in
    elim calling as (λ _. is_some o ≡ true) [
      | inl none ↦ absurd (omega (arith, below, ap length none))
      | inr called ↦
          let c = called.calling in
          let e = there c.arguments q (omega (arith, below, called.arguments)) in
          let is : IsArgument c.format k q e.0 = record { field = c.field; field_place = c.field_place; field_at = c.field_at; arguments = c.arguments; is_call = c.is_call; argument_at = e.1 } in
          let s = there table called.place (omega (arith, slice_get_within methods called.place called.caller called.at, are.each)) in
          let sized = are.sized called.place called.caller s.0 called.at s.1 in
          let many : length s.0.formats ≡ length called.caller.formats = ap length sized.formats_are ∙ length-map called.caller.formats _ in
          let sizes = there s.0.formats c.format_place (omega (arith, slice_get_within called.caller.formats c.format_place c.format c.format_at, many)) in
          let format_at : FormatAt methods table called.caller c.format s.0 sizes.0 = record { method_place = called.place; method_at = called.at; whole_at = s.1; format_place = c.format_place; format_at = c.format_at; sizes_at = sizes.1 } in
          let i = range_of (ranged (ranges_in sizes.0 s.0) e.0) (take.accepted called.caller c.format s.0 sizes.0 format_at k q e.0 is) in
          gathered_brings methods table k q (nothing_for m) called.caller c.format s.0 sizes.0 e.0 i.0 format_at is i.1 o at
    ]
