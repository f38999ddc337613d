-- Methods in an order have one table of bounds, and one range for each parameter of a method that is called.
use Rattle.std.proofs.Common.{◌≡◌, ◌∙◌, ap, ℕ, ◌+◌, suc, zero, ◌<◌, ◌≤◌, Bool, true, false, ◌||◌, List, [], ◌∷◌, Option, Some, None, length, map, refl, sym, subst, arith}
use Rattle.std.specs.Prelude.{slice_get, is_some}
use Rattle.std.specs.List.{list_any}
use Rattle.std.specs.Option.{option_map, unwrap_or}
use Rattle.std.proofs.lemmas.Bool.{eqb-true}
use Rattle.std.proofs.lemmas.Option.{slice_get_within}
use Rattle.sem_expr.specs.declared.expr.Expr.{Expr}
use Rattle.sem_expr.specs.declared.interval.Interval.{Interval}
use Rattle.sem_profile.specs.declared.profile.Encoding.{Encoding}
use Rattle.sem_profile.specs.declared.profile.Encoding.TheVariants as encoding
use Rattle.sem_profile.specs.declared.profile.Field.{Field}
use Rattle.sem_profile.specs.declared.profile.Format.{Format}
use Rattle.sem_profile.specs.declared.profile.Method.{Method}
use Rattle.sem_profile.specs.declared.profile.MethodSizes.{MethodSizes}
use Rattle.sem_profile.specs.declared.profile.Sizes.{Sizes}
use Rattle.sem_graph.proofs.OrderPushing.{some_is}
use Rattle.sem_profile.specs.Fields.{bounds, sides, whole_at}
use Rattle.sem_profile.specs.Methods.{formats_hull, CallsMethod, IsOrder, SizedBefore}
use Rattle.sem_profile.specs.Parameters.{is_call, calls, with_format, with_method, with_entry, gathered, only_zero, parameter_ranges}
use Rattle.sem_profile.specs.Passes.{folded}
use Rattle.sem_bounds.proofs.ParametersCalling.{not-called}
use Rattle.sem_profile.proofs.FieldsRuling.{there}
use Rattle.sem_bounds.proofs.MethodsTables.{has-same}

-- ---- bounds

-- where both tables have the entry, it tells the same bounds
abbrev pub Alike : List MethodSizes → List MethodSizes → ℕ → Type 0
Alike old new k = (s t : MethodSizes) → slice_get old k ≡ Some s → slice_get new k ≡ Some t → (s.formats ≡ t.formats) × (s.whole ≡ t.whole)

abbrev whole_in : Option MethodSizes → Sizes
whole_in o = unwrap_or (option_map (λ (m : MethodSizes). m.whole) o) (sides (bounds 0 0) (bounds 0 0))

not_there : {X : Type 0} (xs : List X) (k : ℕ) → k < length xs → slice_get xs k ≡ None → ⊥
not_there xs k lt e = let x = there xs k lt in let wrong : Some x.0 ≡ None = sym x.1 ∙ e in absurd cc

same_whole : (old new : List MethodSizes) (k : ℕ) → length old ≡ length new → Alike old new k → whole_at old k ≡ whole_at new k
same_whole old new k count alike = by (slice_get old k) (slice_get new k) refl refl
  where
    by : (o p : Option MethodSizes) → slice_get old k ≡ o → slice_get new k ≡ p → whole_in (slice_get old k) ≡ whole_in (slice_get new k)
    by (Some s) (Some t) at_old at_new = ap whole_in at_old ∙ ((alike s t at_old at_new).1 ∙ sym (ap whole_in at_new))
    by (Some s) None at_old at_new = absurd (not_there new k (omega (arith, slice_get_within old k s at_old, count)) at_new)
    by None (Some t) at_old at_new = absurd (not_there old k (omega (arith, slice_get_within new k t at_new, count)) at_old)
    by None None at_old at_new = ap whole_in (at_old ∙ sym at_new)

no_whole : (table : List MethodSizes) (methods : List Method) (k : ℕ) → length table ≡ length methods → slice_get methods k ≡ None → whole_at table k ≡ sides (bounds 0 0) (bounds 0 0)
no_whole table methods k count none = by (slice_get table k) refl
  where
    by : (o : Option MethodSizes) → slice_get table k ≡ o → whole_in (slice_get table k) ≡ sides (bounds 0 0) (bounds 0 0)
    by (Some s) at = absurd (not_there methods k (omega (arith, slice_get_within table k s at, count)) none)
    by None at = ap whole_in at

-- two tables of the same order
pub record AreTwo (methods : List Method) (order : List ℕ) (place : ℕ) (old new : List MethodSizes) : Type 0 where
  pub ordered : IsOrder methods order
  pub before : SizedBefore methods order place old
  pub after : SizedBefore methods order place new

pub agree : (methods : List Method) (order : List ℕ) (place : ℕ) (old new : List MethodSizes) → AreTwo methods order place old new
    → (count i k : ℕ) (m : Method) → i < count → i < place → slice_get order i ≡ Some k → slice_get methods k ≡ Some m → Alike old new k
agree methods order place old new are zero i k m lt below at here = absurd (omega (arith, lt))
agree methods order place old new are (suc count) i k m lt below at here = λ s t at_old at_new.
    let a = are.before.sized i k m below at here in
    let b = are.after.sized i k m below at here in
    let called = λ (j : ℕ) (c : CallsMethod m j).
    let stands = are.ordered.before i k j m at here c in
    let less : stands.0 < count = omega (arith, stands.1, lt) in
    let early : stands.0 < place = omega (arith, stands.1, below) in
    whole_of j (λ n at_j. agree methods order place old new are count stands.0 j n less early stands.2 at_j) (slice_get methods j) refl in
    let moved = has-same old new m a.0 called a.2 in
    let formats : a.0.formats ≡ b.0.formats = moved.formats_are ∙ sym b.2.formats_are in
    let whole : a.0.whole ≡ b.0.whole = moved.whole_is ∙ (ap formats_hull formats ∙ sym b.2.whole_is) in
    let first : a.0 ≡ s = some_is (sym a.1 ∙ at_old) in
    let second : b.0 ≡ t = some_is (sym b.1 ∙ at_new) in (
      ap (λ (z : MethodSizes). z.formats) (sym first) ∙ (formats ∙ ap (λ (z : MethodSizes). z.formats) second),
      ap (λ (z : MethodSizes). z.whole) (sym first) ∙ (whole ∙ ap (λ (z : MethodSizes). z.whole) second),
    )
  where
    whole_of : (j : ℕ) → ((n : Method) → slice_get methods j ≡ Some n → Alike old new j) → (o : Option Method) → slice_get methods j ≡ o → whole_at old j ≡ whole_at new j
    whole_of j known (Some n) at_j = same_whole old new j (are.before.each ∙ sym are.after.each) (known n at_j)
    whole_of j known None at_j = no_whole old methods j are.before.each at_j ∙ sym (no_whole new methods j are.after.each at_j)

-- ---- the ranges of parameters

any_there : {X : Type 0} (p : X → Bool) (xs : List X) → list_any p xs ≡ true → (i : ℕ) × (x : X) × (slice_get xs i ≡ Some x) × (p x ≡ true)
any_there p [] e = absurd cc
any_there {X = X} p (x ∷ xs) e = by (p x) refl (λ is. any_there p xs (ap (λ b. b || list_any p xs) (sym is) ∙ e))
  where
    by : (b : Bool) → p x ≡ b → (p x ≡ false → (i : ℕ) × (y : X) × (slice_get xs i ≡ Some y) × (p y ≡ true)) → (i : ℕ) × (y : X) × (slice_get (x ∷ xs) i ≡ Some y) × (p y ≡ true)
    by true is more = (0, x, refl, is)
    by false is more = let rest = more is in (suc rest.0, rest.1, rest.2, rest.3)

call_of : (k : ℕ) (e : Encoding) → is_call k e ≡ true → (es : List Expr) × (e ≡ encoding.Call k es)
call_of k encoding.Bare e = absurd cc
call_of k (encoding.Library l) e = absurd cc
call_of k (encoding.Call j es) e = (es, ap (λ n. encoding.Call n es) (eqb-true j k e))

calls_there : (m : Method) (k n : ℕ) (format : Format) → slice_get m.formats n ≡ Some format → calls k format ≡ true → CallsMethod m k
calls_there m k n format at e =
    let d = any_there (λ (d : Field). is_call k d.encoding) format.fields e in
    let c = call_of k d.1.encoding d.3 in
    record { format = format; format_place = n; format_at = at; field = d.1; field_place = d.0; field_at = d.2; arguments = c.0; is_call = c.1 }

folded_same : {A B : Type 0} (f g : ℕ → B → A → B) (n : ℕ) (b : B) (xs : List A) → ((i : ℕ) (x : A) → slice_get xs i ≡ Some x → (c : B) → f (n + i) c x ≡ g (n + i) c x) → folded f n b xs ≡ folded g n b xs
folded_same f g n b [] same = refl
folded_same f g n b (x ∷ xs) same =
    let first : n + 0 ≡ n = omega arith in
    let next = λ (i : ℕ). let e : n + suc i ≡ n + 1 + i = omega arith in e in
    let here : f n b x ≡ g n b x = subst (λ k. f k b x ≡ g k b x) first (same 0 x refl b) in
    ap (λ c. folded f (n + 1) c xs) here ∙ folded_same f g (n + 1) (g n b x) xs (λ i y at c. subst (λ k. f k c y ≡ g k c y) (next i) (same (suc i) y at c))

-- where callers have the same ranges, they give the same to what they call
entry_same : (k : ℕ) (o : List (Option Interval)) (m : Method) (s t : MethodSizes) → s.formats ≡ t.formats → (CallsMethod m k → s.parameters ≡ t.parameters)
    → with_method s.formats s.parameters k o m ≡ with_method t.formats t.parameters k o m
entry_same k o m s t formats ranges =
    folded_same (λ n c f. with_format s.parameters k c f (slice_get s.formats n)) (λ n c f. with_format t.parameters k c f (slice_get t.formats n)) 0 o m.formats
    (λ n f at c. by n f at c (calls k f) refl)
  where
    by : (n : ℕ) (f : Format) → slice_get m.formats n ≡ Some f → (c : List (Option Interval)) (b : Bool) → calls k f ≡ b
        → with_format s.parameters k c f (slice_get s.formats (0 + n)) ≡ with_format t.parameters k c f (slice_get t.formats (0 + n))
    by n f at c true is = let same = ranges (calls_there m k n f at is) in λ i. with_format (same i) k c f (slice_get (formats i) (0 + n))
    by n f at c false is = sym (not-called s.parameters k c f (slice_get s.formats (0 + n)) is) ∙ not-called t.parameters k c f (slice_get t.formats (0 + n)) is

gathered_same : (methods : List Method) (old new : List MethodSizes) (k : ℕ) (found : List (Option Interval)) → length old ≡ length methods → length new ≡ length methods
    → ((c : ℕ) (m : Method) → slice_get methods c ≡ Some m → Alike old new c)
    → ((c : ℕ) (m : Method) (s t : MethodSizes) → slice_get methods c ≡ Some m → slice_get old c ≡ Some s → slice_get new c ≡ Some t → CallsMethod m k → s.parameters ≡ t.parameters)
    → gathered methods old k found ≡ gathered methods new k found
gathered_same methods old new k found count_old count_new alike ranges =
    folded_same (λ c o m. with_entry (slice_get old c) k o m) (λ c o m. with_entry (slice_get new c) k o m) 0 found methods (λ c m at o. by c m at o)
  where
    by : (c : ℕ) (m : Method) → slice_get methods c ≡ Some m → (o : List (Option Interval)) → with_entry (slice_get old (0 + c)) k o m ≡ with_entry (slice_get new (0 + c)) k o m
    by c m at o =
        let zero_c : 0 + c ≡ c = omega arith in
        let below = slice_get_within methods c m at in
        let s = there old c (omega (arith, below, count_old)) in
        let t = there new c (omega (arith, below, count_new)) in
        ap (λ (x : Option MethodSizes). with_entry x k o m) (ap (slice_get old) zero_c ∙ s.1)
        ∙ (entry_same k o m s.0 t.0 (alike c m at s.0 t.0 s.1 t.1).0 (ranges c m s.0 t.0 at s.1 t.1)
        ∙ sym (ap (λ (x : Option MethodSizes). with_entry x k o m) (ap (slice_get new) zero_c ∙ t.1)))

-- each entry has a range
abbrev pub AreFilled : List (Option Interval) → Type 0
AreFilled found = (q : ℕ) (o : Option Interval) → slice_get found q ≡ Some o → is_some o ≡ true

no_default : (a b : Interval) (found : List (Option Interval)) → AreFilled found → map (λ o. unwrap_or o a) found ≡ map (λ o. unwrap_or o b) found
no_default a b [] filled = refl
no_default a b (Some i ∷ os) filled = ap (λ is. i ∷ is) (no_default a b os (λ q. filled (suc q)))
no_default a b (None ∷ os) filled = let wrong : false ≡ true = filled 0 None refl in absurd cc

abbrev pub nothing_for : Method → List (Option Interval)
nothing_for m = map (λ (p : List ℕ). None) m.parameters

-- ranges by two tables, where the parameters of methods with formats all have some by the one
pub record AreRanged (methods : List Method) (order : List ℕ) (stand : Interval) (old new : List MethodSizes) : Type 0 where
  pub ordered : IsOrder methods order
  pub count_old : length old ≡ length methods
  pub count_new : length new ≡ length methods
  pub alike : (k : ℕ) (m : Method) → slice_get methods k ≡ Some m → Alike old new k
  pub by_old : (k : ℕ) (m : Method) (s : MethodSizes) → slice_get methods k ≡ Some m → slice_get old k ≡ Some s → s.parameters ≡ parameter_ranges only_zero methods old k m
  pub by_new : (k : ℕ) (m : Method) (s : MethodSizes) → slice_get methods k ≡ Some m → slice_get new k ≡ Some s → s.parameters ≡ parameter_ranges stand methods new k m
  pub filled : (k n : ℕ) (m : Method) (f : Format) → slice_get methods k ≡ Some m → slice_get m.formats n ≡ Some f → AreFilled (gathered methods old k (nothing_for m))

-- callers first: of what stands so many places from the end
ranges_from : (methods : List Method) (order : List ℕ) (stand : Interval) (old new : List MethodSizes) → AreRanged methods order stand old new
    → (count i k n : ℕ) (m : Method) (f : Format) (s t : MethodSizes) → length order ≤ i + count → slice_get order i ≡ Some k → slice_get methods k ≡ Some m → slice_get m.formats n ≡ Some f
    → slice_get old k ≡ Some s → slice_get new k ≡ Some t → s.parameters ≡ t.parameters
ranges_from methods order stand old new are zero i k n m f s t le at here at_f at_old at_new = absurd (omega (arith, slice_get_within order i k at, le))
ranges_from methods order stand old new are (suc count) i k n m f s t le at here at_f at_old at_new =
    let within = slice_get_within methods k m here in
    let callers = λ (c : ℕ) (p : Method) (a b : MethodSizes) (at_c : slice_get methods c ≡ Some p) (a_at : slice_get old c ≡ Some a) (b_at : slice_get new c ≡ Some b) (calling : CallsMethod p k).
    let place = are.ordered.each c (slice_get_within methods c p at_c) in
    let stands = are.ordered.before place.0 c k p place.1 at_c calling in
    let same : stands.0 ≡ i = are.ordered.once stands.0 i k within stands.2 at in
    ranges_from methods order stand old new are count place.0 c calling.format_place p calling.format a b (omega (arith, stands.1, same, le)) place.1 at_c calling.format_at a_at b_at in
    let one_list = gathered_same methods old new k (nothing_for m) are.count_old are.count_new are.alike callers in
    are.by_old k m s here at_old
    ∙ (no_default only_zero stand (gathered methods old k (nothing_for m)) (are.filled k n m f here at_f)
    ∙ (ap (map (λ (o : Option Interval). unwrap_or o stand)) one_list ∙ sym (are.by_new k m t here at_new)))

pub same_ranges_in : (methods : List Method) (order : List ℕ) (stand : Interval) (old new : List MethodSizes) → AreRanged methods order stand old new
    → (k n : ℕ) (m : Method) (f : Format) (s t : MethodSizes) → slice_get methods k ≡ Some m → slice_get m.formats n ≡ Some f → slice_get old k ≡ Some s → slice_get new k ≡ Some t
    → s.parameters ≡ t.parameters
same_ranges_in methods order stand old new are k n m f s t here at_f at_old at_new =
    let place = are.ordered.each k (slice_get_within methods k m here) in
    ranges_from methods order stand old new are (length order) place.0 k n m f s t (omega arith) place.1 here at_f at_old at_new
