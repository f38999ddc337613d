-- The ranges of parameters are set from the callers to the called.
use Rattle.std.proofs.Common.{◌||◌, eq-eqb, ◌≡◌, ◌≢◌, ◌∙◌, ap, sym, refl, subst, ℕ, ◌+◌, ◌-◌, ◌<◌, ◌≤◌, ◌⊎◌, inl, inr, Bool, true, false, cond, nat_eq, List, [], ◌∷◌, suc, zero, length, get_or, map, fold, arith}
use Rattle.std.specs.Prelude.{slice_get, Some, None, Option}
use Rattle.std.specs.List.{list_any}
use Rattle.std.specs.Option.{option_map, unwrap_or}
use Rattle.std.proofs.lemmas.Option.{slice_get_within, slice_get-get_or}
use Rattle.std.proofs.lemmas.Bool.{cases_order, eqb-true}
use Rattle.sem_expr.specs.declared.expr.Expr.{Expr}
use Rattle.sem_expr.specs.declared.interval.Interval.{Interval}
use Rattle.sem_expr.specs.declared.ranges.Ranges.{Ranges}
use Rattle.sem_profile.specs.declared.profile.Sizes.{Sizes}
use Rattle.sem_profile.specs.declared.profile.FormatSizes.{FormatSizes}
use Rattle.sem_profile.specs.declared.profile.MethodSizes.{MethodSizes}
use Rattle.sem_profile.specs.declared.profile.Encoding.{Encoding}
use Rattle.sem_profile.specs.declared.profile.Encoding.TheVariants as encoding
use Rattle.sem_profile.specs.declared.profile.Field.{Field}
use Rattle.sem_profile.specs.declared.profile.Format.{Format}
use Rattle.sem_profile.specs.declared.profile.Method.{Method}
use Rattle.sem_profile.specs.Fields.{bounds, sides}
use Rattle.sem_profile.specs.Passes.{changed, folded}
use Rattle.sem_profile.specs.Ranging.{format_ranges}
use Rattle.sem_profile.specs.Methods.{formats_hull, CallsMethod, IsOrder, SizedBefore}
use Rattle.sem_profile.specs.Parameters.{is_call, calls, with_arguments, with_call, with_format, with_method, with_entry, gathered, parameter_ranges, with_parameters, RangedFrom}
use Rattle.sem_profile.proofs.PassesPlaces.{changed-next}
use Rattle.sem_bounds.proofs.MethodsTables.{has-same}

-- ---- one entry of a list is changed

abbrev at-place : {A : Type 0} → (A → A) → List A → ℕ → List A
at-place h xs k = changed h xs k (slice_get xs k)

changed-length : {A : Type 0} → (h : A → A) (xs : List A) (k : ℕ) → length (at-place h xs k) ≡ length xs
changed-length h [] k = refl
changed-length h (x ∷ xs) zero = refl
changed-length h (x ∷ xs) (suc k) = ap length (changed-next h x xs k (slice_get xs k)) ∙ ap suc (changed-length h xs k)

changed-here : {A : Type 0} → (h : A → A) (xs : List A) (k : ℕ) → slice_get (at-place h xs k) k ≡ option_map h (slice_get xs k)
changed-here h [] k = refl
changed-here h (x ∷ xs) zero = refl
changed-here h (x ∷ xs) (suc k) = ap (λ ys. slice_get ys (suc k)) (changed-next h x xs k (slice_get xs k)) ∙ changed-here h xs k

changed-other : {A : Type 0} → (h : A → A) (xs : List A) (k j : ℕ) → j ≢ k → slice_get (at-place h xs k) j ≡ slice_get xs j
changed-other h [] k j ne = refl
changed-other h (x ∷ xs) zero zero ne = absurd (ne refl)
changed-other h (x ∷ xs) zero (suc j) ne = refl
changed-other h (x ∷ xs) (suc k) zero ne = ap (λ ys. slice_get ys zero) (changed-next h x xs k (slice_get xs k))
changed-other h (x ∷ xs) (suc k) (suc j) ne = ap (λ ys. slice_get ys (suc j)) (changed-next h x xs k (slice_get xs k)) ∙ changed-other h xs k j (λ e. ne (ap suc e))

-- what the change keeps of each element
changed-keeps : {A B : Type 0} → (g : A → B) (h : A → A) → ((x : A) → g (h x) ≡ g x) → (xs : List A) (k j : ℕ) → option_map g (slice_get (at-place h xs k) j) ≡ option_map g (slice_get xs j)
changed-keeps g h keeps [] k j = refl
changed-keeps g h keeps (x ∷ xs) zero zero = ap Some (keeps x)
changed-keeps g h keeps (x ∷ xs) zero (suc j) = refl
changed-keeps g h keeps (x ∷ xs) (suc k) zero = ap (λ ys. option_map g (slice_get ys zero)) (changed-next h x xs k (slice_get xs k))
changed-keeps g h keeps (x ∷ xs) (suc k) (suc j) =
    ap (λ ys. option_map g (slice_get ys (suc j))) (changed-next h x xs k (slice_get xs k)) ∙ changed-keeps g h keeps xs k j

some-of : {A B : Type 0} → (g : A → B) (o : Option A) (b : B) → option_map g o ≡ Some b → (a : A) × (o ≡ Some a) × (g a ≡ b)
some-of g None b e = let wrong : None ≡ Some b = e in absurd cc
some-of g (Some a) b e = let same : g a ≡ b = cc in (a, refl, same)

-- ---- the bounds in the table stay

abbrev both-of : MethodSizes → List FormatSizes × Sizes
both-of s = (s.formats, s.whole)

still-sized : (methods : List Method) (order : List ℕ) (n k : ℕ) (ps : List Interval) (t : List MethodSizes) → SizedBefore methods order n t
    → SizedBefore methods order n (changed (with_parameters ps) t k (slice_get t k))
still-sized methods order n k ps t before =
    let u = changed (with_parameters ps) t k (slice_get t k) in
    let whole = λ (j : ℕ). sym (ap (λ o. unwrap_or o (sides (bounds 0 0) (bounds 0 0))) (changed-keeps (λ (s : MethodSizes). s.whole) (with_parameters ps) (λ s. refl) t k j)) in
    record {
      each = changed-length (with_parameters ps) t k ∙ before.each;
      sized = λ i l q below at-i at-l.
          let old = before.sized i l q below at-i at-l in
          let now = some-of both-of (slice_get u l) (both-of old.0) (changed-keeps both-of (with_parameters ps) (λ s. refl) t k l ∙ ap (option_map both-of) old.1) in
          let h = has-same t u q old.0 (λ j calls. whole j) old.2 in
          let formats : now.0.formats ≡ old.0.formats = ap (λ (p : List FormatSizes × Sizes). p.0) now.2 in
          let same-whole : now.0.whole ≡ old.0.whole = ap (λ (p : List FormatSizes × Sizes). p.1) now.2 in
          (now.0, now.1, record { formats_are = formats ∙ h.formats_are; whole_is = same-whole ∙ h.whole_is ∙ sym (ap formats_hull formats) });
    }

-- ---- a method that does not call another gives it nothing

pub fold-still : {A B : Type 0} → (f : B → A → B) (b : B) (xs : List A) → ((i : ℕ) (x : A) → slice_get xs i ≡ Some x → f b x ≡ b) → fold f b xs ≡ b
fold-still f b [] still = refl
fold-still f b (x ∷ xs) still = ap (λ c. fold f c xs) (still 0 x refl) ∙ fold-still f b xs (λ i y at. still (suc i) y at)

pub folded-still : {A B : Type 0} → (f : ℕ → B → A → B) (n : ℕ) (b : B) (xs : List A) → ((i : ℕ) (x : A) → slice_get xs i ≡ Some x → (k : ℕ) → f k b x ≡ b) → folded f n b xs ≡ b
folded-still f n b [] still = refl
folded-still f n b (x ∷ xs) still = ap (λ c. folded f (n + 1) c xs) (still 0 x refl n) ∙ folded-still f (n + 1) b xs (λ i y at. still (suc i) y at)

pub folded-same : {A B : Type 0} → (f g : ℕ → B → A → B) (n : ℕ) (b : B) (xs : List A) → ((i : ℕ) (x : A) → slice_get xs i ≡ Some x → (c : B) → f (n + i) c x ≡ g (n + i) c x)
    → folded f n b xs ≡ folded g n b xs
folded-same f g n b [] same = refl
folded-same f g n b (x ∷ xs) same =
    let here : f n b x ≡ g n b x = ap (λ k. f k b x) (omega arith) ∙ same 0 x refl b ∙ ap (λ k. g k b x) (omega arith) in
    ap (λ c. folded f (n + 1) c xs) here
    ∙ folded-same f g (n + 1) (g n b x) xs (λ i y at c. ap (λ k. f k c y) (omega arith) ∙ same (suc i) y at c ∙ ap (λ k. g k c y) (omega arith))

or-false : (a b : Bool) → (a || b) ≡ false → (a ≡ false) × (b ≡ false)
or-false true b e = absurd cc
or-false false b e = (refl, e)

other-call : (r : Ranges) (k : ℕ) (o : List (Option Interval)) (e : Encoding) → ((es : List Expr) → e ≡ encoding.Call k es → ⊥) → with_call r k o e ≡ o
other-call r k o encoding.Bare no-call = refl
other-call r k o (encoding.Library l) no-call = refl
other-call r k o (encoding.Call j es) no-call = by (nat_eq j k) refl
  where
    by : (b : Bool) → nat_eq j k ≡ b → cond b (with_arguments r es o) o ≡ o
    by true e = let same : j ≡ k = eqb-true j k e in absurd (no-call es (ap (λ l. encoding.Call l es) same))
    by false e = refl

uncalled-format : (ps : List Interval) (k : ℕ) (o : List (Option Interval)) (format : Format) (s : Option FormatSizes)
    → ((i : ℕ) (d : Field) → slice_get format.fields i ≡ Some d → (es : List Expr) → d.encoding ≡ encoding.Call k es → ⊥) → with_format ps k o format s ≡ o
uncalled-format ps k o format None no-call = refl
uncalled-format ps k o format (Some s) no-call =
    fold-still (λ c d. with_call (format_ranges s ps) k c d.encoding) o format.fields (λ i d at. other-call (format_ranges s ps) k o d.encoding (no-call i d at))

pub none-passes : {A : Type 0} → (p : A → Bool) (xs : List A) → list_any p xs ≡ false → (i : ℕ) (x : A) → slice_get xs i ≡ Some x → p x ≡ false
none-passes p [] e i x at = let wrong : None ≡ Some x = at in absurd cc
none-passes p (y ∷ ys) e zero x at = let same : y ≡ x = cc in ap p (sym same) ∙ (or-false (p y) (list_any p ys) e).0
none-passes p (y ∷ ys) e (suc i) x at = none-passes p ys (or-false (p y) (list_any p ys) e).1 i x at

pub not-called : (ps : List Interval) (k : ℕ) (o : List (Option Interval)) (format : Format) (s : Option FormatSizes) → calls k format ≡ false → o ≡ with_format ps k o format s
not-called ps k o format s none =
    sym (uncalled-format ps k o format s (λ i d at es is. different es (sym (ap (is_call k) is) ∙ none-passes (λ (f : Field). is_call k f.encoding) format.fields none i d at)))
  where
    different : (es : List Expr) → nat_eq k k ≡ false → ⊥
    different es e = let right : nat_eq k k ≡ true = eq-eqb k k refl in let wrong : true ≡ false = sym right ∙ e in absurd cc

uncalled : (fs : List FormatSizes) (ps : List Interval) (k : ℕ) (o : List (Option Interval)) (m : Method) → (CallsMethod m k → ⊥) → with_method fs ps k o m ≡ o
uncalled fs ps k o m no-call =
    folded-still (λ n c format. with_format ps k c format (slice_get fs n)) 0 o m.formats (λ n format at j.
    uncalled-format ps k o format (slice_get fs j) (λ i d here es is. no-call record {
      format = format;
      format_place = n;
      format_at = at;
      field = d;
      field_place = i;
      field_at = here;
      arguments = es;
      is_call = is;
    }))

entry-same : (ps : List Interval) (k : ℕ) (o : List (Option Interval)) (m : Method) (e : Option MethodSizes) → (CallsMethod m k → ⊥)
    → with_entry (option_map (with_parameters ps) e) k o m ≡ with_entry e k o m
entry-same ps k o m None no-call = refl
entry-same ps k o m (Some s) no-call = uncalled s.formats ps k o m no-call ∙ sym (uncalled s.formats s.parameters k o m no-call)

-- the ranges of a method that the changed one doesn't call
gathered-same : (methods : List Method) (t : List MethodSizes) (j k : ℕ) (ps : List Interval) (o : List (Option Interval)) → ((m : Method) → slice_get methods j ≡ Some m → CallsMethod m k → ⊥)
    → gathered methods (changed (with_parameters ps) t j (slice_get t j)) k o ≡ gathered methods t k o
gathered-same methods t j k ps o no-call =
    let u = changed (with_parameters ps) t j (slice_get t j) in
    folded-same (λ i c m. with_entry (slice_get u i) k c m) (λ i c m. with_entry (slice_get t i) k c m) 0 o methods (λ i m at c.
    let zero-i : 0 + i ≡ i = omega arith in
    subst (λ n. with_entry (slice_get u n) k c m ≡ with_entry (slice_get t n) k c m) (sym zero-i)
    (elim (cases_order i j) as (λ _. with_entry (slice_get u i) k c m ≡ with_entry (slice_get t i) k c m) [
      | inl e ↦
          subst (λ n. with_entry (slice_get u n) k c m ≡ with_entry (slice_get t n) k c m) (sym e)
          (ap (λ (x : Option MethodSizes). with_entry x k c m) (changed-here (with_parameters ps) t j)
          ∙ entry-same ps k c m (slice_get t j) (no-call m (subst (λ n. slice_get methods n ≡ Some m) e at)))
      | inr apart ↦ ap (λ (x : Option MethodSizes). with_entry x k c m) (changed-other (with_parameters ps) t j i (λ e. unequal i j e apart))
    ]))
  where
    unequal : (a b : ℕ) → a ≡ b → (a < b) ⊎ (b < a) → ⊥
    unequal a b e (inl lt) = absurd (omega arith)
    unequal a b e (inr lt) = absurd (omega arith)

ranges-same : (stand : Interval) (methods : List Method) (t : List MethodSizes) (j k : ℕ) (ps : List Interval) (q : Method) → ((m : Method) → slice_get methods j ≡ Some m → CallsMethod m k → ⊥)
    → parameter_ranges stand methods (changed (with_parameters ps) t j (slice_get t j)) k q ≡ parameter_ranges stand methods t k q
ranges-same stand methods t j k ps q no-call = ap (map (λ o. unwrap_or o stand)) (gathered-same methods t j k ps (map (λ p. None) q.parameters) no-call)

-- ---- one place less

-- what stands at or after a place isn't called by the method there
uncalled-from : (methods : List Method) (order : List ℕ) (n k : ℕ) (m : Method) → IsOrder methods order → slice_get order n ≡ Some k → slice_get methods k ≡ Some m
    → (i l : ℕ) (q : Method) → n ≤ i → slice_get order i ≡ Some l → slice_get methods l ≡ Some q → (p : Method) → slice_get methods k ≡ Some p → CallsMethod p l → ⊥
uncalled-from methods order n k m is at here i l q le at-i at-l p also calls =
    let before = is.before n k l p at also calls in
    let same : before.0 ≡ i = is.once before.0 i l (slice_get_within methods l q at-l) before.2 at-i in
    absurd (omega (arith, before.1))

ranged-more : (stand : Interval) (methods : List Method) (order : List ℕ) (n k : ℕ) (m : Method) (t : List MethodSizes) → IsOrder methods order → slice_get order n ≡ Some k → slice_get methods k ≡ Some m
    → RangedFrom stand methods order (n + 1) t → RangedFrom stand methods order n (changed (with_parameters (parameter_ranges stand methods t k m)) t k (slice_get t k))
ranged-more stand methods order n k m t is at here after =
    let ps = parameter_ranges stand methods t k m in
    let u = changed (with_parameters ps) t k (slice_get t k) in
    record {
      ranged = λ i l q s le at-i at-l in-u.
          let frame : parameter_ranges stand methods u l q ≡ parameter_ranges stand methods t l q = ranges-same stand methods t k l ps q (uncalled-from methods order n k m is at here i l q le at-i at-l) in
          elim (cases_order i n) as (λ _. s.parameters ≡ parameter_ranges stand methods u l q) [
            | inl e ↦
                let both : Some k ≡ Some l = sym at ∙ subst (λ j. slice_get order j ≡ Some l) e at-i in
                let same : k ≡ l = cc in
                let also : Some m ≡ Some q = sym here ∙ subst (λ j. slice_get methods j ≡ Some q) (sym same) at-l in
                let same-method : m ≡ q = cc in
                let set = given (slice_get t k) s (sym (changed-here (with_parameters ps) t k) ∙ subst (λ j. slice_get u j ≡ Some s) (sym same) in-u) in
                set ∙ ap (λ j. parameter_ranges stand methods t j m) same ∙ ap (parameter_ranges stand methods t l) same-method ∙ sym frame
            | inr o ↦ elim o as (λ _. s.parameters ≡ parameter_ranges stand methods u l q) [
              | inl less ↦ absurd (omega arith)
              | inr more ↦
                  let ne : l ≢ k = λ e.
                  let once : i ≡ n = is.once i n l (slice_get_within methods l q at-l) at-i (at ∙ ap Some (sym e)) in absurd (omega arith) in
                  after.ranged i l q s (omega arith) at-i at-l (sym (changed-other (with_parameters ps) t k l ne) ∙ in-u) ∙ sym frame
            ]
          ];
    }
  where
    given : {ps : List Interval} (o : Option MethodSizes) (s : MethodSizes) → option_map (with_parameters ps) o ≡ Some s → s.parameters ≡ ps
    given None s e = let wrong : None ≡ Some s = e in absurd cc
    given {ps = ps} (Some r) s e = let same : with_parameters ps r ≡ s = cc in sym (ap (λ (x : MethodSizes). x.parameters) same)

ranged-skip : (stand : Interval) (methods : List Method) (order : List ℕ) (n k : ℕ) (t : List MethodSizes) → slice_get order n ≡ Some k → slice_get methods k ≡ None
    → RangedFrom stand methods order (n + 1) t → RangedFrom stand methods order n t
ranged-skip stand methods order n k t at none after = record {
  ranged = λ i l q s le at-i at-l in-t.
      elim (cases_order i n) as (λ _. s.parameters ≡ parameter_ranges stand methods t l q) [
        | inl e ↦
            let both : Some k ≡ Some l = sym at ∙ subst (λ j. slice_get order j ≡ Some l) e at-i in
            let same : k ≡ l = cc in
            let wrong : None ≡ Some q = sym none ∙ subst (λ j. slice_get methods j ≡ Some q) (sym same) at-l in
            absurd cc
        | inr o ↦ elim o as (λ _. s.parameters ≡ parameter_ranges stand methods t l q) [
          | inl less ↦ absurd (omega arith)
          | inr more ↦ after.ranged i l q s (omega arith) at-i at-l in-t
        ]
      ];
}

pub ranged-none : (stand : Interval) (methods : List Method) (order : List ℕ) (t : List MethodSizes) → RangedFrom stand methods order (length order) t
ranged-none stand methods order t = record { ranged = λ i k m s le at here in-t. let lt : i < length order = slice_get_within order i k at in absurd (omega arith) }

-- ---- the steps of the loop from the last place to the first

place-of : (order : List ℕ) (left : ℕ) → 0 < left → left ≤ length order → slice_get order (left - 1) ≡ Some (get_or order (left - 1) 0)
place-of order left more within = slice_get-get_or order (left - 1) 0 (omega arith)

pub ranged-step : (stand : Interval) (methods : List Method) (order : List ℕ) (left : ℕ) (m : Method) (t u : List MethodSizes) (ps : List Interval) → IsOrder methods order → 0 < left
    → Some m ≡ slice_get methods (get_or order (left - 1) 0) → ps ≡ parameter_ranges stand methods t (get_or order (left - 1) 0) m
    → u ≡ changed (with_parameters ps) t (get_or order (left - 1) 0) (slice_get t (get_or order (left - 1) 0))
    → (left ≤ length order) × SizedBefore methods order (length order) t × RangedFrom stand methods order left t
    → (left - 1 ≤ length order) × SizedBefore methods order (length order) u × RangedFrom stand methods order (left - 1) u
ranged-step stand methods order left m t u ps is more here made write so =
    let k = get_or order (left - 1) 0 in
    let back : left ≡ (left - 1) + 1 = omega arith in
    let after = subst (λ n. RangedFrom stand methods order n t) back so.2 in
    let ranged = ranged-more stand methods order (left - 1) k m t is (place-of order left more so.0) (sym here) after in
    let whole = subst (λ (qs : List Interval). RangedFrom stand methods order (left - 1) (changed (with_parameters qs) t k (slice_get t k))) (sym made) ranged in (
      omega arith,
      subst (SizedBefore methods order (length order)) (sym write) (still-sized methods order (length order) k ps t so.1),
      subst (RangedFrom stand methods order (left - 1)) (sym write) whole,
    )

pub ranged-pass : (stand : Interval) (methods : List Method) (order : List ℕ) (left : ℕ) (t : List MethodSizes) → 0 < left → None ≡ slice_get methods (get_or order (left - 1) 0)
    → (left ≤ length order) × SizedBefore methods order (length order) t × RangedFrom stand methods order left t
    → (left - 1 ≤ length order) × SizedBefore methods order (length order) t × RangedFrom stand methods order (left - 1) t
ranged-pass stand methods order left t more none so =
    let back : left ≡ (left - 1) + 1 = omega arith in
    (omega arith, so.1, ranged-skip stand methods order (left - 1) (get_or order (left - 1) 0) t (place-of order left more so.0) (sym none) (subst (λ n. RangedFrom stand methods order n t) back so.2))
