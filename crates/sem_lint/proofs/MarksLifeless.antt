-- Methods are marked one after the other, and in the end just the lifeless ones are.
use Rattle.std.proofs.Common.{◌≡◌, ◌∙◌, refl, sym, ap, subst, ℕ, suc, zero, ◌<◌, ◌≤◌, ◌+◌, ◌⊎◌, inl, inr, Bool, true, false, List, [], ◌∷◌, ◌++◌, length, replicate, nat_eq, nat_lt, arith}
use Rattle.std.specs.Prelude.{Option, Some, None, slice_get, slice_set, MatchOption}
use Rattle.std.proofs.lemmas.Bool.{true≢false, eqb-true, eqb-false}
use Rattle.std.proofs.lemmas.Bool.Decides.{nat_tests}
use Rattle.std.proofs.lemmas.List.{length-append}
use Rattle.std.proofs.lemmas.Option.{slice_get_within}
use Rattle.std.specs.Option.{option_and_then, is_some}
use Rattle.sem_graph.specs.Calls.{marked}
use Rattle.sem_profile.proofs.FieldsRuling.{there}
use Rattle.sem_profile.specs.declared.profile.Field.{Field}
use Rattle.sem_profile.specs.declared.profile.Format.{Format}
use Rattle.sem_profile.specs.declared.profile.Method.{Method}
use Rattle.sem_profile.specs.Resolved.{Resolved}
use Rattle.sem_filling.specs.Fits.{format_at}
use Rattle.sem_filling.proofs.FitsSized.{one_value, and_then_some}
use Rattle.sem_filling.specs.declared.obstacle.Obstacle.{Obstacle}
use Rattle.sem_filling.specs.declared.obstacle.Obstacle.TheVariants as obstacle
use Rattle.sem_lint.specs.Obstacles.{Stands, CallsAt, Hinders, by_itself, by_call, IsLifeless, lifeless, IsHindered, hindered}
use Rattle.sem_lint.specs.Marks.{marked_at, AreMarked, CallsMarked, own_at, IsOwn, IsRow, AreOwn, IsHeld, AreHeldIn, AreHeld, IsNext, SomeMarked}

-- ---- marks

-- nothing is marked at first
pub blank : (count k : ℕ) → marked_at (replicate count false) k ≡ true → ⊥
blank zero k is = absurd (cc)
blank (suc n) zero is = absurd (cc)
blank (suc n) (suc k) is = blank n k is

pub blank_count : (count : ℕ) → marked (replicate count false) ≡ 0
blank_count zero = refl
blank_count (suc n) = blank_count n

pub blank_length : (count : ℕ) → length (replicate count false) ≡ count
blank_length zero = refl
blank_length (suc n) = ap suc (blank_length n)

-- one more is marked
pub one_more : (marks : List Bool) (k : ℕ) → k < length marks → marked_at marks k ≡ false → marked (slice_set marks k true) ≡ suc (marked marks)
one_more [] k lt is = absurd (omega (arith, lt))
one_more (true ∷ marks) zero lt is = absurd (true≢false is)
one_more (false ∷ marks) zero lt is = refl
one_more (true ∷ marks) (suc k) lt is = ap suc (one_more marks k (omega (arith, lt)) is)
one_more (false ∷ marks) (suc k) lt is = one_more marks k (omega (arith, lt)) is

pub set_length : (marks : List Bool) (k : ℕ) → length (slice_set marks k true) ≡ length marks
set_length [] k = refl
set_length (m ∷ marks) zero = refl
set_length (m ∷ marks) (suc k) = ap suc (set_length marks k)

-- which is this one or one before
pub set_at : (marks : List Bool) (k j : ℕ) → marked_at (slice_set marks k true) j ≡ true → (j ≡ k) ⊎ (marked_at marks j ≡ true)
set_at [] k j is = inr is
set_at (m ∷ marks) zero zero is = inl refl
set_at (m ∷ marks) zero (suc j) is = inr is
set_at (m ∷ marks) (suc k) zero is = inr is
set_at (m ∷ marks) (suc k) (suc j) is = by (set_at marks k j is)
  where
    by : (j ≡ k) ⊎ (marked_at marks j ≡ true) → (suc j ≡ suc k) ⊎ (marked_at marks j ≡ true)
    by (inl same) = inl (ap suc same)
    by (inr there) = inr there

marked_within : (marks : List Bool) → marked marks ≤ length marks
marked_within [] = omega arith
marked_within (true ∷ marks) = let rest = marked_within marks in omega (arith, rest)
marked_within (false ∷ marks) = let rest = marked_within marks in omega (arith, rest)

-- where as many are marked as there are, each is
pub all_marked : (marks : List Bool) → length marks ≤ marked marks → (k : ℕ) → k < length marks → marked_at marks k ≡ true
all_marked [] all k lt = absurd (omega (arith, lt))
all_marked (true ∷ marks) all zero lt = refl
all_marked (true ∷ marks) all (suc k) lt = all_marked marks (omega (arith, all)) k (omega (arith, lt))
all_marked (false ∷ marks) all k lt = absurd (let rest = marked_within marks in omega (arith, rest, all))

-- ---- lifeless methods

module _ (p : Resolved) (own : List (List Bool)) (are : AreOwn p own) where
  of_method : (k n : ℕ) (format : Format) → format_at p.methods k n ≡ Some format → (m : Method) × (slice_get p.methods k ≡ Some m) × (slice_get m.formats n ≡ Some format)
  of_method k n format e = and_then_some (λ m. slice_get m.formats n) (slice_get p.methods k) format e

  -- a held format has an obstacle
  held_hinders : (marks : List Bool) → ((j : ℕ) → marked_at marks j ≡ true → IsLifeless p j) → (k n : ℕ) (format : Format) → format_at p.methods k n ≡ Some format → IsHeld marks (own_at own k n) format.fields → IsHindered p k n
  held_hinders marks only k n format at (inl is) = let t = (are k n).only is in hindered t.0 (by_itself t.1)
  held_hinders marks only k n format at (inr c) =
      let calls : CallsAt p k n c.0 c.1.method = record { format = format; format_is = at; field = c.1.field; field_at = c.1.field_at; arguments = c.1.arguments; is_call = c.1.is_call } in
      hindered (obstacle.CallsDead c.0) (by_call c.1.method calls (only c.1.method c.1.marked))

  -- the next one is lifeless
  next_lifeless : (marks : List Bool) → ((j : ℕ) → marked_at marks j ≡ true → IsLifeless p j) → (k : ℕ) → AreHeld p own marks k → IsLifeless p k
  next_lifeless marks only k held = lifeless held.method held.method_at each
    where
      each : (n : ℕ) → n < length held.method.formats → IsHindered p k n
      each n lt =
          let found = there held.method.formats n lt in
          let at : format_at p.methods k n ≡ Some found.0 = ap (option_and_then (λ m. slice_get m.formats n)) held.method_at ∙ found.1 in
          held_hinders marks only k n found.0 at (held.each n found.0 found.1)

  -- ---- where there is no next one

  module _ (marks : List Bool) (closed : (k : ℕ) → IsNext p own marks k → ⊥) where
    settled : (k : ℕ) → AreHeld p own marks k → marked_at marks k ≡ true
    settled k held = by (marked_at marks k) refl
      where
        by : (b : Bool) → marked_at marks k ≡ b → marked_at marks k ≡ true
        by true is = is
        by false is = absurd (closed k (record { unmarked = is; held = held }))

    at_place : (k n : ℕ) (m : Method) (format : Format) → slice_get p.methods k ≡ Some m → slice_get m.formats n ≡ Some format → format_at p.methods k n ≡ Some format
    at_place k n m format at here = ap (option_and_then (λ m. slice_get m.formats n)) at ∙ here

    mutual
      found : {k : ℕ} → IsLifeless p k → marked_at marks k ≡ true
      found {k} (lifeless m at each) =
          settled k (record { method = m; method_at = at; each = λ n format here. held_by (each n (slice_get_within m.formats n format here)) format (at_place k n m format at here) })

      held_by : {k n : ℕ} → IsHindered p k n → (format : Format) → format_at p.methods k n ≡ Some format → IsHeld marks (own_at own k n) format.fields
      held_by (hindered o has) format at = held_of has format at

      held_of : {k n : ℕ} {o : Obstacle} → Hinders p k n o → (format : Format) → format_at p.methods k n ≡ Some format → IsHeld marks (own_at own k n) format.fields
      held_of {k} {n} {o} (by_itself stands) format at = inl ((are k n).all o stands)
      held_of {k} {n} (by_call {i = i} j calls dead) format at =
          inr (
            i,
            record {
              field = calls.field;
              field_at = subst (λ (y : Format). slice_get y.fields i ≡ Some calls.field) (one_value _ calls.format format calls.format_is at) calls.field_at;
              method = j;
              arguments = calls.arguments;
              is_call = calls.is_call;
              marked = found dead;
            },
          )

  -- ---- together

  pub ended : (marks : List Bool) (count : ℕ) → SomeMarked p marks count → ((k : ℕ) → IsNext p own marks k → ⊥) → AreMarked p marks
  ended marks count so closed = record { only = so.only; all = λ k dead. found marks closed dead }

  pub next : (marks : List Bool) (count k : ℕ) → SomeMarked p marks count → IsNext p own marks k → SomeMarked p (slice_set marks k true) (count + 1)
  next marks count k so is = record {
    length_is = set_length marks k ∙ so.length_is;
    only = λ j here. by j (set_at marks k j here);
    count_is = let one = one_more marks k within is.unmarked in let old = so.count_is in omega (arith, one, old);
  }
    where
      within : k < length marks
      within = let lt = slice_get_within p.methods k is.held.method is.held.method_at in let same = so.length_is in omega (arith, lt, same)

      by : (j : ℕ) → (j ≡ k) ⊎ (marked_at marks j ≡ true) → IsLifeless p j
      by j (inl same) = subst (λ z. IsLifeless p z) (sym same) (next_lifeless marks so.only k is.held)
      by j (inr there_is) = so.only j there_is

pub started : (p : Resolved) → SomeMarked p (replicate (length p.methods) false) 0
started p = record { length_is = blank_length (length p.methods); only = λ k is. absurd (blank (length p.methods) k is); count_is = blank_count (length p.methods) }

-- all are marked
pub full : (p : Resolved) (marks : List Bool) (count : ℕ) → length p.methods ≤ count → SomeMarked p marks count → AreMarked p marks
full p marks count many so = record { only = so.only; all = λ k dead. by k dead }
  where
    by : (k : ℕ) → IsLifeless p k → marked_at marks k ≡ true
    by k (lifeless m at each) =
        let lt = slice_get_within p.methods k m at in
        let same = so.length_is in
        let all = so.count_is in
        all_marked marks (omega (arith, same, all, many)) k (omega (arith, lt, same))

-- ---- rows

marked_before : (row : List Bool) (b : Bool) (n : ℕ) → n < length row → marked_at (row ++ b ∷ []) n ≡ marked_at row n
marked_before [] b n lt = absurd (omega (arith, lt))
marked_before (m ∷ row) b zero lt = refl
marked_before (m ∷ row) b (suc n) lt = marked_before row b n (omega (arith, lt))

marked_last : (row : List Bool) (b : Bool) → marked_at (row ++ b ∷ []) (length row) ≡ b
marked_last [] b = refl
marked_last (m ∷ row) b = marked_last row b

past : (row : List Bool) (n : ℕ) → length row ≤ n → marked_at row n ≡ false
past [] n le = refl
past (m ∷ row) zero le = absurd (omega (arith, le))
past (m ∷ row) (suc n) le = past row n (omega (arith, le))

row_before : (rows : List (List Bool)) (row : List Bool) (k n : ℕ) → k < length rows → own_at (rows ++ row ∷ []) k n ≡ own_at rows k n
row_before [] row k n lt = absurd (omega (arith, lt))
row_before (r ∷ rows) row zero n lt = refl
row_before (r ∷ rows) row (suc k) n lt = row_before rows row k n (omega (arith, lt))

row_last : (rows : List (List Bool)) (row : List Bool) (n : ℕ) → own_at (rows ++ row ∷ []) (length rows) n ≡ marked_at row n
row_last [] row n = refl
row_last (r ∷ rows) row n = row_last rows row n

past_rows : (rows : List (List Bool)) (k n : ℕ) → length rows ≤ k → own_at rows k n ≡ false
past_rows [] k n le = refl
past_rows (r ∷ rows) zero n le = absurd (omega (arith, le))
past_rows (r ∷ rows) (suc k) n le = past_rows rows k n (omega (arith, le))

-- so far
pub record RowSoFar (p : Resolved) (k count : ℕ) (row : List Bool) : Type 0 where
  pub length_is : length row ≡ count
  pub each : (n : ℕ) → n < count → IsOwn p k n (marked_at row n)

pub record RowsSoFar (p : Resolved) (count : ℕ) (rows : List (List Bool)) : Type 0 where
  pub length_is : length rows ≡ count
  pub each : (k n : ℕ) → k < count → IsOwn p k n (own_at rows k n)

pub no_row : (p : Resolved) (k : ℕ) → RowSoFar p k 0 []
no_row p k = record { length_is = refl; each = λ n lt. absurd (omega (arith, lt)) }

pub no_rows : (p : Resolved) → RowsSoFar p 0 []
no_rows p = record { length_is = refl; each = λ k n lt. absurd (omega (arith, lt)) }

pub row_on : (p : Resolved) (k count : ℕ) (row : List Bool) (b : Bool) → RowSoFar p k count row → IsOwn p k count b → RowSoFar p k (count + 1) (row ++ b ∷ [])
row_on p k count row b so is = record { length_is = length-append row (b ∷ []) ∙ ap (λ z. z + 1) so.length_is; each = λ n lt. by n lt (nat_eq n count) refl }
  where
    by : (n : ℕ) → n < count + 1 → (t : Bool) → nat_eq n count ≡ t → IsOwn p k n (marked_at (row ++ b ∷ []) n)
    by n lt true e =
        let same = eqb-true n count e in
        subst (λ z. IsOwn p k z (marked_at (row ++ b ∷ []) z)) (sym same) (subst (λ z. IsOwn p k count z) (sym (marked_last row b) ∙ ap (marked_at (row ++ b ∷ [])) so.length_is) is)
    by n lt false e =
        let differ = eqb-false n count e in
        let before : n < count = omega (arith, lt, differ) in
        subst (λ z. IsOwn p k n z) (sym (marked_before row b n (let all = so.length_is in omega (arith, before, all)))) (so.each n before)

pub rows_on : (p : Resolved) (count : ℕ) (rows : List (List Bool)) (row : List Bool) → RowsSoFar p count rows → IsRow p count row → RowsSoFar p (count + 1) (rows ++ row ∷ [])
rows_on p count rows row so is = record { length_is = length-append rows (row ∷ []) ∙ ap (λ z. z + 1) so.length_is; each = λ k n lt. by k n lt (nat_eq k count) refl }
  where
    by : (k n : ℕ) → k < count + 1 → (t : Bool) → nat_eq k count ≡ t → IsOwn p k n (own_at (rows ++ row ∷ []) k n)
    by k n lt true e =
        let same = eqb-true k count e in
        subst (λ z. IsOwn p z n (own_at (rows ++ row ∷ []) z n)) (sym same) (subst (λ z. IsOwn p count n z) (sym (row_last rows row n) ∙ ap (λ z. own_at (rows ++ row ∷ []) z n) so.length_is) (is n))
    by k n lt false e =
        let differ = eqb-false k count e in
        let before : k < count = omega (arith, lt, differ) in
        subst (λ z. IsOwn p k n z) (sym (row_before rows row k n (let all = so.length_is in omega (arith, before, all)))) (so.each k n before)

-- past the last there is no format
pub row_ended : (p : Resolved) (k count : ℕ) (row : List Bool) (m : Method) → slice_get p.methods k ≡ Some m → length m.formats ≤ count → RowSoFar p k count row → IsRow p k row
row_ended p k count row m at many so = λ n. by n (nat_lt n count) refl
  where
    none : (n : ℕ) → count ≤ n → (o : Obstacle) → Stands p k n o → ⊥
    none n le o stands =
        let t = and_then_some (λ (x : Method). slice_get x.formats n) (slice_get p.methods k) stands.format stands.format_is in
        let same : t.0 ≡ m = one_value _ t.0 m t.1 at in
        let lt = slice_get_within m.formats n stands.format (subst (λ (x : Method). slice_get x.formats n ≡ Some stands.format) same t.2) in
        omega (arith, le, lt, many)

    by : (n : ℕ) (t : Bool) → nat_lt n count ≡ t → IsOwn p k n (marked_at row n)
    by n true e = so.each n (grind (arith, nat_tests))
    by n false e =
        let le : count ≤ n = grind (arith, nat_tests) in
        let no = past row n (let all = so.length_is in omega (arith, le, all)) in
        record { only = λ yes. absurd (true≢false (sym yes ∙ no)); all = λ o stands. absurd (none n le o stands) }

pub rows_ended : (p : Resolved) (count : ℕ) (rows : List (List Bool)) → length p.methods ≤ count → RowsSoFar p count rows → AreOwn p rows
rows_ended p count rows many so = λ k n. by k n (nat_lt k count) refl
  where
    none : (k n : ℕ) → count ≤ k → (o : Obstacle) → Stands p k n o → ⊥
    none k n le o stands =
        let t = and_then_some (λ (x : Method). slice_get x.formats n) (slice_get p.methods k) stands.format stands.format_is in
        let lt = slice_get_within p.methods k t.0 t.1 in
        omega (arith, le, lt, many)

    by : (k n : ℕ) (t : Bool) → nat_lt k count ≡ t → IsOwn p k n (own_at rows k n)
    by k n true e = so.each k n (grind (arith, nat_tests))
    by k n false e =
        let le : count ≤ k = grind (arith, nat_tests) in
        let no = past_rows rows k n (let all = so.length_is in omega (arith, le, all)) in
        record { only = λ yes. absurd (true≢false (sym yes ∙ no)); all = λ o stands. absurd (none k n le o stands) }

-- ---- what the search for the next one finds

pub held_is : (marks : List Bool) (own : Bool) (formats : List Format) (n : ℕ) (found : Format) → slice_get formats n ≡ Some found → own ≡ false → (fields : List Field) → fields ≡ found.fields
    → (o : Option ℕ) → MatchOption o ((i : ℕ) → CallsMarked marks fields i → ⊥) (CallsMarked marks fields) → (t : Bool) → t ≡ is_some o
    → (t ≡ true → (f : Format) → slice_get formats n ≡ Some f → IsHeld marks own f.fields) × (((f : Format) → slice_get formats n ≡ Some f → IsHeld marks own f.fields) → t ≡ true)
held_is marks own formats n found at unowned fields same (Some i) calls t is =
    (λ e f here. let one = one_value _ found f at here in inr (i, subst (λ (y : Format). CallsMarked marks y.fields i) one (subst (λ fs. CallsMarked marks fs i) same calls)), λ h. is)
held_is marks own formats n found at unowned fields same None none t is = (λ e. absurd (true≢false (sym e ∙ is)), λ h. by (h found at))
  where
    by : IsHeld marks own found.fields → t ≡ true
    by (inl owned) = absurd (true≢false (sym owned ∙ unowned))
    by (inr c) = absurd (none c.0 (subst (λ fs. CallsMarked marks fs c.0) (sym same) c.1))

pub owned_is : (marks : List Bool) (own : Bool) (formats : List Format) (n : ℕ) → own ≡ true → (f : Format) → slice_get formats n ≡ Some f → IsHeld marks own f.fields
owned_is marks own formats n owned f at = inl owned

pub next_is : (p : Resolved) (own : List (List Bool)) (marks : List Bool) (k : ℕ) (methods : List Method) → methods ≡ p.methods → (m : Method) → slice_get methods k ≡ Some m → marked_at marks k ≡ false
    → (formats : List Format) → formats ≡ m.formats → (t : Bool) → (t ≡ true → AreHeldIn own marks k formats) × (AreHeldIn own marks k formats → t ≡ true)
    → (t ≡ true → IsNext p own marks k) × (IsNext p own marks k → t ≡ true)
next_is p own marks k methods same m at unmarked formats are t h = (
  λ e. record { unmarked = unmarked; held = record { method = m; method_at = subst (λ ms. slice_get ms k ≡ Some m) same at; each = subst (AreHeldIn own marks k) are (h.0 e) } },
  λ is. let one : is.held.method ≡ m = one_value _ is.held.method m is.held.method_at (subst (λ ms. slice_get ms k ≡ Some m) same at) in
      h.1 (subst (AreHeldIn own marks k) (sym are) (subst (λ (y : Method). AreHeldIn own marks k y.formats) one is.held.each)),
)

pub none_of_own : (p : Resolved) (k n : ℕ) → ((o : Obstacle) → Stands p k n o → ⊥) → IsOwn p k n false
none_of_own p k n none = record { only = λ e. absurd (true≢false (sym e)); all = λ o stands. absurd (none o stands) }

pub lifeless_method : (p : Resolved) (own : List (List Bool)) (marks : List Bool) (count k : ℕ) → SomeMarked p marks count → IsNext p own marks k → k < length marks
lifeless_method p own marks count k so is = let lt = slice_get_within p.methods k is.held.method is.held.method_at in let same = so.length_is in omega (arith, lt, same)
