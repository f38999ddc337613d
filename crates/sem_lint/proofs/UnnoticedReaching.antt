-- Who calls whom by fields that aren't checked, as lists, and as it is.
use Rattle.std.proofs.Common.{◌≡◌, ◌↔◌, ◌∙◌, refl, sym, ap, subst, ℕ, zero, suc, ◌+◌, ◌<◌, ◌⊎◌, inl, inr, Bool, true, false, List, [], ◌∷◌, ◌++◌, length, map, get_or, nat_eq, nat_lt, arith}
use Rattle.std.specs.Prelude.{◌||◌, ◌&&◌, not, Option, Some, None, Result, Ok, Err, IfOk, slice_get, flat_map, unwrap_or, if◌then◌else◌}
use Rattle.std.specs.List.{enumerate_from}
use Rattle.std.specs.Option.{option_and_then}
use Rattle.std.proofs.lemmas.Bool.{true≢false}
use Rattle.std.proofs.lemmas.Bool.Decides.{Decides-eqb, nat_tests}
use Rattle.std.proofs.lemmas.List.{length-map}
use Rattle.std.proofs.lemmas.List.FromFn.{length-enumerate_from}
use Rattle.std.proofs.lemmas.Option.{slice_get_within, slice_get-get_or, get_or_from_slice_get}
use Rattle.sem_profile.specs.declared.profile.Format.{Format}
use Rattle.sem_profile.specs.declared.profile.Method.{Method}
use Rattle.sem_graph.specs.Calls.{Calls, Reaches, by_call, further, Within}
use Rattle.sem_graph.specs.Order.{Table, is_marked}
use Rattle.sem_graph.proofs.OrderPushing.{unwrap_get}
use Rattle.sem_profile.specs.Resolved.{Resolved, IsSound}
use Rattle.sem_filling.proofs.FitsSized.{one_value, and_then_some}
use Rattle.sem_lint.specs.declared.unnoticed.Unnoticed.{Unnoticed}
use Rattle.sem_lint.specs.Marks.{marked_at}
use Rattle.sem_lint.specs.Needs.{is_dead, takes_reference, TellsObstacles}
use Rattle.sem_lint.specs.Paths.{called_by}
use Rattle.sem_lint.specs.Sites.{format_in}
use Rattle.sem_lint.specs.Unnoticed.{is_checked, CallsUnchecked, RefersUnchecked, IsOpen, IsLoose, any_place, unnoticed_among, AreUnnoticed, callee_in, callee_of, callees_of, callees_in, callees, graph_of, is_reference, refers_by, refers_in, own_of, reaches_own, loose_by, open_by}
use Rattle.sem_lint.proofs.UnlikeSilent.{calls_of}

-- ---- tests

pub both : (a b : Bool) → (a && b) ≡ true → (a ≡ true) × (b ≡ true)
both true b e = (refl, e)
both false b e = absurd (cc)

both_are : (a b : Bool) → a ≡ true → b ≡ true → (a && b) ≡ true
both_are a b e h = ap (λ x. x && b) e ∙ h

pub either : (a b : Bool) → (a || b) ≡ true → (a ≡ true) ⊎ (b ≡ true)
either true b e = inl refl
either false b e = inr e

or_first : (a b : Bool) → a ≡ true → (a || b) ≡ true
or_first a b e = ap (λ x. x || b) e

or_second : (a b : Bool) → b ≡ true → (a || b) ≡ true
or_second true b e = refl
or_second false b e = e

denied : (b : Bool) → not b ≡ true → b ≡ false
denied true e = absurd (true≢false (sym e))
denied false e = refl

deny : (b : Bool) → b ≡ false → not b ≡ true
deny b e = ap not e

-- ---- elements at places

place_has : {A : Type 0} (test : ℕ → A → Bool) (b : ℕ) (xs : List A) (i c : ℕ) (x : A) → c ≡ b + i → slice_get xs i ≡ Some x → test c x ≡ true → any_place test b xs ≡ true
place_has test b [] i c x is at e = absurd (cc)
place_has test b (y ∷ xs) zero c x is at e =
    let same : y ≡ x = one_value (Some y) y x refl at in
    let here : c ≡ b = omega (arith, is) in
    or_first (test b y) _ (ap (test b) same ∙ subst (λ z. test z x ≡ true) here e)
place_has test b (y ∷ xs) (suc i) c x is at e = or_second (test b y) _ (place_has test (suc b) xs i c x (omega (arith, is)) at e)

pub record IsPlace {A : Type 0} (test : ℕ → A → Bool) (b : ℕ) (xs : List A) : Type 0 where
  pub place : ℕ
  pub from : ℕ
  pub from_is : from ≡ b + place
  pub one : A
  pub one_at : slice_get xs place ≡ Some one
  pub passes : test from one ≡ true

pub has_place : {A : Type 0} (test : ℕ → A → Bool) (b : ℕ) (xs : List A) → any_place test b xs ≡ true → IsPlace test b xs
has_place test b [] e = absurd (true≢false (sym e))
has_place {A} test b (y ∷ xs) e = by (either (test b y) _ e) (λ there. has_place test (suc b) xs there)
  where
    by : (test b y ≡ true) ⊎ (any_place test (suc b) xs ≡ true) → (any_place test (suc b) xs ≡ true → IsPlace test (suc b) xs) → IsPlace test b (y ∷ xs)
    by (inl here) rest = record { place = 0; from = b; from_is = omega arith; one = y; one_at = refl; passes = here }
    by (inr there) rest =
        let p = rest there in
        record { place = suc p.place; from = p.from; from_is = let is = p.from_is in omega (arith, is); one = p.one; one_at = p.one_at; passes = p.passes }

-- ---- members of lists that are made of others

abbrev pub IsIn : List ℕ → ℕ → Type 0
IsIn xs j = (p : ℕ) × (slice_get xs p ≡ Some j)

in_front : (xs ys : List ℕ) (p j : ℕ) → slice_get xs p ≡ Some j → IsIn (xs ++ ys) j
in_front [] ys p j at = absurd (cc)
in_front (x ∷ xs) ys zero j at = (zero, at)
in_front (x ∷ xs) ys (suc p) j at = let q = in_front xs ys p j at in (suc q.0, q.1)

behind : (xs ys : List ℕ) (p j : ℕ) → slice_get ys p ≡ Some j → IsIn (xs ++ ys) j
behind [] ys p j at = (p, at)
behind (x ∷ xs) ys p j at = let q = behind xs ys p j at in (suc q.0, q.1)

one_of : (xs ys : List ℕ) (p j : ℕ) → slice_get (xs ++ ys) p ≡ Some j → IsIn xs j ⊎ IsIn ys j
one_of [] ys p j at = inr (p, at)
one_of (x ∷ xs) ys zero j at = inl (zero, at)
one_of (x ∷ xs) ys (suc p) j at = by (one_of xs ys p j at)
  where
    by : IsIn xs j ⊎ IsIn ys j → IsIn (x ∷ xs) j ⊎ IsIn ys j
    by (inl q) = inl (suc q.0, q.1)
    by (inr q) = inr q

flat_in : {A : Type 0} (f : ℕ → A → List ℕ) (b : ℕ) (xs : List A) (i c : ℕ) (x : A) (j : ℕ) → c ≡ b + i → slice_get xs i ≡ Some x → IsIn (f c x) j → IsIn (flat_map (λ (y : ℕ × A). f y.0 y.1) (enumerate_from b xs)) j
flat_in f b [] i c x j is at q = absurd (cc)
flat_in f b (y ∷ xs) zero c x j is at q =
    let same : x ≡ y = one_value (Some y) x y at refl in
    let here : c ≡ b = omega (arith, is) in
    let r = subst (λ z. IsIn (f b z) j) same (subst (λ z. IsIn (f z x) j) here q) in
    in_front (f b y) _ r.0 j r.1
flat_in f b (y ∷ xs) (suc i) c x j is at q = let r = flat_in f (b + 1) xs i c x j (omega (arith, is)) at q in behind (f b y) _ r.0 j r.1

pub record IsMade {A : Type 0} (f : ℕ → A → List ℕ) (b : ℕ) (xs : List A) (j : ℕ) : Type 0 where
  pub place : ℕ
  pub from : ℕ
  pub from_is : from ≡ b + place
  pub one : A
  pub one_at : slice_get xs place ≡ Some one
  pub inside : IsIn (f from one) j

in_flat : {A : Type 0} (f : ℕ → A → List ℕ) (b : ℕ) (xs : List A) (j : ℕ) → IsIn (flat_map (λ (y : ℕ × A). f y.0 y.1) (enumerate_from b xs)) j → IsMade f b xs j
in_flat f b [] j q = absurd (let e = q.1 in cc)
in_flat {A} f b (y ∷ xs) j q = by (one_of (f b y) _ q.0 j q.1) (λ r. in_flat f (b + 1) xs j r)
  where
    by : IsIn (f b y) j ⊎ IsIn (flat_map (λ (z : ℕ × A). f z.0 z.1) (enumerate_from (b + 1) xs)) j
        → (IsIn (flat_map (λ (z : ℕ × A). f z.0 z.1) (enumerate_from (b + 1) xs)) j → IsMade f (b + 1) xs j) → IsMade f b (y ∷ xs) j
    by (inl r) rest = record { place = 0; from = b; from_is = omega arith; one = y; one_at = refl; inside = r }
    by (inr r) rest =
        let m = rest r in
        record { place = suc m.place; from = m.from; from_is = let is = m.from_is in omega (arith, is); one = m.one; one_at = m.one_at; inside = m.inside }

-- one is made of each
each_made : {A B : Type 0} (f : ℕ → A → B) (b : ℕ) (xs : List A) (i c : ℕ) (x : A) → c ≡ b + i → slice_get xs i ≡ Some x → slice_get (map (λ (y : ℕ × A). f y.0 y.1) (enumerate_from b xs)) i ≡ Some (f c x)
each_made f b [] i c x is at = absurd (cc)
each_made f b (y ∷ xs) zero c x is at =
    let same : y ≡ x = one_value (Some y) y x refl at in
    let here : b ≡ c = omega (arith, is) in
    ap Some (ap (f b) same ∙ ap (λ z. f z x) here)
each_made f b (y ∷ xs) (suc i) c x is at = each_made f (b + 1) xs i c x (omega (arith, is)) at

pub record IsOne {A B : Type 0} (f : ℕ → A → B) (b : ℕ) (xs : List A) (i : ℕ) (y : B) : Type 0 where
  pub from : ℕ
  pub from_is : from ≡ b + i
  pub one : A
  pub one_at : slice_get xs i ≡ Some one
  pub made : f from one ≡ y

made_each : {A B : Type 0} (f : ℕ → A → B) (b : ℕ) (xs : List A) (i : ℕ) (y : B) → slice_get (map (λ (z : ℕ × A). f z.0 z.1) (enumerate_from b xs)) i ≡ Some y → IsOne f b xs i y
made_each f b [] i y at = absurd (cc)
made_each f b (x ∷ xs) zero y at = record { from = b; from_is = omega arith; one = x; one_at = refl; made = one_value (Some (f b x)) (f b x) y refl at }
made_each f b (x ∷ xs) (suc i) y at =
    let m = made_each f (b + 1) xs i y at in
    record { from = m.from; from_is = let is = m.from_is in omega (arith, is); one = m.one; one_at = m.one_at; made = m.made }

-- ---- who calls whom

callee_there : (o : Option ℕ) (b : Bool) (j : ℕ) → o ≡ Some j → b ≡ false → IsIn (callee_in o b) j
callee_there None b j e h = absurd (cc)
callee_there (Some x) true j e h = absurd (true≢false h)
callee_there (Some x) false j e h = (0, e)

there_callee : (o : Option ℕ) (b : Bool) (j : ℕ) → IsIn (callee_in o b) j → (o ≡ Some j) × (b ≡ false)
there_callee None b j q = absurd (let e = q.1 in cc)
there_callee (Some x) true j q = absurd (let e = q.1 in cc)
there_callee (Some x) false j (zero, at) = (at, refl)
there_callee (Some x) false j (suc p, at) = absurd (cc)

alive_in : (b : Bool) (xs : List ℕ) (j : ℕ) → b ≡ false → IsIn xs j → IsIn (if b then [] else xs) j
alive_in true xs j e q = absurd (true≢false e)
alive_in false xs j e q = q

in_alive : (b : Bool) (xs : List ℕ) (j : ℕ) → IsIn (if b then [] else xs) j → (b ≡ false) × IsIn xs j
in_alive true xs j q = absurd (let e = q.1 in cc)
in_alive false xs j q = (refl, q)

at_once : (b i c : ℕ) → b ≡ 0 → c ≡ b + i → c ≡ i
at_once b i c zero_is is = omega (arith, zero_is, is)

module _ (methods : List Method) (dead : List (List Bool)) where
  in_format : (k n : ℕ) (f : Format) → format_in methods k n ≡ Some f → (m : Method) × (slice_get methods k ≡ Some m) × (slice_get m.formats n ≡ Some f)
  in_format k n f e = and_then_some (λ (m : Method). slice_get m.formats n) (slice_get methods k) f e

  format_is_in : (k n : ℕ) (m : Method) (f : Format) → slice_get methods k ≡ Some m → slice_get m.formats n ≡ Some f → format_in methods k n ≡ Some f
  format_is_in k n m f at fat = ap (option_and_then (λ (y : Method). slice_get y.formats n)) at ∙ fat

  -- whom the method m, which is the method k, calls
  called_in : (k j : ℕ) (m : Method) → slice_get methods k ≡ Some m → IsIn (callees dead k m) j → CallsUnchecked methods dead k j
  called_in k j m at q =
      let f = in_flat (callees_in dead k) 0 m.formats j q in
      let same : f.from ≡ f.place = at_once 0 f.place f.from refl f.from_is in
      let g = in_alive (is_dead dead k f.from) (callees_of f.one) j f.inside in
      let d = in_flat (callee_of f.one) 0 f.one.fields j g.1 in
      let here : d.from ≡ d.place = at_once 0 d.place d.from refl d.from_is in
      let c = there_callee (called_by d.one.encoding) (is_checked f.one d.from) j d.inside in
      record {
        number = f.place;
        format = f.one;
        format_is = format_is_in k f.place m f.one at f.one_at;
        alive = subst (λ n. is_dead dead k n ≡ false) same g.0;
        place = d.place;
        field = d.one;
        field_at = d.one_at;
        unchecked = subst (λ i. is_checked f.one i ≡ false) here c.1;
        called = c.0;
      }

  in_called : (k j : ℕ) (m : Method) → slice_get methods k ≡ Some m → CallsUnchecked methods dead k j → IsIn (callees dead k m) j
  in_called k j m at c =
      let t = in_format k c.number c.format c.format_is in
      let one : t.0 ≡ m = one_value (slice_get methods k) t.0 m t.1 at in
      let fat = subst (λ (y : Method). slice_get y.formats c.number ≡ Some c.format) one t.2 in
      flat_in (callees_in dead k) 0 m.formats c.number c.number c.format j (omega arith) fat
      (alive_in (is_dead dead k c.number) (callees_of c.format) j c.alive
      (flat_in (callee_of c.format) 0 c.format.fields c.place c.place c.field j (omega arith) c.field_at
      (callee_there (called_by c.field.encoding) (is_checked c.format c.place) j c.called c.unchecked)))

  -- the graph has as many methods
  graph_length : length (graph_of dead methods) ≡ length methods
  graph_length = length-map (enumerate_from 0 methods) (λ (m : ℕ × Method). callees dead m.0 m.1) ∙ length-enumerate_from 0 methods

  graph_calls : (k j : ℕ) → Calls (graph_of dead methods) k j → CallsUnchecked methods dead k j
  graph_calls k j (lt, has) =
      let row = get_or (graph_of dead methods) k [] in
      let m = made_each (callees dead) 0 methods k row (slice_get-get_or (graph_of dead methods) k [] lt) in
      let same : m.from ≡ k = at_once 0 k m.from refl m.from_is in
      let inside : IsIn row j = (has.0, slice_get-get_or row has.0 0 has.1 ∙ ap Some has.2) in
      called_in k j m.one m.one_at (subst (λ z. IsIn (callees dead z m.one) j) same (subst (λ xs. IsIn xs j) (sym m.made) inside))

  calls_graph : (k j : ℕ) → CallsUnchecked methods dead k j → Calls (graph_of dead methods) k j
  calls_graph k j c =
      let t = in_format k c.number c.format c.format_is in
      let at = each_made (callees dead) 0 methods k k t.0 (omega arith) t.1 in
      let row : get_or (graph_of dead methods) k [] ≡ callees dead k t.0 = get_or_from_slice_get (graph_of dead methods) k (callees dead k t.0) [] at in
      let q = subst (λ xs. IsIn xs j) (sym row) (in_called k j t.0 t.1 c) in
      let xs = get_or (graph_of dead methods) k [] in
      (slice_get_within (graph_of dead methods) k (callees dead k t.0) at, (q.0, slice_get_within xs q.0 j q.1, get_or_from_slice_get xs q.0 j 0 q.1))

  -- ---- who refers

  own_there : (k : ℕ) → RefersUnchecked methods dead k → marked_at (own_of dead methods) k ≡ true
  own_there k r =
      let t = in_format k r.number r.format r.format_is in
      let test : refers_in dead k t.0.formats ≡ true =
      place_has (refers_by dead k) 0 t.0.formats r.number r.number r.format (omega arith) t.2
      (both_are (not (is_dead dead k r.number)) _ (deny _ r.alive)
      (place_has (is_reference r.format) 0 r.format.fields r.place r.place r.field (omega arith) r.field_at (both_are (takes_reference r.field.encoding) _ r.refers (deny _ r.unchecked)))) in
      ap (λ o. unwrap_or o false) (each_made (λ (x : ℕ) (m : Method). refers_in dead x m.formats) 0 methods k k t.0 (omega arith) t.1) ∙ test

  there_own : (k : ℕ) → marked_at (own_of dead methods) k ≡ true → RefersUnchecked methods dead k
  there_own k e = by (slice_get (own_of dead methods) k) refl
    where
      from : (m : Method) → slice_get methods k ≡ Some m → refers_in dead k m.formats ≡ true → RefersUnchecked methods dead k
      from m at test =
          let f = has_place (refers_by dead k) 0 m.formats test in
          let same : f.from ≡ f.place = at_once 0 f.place f.from refl f.from_is in
          let g = both (not (is_dead dead k f.from)) _ f.passes in
          let d = has_place (is_reference f.one) 0 f.one.fields g.1 in
          let here : d.from ≡ d.place = at_once 0 d.place d.from refl d.from_is in
          let c = both (takes_reference d.one.encoding) _ d.passes in
          record {
            number = f.place;
            format = f.one;
            format_is = format_is_in k f.place m f.one at f.one_at;
            alive = subst (λ n. is_dead dead k n ≡ false) same (denied _ g.0);
            place = d.place;
            field = d.one;
            field_at = d.one_at;
            unchecked = subst (λ i. is_checked f.one i ≡ false) here (denied _ c.1);
            refers = c.0;
          }

      by : (o : Option Bool) → slice_get (own_of dead methods) k ≡ o → RefersUnchecked methods dead k
      by None is = absurd (true≢false (sym (ap (λ o. unwrap_or o false) (sym is) ∙ e)))
      by (Some b) is =
          let m = made_each (λ (x : ℕ) (m : Method). refers_in dead x m.formats) 0 methods k b is in
          let same : m.from ≡ k = at_once 0 k m.from refl m.from_is in
          let yes : b ≡ true = ap (λ o. unwrap_or o false) (sym is) ∙ e in
          from m.one m.one_at (subst (λ x. refers_in dead x m.one.formats ≡ true) same (m.made ∙ yes))

  -- ---- who reaches whom

  reaches_on : {To Other : ℕ → ℕ → Type 0} → ((i j : ℕ) → To i j → Other i j) → {i k : ℕ} → Reaches To i k → Reaches Other i k
  reaches_on turn (by_call c) = by_call (turn _ _ c)
  reaches_on turn (further r c) = further (reaches_on turn r) (turn _ _ c)

  module _ (table : List (List Bool)) (many : length table ≡ length (graph_of dead methods)) (each : Table (graph_of dead methods) table) where
    marks_are : (k j : ℕ) → is_marked table k j ≡ get_or (get_or table k []) j false
    marks_are k j = unwrap_get (unwrap_or (slice_get table k) []) j false ∙ ap (λ marks. get_or marks j false) (unwrap_get table k [])

    begins : {i k : ℕ} → Reaches (Calls (graph_of dead methods)) i k → i < length (graph_of dead methods)
    begins (by_call c) = c.0
    begins (further r c) = begins r

    to_mark : (k j : ℕ) → Reaches (CallsUnchecked methods dead) k j → is_marked table k j ≡ true
    to_mark k j r =
        let way = reaches_on calls_graph r in
        marks_are k j ∙ (each k (begins way)).all j way

    past_table : (k j : ℕ) → length table < suc k → is_marked table k j ≡ true → ⊥
    past_table k j over e = by (slice_get table k) refl
      where
        by : (o : Option (List Bool)) → slice_get table k ≡ o → ⊥
        by None is = true≢false (sym e ∙ ap (λ o. unwrap_or (slice_get (unwrap_or o []) j) false) is)
        by (Some row) is = let lt = slice_get_within table k row is in omega (arith, lt, over)

    from_mark : (k j : ℕ) → is_marked table k j ≡ true → Reaches (CallsUnchecked methods dead) k j
    from_mark k j e = by (nat_lt k (length table)) refl
      where
        by : (t : Bool) → nat_lt k (length table) ≡ t → Reaches (CallsUnchecked methods dead) k j
        by true within =
            let lt : k < length (graph_of dead methods) = (let h : k < length table = grind (arith, nat_tests) in omega (arith, h, many)) in
            reaches_on graph_calls ((each k lt).only j (sym (marks_are k j) ∙ e))
        by false without = absurd (past_table k j (grind (arith, nat_tests)) e)

    are_open : (top k : ℕ) → (open_by table top k ≡ true) ↔ IsOpen methods dead top k
    are_open top k = (to, from)
      where
        to : open_by table top k ≡ true → IsOpen methods dead top k
        to e = elim (either (nat_eq k top) _ e) as (λ _. IsOpen methods dead top k) [ inl here ↦ inl ((Decides-eqb k top).0 here) | inr there ↦ inr (from_mark top k there) ]

        from : IsOpen methods dead top k → open_by table top k ≡ true
        from (inl here) = or_first (nat_eq k top) _ ((Decides-eqb k top).1 here)
        from (inr way) = or_second (nat_eq k top) _ (to_mark top k way)

    are_loose : (k : ℕ) → (loose_by table (own_of dead methods) k ≡ true) ↔ IsLoose methods dead k
    are_loose k = (to, from)
      where
        reaching : reaches_own table (own_of dead methods) k ≡ true → (j : ℕ) × Reaches (CallsUnchecked methods dead) k j × RefersUnchecked methods dead j
        reaching e =
            let p = has_place (λ j is. is && is_marked table k j) 0 (own_of dead methods) e in
            let same : p.from ≡ p.place = at_once 0 p.place p.from refl p.from_is in
            let c = both p.one _ p.passes in
            let own : marked_at (own_of dead methods) p.place ≡ true = ap (λ o. unwrap_or o false) p.one_at ∙ c.0 in
            (p.place, from_mark k p.place (subst (λ z. is_marked table k z ≡ true) same c.1), there_own p.place own)

        to : loose_by table (own_of dead methods) k ≡ true → IsLoose methods dead k
        to e = elim (either (marked_at (own_of dead methods) k) _ e) as (λ _. IsLoose methods dead k) [ inl here ↦ inl (there_own k here) | inr there ↦ inr (reaching there) ]

        reached : (j : ℕ) → Reaches (CallsUnchecked methods dead) k j → (o : Option Bool) → slice_get (own_of dead methods) j ≡ o → unwrap_or o false ≡ true → reaches_own table (own_of dead methods) k ≡ true
        reached j way None at e = absurd (true≢false (sym e))
        reached j way (Some b) at e = place_has (λ x is. is && is_marked table k x) 0 (own_of dead methods) j j b (omega arith) at (both_are b _ e (to_mark k j way))

        from : IsLoose methods dead k → loose_by table (own_of dead methods) k ≡ true
        from (inl own) = or_first (marked_at (own_of dead methods) k) _ (own_there k own)
        from (inr (j, way, own)) = or_second (marked_at (own_of dead methods) k) _ (reached j way (slice_get (own_of dead methods) j) refl (own_there j own))

-- ---- together

-- each call is of a method that is there
pub all_within : (p : Resolved) (dead : List (List Bool)) → IsSound p → Within (graph_of dead p.methods)
all_within p dead sound i j call =
    let c = graph_calls p.methods dead i j call in
    let t = in_format p.methods dead i c.number c.format c.format_is in
    let es = calls_of c.field.encoding j c.called in
    let callee = (sound.well_formed.formats i c.number t.0 c.format t.1 t.2).calls c.place j c.field es.0 c.field_at es.1 in
    let lt = slice_get_within p.methods j callee.0 callee.1 in
    let many = graph_length p.methods dead in
    omega (arith, lt, many)

pub all_unnoticed : (p : Resolved) (methods : List Method) (dead : List (List Bool)) (graph : List (List ℕ)) (own : List Bool) (table : List (List Bool)) (top : ℕ) (found : List Unnoticed)
    → TellsObstacles p dead → methods ≡ p.methods → graph ≡ graph_of dead methods → own ≡ own_of dead methods → (length table ≡ length graph) × Table graph table → top ≡ p.top
    → found ≡ unnoticed_among methods dead (loose_by table own) (open_by table top) → AreUnnoticed p found
all_unnoticed p methods dead graph own table top found tells ms gs os t tops is = record {
  dead = dead;
  tells_obstacles = tells;
  loose = loose_by table (own_of dead p.methods);
  are_loose = are_loose p.methods dead table rows.0 rows.1;
  is_open = open_by table p.top;
  are_open = are_open p.methods dead table rows.0 rows.1 p.top;
  found_is = is ∙ (λ i. unnoticed_among (ms i) dead (loose_by table (owns i)) (open_by table (tops i)));
}
  where
    owns : own ≡ own_of dead p.methods
    owns = os ∙ ap (own_of dead) ms

    rows : (length table ≡ length (graph_of dead p.methods)) × Table (graph_of dead p.methods) table
    rows = subst (λ g. (length table ≡ length g) × Table g table) (gs ∙ ap (graph_of dead) ms) t

pub told_unnoticed : {E : Type 0} (p : Resolved) (methods : List Method) (dead : List (List Bool)) (graph : List (List ℕ)) (own : List Bool) (table : List (List Bool)) (top : ℕ) (r : Result (List Unnoticed) E)
    → TellsObstacles p dead → methods ≡ p.methods → graph ≡ graph_of dead methods → own ≡ own_of dead methods → (length table ≡ length graph) × Table graph table → top ≡ p.top
    → IfOk r (λ found. found ≡ unnoticed_among methods dead (loose_by table own) (open_by table top)) → IfOk r (AreUnnoticed p)
told_unnoticed p methods dead graph own table top (Err e) tells ms gs os t tops is = tt
told_unnoticed p methods dead graph own table top (Ok found) tells ms gs os t tops is = all_unnoticed p methods dead graph own table top found tells ms gs os t tops is
