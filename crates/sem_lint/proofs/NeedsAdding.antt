-- What is known of sites grows.
use Rattle.std.proofs.Common.{◌≡◌, refl, ℕ, ◌+◌, ◌*◌, ◌<◌, ◌≤◌, suc, zero, Bool, true, false, List, [], ◌∷◌, length, take, get_or, ap, sym, ◌∙◌, subst, arith, inl, inr}
use Rattle.std.specs.Prelude.{Option, Some, None, ◌||◌, ◌⊎◌, nat_eq, option_and_then, replicate, slice_get, slice_set, string_bytes, if◌then◌else◌}
use Rattle.std.specs.Str.{bytes_eq}
use Rattle.std.proofs.lemmas.Slice.Eq.{bytes_eq-Decides}
use Rattle.std.proofs.lemmas.Bool.Decides.{Decides-eqb}
use Rattle.std.proofs.lemmas.Option.{slice_get_within}
use Rattle.sem_profile.specs.declared.profile.Field.{Field}
use Rattle.sem_profile.specs.declared.profile.Format.{Format}
use Rattle.sem_profile.specs.declared.profile.Method.{Method}
use Rattle.sem_lint.specs.Paths.{called_by}
use Rattle.sem_lint.specs.Sites.{AreSites, Holds, SiteAt, of_top, format_in, inner_path}
use Rattle.sem_lint.specs.Needs as needs
use Rattle.sem_lint.specs.NeedsSteps.{AddsCall, AddsCalls, AreDone, IsBegun, AreFormatsOf, CallReached, FormatsDone, Grows, IsDone, IsTrueOf, Moves, SetsReached, SetsUsable, Used, count_unset, is_reached, is_usable, reached_before, reached_in, reached_now, texts, unset, usable_before, usable_in, usable_now}
use Rattle.sem_lint.specs.declared.growth.Flags.{Flags}
use Rattle.sem_lint.specs.declared.growth.Ground.{Ground}
use Rattle.sem_lint.specs.declared.sites.Site.{Site}
use Rattle.sem_lint.proofs.SitesGrowing.{both, element, get_next, kept_in, slice_get_there}

same_Some : {A : Type 0} (x y : A) → Some x ≡ Some y → x ≡ y
same_Some x y e = cc

less_reached : (f : Flags) → f.reached ≡ false → unset (record { usable = f.usable; reached = true }) + 1 ≡ unset f
less_reached f off =
    let here : unset f ≡ (if f.usable then 0 else 1) + 1 = ap (λ b. (if f.usable then 0 else 1) + (if b then 0 else 1)) off in
    omega (arith, here)

less_usable : (f : Flags) → f.usable ≡ false → unset (record { usable = true; reached = f.reached }) + 1 ≡ unset f
less_usable f off =
    let here : unset f ≡ 1 + (if f.reached then 0 else 1) = ap (λ b. (if b then 0 else 1) + (if f.reached then 0 else 1)) off in
    omega (arith, here)

-- ---- a list with one element set

set_here : {A : Type 0} (xs : List A) (i : ℕ) (x y : A) → slice_get xs i ≡ Some x → slice_get (slice_set xs i y) i ≡ Some y
set_here [] i x y e = absurd (let none : None ≡ Some x = e in cc)
set_here (z ∷ xs) zero x y e = refl
set_here (z ∷ xs) (suc i) x y e = set_here xs i x y e

pub set_other : {A : Type 0} (xs : List A) (i j : ℕ) (y : A) → (i ≡ j → ⊥) → slice_get (slice_set xs i y) j ≡ slice_get xs j
set_other [] i j y apart = refl
set_other (z ∷ xs) zero zero y apart = absurd (apart refl)
set_other (z ∷ xs) zero (suc j) y apart = refl
set_other (z ∷ xs) (suc i) zero y apart = refl
set_other (z ∷ xs) (suc i) (suc j) y apart = set_other xs i j y (λ e. apart (ap suc e))

length_set : {A : Type 0} (xs : List A) (i : ℕ) (y : A) → length (slice_set xs i y) ≡ length xs
length_set [] i y = refl
length_set (z ∷ xs) zero y = refl
length_set (z ∷ xs) (suc i) y = ap suc (length_set xs i y)

count_set : (xs : List Flags) (i : ℕ) (x y : Flags) → slice_get xs i ≡ Some x → unset y + 1 ≡ unset x → count_unset (slice_set xs i y) + 1 ≡ count_unset xs
count_set [] i x y at e = absurd (let none : None ≡ Some x = at in cc)
count_set (z ∷ xs) zero x y at e = let same : unset z ≡ unset x = ap unset (same_Some z x at) in omega (arith, same, e)
count_set (z ∷ xs) (suc i) x y at e = let rest = count_set xs i x y at e in omega (arith, rest)

-- what is so of the element at a place, before and after one is set
set_kept : (p : Option Flags → Bool) (xs : List Flags) (i : ℕ) (x y : Flags) → slice_get xs i ≡ Some x → (p (Some x) ≡ true → p (Some y) ≡ true) → (j : ℕ) → p (slice_get xs j) ≡ true → p (slice_get (slice_set xs i y) j) ≡ true
set_kept p xs i x y at kept j e = by (nat_eq i j) refl
  where
    by : (b : Bool) → nat_eq i j ≡ b → p (slice_get (slice_set xs i y) j) ≡ true
    by true is =
        let same : i ≡ j = (Decides-eqb i j).0 is in
        let old : p (Some x) ≡ true = ap p (sym at) ∙ ap (λ n. p (slice_get xs n)) same ∙ e in
        ap (λ n. p (slice_get (slice_set xs i y) n)) (sym same) ∙ ap p (set_here xs i x y at) ∙ kept old
    by false is = ap p (set_other xs i j y (λ same. let yes : true ≡ false = sym ((Decides-eqb i j).1 same) ∙ is in absurd (cc))) ∙ e

set_back : (p : Option Flags → Bool) (xs : List Flags) (i : ℕ) (x y : Flags) → slice_get xs i ≡ Some x → (j : ℕ) → p (slice_get (slice_set xs i y) j) ≡ true → (p (slice_get xs j) ≡ true) ⊎ ((j ≡ i) × (p (Some y) ≡ true))
set_back p xs i x y at j e = by (nat_eq i j) refl
  where
    by : (b : Bool) → nat_eq i j ≡ b → (p (slice_get xs j) ≡ true) ⊎ ((j ≡ i) × (p (Some y) ≡ true))
    by true is =
        let same : i ≡ j = (Decides-eqb i j).0 is in
        inr (sym same, ap p (sym (set_here xs i x y at)) ∙ ap (λ n. p (slice_get (slice_set xs i y) n)) same ∙ e)
    by false is = inl (ap p (sym (set_other xs i j y (λ same. let yes : true ≡ false = sym ((Decides-eqb i j).1 same) ∙ is in absurd (cc)))) ∙ e)

-- ---- growth one after the other

or_false : (a b : Bool) → (a || b) ≡ false → (a ≡ false) × (b ≡ false)
or_false true b e = absurd (let wrong : true ≡ false = e in cc)
or_false false b e = (refl, e)

or_true : (a b : Bool) → (a || b) ≡ true → (a ≡ true) ⊎ (b ≡ true)
or_true true b e = inl refl
or_true false b e = inr e

pub moves_none : (flags : List Flags) → Moves flags flags false
moves_none flags = record {
  usable_kept = λ j e. e;
  reached_kept = λ j e. e;
  falls = omega arith;
  falls_more = λ e. absurd (let wrong : false ≡ true = e in cc);
  rests = λ e. refl;
}

pub moves_then : (a b c : List Flags) (one two : Bool) → Moves a b one → Moves b c two → Moves a c (two || one)
moves_then a b c one two first second = record {
  usable_kept = λ j e. second.usable_kept j (first.usable_kept j e);
  reached_kept = λ j e. second.reached_kept j (first.reached_kept j e);
  falls = let f = first.falls in let s = second.falls in omega (arith, f, s);
  falls_more = λ e. elim (or_true two one e) [
    | inl more ↦ let f = first.falls in let s = second.falls_more more in omega (arith, f, s)
    | inr more ↦ let f = first.falls_more more in let s = second.falls in omega (arith, f, s)
  ];
  rests = λ e. let (t, o) = or_false two one e in second.rests t ∙ first.rests o;
}

pub grows_none : (g : Ground) (flags : List Flags) → Grows g flags flags false
grows_none g flags = record { moves = moves_none flags; true_of = λ t. t }

pub grows_then : (g : Ground) (a b c : List Flags) (one two : Bool) → Grows g a b one → Grows g b c two → Grows g a c (two || one)
grows_then g a b c one two first second = record { moves = moves_then a b c one two first.moves second.moves; true_of = λ t. second.true_of (first.true_of t) }

-- ---- setting a flag

pub sets_usable_moves : (place : ℕ) (old new : List Flags) (changes : Bool) → SetsUsable place old new changes → Moves old new changes
sets_usable_moves place old _ _ (usable_before set) = moves_none old
sets_usable_moves place old _ _ (usable_now f at off) =
    let y : Flags = record { usable = true; reached = f.reached } in
    let less : unset y + 1 ≡ unset f = less_usable f off in
    let count = count_set old place f y at less in
    record {
      usable_kept = set_kept usable_in old place f y at (λ e. refl);
      reached_kept = set_kept reached_in old place f y at (λ e. e);
      falls = omega (arith, count);
      falls_more = λ e. omega (arith, count);
      rests = λ e. absurd (let wrong : true ≡ false = e in cc);
    }

pub sets_reached_moves : (place : ℕ) (old new : List Flags) (changes : Bool) → SetsReached place old new changes → Moves old new changes
sets_reached_moves place old _ _ (reached_before set) = moves_none old
sets_reached_moves place old _ _ (reached_now f at off) =
    let y : Flags = record { usable = f.usable; reached = true } in
    let less : unset y + 1 ≡ unset f = less_reached f off in
    let count = count_set old place f y at less in
    record {
      usable_kept = set_kept usable_in old place f y at (λ e. e);
      reached_kept = set_kept reached_in old place f y at (λ e. refl);
      falls = omega (arith, count);
      falls_more = λ e. omega (arith, count);
      rests = λ e. absurd (let wrong : true ≡ false = e in cc);
    }

module _ (g : Ground) (place k : ℕ) (path : List ℕ) (here : SiteAt g.sites.now place k path) where
  same_place : (j x : ℕ) (p : List ℕ) → j ≡ place → SiteAt g.sites.now j x p → (k ≡ x) × (path ≡ p)
  same_place j x p e at =
      let moved : SiteAt g.sites.now place x p = subst (λ i. SiteAt g.sites.now i x p) e at in
      let same = same_Some here.site moved.site (sym here.site_at ∙ moved.site_at) in
      (sym here.method_is ∙ ap (λ s. s.method) same ∙ moved.method_is, sym here.path_is ∙ ap (λ s. string_bytes s.path) same ∙ moved.path_is)

  pub sets_usable_true : (old new : List Flags) (changes : Bool) → SetsUsable place old new changes → needs.CanBeUsed g.methods.now g.top g.dead.now (texts g.given.now) path k → IsTrueOf g old → IsTrueOf g new
  sets_usable_true old _ _ (usable_before set) can t = t
  sets_usable_true old _ _ (usable_now f at off) can t = record {
    as_many = length_set old place _ ∙ t.as_many;
    usable = λ j x p there e. elim (set_back usable_in old place f _ at j e) [
      | inl before ↦ t.usable j x p there before
      | inr (is, on) ↦ let (m, q) = same_place j x p is there in subst (λ z. needs.CanBeUsed g.methods.now g.top g.dead.now (texts g.given.now) z x) q (subst (needs.CanBeUsed g.methods.now g.top g.dead.now (texts g.given.now) path) m can)
    ];
    reached = λ j x p there e. elim (set_back reached_in old place f _ at j e) [
      | inl before ↦ t.reached j x p there before
      | inr (is, on) ↦ t.reached j x p there (ap (λ n. is_reached old n) is ∙ ap reached_in at ∙ on)
    ];
  }

  pub sets_reached_true : (old new : List Flags) (changes : Bool) → SetsReached place old new changes → needs.IsReached g.methods.now g.top g.dead.now (texts g.given.now) path k → IsTrueOf g old → IsTrueOf g new
  sets_reached_true old _ _ (reached_before set) is t = t
  sets_reached_true old _ _ (reached_now f at off) reached t = record {
    as_many = length_set old place _ ∙ t.as_many;
    usable = λ j x p there e. elim (set_back usable_in old place f _ at j e) [
      | inl before ↦ t.usable j x p there before
      | inr (is, on) ↦ t.usable j x p there (ap (λ n. is_usable old n) is ∙ ap usable_in at ∙ on)
    ];
    reached = λ j x p there e. elim (set_back reached_in old place f _ at j e) [
      | inl before ↦ t.reached j x p there before
      | inr (is, on) ↦ let (m, q) = same_place j x p is there in subst (λ z. needs.IsReached g.methods.now g.top g.dead.now (texts g.given.now) z x) q (subst (needs.IsReached g.methods.now g.top g.dead.now (texts g.given.now) path) m reached)
    ];
  }

pub usable_set : (place : ℕ) (old new : List Flags) (changes : Bool) → SetsUsable place old new changes → changes ≡ false → place < length new → is_usable new place ≡ true
usable_set place old _ _ (usable_before set) e within = set within
usable_set place old _ _ (usable_now f at off) e within = absurd (let wrong : true ≡ false = e in cc)

pub reached_set : (place : ℕ) (old new : List Flags) (changes : Bool) → SetsReached place old new changes → changes ≡ false → place < length new → is_reached new place ≡ true
reached_set place old _ _ (reached_before set) e within = set within
reached_set place old _ _ (reached_now f at off) e within = absurd (let wrong : true ≡ false = e in cc)

-- ---- a call

pub call_none : (g : Ground) (path : List ℕ) (d : Field) (flags : List Flags) → called_by d.encoding ≡ None → AddsCall g path d flags flags false
call_none g path d flags none = record { moves = moves_none flags; true_of = λ is t. t; call = λ e m calls. absurd (let wrong : None ≡ Some m = sym none ∙ calls in cc) }

pub call_nowhere : (g : Ground) (path inner : List ℕ) (d : Field) (m : ℕ) (flags : List Flags) → called_by d.encoding ≡ Some m → inner ≡ inner_path path d.declared.name → (Holds g.sites.now m inner → ⊥) → AddsCall g path d flags flags false
call_nowhere g path inner d m flags calls is none = record {
  moves = moves_none flags;
  true_of = λ is t. t;
  call = λ e x called j here within. absurd (none (j, subst (λ y. SiteAt g.sites.now j y inner) (same_Some x m (sym called ∙ calls)) (subst (SiteAt g.sites.now j x) (sym is) here)));
}

pub call_one : (g : Ground) (path inner : List ℕ) (d : Field) (m place : ℕ) (old new : List Flags) (changes : Bool) → AreSites g.methods.now g.top g.sites.now → called_by d.encoding ≡ Some m → inner ≡ inner_path path d.declared.name
    → SiteAt g.sites.now place m inner → SetsReached place old new changes → AddsCall g path d old new changes
call_one g path inner d m place old new changes sites calls is here sets = record {
  moves = sets_reached_moves place old new changes sets;
  true_of = λ reached t. sets_reached_true g place m inner here old new changes sets (subst (λ p. needs.IsReached g.methods.now g.top g.dead.now (texts g.given.now) p m) (sym is) (reached m calls)) t;
  call = λ e x called j there within.
      let at : SiteAt g.sites.now j m inner = subst (λ y. SiteAt g.sites.now j y inner) (same_Some x m (sym called ∙ calls)) (subst (SiteAt g.sites.now j x) (sym is) there) in
      let same : place ≡ j = sites.some.once place j m inner here at in
      ap (is_reached new) (sym same) ∙ reached_set place old new changes sets e (subst (λ n. n < length new) (sym same) within);
}

pub calls_start : (g : Ground) (path : List ℕ) (fields : List Field) (flags : List Flags) → AddsCalls g path (take 0 fields) flags flags false
calls_start g path fields flags = record { moves = moves_none flags; true_of = λ is t. t; calls = λ e i d at. absurd (let none : None ≡ Some d = at in cc) }

calls_more : (g : Ground) (path : List ℕ) (fields : List Field) (i : ℕ) (d : Field) (a b c : List Flags) (one two : Bool) → i < length fields → d ≡ get_or fields i d → AddsCalls g path (take i fields) a b one → AddsCall g path d b c two
    → AddsCalls g path (take (suc i) fields) a c (two || one)
calls_more g path fields i d a b c one two within is first second = record {
  moves = moves_then a b c one two first.moves second.moves;
  true_of = λ reached t. second.true_of (λ m calls. reached i m d (element fields i within is) calls) (first.true_of (λ n m x at calls. reached n m x (kept_in fields i n x at) calls) t);
  calls = λ e n x at.
      let (t, o) = or_false two one e in
      elim (get_next fields i d n x at) [
        | inl before ↦ subst (λ fs. CallReached g fs path x) (sym (second.moves.rests t)) (first.calls o n x before)
        | inr this ↦ subst (CallReached g c path) (is ∙ this) (second.call t)
      ];
}

pub calls_on : (g : Ground) (path : List ℕ) (fields : List Field) (i : ℕ) (d : Field) (a b c : List Flags) (one two : Bool) → i < length fields → d ≡ get_or fields i d → AddsCalls g path (take i fields) a b one → AddsCall g path d b c two
    → AddsCalls g path (take (i + 1) fields) a c (two || one)
calls_on g path fields i d a b c one two within is first second =
    let more : suc i ≡ i + 1 = omega arith in
    subst (λ n. AddsCalls g path (take n fields) a c (two || one)) more (calls_more g path fields i d a b c one two within is first second)

-- ---- set by the code

pub usable_is_set : (place : ℕ) (flags : List Flags) → (length flags ≤ place) ⊎ (is_usable flags place ≡ true) → SetsUsable place flags flags false
usable_is_set place flags (inl past) = usable_before {flags = flags} (λ within. absurd (omega (arith, past, within)))
usable_is_set place flags (inr set) = usable_before {flags = flags} (λ within. set)

pub usable_is_new : (place : ℕ) (flags new : List Flags) (reached : Bool) → place < length flags → is_usable flags place ≡ false → reached ≡ is_reached flags place → new ≡ slice_set flags place (record { usable = true; reached = reached })
    → SetsUsable place flags new true
usable_is_new place flags new reached within off is e =
    let (f, at) = slice_get_there flags place within in
    let r : reached ≡ f.reached = is ∙ ap reached_in at in
    subst (λ fs. SetsUsable place flags fs true) (sym (e ∙ ap (λ b. slice_set flags place (record { usable = true; reached = b })) r)) (usable_now f at (sym (ap usable_in at) ∙ off))

pub reached_is_set : (place : ℕ) (flags : List Flags) → (length flags ≤ place) ⊎ (is_reached flags place ≡ true) → SetsReached place flags flags false
reached_is_set place flags (inl past) = reached_before {flags = flags} (λ within. absurd (omega (arith, past, within)))
reached_is_set place flags (inr set) = reached_before {flags = flags} (λ within. set)

pub reached_is_new : (place : ℕ) (flags new : List Flags) (usable : Bool) → place < length flags → is_reached flags place ≡ false → usable ≡ is_usable flags place → new ≡ slice_set flags place (record { usable = usable; reached = true })
    → SetsReached place flags new true
reached_is_new place flags new usable within off is e =
    let (f, at) = slice_get_there flags place within in
    let r : usable ≡ f.usable = is ∙ ap usable_in at in
    subst (λ fs. SetsReached place flags fs true) (sym (e ∙ ap (λ b. slice_set flags place (record { usable = b; reached = true })) r)) (reached_now f at (sym (ap reached_in at) ∙ off))

-- ---- at the start

pub none_usable : (n j : ℕ) → is_usable (replicate n (record { usable = false; reached = false })) j ≡ false
none_usable zero j = refl
none_usable (suc n) zero = refl
none_usable (suc n) (suc j) = none_usable n j

none_reached : (n j : ℕ) → is_reached (replicate n (record { usable = false; reached = false })) j ≡ false
none_reached zero j = refl
none_reached (suc n) zero = refl
none_reached (suc n) (suc j) = none_reached n j

length_none : (n : ℕ) → length {A = Flags} (replicate n (record { usable = false; reached = false })) ≡ n
length_none zero = refl
length_none (suc n) = ap suc (length_none n)

none_true : (g : Ground) (flags : List Flags) → flags ≡ replicate (length g.sites.now) (record { usable = false; reached = false }) → IsTrueOf g flags
none_true g flags is = record {
  as_many = ap length is ∙ length_none (length g.sites.now);
  usable = λ j k path here e. absurd (let wrong : true ≡ false = sym e ∙ ap (λ fs. is_usable fs j) is ∙ none_usable (length g.sites.now) j in cc);
  reached = λ j k path here e. absurd (let wrong : true ≡ false = sym e ∙ ap (λ fs. is_reached fs j) is ∙ none_reached (length g.sites.now) j in cc);
}

now_reached : (place : ℕ) (old new : List Flags) (changes : Bool) → SetsReached place old new changes → place < length old → is_reached new place ≡ true
now_reached place old _ _ (reached_before set) within = set within
now_reached place old _ _ (reached_now f at off) within = ap reached_in (set_here old place f _ at)

pub top_reached : (g : Ground) (old new : List Flags) (place : ℕ) (changes : Bool) → AreSites g.methods.now g.top g.sites.now → old ≡ replicate (length g.sites.now) (record { usable = false; reached = false }) → SiteAt g.sites.now place g.top []
    → SetsReached place old new changes → IsBegun g new
top_reached g old new place changes sites none here sets = record {
  true_of = sets_reached_true g place g.top [] here old new changes sets needs.at_top (none_true g old none);
  top = λ j at.
      let same : place ≡ j = sites.some.once place j g.top [] here at in
      let within = slice_get_within g.sites.now place here.site here.site_at in
      let many = ap length none ∙ length_none (length g.sites.now) in
      ap (is_reached new) (sym same) ∙ now_reached place old new changes sets (omega (arith, within, many));
}

pub top_there : (g : Ground) (flags : List Flags) → AreSites g.methods.now g.top g.sites.now → (Holds g.sites.now g.top [] → ⊥) → IsBegun g flags
top_there g flags sites none = absurd (none (sites.all [] g.top of_top))

-- ---- a format that can be used

pub used_can : (g : Ground) (flags : List Flags) (path : List ℕ) (k n : ℕ) (f : Format) → IsTrueOf g flags → format_in g.methods.now k n ≡ Some f → Used g flags path k n f
    → (i : ℕ) (d : Field) → slice_get f.fields i ≡ Some d → needs.IsServed g.methods.now g.top g.dead.now (texts g.given.now) path d
used_can g flags path k n f t is used i d at =
    let served = used.each i d at in
    needs.serves {path = path} {d = d}
    (λ asks. elim (served.entry asks) [
      | inl given ↦ needs.is_given {path = path} {name = d.declared.name} given
      | inr (j, s, there, leaves) ↦
          let (usable, more) = both (is_usable flags j) _ leaves in
          let (reached, rest) = both (is_reached flags j) _ more in
          let (same, keeps) = both (bytes_eq (string_bytes s.path) path) _ rest in
          let here : SiteAt g.sites.now j s.method path = record { site = s; site_at = there; method_is = refl; path_is = (bytes_eq-Decides (string_bytes s.path) path).0 same } in
          needs.is_left s.method (t.reached j s.method path here reached) (t.usable j s.method path here usable) keeps
    ])
    (λ m calls. let u = served.call m calls in t.usable u.0 m (inner_path path d.declared.name) u.1 u.2)

module _ (g : Ground) (place k n : ℕ) (path : List ℕ) (f : Format) (here : SiteAt g.sites.now place k path) (is : format_in g.methods.now k n ≡ Some f) where
  -- the site is set alone
  pub used_first : (old new : List Flags) (first : Bool) → Used g old path k n f → SetsUsable place old new first → Grows g old new first
  used_first old new first used sets = record {
    moves = sets_usable_moves place old new first sets;
    true_of = λ t. sets_usable_true g place k path here old new first sets (needs.by_format n f is used.alive (used_can g old path k n f t is used)) t;
  }

  pub done_first : (old new : List Flags) (first : Bool) → SetsUsable place old new first → is_reached new place ≡ false → first ≡ false → IsDone g new place k path n f
  done_first old new first sets off e used within = (usable_set place old new first sets e within, λ on. absurd (let wrong : true ≡ false = sym on ∙ off in cc))

  -- and those that its format calls
  pub used_then : (old mid new : List Flags) (first more : Bool) → Used g old path k n f → SetsUsable place old mid first → is_reached mid place ≡ true → AddsCalls g path f.fields mid new more → Grows g old new (more || first)
  used_then old mid new first more used sets on adds =
      let start = used_first old mid first used sets in
      record {
        moves = moves_then old mid new first more start.moves adds.moves;
        true_of = λ t.
            let now = start.true_of t in
            adds.true_of (λ i m d at calls. needs.by_call k n i m f d (now.reached place k path here on) is used.alive (used_can g old path k n f t is used) at calls) now;
      }

  pub done_then : (old mid new : List Flags) (first more : Bool) → SetsUsable place old mid first → AddsCalls g path f.fields mid new more → (more || first) ≡ false → IsDone g new place k path n f
  done_then old mid new first more sets adds e used within =
      let (m, o) = or_false more first e in
      let same = adds.moves.rests m in
      (ap (λ fs. is_usable fs place) same ∙ usable_set place old mid first sets o (subst (λ fs. place < length fs) same within), λ on. adds.calls m)

-- ---- the formats of a site

pub record FormatsSoFar (g : Ground) (start flags : List Flags) (changes : Bool) (place : ℕ) (s : Site) (formats : List Format) (number : ℕ) : Type 0 where
  pub grows : Grows g start flags changes
  pub done : changes ≡ false → (n : ℕ) (f : Format) → n < number → slice_get formats n ≡ Some f → IsDone g flags place s.method (string_bytes s.path) n f

pub formats_start : (g : Ground) (flags : List Flags) (place : ℕ) (s : Site) (formats : List Format) → FormatsSoFar g flags flags false place s formats 0
formats_start g flags place s formats = record { grows = grows_none g flags; done = λ e n f h at. absurd (omega (arith, h)) }

pub formats_on : (g : Ground) (start flags new : List Flags) (changes more : Bool) (place : ℕ) (s : Site) (formats : List Format) (number : ℕ) (f : Format) → slice_get formats number ≡ Some f → FormatsSoFar g start flags changes place s formats number
    → Grows g flags new more → (more ≡ false → IsDone g new place s.method (string_bytes s.path) number f) → FormatsSoFar g start new (more || changes) place s formats (number + 1)
formats_on g start flags new changes more place s formats number f at so grows done = record {
  grows = grows_then g start flags new changes more so.grows grows;
  done = λ e n x h there.
      let (m, o) = or_false more changes e in
      by e m o n x h there (nat_eq n number) refl;
}
  where
    by : (more || changes) ≡ false → more ≡ false → changes ≡ false → (n : ℕ) (x : Format) → n < number + 1 → slice_get formats n ≡ Some x → (b : Bool) → nat_eq n number ≡ b → IsDone g new place s.method (string_bytes s.path) n x
    by e m o n x h there true is =
        let same : n ≡ number = (Decides-eqb n number).0 is in
        let this : f ≡ x = same_Some f x (sym at ∙ sym (ap (slice_get formats) same) ∙ there) in
        subst (λ i. IsDone g new place s.method (string_bytes s.path) i x) (sym same) (subst (IsDone g new place s.method (string_bytes s.path) number) this (done m))
    by e m o n x h there false is =
        let apart : n ≡ number → ⊥ = λ same. let yes : true ≡ false = sym ((Decides-eqb n number).1 same) ∙ is in absurd (cc) in
        subst (λ fs. IsDone g fs place s.method (string_bytes s.path) n x) (sym (grows.moves.rests m)) (so.done o n x (omega (arith, h, apart)) there)

pub formats_end : (g : Ground) (start flags : List Flags) (changes : Bool) (place : ℕ) (s : Site) (formats : List Format) (number : ℕ) → length formats ≤ number → FormatsSoFar g start flags changes place s formats number → changes ≡ false
    → FormatsDone g flags place s formats
formats_end g start flags changes place s formats number over so e n f at = so.done e n f (let within = slice_get_within formats n f at in omega (arith, over, within)) at

-- ---- a site

pub site_done : (g : Ground) (flags : List Flags) (place : ℕ) (s : Site) (formats : List Format) → slice_get g.sites.now place ≡ Some s → AreFormatsOf g s.method formats → FormatsDone g flags place s formats → AreDone g flags place
site_done g flags place s formats at of done k n path f here is =
    let same : s ≡ here.site = same_Some s here.site (sym at ∙ here.site_at) in
    let m : s.method ≡ k = ap (λ x. x.method) same ∙ here.method_is in
    let p : string_bytes s.path ≡ path = ap (λ x. string_bytes x.path) same ∙ here.path_is in
    let found : slice_get formats n ≡ Some f = sym (of n) ∙ ap (λ x. format_in g.methods.now x n) m ∙ is in
    subst (λ z. IsDone g flags place k z n f) p (subst (λ x. IsDone g flags place x (string_bytes s.path) n f) m (done n f found))

pub no_method : (g : Ground) (flags : List Flags) (place : ℕ) (s : Site) → slice_get g.sites.now place ≡ Some s → slice_get g.methods.now s.method ≡ None → AreDone g flags place
no_method g flags place s at none k n path f here is =
    let same : s ≡ here.site = same_Some s here.site (sym at ∙ here.site_at) in
    let m : s.method ≡ k = ap (λ x. x.method) same ∙ here.method_is in
    let gone : None ≡ Some f = sym (ap (option_and_then (λ (x : Method). slice_get x.formats n)) (sym (ap (slice_get g.methods.now) m) ∙ none)) ∙ is in
    absurd (cc)

pub formats_of : (g : Ground) (k : ℕ) (m : Method) → slice_get g.methods.now k ≡ Some m → AreFormatsOf g k m.formats
formats_of g k m at n = ap (option_and_then (λ (x : Method). slice_get x.formats n)) at

-- ---- a round

pub record RoundSoFar (g : Ground) (start flags : List Flags) (changes : Bool) (place : ℕ) : Type 0 where
  pub grows : Grows g start flags changes
  pub done : changes ≡ false → (j : ℕ) → j < place → AreDone g flags j

pub round_start : (g : Ground) (flags : List Flags) → RoundSoFar g flags flags false 0
round_start g flags = record { grows = grows_none g flags; done = λ e j h. absurd (omega (arith, h)) }

pub round_on : (g : Ground) (start flags new : List Flags) (changes more : Bool) (place : ℕ) → RoundSoFar g start flags changes place → Grows g flags new more → (more ≡ false → AreDone g new place) → RoundSoFar g start new (more || changes) (place + 1)
round_on g start flags new changes more place so grows done = record {
  grows = grows_then g start flags new changes more so.grows grows;
  done = λ e j h. let (m, o) = or_false more changes e in by m o j h (nat_eq j place) refl;
}
  where
    by : more ≡ false → changes ≡ false → (j : ℕ) → j < place + 1 → (b : Bool) → nat_eq j place ≡ b → AreDone g new j
    by m o j h true is = subst (AreDone g new) (sym ((Decides-eqb j place).0 is)) (done m)
    by m o j h false is =
        let apart : j ≡ place → ⊥ = λ same. let yes : true ≡ false = sym ((Decides-eqb j place).1 same) ∙ is in absurd (cc) in
        subst (λ fs. AreDone g fs j) (sym (grows.moves.rests m)) (so.done o j (omega (arith, h, apart)))

pub round_end : (g : Ground) (start flags : List Flags) (changes : Bool) (place : ℕ) → length g.sites.now ≤ place → RoundSoFar g start flags changes place → changes ≡ false → (j : ℕ) → AreDone g flags j
round_end g start flags changes place over so e j k n path f here is used within =
    so.done e j (let inside = slice_get_within g.sites.now j here.site here.site_at in omega (arith, over, inside)) k n path f here is used within

pub begun_on : (g : Ground) (old new : List Flags) (changes : Bool) → IsBegun g old → Grows g old new changes → IsBegun g new
begun_on g old new changes begun grows = record { true_of = grows.true_of begun.true_of; top = λ j at. grows.moves.reached_kept j (begun.top j at) }

pub falls_on : (g : Ground) (old new : List Flags) (changes : Bool) → Grows g old new changes → 2 * count_unset new + (if changes then 1 else 0) < 2 * count_unset old + 1
falls_on g old new true grows = let less = grows.moves.falls_more refl in omega (arith, less)
falls_on g old new false grows = let less = grows.moves.falls in omega (arith, less)
