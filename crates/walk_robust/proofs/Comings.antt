-- Which contexts are the same after a filling.
use Rattle.std.proofs.Common.{◌≡◌, ◌∙◌, refl, sym, ap, subst, ℕ, zero, suc, ◌+◌, ◌<◌, ◌≤◌, Bool, true, false, cond, List, [], ◌∷◌, ◌++◌, length, ◌⊎◌, inl, inr, arith}
use Rattle.std.specs.Prelude.{Option, Some, None, String, IsSome, is_some, option_map, reverse, slice_get, string_bytes}
use Rattle.std.specs.Map.{keys_of}
use Rattle.std.specs.Option.{option_or}
use Rattle.std.specs.Str.{bytes_eq}
use Rattle.std.proofs.lemmas.Bool.{false≢true}
use Rattle.std.proofs.lemmas.Option.{slice_get_within}
use Rattle.std.proofs.lemmas.Slice.Eq.{bytes_eq-Decides}
use Rattle.sem_context.specs.Entries.{Entries, bits_at}
use Rattle.sem_context.specs.Placing.{shown}
use Rattle.sem_context.proofs.EntriesOverrides.{overridden-value}
use Rattle.sem_filling.specs.declared.filling.Filling.{Filling}
use Rattle.sem_filling.specs.Entries.{Path, entries, next}
use Rattle.sem_filling.proofs.Each.{Before, before_end, before_next}
use Rattle.sem_elsewhere.specs.Held.{Holding, IsHeld}
use Rattle.sem_elsewhere.proofs.Agreeing.{agree_after}
use Rattle.sem_elsewhere.proofs.Pathing.{has-reverse}
use Rattle.walk_engine.specs.Laws.{AreSame}
use Rattle.walk_robust.specs.Sending.{AreApart, CameOf, HaveCome, HoldsOutside, IsAmong, IsCovered, IsSamePair, SameOutside}
use Rattle.walk_robust.proofs.Staying.{alone, apart_joined, at_either, at_left, at_right, past}

-- ---- paths and places

pub shown-path : {Z : Type 0} (es : List (String Z × List Bool)) (i : ℕ) → slice_get (keys_of (shown es)) i ≡ option_map (λ e. string_bytes e.0) (slice_get es i)
shown-path [] i = refl
shown-path (e ∷ es) zero = refl
shown-path (e ∷ es) (suc i) = shown-path es i

pub length-shown : {Z : Type 0} (es : List (String Z × List Bool)) → length (shown es) ≡ length es
length-shown [] = refl
length-shown (e ∷ es) = ap suc (length-shown es)

-- what stands at a place is there
pub some_at : (es : Entries) (i : ℕ) (path : Path) → slice_get (keys_of es) i ≡ Some path → IsSome (bits_at es path)
some_at [] i path at = absurd (cc)
some_at (e ∷ es) i path at = by (λ j at_j. some_at es j path at_j) (bytes_eq path e.0) refl i at
  where
    by : ((j : ℕ) → slice_get (keys_of es) j ≡ Some path → IsSome (bits_at es path)) → (b : Bool) → bytes_eq path e.0 ≡ b → (j : ℕ) → slice_get (keys_of (e ∷ es)) j ≡ Some path → IsSome (cond b (Some e.1) (bits_at es path))
    by more true is j at_j = refl
    by more false is zero at_j = let same : e.0 ≡ path = cc in absurd (false≢true (sym is ∙ (bytes_eq-Decides path e.0).1 (sym same)))
    by more false is (suc j) at_j = more j at_j

-- and stands at a place where it is there
pub place_of_some : (es : Entries) (path : Path) → IsSome (bits_at es path) → (i : ℕ) × (slice_get (keys_of es) i ≡ Some path)
place_of_some [] path some = absurd (false≢true some)
place_of_some (e ∷ es) path some = by (λ later. place_of_some es path later) (bytes_eq path e.0) refl some
  where
    by : (IsSome (bits_at es path) → (i : ℕ) × (slice_get (keys_of es) i ≡ Some path)) → (b : Bool) → bytes_eq path e.0 ≡ b → IsSome (cond b (Some e.1) (bits_at es path)) → (i : ℕ) × (slice_get (keys_of (e ∷ es)) i ≡ Some path)
    by more true is here = (0, ap Some (sym ((bytes_eq-Decides path e.0).0 is)))
    by more false is later = let r = more later in (suc r.0, r.1)

-- of two that are both there or not, none of the one is none of the other
none_too : {A : Type 0} (o p : Option A) → is_some o ≡ is_some p → p ≡ None → o ≡ None
none_too None p same none = refl
none_too (Some x) p same none = absurd (false≢true (sym (same ∙ ap is_some none)))

none_reversed : (es : Entries) (path : Path) → bits_at es path ≡ None → bits_at (reverse es) path ≡ None
none_reversed es path none = none_too (bits_at (reverse es) path) (bits_at es path) (has-reverse es path) none

none_straight : (es : Entries) (path : Path) → bits_at (reverse es) path ≡ None → bits_at es path ≡ None
none_straight es path none = none_too (bits_at es path) (bits_at (reverse es) path) (sym (has-reverse es path)) none

-- ---- outside of what is left

-- so far the other has what the one has
abbrev pub HoldsAt : Entries → Entries → Entries → ℕ → Path → Type 0
HoldsAt left one other i path = bits_at left path ≡ None → bits_at one path ≡ bits_at other path

abbrev pub HoldsTo : Entries → Entries → Entries → ℕ → Type 0
HoldsTo left one other n = Before (HoldsAt left one other) (keys_of one) n

pub length-keys : (es : Entries) → length (keys_of es) ≡ length es
length-keys [] = refl
length-keys (e ∷ es) = ap suc (length-keys es)

pub place_within : (es : Entries) (i : ℕ) (path : Path) → slice_get (keys_of es) i ≡ Some path → i < length es
place_within es i path at = let l = slice_get_within (keys_of es) i path at in omega (arith, l, length-keys es)

pub holds_all : (left one other : Entries) (n : ℕ) → length one ≤ n → HoldsTo left one other n → HoldsOutside left one other
holds_all left one other n all so_far path none some =
    let r = place_of_some one path some in
    before_end (HoldsAt left one other) (keys_of one) n (omega (arith, all, length-keys one)) so_far r.0 path r.1 none

none_is : {A : Type 0} (o : Option A) → (IsSome o → ⊥) → o ≡ None
none_is None not_some = refl
none_is (Some x) not_some = absurd (not_some refl)

pub holds_not : (left one other : Entries) (i : ℕ) (path : Path) → slice_get (keys_of one) i ≡ Some path → (IsSome (bits_at left path) → ⊥) → (bits_at one path ≡ bits_at other path → ⊥) → HoldsOutside left one other → ⊥
holds_not left one other i path at outside differ holds = differ (holds path (none_is (bits_at left path) outside) (some_at one i path at))

pub both_ways : (left one other : Entries) → HoldsOutside left one other → HoldsOutside left other one → SameOutside left one other
both_ways left one other there back path none = by (bits_at one path) (bits_at other path) (there path none) (back path none)
  where
    by : (o p : Option (List Bool)) → (IsSome o → o ≡ p) → (IsSome p → p ≡ o) → o ≡ p
    by None None f g = refl
    by None (Some x) f g = sym (g refl)
    by (Some x) p f g = f refl

pub one_way : (left one other : Entries) → SameOutside left one other → HoldsOutside left one other
one_way left one other same path none some = same path none

pub other_way : (left one other : Entries) → SameOutside left one other → HoldsOutside left other one
other_way left one other same path none some = sym (same path none)

-- ---- where all paths are left

abbrev pub CoveredTo : Entries → Entries → ℕ → Type 0
CoveredTo left one n = Before (λ i path. IsSome (bits_at left path)) (keys_of one) n

pub covered_all : (left one : Entries) (n : ℕ) → length one ≤ n → CoveredTo left one n → IsCovered left one
covered_all left one n all so_far path none =
    none_is (bits_at one path) (λ some.
    let r = place_of_some one path some in
    let there : IsSome (bits_at left path) = before_end (λ i q. IsSome (bits_at left q)) (keys_of one) n (omega (arith, all, length-keys one)) so_far r.0 path r.1 in
    absurd (false≢true (sym (ap is_some none) ∙ there)))

-- then the same is what holds in the other way
pub covered_holds : (left one other : Entries) → IsCovered left one → HoldsOutside left one other
covered_holds left one other covered path none some = absurd (false≢true (sym (ap is_some (covered path none)) ∙ some))

-- ---- after a filling

-- outside of what is left nothing changes
pub unchanged : (f : Filling) (own : Entries) (path : Path) → bits_at (entries f) path ≡ None → bits_at (next own f) path ≡ bits_at own path
unchanged f own path none = overridden-value own (entries f) path ∙ ap (λ o. option_or o (bits_at own path)) (none_reversed (entries f) path none)

same_past : (f : Filling) (own other : Entries) → SameOutside (entries f) own other → SameOutside (entries f) (next own f) other
same_past f own other same path none = unchanged f own path none ∙ same path none

-- what came of one context is what comes of another that is the same outside
pub same_after : (f : Filling) (before other : Entries) → SameOutside (entries f) (next before f) other → AreSame (next before f) (next other f)
same_after f before other same path = by (bits_at (reverse (entries f)) path) refl
  where
    by : (o : Option (List Bool)) → bits_at (reverse (entries f)) path ≡ o → bits_at (next before f) path ≡ bits_at (next other f) path
    by None none = same path (none_straight (entries f) path none) ∙ sym (overridden-value other (entries f) path ∙ ap (λ o. option_or o (bits_at other path)) none)
    by (Some bits) is = agree_after before other f path (λ none. let never : Some bits ≡ None = sym is ∙ none in cc)

-- and only then
pub same_before : (f : Filling) (came other : Entries) → AreSame came (next other f) → SameOutside (entries f) came other
same_before f came other same path none =
    same path ∙ overridden-value other (entries f) path ∙ ap (λ o. option_or o (bits_at other path)) (none_reversed (entries f) path none)

-- ---- what comes of some

-- so far, of the first n
pub record ComeTo (first : Entries) (before : List Holding) (f : Filling) (n : ℕ) (found : List Holding) : Type 0 where
  pub all : Before (λ i h. IsHeld (record { gap = 0; context = first } ∷ found) 0 (next h.context f)) before n
  pub only : (i : ℕ) (g : Holding) → slice_get found i ≡ Some g → CameOf before f g
  pub once : AreApart (record { gap = 0; context = first } ∷ found)

pub come_none : (first : Entries) (before : List Holding) (f : Filling) → ComeTo first before f 0 []
come_none first before f = record { all = λ i h under at. absurd (omega (arith, under)); only = λ i g at. absurd (cc); once = single }
  where
    single : AreApart (record { gap = 0; context = first } ∷ [])
    single zero zero g h at_i at_j same = refl
    single zero (suc j) g h at_i at_j same = absurd (cc)
    single (suc i) j g h at_i at_j same = absurd (cc)

pub come_all : (first : Entries) (before : List Holding) (f : Filling) (n : ℕ) (found : List Holding) → length before ≤ n → ComeTo first before f n found → HaveCome first before f found
come_all first before f n found past c = record { all = before_end (λ i h. IsHeld (record { gap = 0; context = first } ∷ found) 0 (next h.context f)) before n past c.all; only = c.only; once = c.once }

module _ (first : Entries) (before : List Holding) (f : Filling) (n : ℕ) (found : List Holding) (h : Holding) (at : slice_get before n ≡ Some h) (c : ComeTo first before f n found) where
  -- what comes of the next one is held, as it is the same as what came before
  held_by : IsHeld (record { gap = 0; context = first } ∷ found) 0 (next h.context f) → ComeTo first before f (n + 1) found
  held_by is = record { all = before_next (λ i g. IsHeld (record { gap = 0; context = first } ∷ found) 0 (next g.context f)) before n h at is c.all; only = c.only; once = c.once }

  pub as_first : (own : Entries) → first ≡ next own f → SameOutside (entries f) own h.context → ComeTo first before f (n + 1) found
  as_first own first_is same = held_by (record {
    place = 0;
    one = record { gap = 0; context = first };
    at = refl;
    gap_is = refl;
    same = subst (λ z. AreSame z (next h.context f)) (sym first_is) (same_after f own h.context (same_past f own h.context same));
  })

  pub as_found : IsAmong (entries f) found h.context → ComeTo first before f (n + 1) found
  as_found among =
      let came = c.only among.place among.one among.at in
      let context_is : among.one.context ≡ next came.one.context f = ap (λ (z : Holding). z.context) came.pair_is in
      held_by (record {
        place = suc among.place;
        one = among.one;
        at = among.at;
        gap_is = ap (λ (z : Holding). z.gap) came.pair_is;
        same = subst (λ z. AreSame z (next h.context f)) (sym context_is) (same_after f came.one.context h.context (subst (λ z. SameOutside (entries f) z h.context) context_is among.same));
      })

  -- or else is one more
  pub as_new : (new : Entries) → new ≡ next h.context f → (SameOutside (entries f) first h.context → ⊥) → (IsAmong (entries f) found h.context → ⊥) → ComeTo first before f (n + 1) (found ++ record { gap = 0; context = new } ∷ [])
  as_new new new_is not_first not_found = record {
    all = before_next (λ i g. IsHeld held_now 0 (next g.context f)) before n h at
        (record { place = past (record { gap = 0; context = first } ∷ found) 0; one = one; at = at_right (record { gap = 0; context = first } ∷ found) (one ∷ []) 0 one refl; gap_is = refl; same = λ path. ap (λ z. bits_at z path) new_is })
        (λ i g under at_i. let was = c.all i g under at_i in record { place = was.place; one = was.one; at = at_left (record { gap = 0; context = first } ∷ found) (one ∷ []) was.place was.one was.at; gap_is = was.gap_is; same = was.same });
    only = λ i g at_i.
        elim (at_either found (one ∷ []) i g at_i) [
          | inl old ↦ c.only i g old
          | inr later ↦ is_new g later.0 later.2
        ];
    once = apart_joined (record { gap = 0; context = first } ∷ found) (one ∷ []) c.once (alone one) apart_of;
  }
    where
      one : Holding
      one = record { gap = 0; context = new }

      held_now : List Holding
      held_now = record { gap = 0; context = first } ∷ (found ++ one ∷ [])

      is_new : (g : Holding) (j : ℕ) → slice_get (one ∷ []) j ≡ Some g → CameOf before f g
      is_new g zero at_j = let same : one ≡ g = cc in record { place = n; one = h; at = at; pair_is = sym same ∙ ap (λ z. record { gap = 0; context = z }) new_is }
      is_new g (suc j) at_j = absurd (cc)

      as_next : (context : Entries) → AreSame context new → SameOutside (entries f) context h.context
      as_next context same = same_before f context h.context (subst (AreSame context) new_is same)

      apart_of : (i j : ℕ) (g k : Holding) → slice_get (record { gap = 0; context = first } ∷ found) i ≡ Some g → slice_get (one ∷ []) j ≡ Some k → IsSamePair g k → ⊥
      apart_of zero zero g k at_i at_j same =
          let first_is : first ≡ g.context = cc in
          let new_here : k.context ≡ new = cc in
          not_first (subst (λ z. SameOutside (entries f) z h.context) (sym first_is) (as_next g.context (subst (AreSame g.context) new_here same.1)))
      apart_of (suc i) zero g k at_i at_j same =
          let new_here : k.context ≡ new = cc in
          not_found (record { place = i; one = g; at = at_i; same = as_next g.context (subst (AreSame g.context) new_here same.1) })
      apart_of i (suc j) g k at_i at_j same = cc

  -- ---- the same as the code has it

  module _ (left : Entries) (others : List Holding) (context : Entries) (left_is : left ≡ entries f) (others_are : others ≡ found) (context_is : context ≡ h.context) where
    pub known_step : (own : Entries) → first ≡ next own f → (SameOutside left own context ⊎ IsAmong left others context) → ComeTo first before f (n + 1) found
    known_step own first_is known =
        elim known [
          | inl same ↦ as_first own first_is (subst (λ z. SameOutside z own h.context) left_is (subst (λ z. SameOutside left own z) context_is same))
          | inr among ↦ as_found (subst (λ z. IsAmong z found h.context) left_is (subst (λ z. IsAmong left z h.context) others_are (subst (λ z. IsAmong left others z) context_is among)))
        ]

    pub new_step : (own : Entries) → first ≡ next own f → (new : Entries) → new ≡ next context f → ((SameOutside left own context ⊎ IsAmong left others context) → ⊥) → ComeTo first before f (n + 1) (found ++ record { gap = 0; context = new } ∷ [])
    new_step own first_is new new_is unknown =
        as_new new (new_is ∙ ap (λ z. next z f) context_is)
        (λ same.
        let as_own : SameOutside (entries f) own h.context = λ path none. sym (unchanged f own path none) ∙ sym (ap (λ z. bits_at z path) first_is) ∙ same path none in
        unknown (inl (subst (λ z. SameOutside left own z) (sym context_is) (subst (λ z. SameOutside z own h.context) (sym left_is) as_own))))
        (λ among. unknown (inr (subst (λ z. IsAmong left others z) (sym context_is) (subst (λ z. IsAmong left z h.context) (sym others_are) (subst (λ z. IsAmong z found h.context) (sym left_is) among)))))
