-- The oldest context in the place of a copy of the own one.
use Rattle.std.proofs.Common.{◌≡◌, ◌∙◌, refl, sym, ap, subst, ℕ, zero, suc, ◌+◌, ◌-◌, ◌<◌, ◌≤◌, Bool, true, false, cond, nat_lt, List, [], ◌∷◌, ◌++◌, length, inl, inr, arith}
use Rattle.std.specs.Prelude.{Some, slice_get}
use Rattle.std.specs.List.{IsDistinct, AllByRecursion}
use Rattle.std.specs.Map.{keys_of}
use Rattle.std.specs.Str.{bytes_eq}
use Rattle.std.proofs.lemmas.Bool.{cases_lt, ltb-true}
use Rattle.std.proofs.lemmas.List.{length-append}
use Rattle.std.proofs.lemmas.Slice.Eq.{bytes_eq-Decides}
use Rattle.sem_context.specs.Entries.{AreDistinct, Entries, overridden, with_entry}
use Rattle.sem_context.proofs.EntriesOverrides.{bytes_eq-sym}
use Rattle.sem_filling.specs.declared.filling.Filling.{Filling}
use Rattle.sem_filling.specs.Entries.{entries, next}
use Rattle.sem_elsewhere.specs.Held.{Holding}
use Rattle.walk_robust.specs.Sending.{HasJust, Sending, stayed, stays}
use Rattle.walk_robust.specs.Answers.{CanSpare, SparesOldest}
use Rattle.walk_robust.proofs.Staying.{at_right, past, past_is}

-- an entry at whose path the others have none stays the first
past_first : (e : List ℕ × List Bool) (es others : Entries) → AllByRecursion (λ y. bytes_eq e.0 y ≡ false) (keys_of others) → overridden (e ∷ es) others ≡ e ∷ overridden es others
past_first e es [] apart = refl
past_first e es (x ∷ others) apart =
    let other : bytes_eq x.0 e.0 ≡ false = bytes_eq-sym x.0 e.0 ∙ apart.0 in
    ap (λ b. overridden (cond b ((e.0, x.1) ∷ es) (e ∷ with_entry es x.0 x.1)) others) other ∙ past_first e (with_entry es x.0 x.1) others apart.1

-- where the paths are the same all is replaced
all_replaced : (es others : Entries) → AreDistinct es → keys_of es ≡ keys_of others → overridden es others ≡ others
unfolding IsDistinct
all_replaced [] [] distinct same = refl
all_replaced [] (x ∷ others) distinct same = absurd (cc)
all_replaced (e ∷ es) [] distinct same = absurd (cc)
all_replaced (e ∷ es) (x ∷ others) distinct same =
    let path : e.0 ≡ x.0 = cc in
    let rest : keys_of es ≡ keys_of others = cc in
    ap (λ b. overridden (cond b ((e.0, x.1) ∷ es) (e ∷ with_entry es x.0 x.1)) others) ((bytes_eq-Decides x.0 e.0).1 (sym path))
    ∙ past_first (e.0, x.1) es others (subst (AllByRecursion (λ y. bytes_eq e.0 y ≡ false)) rest distinct.0)
    ∙ ap (λ l. (e.0, x.1) ∷ l) (all_replaced es others distinct.1 rest)
    ∙ ap (λ k. (k, x.1) ∷ others) path

-- what comes of one context is then what comes of the other
pub same_next : (f : Filling) (left one other : Entries) → left ≡ entries f → HasJust left one → HasJust left other → next one f ≡ next other f
same_next f left one other left_is has other_has =
    all_replaced one (entries f) has.distinct (has.paths_are ∙ ap keys_of left_is)
    ∙ sym (all_replaced other (entries f) other_has.distinct (other_has.paths_are ∙ ap keys_of left_is))

-- ---- paths that are the same at each place

-- those at the first n places are the same
abbrev pub AreSameTo : List (List ℕ) → List (List ℕ) → ℕ → Type 0
AreSameTo xs ys n = (i : ℕ) → i < n → slice_get xs i ≡ slice_get ys i

pub one_more : (xs ys : List (List ℕ)) (n : ℕ) → slice_get xs n ≡ slice_get ys n → AreSameTo xs ys n → AreSameTo xs ys (n + 1)
one_more xs ys n at so_far i under =
    elim (cases_lt i n) [
      | inl below ↦ so_far i below
      | inr above ↦ let same : n ≡ i = omega (arith, above, under) in subst (λ j. slice_get xs j ≡ slice_get ys j) same at
    ]

pub same_all : (xs ys : List (List ℕ)) (n : ℕ) → length xs ≡ length ys → length xs ≤ n → AreSameTo xs ys n → xs ≡ ys
same_all [] [] n many past same = refl
same_all [] (y ∷ ys) n many past same = absurd (cc)
same_all (x ∷ xs) [] n many past same = absurd (cc)
same_all (x ∷ xs) (y ∷ ys) zero many past same = absurd (omega (arith, past))
same_all (x ∷ xs) (y ∷ ys) (suc n) many past same =
    let first : Some x ≡ Some y = same 0 (omega arith) in
    let here : x ≡ y = cc in
    let rest : xs ≡ ys = same_all xs ys n (omega (arith, many)) (omega (arith, past)) (λ i under. same (suc i) (omega (arith, under))) in
    cc

-- ---- without the oldest

stays_not : (n : ℕ) (h : Holding) → n ≤ h.gap → stays n h ≡ []
stays_not n h gone = by (nat_lt h.gap n) refl
  where
    by : (b : Bool) → nat_lt h.gap n ≡ b → cond {A = List Holding} b (record { gap = suc h.gap; context = h.context } ∷ []) [] ≡ []
    by true is = let l = ltb-true h.gap n is in absurd (omega (arith, l, gone))
    by false is = refl

pub stayed_but_last : (n : ℕ) (hs : List Holding) (h : Holding) → n ≤ h.gap → stayed n (hs ++ h ∷ []) ≡ stayed n hs
stayed_but_last n [] h gone = ap (λ xs. xs ++ []) (stays_not n h gone)
stayed_but_last n (x ∷ hs) h gone = ap (λ xs. stays n x ++ xs) (stayed_but_last n hs h gone)

pub nothing_spared : (s : Sending) → SparesOldest s s
nothing_spared s = record { own_is = refl; lost_is = refl; staying = refl }

-- the last of a list that ends so
last_is : (hs : List Holding) (h oldest : Holding) → slice_get (hs ++ h ∷ []) (length (hs ++ h ∷ []) - 1) ≡ Some oldest → h ≡ oldest
last_is hs h oldest at =
    let count = length-append hs (h ∷ []) in
    let place : length (hs ++ h ∷ []) - 1 ≡ past hs 0 = let e = past_is hs 0 in omega (arith, count, e) in
    let there : Some h ≡ Some oldest = sym (at_right hs (h ∷ []) 0 h refl) ∙ ap (slice_get (hs ++ h ∷ [])) (sym place) ∙ at in
    cc

module _ (s : Sending) (left : Entries) (can : CanSpare s left) (rest : List Holding) (h : Holding) (others_are : s.others ≡ rest ++ h ∷ []) where
  oldest_is : h ≡ can.oldest
  oldest_is = last_is rest h can.oldest (subst (λ xs. slice_get xs (length xs - 1) ≡ Some can.oldest) others_are can.at)

  pub gone : s.lost ≤ h.gap
  gone = subst (λ (z : Holding). s.lost ≤ z.gap) (sym oldest_is) can.gone

  pub spared : (new : Sending) → new ≡ record { own = s.own; others = rest; lost = s.lost } → SparesOldest s new
  spared new is = subst (SparesOldest s) (sym is) (record {
    own_is = refl;
    lost_is = refl;
    staying = sym (ap (λ xs. stays s.lost (record { gap = 0; context = s.own }) ++ stayed s.lost xs) others_are ∙ ap (λ xs. stays s.lost (record { gap = 0; context = s.own }) ++ xs) (stayed_but_last s.lost rest h gone));
  })

  pub advanced : (f : Filling) → left ≡ entries f → next h.context f ≡ next s.own f
  advanced f left_is = same_next f left h.context s.own left_is (subst (λ (z : Holding). HasJust left z.context) (sym oldest_is) can.has_just) can.own_has_just
