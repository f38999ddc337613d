-- What is held after a filling.
use Rattle.std.proofs.Common.{◌≡◌, ◌∙◌, refl, sym, ap, subst, ℕ, zero, suc, ◌+◌, ◌<◌, inl, inr, List, [], ◌∷◌, ◌++◌, length, arith}
use Rattle.std.proofs.lemmas.List.{length-append}
use Rattle.std.specs.Prelude.{Some, slice_get}
use Rattle.sem_context.specs.Entries.{Entries, bits_at}
use Rattle.sem_filling.specs.declared.filling.Filling.{Filling}
use Rattle.sem_filling.specs.Entries.{next}
use Rattle.sem_elsewhere.specs.Held.{Holding, IsHeld}
use Rattle.walk_robust.specs.Sending.{AreHeldAfter, ComesFrom, HaveCome, IsSamePair, Sending, held, stayed, was_lost, was_read}
use Rattle.walk_robust.specs.Answers.{HasPacked, HasTooMany, SparesOldest, pair_limit}
use Rattle.walk_robust.proofs.Comings.{come_all, come_none}
use Rattle.walk_robust.proofs.Sparing.{nothing_spared}
use Rattle.walk_robust.proofs.Staying.{apart_joined, apart_stayed, at_either, at_left, at_right, past, stays_from, stays_there}

some_same : {A : Type 0} {x y : A} → Some x ≡ Some y → x ≡ y
some_same e = cc

module _ (s : Sending) (f : Filling) (own : Entries) (own_is : own ≡ next s.own f) (found : List Holding) (c : HaveCome own s.others f found) where
  abbrev came : List Holding
  came = record { gap = 0; context = own } ∷ found

  -- all that is held then
  abbrev after : List Holding
  after = came ++ stayed s.lost (held s)

  first : (h : Holding) → record { gap = 0; context = s.own } ≡ h → IsHeld after 0 (next h.context f)
  first h same = record { place = 0; one = record { gap = 0; context = own }; at = refl; gap_is = refl; same = λ path. ap (λ z. bits_at z path) (own_is ∙ ap (λ (g : Holding). next g.context f) same) }

  read : (i : ℕ) (h : Holding) → slice_get (held s) i ≡ Some h → IsHeld after 0 (next h.context f)
  read zero h at = first h (some_same at)
  read (suc i) h at = let r = c.all i h at in record { place = r.place; one = r.one; at = at_left came (stayed s.lost (held s)) r.place r.one r.at; gap_is = r.gap_is; same = r.same }

  lost : (i : ℕ) (h : Holding) → slice_get (held s) i ≡ Some h → h.gap < s.lost → IsHeld after (suc h.gap) h.context
  lost i h at under =
      let r = stays_there s.lost (held s) i h at under in
      record { place = past came r.0; one = record { gap = suc h.gap; context = h.context }; at = at_right came (stayed s.lost (held s)) r.0 (record { gap = suc h.gap; context = h.context }) r.1; gap_is = refl; same = λ path. refl }

  of_first : (i : ℕ) (g : Holding) → slice_get came i ≡ Some g → ComesFrom s.lost (held s) f g
  of_first zero g at =
      let here : record { gap = 0; context = own } ≡ g = some_same at in
      let same : record { gap = 0; context = next s.own f } ≡ g = ap (λ z. record { gap = 0; context = z }) (sym own_is) ∙ here in
      subst (ComesFrom s.lost (held s) f) same (was_read 0 (record { gap = 0; context = s.own }) refl)
  of_first (suc i) g at = let r = c.only i g at in subst (ComesFrom s.lost (held s) f) (sym r.pair_is) (was_read (suc r.place) r.one r.at)

  only : (i : ℕ) (g : Holding) → slice_get after i ≡ Some g → ComesFrom s.lost (held s) f g
  only i g at =
      elim (at_either came (stayed s.lost (held s)) i g at) [
        | inl here ↦ of_first i g here
        | inr later ↦
            let r = stays_from s.lost (held s) later.0 g later.2 in
            subst (ComesFrom s.lost (held s) f) (sym r.pair_is) (was_lost r.place r.one r.at r.under)
      ]

  no_gap : (i : ℕ) (g : Holding) → slice_get came i ≡ Some g → g.gap ≡ 0
  no_gap zero g at = let same : record { gap = 0; context = own } ≡ g = some_same at in ap (λ (z : Holding). z.gap) (sym same)
  no_gap (suc i) g at = ap (λ (z : Holding). z.gap) (c.only i g at).pair_is

  across : (i j : ℕ) (g h : Holding) → slice_get came i ≡ Some g → slice_get (stayed s.lost (held s)) j ≡ Some h → IsSamePair g h → ⊥
  across i j g h at_i at_j same =
      let r = stays_from s.lost (held s) j h at_j in
      let never : 0 ≡ suc r.one.gap = sym (no_gap i g at_i) ∙ same.0 ∙ ap (λ (z : Holding). z.gap) r.pair_is in
      cc

  pub held_after : AreHeldAfter s.lost (held s) after f
  held_after = record {
    all = record { came = read; lost = lost };
    only = only;
    once = λ apart. apart_joined came (stayed s.lost (held s)) c.once (apart_stayed s.lost (held s) apart) across;
  }

  module _ (count kept : ℕ) (count_is : count ≡ length found) (kept_is : kept ≡ length (stayed s.lost (held s))) where
    all_of : length after ≡ suc (count + kept)
    all_of = ap suc (length-append found (stayed s.lost (held s)) ∙ ap (λ n. n + length (stayed s.lost (held s))) (sym count_is) ∙ ap (λ n. count + n) (sym kept_is))

    pub too_many : pair_limit < 1 + (count + kept) → HasTooMany s f
    too_many many = record { after = after; held_are = held_after; many = let l = all_of in omega (arith, many, l) }

    pub gone_on : (pair_limit < 1 + (count + kept) → ⊥) → (came_now : List Holding) → came_now ≡ found → (spared : Sending) → SparesOldest s spared → (new : Sending) → new ≡ record { own = own; others = came_now ++ stayed spared.lost (held spared); lost = spared.lost } → HasPacked s f new
    gone_on few came_now same spared sp new new_is =
        let is : new ≡ record { own = own; others = found ++ stayed s.lost (held s); lost = s.lost } =
        new_is ∙ ap (λ xs. record { own = own; others = xs ++ stayed spared.lost (held spared); lost = spared.lost }) same
        ∙ ap (λ xs. record { own = own; others = found ++ xs; lost = spared.lost }) sp.staying ∙ ap (λ n. record { own = own; others = found ++ stayed s.lost (held s); lost = n }) sp.lost_is in
        subst (HasPacked s f) (sym is) (record { own_is = own_is; lost_is = refl; held_are = held_after; few = let l = all_of in omega (arith, few, l) })

pub no_others : (hs : List Holding) → length hs ≡ 0 → hs ≡ []
no_others [] none = refl
no_others (h ∷ hs) none = absurd (cc)

-- where nothing may be lost and nothing else is held, the own context goes on
pub gone_alone : (s : Sending) (f : Filling) → s.others ≡ [] → s.lost ≡ 0 → (new : Sending) → new ≡ record { own = next s.own f; others = s.others; lost = s.lost } → HasPacked s f new
gone_alone s f alone none new new_is =
    let start : Sending = record { own = s.own; others = []; lost = 0 } in
    let s_is : s ≡ start = ap (λ xs. record { own = s.own; others = xs; lost = s.lost }) alone ∙ ap (λ n. record { own = s.own; others = []; lost = n }) none in
    let came = come_all (next s.own f) [] f 0 [] (omega arith) (come_none (next s.own f) [] f) in
    let is : new ≡ record { own = next s.own f; others = []; lost = 0 } =
    new_is ∙ ap (λ (z : Sending). record { own = next z.own f; others = z.others; lost = z.lost }) s_is in
    subst (λ z. HasPacked z f new) (sym s_is)
    (subst (HasPacked start f) (sym is)
    (gone_on start f (next s.own f) refl [] came 0 0 refl refl (λ many. omega (arith, many)) [] refl start (nothing_spared start) _ refl))
