-- What the search for a filling that fits in all contexts finds.
use Rattle.std.proofs.Common.{◌≡◌, ◌∙◌, ap, refl, sym, subst, ℕ, ◌+◌, ◌-◌, ◌<◌, ◌≤◌, List, [], ◌∷◌, inl, inr, arith}
use Rattle.std.specs.Prelude.{Option, None, Some, length, option_map, slice_get, slice_index_or, unwrap_or}
use Rattle.std.proofs.lemmas.Bool.{cases_lt}
use Rattle.std.proofs.lemmas.Option.{slice_get_within}
use Rattle.sem_context.specs.Entries.{Entries, bits_at}
use Rattle.sem_filling.specs.declared.filling.Filling.{Filling}
use Rattle.sem_filling.specs.declared.filling.Item.{Item}
use Rattle.sem_filling.specs.Fillings.{item}
use Rattle.sem_profile.specs.Resolved.{Resolved, IsSound}
use Rattle.cert_accepted.specs.Accepted.{Accepting, IsAccepted}
use Rattle.sem_elsewhere.specs.Held.{Holding}
use Rattle.sem_filling.proofs.Each.{Before}
use Rattle.walk_loss.specs.Uses.{FitsAnywhere}
use Rattle.walk_engine.specs.declared.search.Candidate.{Candidate}
use Rattle.walk_engine.specs.declared.search.Packed.{Packed}
use Rattle.walk_engine.specs.declared.writer.PackFault.{PackFault}
use Rattle.walk_engine.specs.declared.writer.PackFault.TheVariants as pack
use Rattle.walk_engine.specs.Reading.{Fitting}
use Rattle.walk_engine.specs.Searching.{number_in}
use Rattle.walk_engine.specs.Writing.{BlamesFrom, IsPackedFrom}
use Rattle.walk_engine.proofs.Searching.{order_of_numbers, searched_start}
use Rattle.walk_robust.specs.declared.sender.RobustFault.{RobustFault}
use Rattle.walk_robust.specs.declared.sender.RobustFault.TheVariants as fault
use Rattle.walk_robust.specs.Sending.{Sending}
use Rattle.walk_robust.specs.Answers.{Blames, FitsAll, IsBestFor, IsRefusal, LacksReach, Overflows, last_of}

-- what fits in all fits in the last
at_last : (a : Accepting) (own : Entries) (others : List Holding) (f : Filling) → FitsAll a own others f → Fitting a (last_of own others) f
at_last a own others f all = by (slice_get others (length others - 1)) refl
  where
    by : (o : Option Holding) → slice_get others (length others - 1) ≡ o → Fitting a (unwrap_or (option_map (λ h. h.context) o) own) f
    by None is = all.0
    by (Some h) is = all.1 (length others - 1) h is

-- where there is no other that is all
pub fits_alone : (a : Accepting) (own : Entries) (others : List Holding) (f : Filling) → length others ≡ 0 → Fitting a (last_of own others) f → FitsAll a own others f
fits_alone a own [] f none here = (here, λ i h at. absurd (cc))
fits_alone a own (x ∷ xs) f none here = absurd (cc)

-- a filling that fits in the last fits in all where it fits in the own one and in those before the last
module _ (a : Accepting) (own : Entries) (others : List Holding) (f : Filling) (here : Fitting a (last_of own others) f) where
  pub anywhere : FitsAnywhere a.profile.methods a.profile.top [] [] f
  anywhere = record { context = bits_at (last_of own others); fits = here }

  pub fits_in_all : Fitting a own f → Before (λ j h. Fitting a h.context f) others (length others - 1) → FitsAll a own others f
  fits_in_all own_fits before = (own_fits, each)
    where
      each : (i : ℕ) (h : Holding) → slice_get others i ≡ Some h → Fitting a h.context f
      each i h at =
          elim (cases_lt i (length others - 1)) [
            | inl first ↦ before i h first at
            | inr last ↦
                let within = slice_get_within others i h at in
                let place : i ≡ length others - 1 = omega (arith, last, within) in
                let last_is : last_of own others ≡ h.context = ap (λ o. unwrap_or (option_map (λ (z : Holding). z.context) o) own) (sym (ap (slice_get others) place) ∙ at) in
                subst (λ ctx. Fitting a ctx f) last_is here
          ]

module _ (a : Accepting) (own : Entries) (others : List Holding) (it : Item) where
  abbrev sought : Entries
  sought = last_of own others

  -- what fits in all has no number below this one
  abbrev pub Passed : ℕ → Type 0
  Passed from = (g : Filling) → FitsAll a own others g → item g ≡ it → from ≤ number_in a g

  pub passed_none : Passed 0
  passed_none g all has = omega arith

  -- the next candidate doesn't fit in all
  pub passed_one : (from : ℕ) (c : Candidate) → Passed from → IsPackedFrom a sought it from c → (FitsAll a own others c.packed.filling → ⊥) → Passed (c.number + 1)
  passed_one from c p h fails g all has =
      elim (cases_lt c.number (number_in a g)) [
        | inl above ↦ omega (arith, above)
        | inr under ↦
            let same : g ≡ c.packed.filling = h.first.first g (at_last a own others g all) has (p g all has) under in
            absurd (fails (subst (FitsAll a own others) same all))
      ]

  -- or it is the best
  pub best_of_all : (p : Resolved) → IsSound p → p ≡ a.profile → IsAccepted a → (from : ℕ) (c : Candidate) → Passed from → IsPackedFrom a sought it from c → FitsAll a own others c.packed.filling → IsBestFor a own others it c.packed
  best_of_all p sound is accepted from c passed h all = record {
    writable = h.writable;
    best = record {
      fits = all.0;
      each = all.1;
      has = h.first.has;
      first = λ g own_fits each_fits has up.
          let there = at_last a own others g (own_fits, each_fits) in
          let l = order_of_numbers a sought it p sound is accepted g c.packed.filling there h.first.fits up in
          h.first.first g there has (passed g (own_fits, each_fits) has) (subst (λ n. number_in a g ≤ n) h.first.number_is l);
    };
    packed_is = h.first.packed_is;
  }

  -- or there is none
  pub refused : (from : ℕ) (e : PackFault) → Passed from → BlamesFrom from e a sought it → (r : RobustFault) → IsRefusal e a own it r → LacksReach r a own others it
  refused from pack.NoFormat p h fault.NoReach some = record { writable = h.writable; some = some.0; fits = some.1; has = some.2; none = λ g own_fits each has. h.none g (at_last a own others g (own_fits, each)) has (p g (own_fits, each) has) }
  refused from pack.NoFormat p h (fault.Pack e) blames = blames
  refused from pack.NoFormat p h fault.Contexts never = absurd never
  refused from pack.HeaderLength p h r is = subst (λ z. LacksReach z a own others it) (sym is) h
  refused from (pack.Asked name) p h r is = subst (λ z. LacksReach z a own others it) (sym is) h
  refused from pack.Flow p h r is = absurd h
  refused from pack.OutOfMemory p h r is = subst (λ z. LacksReach z a own others it) (sym is) tt

  -- the number of a candidate is below their count, as the code has it
  pub below_count : (p : Resolved) → IsSound p → p ≡ a.profile → IsAccepted a → (counts : List ℕ) → counts ≡ a.counts → (m : ℕ) → m ≡ p.top → (from : ℕ) (c : Candidate) → IsPackedFrom a sought it from c → c.number < slice_index_or counts m 0
  below_count p sound is accepted counts same m at from c h = h.first.below (slice_index_or counts m 0) (searched_start a sought it p sound is accepted from counts same m at).counted

-- why what was found isn't packed
pub blamed : (a : Accepting) (s : Sending) (it : Item) (p : Packed) → IsBestFor a s.own s.others it p → (e : RobustFault) → Overflows e s p.filling → Blames e a s it
blamed a s it p best (fault.Pack pack.OutOfMemory) h = tt
blamed a s it p best (fault.Pack pack.HeaderLength) h = absurd h
blamed a s it p best (fault.Pack (pack.Asked name)) h = absurd h
blamed a s it p best (fault.Pack pack.NoFormat) h = absurd h
blamed a s it p best (fault.Pack pack.Flow) h = absurd h
blamed a s it p best fault.NoReach h = absurd h
blamed a s it p best fault.Contexts h = record { packed = p; best = best; many = h }
