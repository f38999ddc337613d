-- What the robust sender packed is read, whatever is lost.
use Rattle.std.proofs.Common.{◌≡◌, ◌∙◌, refl, sym, ap, subst, ℕ, zero, suc, ◌<◌, ◌≤◌, List, [], ◌∷◌, map, length, arith}
use Rattle.std.specs.Prelude.{Some, slice_get}
use Rattle.sem_context.specs.Entries.{Entries, bits_at}
use Rattle.sem_filling.specs.declared.filling.Filling.{Filling}
use Rattle.sem_filling.specs.declared.filling.Item.{Item}
use Rattle.sem_filling.specs.Fillings.{item}
use Rattle.sem_filling.specs.Entries.{next}
use Rattle.cert_accepted.specs.Accepted.{Accepting}
use Rattle.cert_candidates.specs.Best.{Best}
use Rattle.sem_filling.specs.Fronts.{FitsTop}
use Rattle.sem_elsewhere.specs.Held.{Holding, IsHeld, GoOn}
use Rattle.sem_elsewhere.specs.Robust.{ComesThrough, all_over, comes, is_lost}
use Rattle.sem_elsewhere.specs.Runs.{Survives, all_survive, survives}
use Rattle.sem_elsewhere.proofs.Agreeing.{repaired}
use Rattle.sem_elsewhere.proofs.Holdings.{held_as}
use Rattle.walk_engine.specs.Laws.{AreSame}
use Rattle.walk_engine.specs.declared.search.Packed.{Packed}
use Rattle.walk_engine.specs.declared.writer.PackFault.{PackFault}
use Rattle.walk_engine.specs.Reading.{Fitting}
use Rattle.walk_engine.specs.Writing as writing
use Rattle.walk_loss.proofs.Losing.{read_back}
use Rattle.walk_robust.specs.declared.sender.RobustFault.{RobustFault}
use Rattle.walk_robust.specs.declared.sender.RobustFault.TheVariants as fault
use Rattle.walk_robust.specs.Sending.{AreApart, AreHeldAfter, ComesFrom, Sending, held, was_lost, was_read}
use Rattle.walk_robust.specs.Answers.{Blames, FitsEach, IsBest, IsSent}
use Rattle.walk_robust.specs.Laws.{Packs, packs_none, packs, after, fillings, LossDoesNoHarm, AsPack}

-- ---- losses

items_are : {a : Accepting} {s end : Sending} {its : List Item} {ps : List Packed} → Packs a s its ps end → map item (fillings ps) ≡ its
items_are packs_none = refl
items_are (packs {it = it} {ps = ps} new sent more) = ap (λ x. x ∷ map item (fillings ps)) sent.best.best.has ∙ ap (λ xs. it ∷ xs) (items_are more)

-- a filling that fits in the own context and in each of the others fits in each that is held
fits_held : (a : Accepting) (s : Sending) (f : Filling) → Fitting a s.own f → FitsEach a s.others f → (i : ℕ) (h : Holding) → slice_get (held s) i ≡ Some h → Fitting a h.context f
fits_held a s f own each zero h at = let same : s.own ≡ h.context = cc in subst (λ c. Fitting a c f) same own
fits_held a s f own each (suc i) h at = each i h at

-- what is held, filling by filling
data Goes (a : Accepting) (n : ℕ) : List Holding → List Filling → List Holding → Type 0 where
  goes_none : {hs : List Holding} → Goes a n hs [] hs
  goes_one : {hs end : List Holding} {f : Filling} {fs : List Filling} (more : List Holding) → ((i : ℕ) (h : Holding) → slice_get hs i ≡ Some h → Fitting a h.context f) → GoOn n hs more f → Goes a n more fs end
      → Goes a n hs (f ∷ fs) end

goes_of : {a : Accepting} {s end : Sending} {its : List Item} {ps : List Packed} → Packs a s its ps end → (n : ℕ) → n ≡ s.lost → Goes a n (held s) (fillings ps) (held end)
goes_of packs_none n e = goes_none
goes_of {a} {s} (packs {p = p} new sent more) n e =
    let goes = sent.goes_on in
    goes_one (held new) (fits_held a s p.filling sent.best.best.fits sent.best.best.each) (subst (λ m. GoOn m (held s) (held new) p.filling) (sym e) goes.held_are.all) (goes_of more n (e ∙ sym goes.lost_is))

record Ends (a : Accepting) (end : List Holding) (other : Entries) (got : List Filling) : Type 0 where
  pub survives : Survives a.profile.methods a.profile.top other got
  pub gap : ℕ
  pub is_held : IsHeld end gap (after other got)

module _ (a : Accepting) (n : ℕ) where
  through : (hs : List Holding) (gap : ℕ) (other : Entries) {fs got : List Filling} {end : List Holding} → Goes a n hs fs end → ComesThrough n gap fs got → IsHeld hs gap other → Ends a end other got
  through hs gap other goes_none all_over h = record { survives = all_survive; gap = gap; is_held = h }
  through hs gap other (goes_one {f = f} more each on later) (comes got_on) h =
      let r = through more 0 (next other f) later got_on (held_as more 0 0 (next h.one.context f) (next other f) (on.came h.place h.one h.at) refl (repaired h.one.context other f (λ path none. h.same path))) in
      record { survives = survives (subst (λ c. FitsTop a.profile.methods a.profile.top c f) (λ i path. h.same path i) (each h.place h.one h.at)) r.survives; gap = r.gap; is_held = r.is_held }
  through hs gap other (goes_one {f = f} more each on later) (is_lost fewer got_on) h =
      through more (suc gap) other later got_on
      (held_as more (suc h.one.gap) (suc gap) h.one.context other (on.lost h.place h.one h.at (subst (λ g. g < n) (sym h.gap_is) fewer)) (ap suc h.gap_is) h.same)

begun : (s : Sending) (other : Entries) → AreSame s.own other → IsHeld (held s) 0 other
begun s other same = record { place = 0; one = record { gap = 0; context = s.own }; at = refl; gap_is = refl; same = same }

pub loss_does_no_harm : LossDoesNoHarm
loss_does_no_harm a det s end none other same its ps sent got bits through_it come =
    let r = through a s.lost (held s) 0 other (goes_of sent s.lost refl) through_it (begun s other same) in
    record { items_are = items_are sent; read_back = read_back a det other got bits r.survives come; gap = r.gap; is_held = r.is_held }

-- ---- no losses

no_others : (xs : List Holding) → xs ≡ [] → (i : ℕ) (h : Holding) → slice_get xs i ≡ Some h → ⊥
no_others xs none zero h at = cc
no_others xs none (suc i) h at = cc

module _ (a : Accepting) (s : Sending) (alone : s.others ≡ []) (sure : s.lost ≡ 0) (it : Item) where
  each_fits : (f : Filling) → FitsEach a s.others f
  each_fits f i h at = absurd (no_others s.others alone i h at)

  best_of : (f : Filling) → IsBest a s.own s.others it f → Best a.profile.methods a.certificate.methods a.profile.top (bits_at s.own) it f
  best_of f b = record { fits = b.fits; has = b.has; first = λ g fits has up. b.first g fits (each_fits g) has up }

  one_held : AreApart (held s)
  one_held zero zero g h at_i at_j same = refl
  one_held zero (suc j) g h at_i at_j same = absurd (no_others s.others alone j h at_j)
  one_held (suc i) j g h at_i at_j same = absurd (no_others s.others alone i g at_i)

  -- what is held after a filling is one pair
  comes_of : (f : Filling) (h : Holding) → ComesFrom s.lost (held s) f h → h ≡ record { gap = 0; context = next s.own f }
  comes_of f h (was_read zero g at) = let same : s.own ≡ g.context = cc in ap (λ c. record { gap = 0; context = next c f }) (sym same)
  comes_of f h (was_read (suc i) g at) = absurd (no_others s.others alone i g at)
  comes_of f h (was_lost i g at under) = absurd (let none : g.gap < 0 = subst (λ n. g.gap < n) sure under in omega (arith, none))

  only_one : (f : Filling) (hs : List Holding) → AreHeldAfter s.lost (held s) hs f → length hs ≤ 1
  only_one f [] h = omega arith
  only_one f (x ∷ []) h = omega arith
  only_one f (x ∷ y ∷ more) h =
      let x_is = comes_of f x (h.only 0 x refl) in
      let y_is = comes_of f y (h.only 1 y refl) in
      let same : x ≡ y = x_is ∙ sym y_is in
      let never : 0 ≡ 1 = h.once one_held 0 1 x y refl refl (ap (λ (z : Holding). z.gap) same, λ path. ap (λ (z : Holding). bits_at z.context path) same) in
      absurd (omega (arith, never))

  none_left : (xs : List Holding) (x : Holding) → length (x ∷ xs) ≤ 1 → xs ≡ []
  none_left [] x l = refl
  none_left (y ∷ ys) x l = absurd (omega (arith, l))

  sent : (p : Packed) (new : Sending) → IsSent a s it p new → writing.IsPacked a s.own it p × (new.others ≡ [])
  sent p new h = (
    record { writable = h.best.writable; best = best_of p.filling h.best.best; packed_is = h.best.packed_is },
    none_left new.others (record { gap = 0; context = new.own }) (only_one p.filling (held new) h.goes_on.held_are),
  )

  refused : (e : RobustFault) → Blames e a s it → (f : PackFault) × (e ≡ fault.Pack f) × writing.Blames f a s.own it
  refused (fault.Pack f) h = (f, refl, h)
  refused fault.NoReach h = absurd (h.none h.some h.fits (each_fits h.some) h.has)
  refused fault.Contexts h = let few = only_one h.packed.filling h.many.after h.many.held_are in let many = h.many.many in absurd (omega (arith, few, many))

pub as_pack : AsPack
as_pack a s alone sure it = record { sent = sent a s alone sure it; refused = refused a s alone sure it }
