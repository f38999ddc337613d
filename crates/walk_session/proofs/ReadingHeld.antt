-- What is packed for losses is unpacked in each context that is held.
use Rattle.std.proofs.Common.{◌≡◌, ◌∙◌, refl, sym, ap, subst, ℕ, zero, suc, ◌<◌, Bool, List, [], ◌++◌, length}
use Rattle.std.specs.Prelude.{Some, slice_get}
use Rattle.sem_bits.specs.Cursor.{Place}
use Rattle.sem_context.specs.Entries.{Entries, bits_at}
use Rattle.sem_filling.specs.declared.filling.Filling.{Filling}
use Rattle.sem_filling.specs.declared.filling.Item.{Item}
use Rattle.sem_filling.specs.Fillings.{item, packed}
use Rattle.sem_filling.specs.Entries.{next}
use Rattle.sem_filling.specs.Fronts.{FitsTop}
use Rattle.sem_elsewhere.specs.Held.{Holding, IsHeld}
use Rattle.sem_elsewhere.proofs.Agreeing.{repaired}
use Rattle.sem_elsewhere.proofs.Holdings.{held_as}
use Rattle.cert_accepted.specs.Accepted.{Accepting, IsDeterminate}
use Rattle.walk_engine.specs.declared.reader.Unpacked.{Unpacked}
use Rattle.walk_engine.specs.Reading as reading
use Rattle.walk_engine.specs.Reading.{Fitting, Fronts}
use Rattle.walk_robust.specs.Sending as sender
use Rattle.walk_robust.specs.Answers.{FitsEach}
use Rattle.walk_session.specs.declared.ends.Sending.{Sending}
use Rattle.walk_session.specs.declared.ends.Sending.TheVariants.{Plain, Robust}
use Rattle.walk_session.specs.Octets.{IsWritten}
use Rattle.walk_session.specs.Packer.{IsSent, IsSentRobust}
use Rattle.walk_session.specs.Laws as laws
use Rattle.walk_session.proofs.ReadingBack.{one_written}

pub begins_held : laws.BeginsHeld
begins_held s new flow lost begun ctx same = record { place = 0; one = _; at = refl; gap_is = refl; same = same }

-- what fits in the own context and in each of the others fits in each that is held
fits_held : (a : Accepting) (s : sender.Sending) (f : Filling) → Fitting a s.own f → FitsEach a s.others f → (i : ℕ) (h : Holding) → slice_get (sender.held s) i ≡ Some h → Fitting a h.context f
fits_held a s f own each zero h at = let same : s.own ≡ h.context = cc in subst (λ c. Fitting a c f) same own
fits_held a s f own each (suc i) h at = each i h at

module _ (a : Accepting) (det : IsDeterminate a) (it : Item) (room written : List ℕ) (n : ℕ) where
  robust : (old new : sender.Sending) (other receiving : Entries) (gap : ℕ) → IsHeld (sender.held old) gap other → IsSentRobust a old new it room written n → (sent more : List Bool) → length sent ≡ n →
      IsWritten sent room written → (bits : List Bool) (u : Unpacked) (rest : Place) → reading.IsUnpacked a other (record { used = []; left = bits }) rest u → bits ≡ sent ++ more → (k : ℕ) → k ≡ u.bits →
      receiving ≡ next other u.filling → laws.IsReadHeld it (item u.filling) n k (Robust new) receiving
  robust old new other receiving gap h sent bits_sent more long there bits u rest read begins k k_is on =
      let best = sent.packed.best in
      let f = sent.p.filling in
      let one : bits_sent ≡ sent.p.packed = one_written bits_sent sent.p.packed room written (long ∙ sent.bits_are) there sent.output in
      let fits : Fitting a other f =
      subst (λ c. FitsTop a.profile.methods a.profile.top c f) (λ i path. h.same path i) (fits_held a old f best.best.fits best.best.each h.place h.one h.at) in
      let front : Fronts a other bits f = record { fits = fits; rest = more; front = begins ∙ ap (λ b. b ++ more) (one ∙ best.packed_is) } in
      let found : Fronts a other bits u.filling = record { fits = read.fits; rest = rest.left; front = read.advances.left } in
      let same : u.filling ≡ f = det.top (bits_at other) bits u.filling f found front in
      let came = sent.packed.goes_on.held_are.all.came h.place h.one h.at in
      let held_next = held_as (sender.held new) 0 0 (next h.one.context f) (next other f) came refl (repaired h.one.context other f (λ path none. h.same path)) in
      record {
        item_is = ap item same ∙ best.best.has;
        taken_are = k_is ∙ read.bits_is ∙ ap (λ g. length (packed g)) same ∙ ap length (sym best.packed_is) ∙ sym sent.bits_are;
        robust = new;
        robust_is = refl;
        is_held = subst (IsHeld (sender.held new) 0) (ap (next other) (sym same) ∙ sym on) held_next;
      }

  by_ends : (old new : Sending) → IsSent a old new it room written n → (s : sender.Sending) → old ≡ Robust s → (other receiving : Entries) (gap : ℕ) → IsHeld (sender.held s) gap other →
      (sent more : List Bool) → length sent ≡ n → IsWritten sent room written → (bits : List Bool) (u : Unpacked) (rest : Place) → reading.IsUnpacked a other (record { used = []; left = bits }) rest u →
      bits ≡ sent ++ more → (k : ℕ) → k ≡ u.bits → receiving ≡ next other u.filling → laws.IsReadHeld it (item u.filling) n k new receiving
  by_ends (Plain old) (Plain new) sent s is = let wrong : Plain old ≡ Robust s = is in absurd cc
  by_ends (Plain old) (Robust new) sent s is = absurd sent
  by_ends (Robust old) (Plain new) sent s is = absurd sent
  by_ends (Robust old) (Robust new) sent s is =
      λ other receiving gap h. robust old new other receiving gap (subst (λ r. IsHeld (sender.held r) gap other) (sym (robust_same old s is)) h) sent
    where
      robust_same : (x y : sender.Sending) → Robust x ≡ Robust y → x ≡ y
      robust_same x y e = cc

-- where it is lost
module _ (a : Accepting) (it : Item) (room written : List ℕ) (n : ℕ) where
  lost_robust : (old new : sender.Sending) → IsSentRobust a old new it room written n → (gap : ℕ) (ctx : Entries) → IsHeld (sender.held old) gap ctx → gap < old.lost → laws.IsHeldOn old gap (Robust new) ctx
  lost_robust old new sent gap ctx h fewer = record {
    after = new;
    after_is = refl;
    lost_is = sent.packed.goes_on.lost_is;
    is_held = held_as (sender.held new) (suc h.one.gap) (suc gap) h.one.context ctx (sent.packed.goes_on.held_are.all.lost h.place h.one h.at (subst (λ g. g < old.lost) (sym h.gap_is) fewer))
        (ap suc h.gap_is) h.same;
  }

  lost_by_ends : (old new : Sending) → IsSent a old new it room written n → (s : sender.Sending) → old ≡ Robust s → (gap : ℕ) (ctx : Entries) → IsHeld (sender.held s) gap ctx → gap < s.lost →
      laws.IsHeldOn s gap new ctx
  lost_by_ends (Plain old) (Plain new) sent s is = let wrong : Plain old ≡ Robust s = is in absurd cc
  lost_by_ends (Plain old) (Robust new) sent s is = absurd sent
  lost_by_ends (Robust old) (Plain new) sent s is = absurd sent
  lost_by_ends (Robust old) (Robust new) sent s is =
      subst (λ r. (gap : ℕ) (ctx : Entries) → IsHeld (sender.held r) gap ctx → gap < r.lost → laws.IsHeldOn r gap (Robust new) ctx) (robust_same old s is) (lost_robust old new sent)
    where
      robust_same : (x y : sender.Sending) → Robust x ≡ Robust y → x ≡ y
      robust_same x y e = cc

pub read_back_held : laws.ReadBackHeld
read_back_held s new t next flow other header count asked room written n octets m h hw a aw k det same_profile sent heard robust is gap held packed more long there begins =
    let read = heard.received.read in
    by_ends s.accepted det sent.it room written n sent.ends.sending sent.sending sent.sent robust is heard.ends.receiving heard.receiving gap held packed more long there
    read.bits read.u read.rest (subst (λ p. reading.IsUnpacked p heard.ends.receiving (record { used = []; left = read.bits }) read.rest read.u) same_profile read.unpacked) begins k.bits read.bits_taken heard.received.new_is

pub lost_held : laws.LostHeld
lost_held s new flow header count asked room written n sent robust is gap ctx held fewer =
    lost_by_ends s.accepted sent.it room written n sent.ends.sending sent.sending sent.sent robust is gap ctx held fewer
