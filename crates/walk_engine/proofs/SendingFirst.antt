-- What is packed for who needs no filling.
use Rattle.std.proofs.Common.{◌≡◌, ◌∙◌, refl, sym, subst, ℕ, ◌<◌, List, arith}
use Rattle.std.specs.Prelude.{IfSome, Option, Some, None}
use Rattle.sem_context.specs.Entries.{Entries, bits_at}
use Rattle.sem_filling.specs.declared.filling.Filling.{Filling, out-Filling}
use Rattle.sem_filling.specs.declared.filling.Item.{Item}
use Rattle.sem_filling.specs.Fillings.{packed}
use Rattle.sem_pages.specs.declared.page.Page.{Page, out-Page}
use Rattle.sem_pages.specs.Pages.{Shows, shows}
use Rattle.sem_profile.specs.declared.profile.Method.{Method}
use Rattle.sem_profile.specs.Resolved.{Resolved, IsSound}
use Rattle.cert_accepted.specs.Accepted.{Accepting, IsAccepted}
use Rattle.cert_accepted.specs.declared.frame.AcceptedFrame.{AcceptedFrame}
use Rattle.cert_candidates.specs.Best.{Best}
use Rattle.walk_pages.specs.declared.writer.WrittenPage.{WrittenPage}
use Rattle.walk_pages.specs.Kept.{IsKeptBy}
use Rattle.walk_pages.specs.Writer.{IsWritten}
use Rattle.walk_engine.specs.declared.search.Packed.{Packed}
use Rattle.walk_engine.specs.declared.search.Tried.TheVariants.{Found}
use Rattle.walk_engine.specs.declared.sender.InFormat.{InFormat}
use Rattle.walk_engine.specs.declared.sender.InFormat.TheVariants as inside
use Rattle.walk_engine.specs.declared.sender.Sent.TheVariants as sent
use Rattle.walk_engine.specs.Searching.{IsFound, IsTried, number_in}
use Rattle.walk_engine.specs.Sending.{IsBestSent, IsInFormat, IsLeastFrom, IsOfFormat, IsWrittenFor}
use Rattle.walk_engine.specs.Top.{IsTop}
use Rattle.walk_write.specs.Singles.{IsSingleFrom}
use Rattle.walk_engine.proofs.Searching.{Searched, first_found, first_is_best, found_for, least_there, under_count}

shows_format : (methods : List Method) (k : ℕ) (p : Page) (f : Filling) → Shows methods k p f → (out-Filling f).format ≡ (out-Page p).format
shows_format methods k p f (shows format there is listing level inside) = is

module _ (a : Accepting) (ctx : Entries) (it : Item) (p : Resolved) (sound : IsSound p) (is : p ≡ a.profile) (accepted : IsAccepted a) where
  -- what a page shows that has the number
  pub written_for : (c : ℕ) (w : WrittenPage) → IsWritten a ctx it w → ((f : Filling) → Shows a.profile.methods a.profile.top w.page f → number_in a f ≡ c) → IsWrittenFor a ctx it c w
  written_for c w h numbered = record {
    filling = h.filling;
    found = found_for a ctx it p sound is accepted c h.filling h.fits h.has (numbered h.filling h.shown);
    shows = record { shown = h.shown; packed_is = h.packed_is };
  }

  best_found : (count c : ℕ) (f : Filling) → Searched a ctx it 0 count c → c < count → IsFound a ctx it c f → Best a.profile.methods a.certificate.methods a.profile.top (bits_at ctx) it f
  best_found count c f s under found =
      first_is_best a ctx it p sound is accepted (record { packed = record { filling = f; packed = packed f }; number = c })
      (first_found a ctx it 0 count c (record { filling = f; packed = packed f }) s under (found, refl))

  -- the first page is the best
  pub best_page : (count c : ℕ) (w : WrittenPage) → Searched a ctx it 0 count c → c < count → IsWrittenFor a ctx it c w → IsBestSent a ctx it (sent.Page w)
  best_page count c w s under h = record { filling = h.filling; best = best_found count c h.filling s under h.found; stands = h.shows }

  -- and so is the first filling
  pub best_filling : (count c : ℕ) (w : Packed) → Searched a ctx it 0 count c → c < count → IsTried a ctx it c (Found w) → IsBestSent a ctx it (sent.Filling w)
  best_filling count c w s under h = record { filling = w.filling; best = best_found count c w.filling s under h.0; stands = (refl, h.1) }

  -- ---- formats with one candidate for an item

  -- what a page of such a format shows is the first from its number on
  pub least_from : (place : AcceptedFrame) → IsTop a ctx place → (c n : ℕ) (w : WrittenPage) → IsSingleFrom place c n → IsWritten a ctx it w → (out-Page w.page).format ≡ n → IsLeastFrom a ctx it c w
  least_from place t c n w o h of_format = record {
    filling = h.filling;
    fits = h.fits;
    has = h.has;
    shows = record { shown = h.shown; packed_is = h.packed_is };
    least = λ g there has from. least_there a ctx it p sound is accepted n c h.filling g h.fits there (has ∙ sym h.has) (shows_format a.profile.methods a.profile.top w.page h.filling h.shown ∙ of_format)
        (rw (t.accepted_is, t.method_is) at o.single) (rw (t.accepted_is, t.method_is) at o.before) from;
  }

  -- and so it is the best
  pub best_least : (count c : ℕ) (w : WrittenPage) → Searched a ctx it 0 count c → IsLeastFrom a ctx it c w → IsBestSent a ctx it (sent.Page w)
  best_least count c w s l =
      let m = number_in a l.filling in
      let past : Searched a ctx it 0 count m = record { counted = s.counted; above = omega arith; none = λ g there has from. l.least g there has (s.none g there has from) } in
      let under = under_count a ctx it p sound is accepted count s.counted l.filling l.fits in
      record { filling = l.filling; best = best_found count m l.filling past under (found_for a ctx it p sound is accepted m l.filling l.fits l.has refl); stands = l.shows }

  pub of_format : (place : AcceptedFrame) → IsTop a ctx place → (c n : ℕ) (w : WrittenPage) (r : InFormat) → IsSingleFrom place c n → IsWritten a ctx it w → IsOfFormat w n r → IsInFormat a ctx it c r
  of_format place t c n w (inside.Written v) o h same = subst (λ (z : WrittenPage). IsLeastFrom a ctx it c z) (sym same.0) (least_from place t c n w o h same.1)
  of_format place t c n w (inside.Passed many) o h same = absurd same
  of_format place t c n w inside.Untold o h same = tt

-- a page that was there stays one that is kept
pub still_kept : (a : Accepting) (ctx : Entries) (old now : Option Page) → IfSome now (λ p. old ≡ Some p) → IfSome old (IsKeptBy a ctx) → IfSome now (IsKeptBy a ctx)
still_kept a ctx old None is kept = tt
still_kept a ctx old (Some p) is kept = subst (λ o. IfSome o (IsKeptBy a ctx)) is kept
