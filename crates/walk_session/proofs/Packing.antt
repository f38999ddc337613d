-- What was packed, by a page or a filling, and put into a room.
use Rattle.std.proofs.Common.{◌≡◌, ◌∙◌, sym, ap, ℕ, ◌+◌, ◌/◌, ◌<◌, List, length}
use Rattle.std.specs.Prelude.{Result, Ok, Err, IfOk, IfErr}
use Rattle.sem_context.specs.Entries.{Entries}
use Rattle.sem_filling.specs.declared.filling.Filling.{Filling}
use Rattle.sem_filling.specs.declared.filling.Item.{Item}
use Rattle.sem_filling.specs.Entries.{next}
use Rattle.sem_filling.specs.Fillings.{packed}
use Rattle.sem_pages.specs.Pages.{Shows}
use Rattle.cert_accepted.specs.Accepted.{Accepting}
use Rattle.walk_pages.specs.Kept.{IsKeptBy}
use Rattle.walk_pages.specs.declared.writer.WrittenPage.{WrittenPage}
use Rattle.walk_engine.specs.declared.search.Packed.{Packed}
use Rattle.walk_engine.specs.declared.sender.Sent.TheVariants as sent
use Rattle.walk_engine.specs.Reading.{Fitting}
use Rattle.walk_engine.specs.Sending.{IsPackedAs}
use Rattle.walk_engine.specs.Writing.{IsPacked}
use Rattle.walk_session.specs.declared.refusal.PackRefusal.{PackRefusal}
use Rattle.walk_session.specs.declared.refusal.PackRefusal.TheVariants as refusal
use Rattle.walk_session.specs.Octets.{IsWritten}
use Rattle.walk_session.specs.Packer.{BlamesPlain, BlamesRoom, IsSentAs, IsSentPlain, IsTooLong}

module _ (a : Accepting) (ctx : Entries) (it : Item) where
  -- ---- a filling

  pub put_plain : (new : Entries) (p : Packed) (room written : List ℕ) (r : Result ℕ PackRefusal) → IsPacked a ctx it p → IfOk r (IsSentAs ctx new p room written) → IfOk r (IsSentPlain a ctx new it room written)
  put_plain new p room written (Ok n) is s = record { p = p; packed = is; output = s.output; bits_are = s.bits_are; new_is = s.new_is }
  put_plain new p room written (Err e) is s = tt

  blamed : (p : Packed) (room : ℕ) (e : PackRefusal) → IsPacked a ctx it p → BlamesRoom e p room → BlamesPlain e a ctx it room
  blamed p room (refusal.NoRoom n) is h = record { p = p; packed = is; bits_are = h.0; short = h.1 }
  blamed p room refusal.OutOfMemory is h = tt
  blamed p room refusal.Flow is h = absurd h
  blamed p room refusal.BadBits is h = absurd h
  blamed p room refusal.Asked is h = absurd h
  blamed p room refusal.HeaderLength is h = absurd h
  blamed p room refusal.NoFormat is h = absurd h
  blamed p room refusal.NoReach is h = absurd h
  blamed p room refusal.Contexts is h = absurd h

  pub put_blames : (p : Packed) (room : ℕ) (r : Result ℕ PackRefusal) → IsPacked a ctx it p → IfErr r (λ e. BlamesRoom e p room) → IfErr r (λ e. BlamesPlain e a ctx it room)
  put_blames p room (Ok n) is h = tt
  put_blames p room (Err e) is h = blamed p room e is h

  -- one that was answered for who needs none
  pub filling_packed : (p : Packed) → IsPackedAs a ctx it (sent.Filling p) → IsPacked a ctx it p
  filling_packed p s = record {
    writable = s.writable;
    best = rw s.sent.stands.0 s.sent.best;
    packed_is = s.sent.stands.1 ∙ ap packed (sym s.sent.stands.0);
  }

  -- ---- a page

  module _ (w : WrittenPage) (s : IsPackedAs a ctx it (sent.Page w)) where
    abbrev shown : Packed
    shown = record { filling = s.sent.filling; packed = w.packed }

    is_packed : IsPacked a ctx it shown
    is_packed = record { writable = s.writable; best = s.sent.best; packed_is = s.sent.stands.packed_is }

    pub page_too_long : (room n : ℕ) → n ≡ length w.packed → room < (n + 7) / 8 → IsTooLong a ctx it room n
    page_too_long room n count short = record { p = shown; packed = is_packed; bits_are = count; short = short }

    pub page_sent : (new : Entries) (room written : List ℕ) (n : ℕ) → IsWritten w.packed room written → n ≡ length w.packed
        → ((f : Filling) → Fitting a ctx f → Shows a.profile.methods a.profile.top w.page f → new ≡ next ctx f) → IsSentPlain a ctx new it room written n
    page_sent new room written n output count goes = record { p = shown; packed = is_packed; output = output; bits_are = count; new_is = goes s.sent.filling s.sent.best.fits s.sent.stands.shown }

    pub page_kept : (new : Entries) → ((f : Filling) → Fitting a ctx f → Shows a.profile.methods a.profile.top w.page f → IsKeptBy a new w.page) → IsKeptBy a new w.page
    page_kept new keeps = keeps s.sent.filling s.sent.best.fits s.sent.stands.shown
