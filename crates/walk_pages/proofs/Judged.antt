-- What was read and written by a page.
use Rattle.std.proofs.Common.{◌≡◌, ◌∙◌, sym, ap, subst, ℕ, List, [], Bool, length}
use Rattle.sem_bits.specs.Cursor.{Place, Advances}
use Rattle.sem_context.specs.Entries.{Entries, bits_at}
use Rattle.sem_filling.specs.declared.filling.Filling.{Filling}
use Rattle.sem_filling.specs.declared.filling.Item.{Item}
use Rattle.sem_filling.specs.Fillings.{asked_values, level}
use Rattle.cert_accepted.specs.Accepted.{Accepting}
use Rattle.sem_pages.specs.declared.page.Page.{Page}
use Rattle.sem_pages.specs.Pages.{IsPageOf, Shows}
use Rattle.walk_pages.specs.declared.draft.PackedPage.{PackedPage}
use Rattle.walk_pages.specs.Writer.{IsTopPage, IsWritten}
use Rattle.walk_pages.specs.Reader.{IsRead}

pub read_by : (a : Accepting) (ctx : Entries) (old new : Place) (page : Page) (h q : List Bool) (n : ℕ) → IsPageOf a.profile.methods (bits_at ctx) a.profile.top [] [] page h q → Advances old new q → n ≡ length q
    → IsRead a ctx old new record { header = h; page = page; bits = n }
read_by a ctx old new page h q n is passed count = record {
  filling = is.filling;
  fits = is.fits;
  shown = is.shown;
  advances = subst (Advances old new) is.packed_same passed;
  header_is = is.header_same;
  bits_is = count ∙ ap length is.packed_same;
}

pub written_by : (a : Accepting) (ctx : Entries) (it : Item) (w : PackedPage) → IsTopPage a ctx it.header w → ((f : Filling) → Shows a.profile.methods a.profile.top w.page f → asked_values (level f) ≡ it.asked)
    → IsWritten a ctx it record { page = w.page; packed = w.packed }
written_by a ctx it w is asked = record {
  filling = is.filling;
  fits = is.fits;
  has = λ i. record { header = (sym is.header_same) i; asked = asked is.filling is.shown i };
  shown = is.shown;
  packed_is = is.packed_same;
}
