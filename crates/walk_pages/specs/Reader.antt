-- What is read by a page (docs/DEFINITIONS.md, Packing and unpacking).
use Rattle.std.specs.Prelude.{◌≡◌, length}
use Rattle.sem_bits.specs.Cursor.{Place, Advances}
use Rattle.sem_context.specs.Entries.{Entries, bits_at}
use Rattle.sem_filling.specs.declared.filling.Filling.{Filling}
use Rattle.sem_filling.specs.Fillings.{header, packed}
use Rattle.cert_accepted.specs.Accepted.{Accepting}
use Rattle.sem_filling.specs.Fronts.{FitsTop}
use Rattle.sem_pages.specs.Pages.{Shows}
use Rattle.walk_pages.specs.declared.reader.ReadPage.{ReadPage}

-- a filling fits that the page shows, whose packed bits the cursor went past, and the header and the count of bits are its own
pub record IsRead (a : Accepting) (ctx : Entries) (old new : Place) (r : ReadPage) : Type 0 where
  pub filling : Filling
  pub fits : FitsTop a.profile.methods a.profile.top (bits_at ctx) filling
  pub shown : Shows a.profile.methods a.profile.top r.page filling
  pub advances : Advances old new (packed filling)
  pub header_is : r.header ≡ header filling
  pub bits_is : r.bits ≡ length (packed filling)
