-- What is written by a page (docs/DEFINITIONS.md, Packing and unpacking).
use Rattle.std.specs.Prelude.{◌≡◌, Bool, List, []}
use Rattle.sem_context.specs.Entries.{Entries, bits_at}
use Rattle.sem_filling.specs.declared.filling.Filling.{Filling}
use Rattle.sem_filling.specs.declared.filling.Item.{Item}
use Rattle.sem_filling.specs.Fillings.{item, packed}
use Rattle.sem_filling.specs.Fronts.{FitsTop}
use Rattle.cert_accepted.specs.Accepted.{Accepting}
use Rattle.sem_pages.specs.Pages.{IsPageOf, Shows}
use Rattle.walk_pages.specs.declared.draft.PackedPage.{PackedPage}
use Rattle.walk_pages.specs.declared.writer.WrittenPage.{WrittenPage}

-- a page of the top, with this header and its packed bits
abbrev pub IsTopPage : Accepting → Entries → List Bool → PackedPage → Type 0
IsTopPage a ctx h w = IsPageOf a.profile.methods (bits_at ctx) a.profile.top [] [] w.page h w.packed

-- a filling fits that has the item and that the page shows, and the packed bits are its own
pub record IsWritten (a : Accepting) (ctx : Entries) (it : Item) (w : WrittenPage) : Type 0 where
  pub filling : Filling
  pub fits : FitsTop a.profile.methods a.profile.top (bits_at ctx) filling
  pub has : item filling ≡ it
  pub shown : Shows a.profile.methods a.profile.top w.page filling
  pub packed_is : w.packed ≡ packed filling
