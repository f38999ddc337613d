-- What is packed for who needs no filling (docs/DEFINITIONS.md, Packing and unpacking).
use Rattle.std.specs.Prelude.{◌≡◌, ℕ, ◌≤◌}
use Rattle.sem_context.specs.Entries.{Entries, bits_at}
use Rattle.sem_filling.specs.declared.filling.Filling.{Filling}
use Rattle.sem_filling.specs.declared.filling.Item.{Item}
use Rattle.sem_filling.specs.Fillings.{item, packed}
use Rattle.sem_pages.specs.declared.page.Page.{out-Page}
use Rattle.sem_pages.specs.Pages.{Shows}
use Rattle.cert_accepted.specs.Accepted.{Accepting}
use Rattle.cert_candidates.specs.Best.{Best}
use Rattle.walk_pages.specs.declared.writer.WrittenPage.{WrittenPage}
use Rattle.walk_engine.specs.declared.sender.InFormat.{InFormat}
use Rattle.walk_engine.specs.declared.sender.InFormat.TheVariants as inside
use Rattle.walk_engine.specs.declared.sender.Sent.{Sent}
use Rattle.walk_engine.specs.declared.sender.Sent.TheVariants as sent
use Rattle.walk_engine.specs.Reading.{Fitting}
use Rattle.walk_engine.specs.Searching.{IsFound, IsPassed, number_in}
use Rattle.walk_engine.specs.Writing.{IsWritable}

-- the page shows the filling, and the packed bits are its own
pub record ShowsPacked (a : Accepting) (f : Filling) (w : WrittenPage) : Type 0 where
  pub shown : Shows a.profile.methods a.profile.top w.page f
  pub packed_is : w.packed ≡ packed f

-- it shows the only filling that fits and has the item and the number c
pub record IsWrittenFor (a : Accepting) (ctx : Entries) (it : Item) (c : ℕ) (w : WrittenPage) : Type 0 where
  pub filling : Filling
  pub found : IsFound a ctx it c filling
  pub shows : ShowsPacked a filling w

-- it shows a filling that fits and has the item, and no filling with a number from c on that fits and has the item has a lesser number
pub record IsLeastFrom (a : Accepting) (ctx : Entries) (it : Item) (c : ℕ) (w : WrittenPage) : Type 0 where
  pub filling : Filling
  pub fits : Fitting a ctx filling
  pub has : item filling ≡ it
  pub shows : ShowsPacked a filling w
  pub least : (g : Filling) → Fitting a ctx g → item g ≡ it → c ≤ number_in a g → number_in a filling ≤ number_in a g

-- the page is of the format, by its index, if it is given
abbrev pub IsOfFormat : WrittenPage → ℕ → InFormat → Type 0
IsOfFormat w n (inside.Written written) = (written ≡ w) × ((out-Page w.page).format ≡ n)
IsOfFormat w n (inside.Passed many) = ⊥
IsOfFormat w n inside.Untold = Unit {0}

abbrev pub IsInFormat : Accepting → Entries → Item → ℕ → InFormat → Type 0
IsInFormat a ctx it c (inside.Written w) = IsLeastFrom a ctx it c w
IsInFormat a ctx it c (inside.Passed many) = IsPassed a ctx it c many
IsInFormat a ctx it c inside.Untold = Unit {0}

-- what stands for the filling, with its packed bits: a page that shows it, or itself
abbrev pub StandsAs : Accepting → Filling → Sent → Type 0
StandsAs a f (sent.Page w) = ShowsPacked a f w
StandsAs a f (sent.Filling p) = (p.filling ≡ f) × (p.packed ≡ packed f)

-- it stands for the best filling for the item
pub record IsBestSent (a : Accepting) (ctx : Entries) (it : Item) (s : Sent) : Type 0 where
  pub filling : Filling
  pub best : Best a.profile.methods a.certificate.methods a.profile.top (bits_at ctx) it filling
  pub stands : StandsAs a filling s

-- the same for an item that is one to be written
pub record IsPackedAs (a : Accepting) (ctx : Entries) (it : Item) (s : Sent) : Type 0 where
  pub writable : IsWritable a it
  pub sent : IsBestSent a ctx it s
