-- What a candidate tells of an item.
use Rattle.std.specs.Prelude.{◌≡◌, ℕ, ◌+◌, ◌<◌, ◌≤◌, Bool, List, Some, slice_get}
use Rattle.sem_context.specs.Entries.{Entries, bits_at}
use Rattle.sem_filling.specs.declared.filling.Filling.{Filling}
use Rattle.sem_filling.specs.declared.filling.Item.{Item}
use Rattle.sem_filling.specs.Fillings.{item, packed}
use Rattle.cert_candidates.specs.Codes.{number}
use Rattle.cert_candidates.specs.Packing.{NoneAmong}
use Rattle.cert_candidates.specs.Writing.{IsNumbered, top_site}
use Rattle.cert_accepted.specs.Accepted.{Accepting}
use Rattle.walk_engine.specs.declared.search.Candidate.{Candidate}
use Rattle.walk_engine.specs.declared.search.Packed.{Packed}
use Rattle.walk_engine.specs.declared.search.Tried.{Tried}
use Rattle.walk_engine.specs.declared.search.Tried.TheVariants.{Found, Passed}
use Rattle.walk_engine.specs.Reading.{Fitting}

-- the filling fits, has the item and the number c, and is the only one
pub record IsFound (a : Accepting) (ctx : Entries) (it : Item) (c : ℕ) (f : Filling) : Type 0 where
  pub fits : Fitting a ctx f
  pub has : item f ≡ it
  pub number_is : number a.profile.methods a.certificate.methods a.counts f a.profile.top ≡ c
  pub alone : (g : Filling) → Fitting a ctx g → item g ≡ it → number a.profile.methods a.certificate.methods a.counts g a.profile.top ≡ c → g ≡ f

-- no filling that fits and has the item has one of so many numbers from c on, of which there are so many
pub record IsPassed (a : Accepting) (ctx : Entries) (it : Item) (c skipped : ℕ) : Type 0 where
  pub some : 0 < skipped
  pub within : (n : ℕ) → slice_get a.counts a.profile.top ≡ Some n → c + skipped ≤ n
  pub none : NoneAmong a.profile.methods a.certificate.methods a.counts a.profile.top (bits_at ctx) it c skipped

-- what is found comes with its packed bits
abbrev pub IsTried : Accepting → Entries → Item → ℕ → Tried → Type 0
IsTried a ctx it c (Found w) = IsFound a ctx it c w.filling × (w.packed ≡ packed w.filling)
IsTried a ctx it c (Passed skipped) = IsPassed a ctx it c skipped

-- the filling fits and has the item, and comes with its packed bits
pub record IsRight (a : Accepting) (ctx : Entries) (it : Item) (f : Filling) (w : Packed) : Type 0 where
  pub filling_is : w.filling ≡ f
  pub fits : Fitting a ctx w.filling
  pub has : item w.filling ≡ it
  pub packed_is : w.packed ≡ packed w.filling

-- it fits and has the item, and these are its packed bits
pub record HasPacked (a : Accepting) (ctx : Entries) (it : Item) (f : Filling) (bits : List Bool) : Type 0 where
  pub fits : Fitting a ctx f
  pub has : item f ≡ it
  pub packed_is : bits ≡ packed f

-- it doesn't fit, or has another item
abbrev pub IsWrong : Accepting → Entries → Item → Filling → Type 0
IsWrong a ctx it f = Fitting a ctx f → item f ≡ it → ⊥

-- the number is one of the top's candidates
abbrev pub IsBelow : Accepting → ℕ → Type 0
IsBelow a c = (n : ℕ) → slice_get a.counts a.profile.top ≡ Some n → c < n

-- of each of the top's numbers, where no other filling that begins the item has it
abbrev pub Tells : Accepting → Entries → Item → Filling → Tried → Type 0
Tells a ctx it f t = (c : ℕ) → IsBelow a c → IsNumbered a.profile.methods a.certificate.methods a.counts (bits_at ctx) (top_site a.profile.top it) c f → IsTried a ctx it c t

-- the number of a filling among the top's candidates
abbrev pub number_in : Accepting → Filling → ℕ
number_in a f = number a.profile.methods a.certificate.methods a.counts f a.profile.top

-- It fits, and has the item and the number, which isn't below this one; and what fits, has the item and a number between the two is the filling itself.
pub record IsFirstFrom (a : Accepting) (ctx : Entries) (it : Item) (from : ℕ) (c : Candidate) : Type 0 where
  pub fits : Fitting a ctx c.packed.filling
  pub has : item c.packed.filling ≡ it
  pub packed_is : c.packed.packed ≡ packed c.packed.filling
  pub number_is : number_in a c.packed.filling ≡ c.number
  pub below : IsBelow a c.number
  pub above : from ≤ c.number
  pub first : (g : Filling) → Fitting a ctx g → item g ≡ it → from ≤ number_in a g → number_in a g ≤ c.number → g ≡ c.packed.filling

-- no filling that fits and has the item has such a number
abbrev pub NoneFrom : Accepting → Entries → Item → ℕ → Type 0
NoneFrom a ctx it from = (g : Filling) → Fitting a ctx g → item g ≡ it → from ≤ number_in a g → ⊥
