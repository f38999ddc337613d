-- What `pack` answers (docs/DEFINITIONS.md, Packing and unpacking).
use Rattle.std.specs.Prelude.{◌≡◌, ℕ, ◌<◌, ◌≤◌, Some, None, length}
use Rattle.sem_profile.specs.HeaderLimit.{header_limit}
use Rattle.sem_context.specs.Entries.{Entries, bits_at}
use Rattle.sem_filling.specs.declared.filling.Filling.{Filling}
use Rattle.sem_filling.specs.declared.filling.Item.{Item}
use Rattle.sem_filling.specs.Fillings.{packed, item}
use Rattle.cert_candidates.specs.Best.{Best}
use Rattle.cert_accepted.specs.Accepted.{Accepting}
use Rattle.walk_engine.specs.declared.search.Candidate.{Candidate}
use Rattle.walk_engine.specs.declared.search.Packed.{Packed}
use Rattle.walk_engine.specs.declared.writer.PackFault.{PackFault}
use Rattle.walk_engine.specs.declared.writer.PackFault.TheVariants.{HeaderLength, Asked, NoFormat, Flow, OutOfMemory}
use Rattle.walk_engine.specs.Asked.{wrong_asked}
use Rattle.walk_engine.specs.Reading.{Fitting}
use Rattle.walk_engine.specs.Searching.{IsFirstFrom, NoneFrom}

-- the item is one to be written: its header is within the limit, and its asked values are those of the asked fields
pub record IsWritable (a : Accepting) (it : Item) : Type 0 where
  pub within : length it.header ≤ header_limit
  pub asked : wrong_asked a.profile.asked it.asked ≡ None

-- what was written: the best filling for the item, with its packed bits
pub record IsPacked (a : Accepting) (ctx : Entries) (it : Item) (p : Packed) : Type 0 where
  pub writable : IsWritable a it
  pub best : Best a.profile.methods a.certificate.methods a.profile.top (bits_at ctx) it p.filling
  pub packed_is : p.packed ≡ packed p.filling

-- no filling that fits has the item, though it is one to be written
pub record HasNone (a : Accepting) (ctx : Entries) (it : Item) : Type 0 where
  pub writable : IsWritable a it
  pub none : (f : Filling) → Fitting a ctx f → item f ≡ it → ⊥

-- what was written by the best filling whose number isn't below this one
pub record IsPackedFrom (a : Accepting) (ctx : Entries) (it : Item) (from : ℕ) (c : Candidate) : Type 0 where
  pub writable : IsWritable a it
  pub first : IsFirstFrom a ctx it from c

-- none has such a number, though the item is one to be written
pub record HasNoneFrom (a : Accepting) (ctx : Entries) (it : Item) (from : ℕ) : Type 0 where
  pub writable : IsWritable a it
  pub none : NoneFrom a ctx it from

-- what a fault says of the item; that a line lacks a flow is no fault of `pack`
abbrev pub Blames : PackFault → Accepting → Entries → Item → Type 0
Blames HeaderLength a ctx it = header_limit < length it.header
Blames (Asked name) a ctx it = (length it.header ≤ header_limit) × (wrong_asked a.profile.asked it.asked ≡ Some name)
Blames NoFormat a ctx it = HasNone a ctx it
Blames Flow a ctx it = ⊥
Blames OutOfMemory a ctx it = Unit {0}

-- the same where the numbers from one on are asked
abbrev pub BlamesFrom : ℕ → PackFault → Accepting → Entries → Item → Type 0
BlamesFrom from HeaderLength a ctx it = header_limit < length it.header
BlamesFrom from (Asked name) a ctx it = (length it.header ≤ header_limit) × (wrong_asked a.profile.asked it.asked ≡ Some name)
BlamesFrom from NoFormat a ctx it = HasNoneFrom a ctx it from
BlamesFrom from Flow a ctx it = ⊥
BlamesFrom from OutOfMemory a ctx it = Unit {0}
