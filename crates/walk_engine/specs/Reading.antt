-- What `unpack` answers (docs/DEFINITIONS.md, Packing and unpacking).
use Rattle.std.specs.Prelude.{◌≡◌, ◌^◌, ◌<◌, Bool, List, ◌++◌, length}
use Rattle.sem_bits.specs.Cursor.{Place, Advances}
use Rattle.sem_context.specs.Entries.{Entries, bits_at}
use Rattle.sem_filling.specs.declared.filling.Filling.{Filling}
use Rattle.sem_filling.specs.Fillings.{header, packed}
use Rattle.sem_filling.specs.Fronts.{FitsTop, InFronts}
use Rattle.cert_accepted.specs.Accepted.{Accepting}
use Rattle.walk_engine.specs.declared.reader.Unpacked.{Unpacked}
use Rattle.walk_engine.specs.declared.reader.UnpackFault.{UnpackFault}
use Rattle.walk_engine.specs.declared.reader.UnpackFault.TheVariants.{Truncated, Refused, OutOfMemory}

-- the filling fits the top in the context
abbrev pub Fitting : Accepting → Entries → Filling → Type 0
Fitting a ctx f = FitsTop a.profile.methods a.profile.top (bits_at ctx) f

-- its packed bits are at the front of these
abbrev pub Fronts : Accepting → Entries → List Bool → Filling → Type 0
Fronts a ctx bits f = InFronts a.profile.methods a.profile.top (bits_at ctx) bits f

-- it fits, and no other filling is at the front of the bits, whatever bits follow
pub record IsAlone (a : Accepting) (ctx : Entries) (bits : List Bool) (f : Filling) : Type 0 where
  pub fits : Fitting a ctx f
  pub alone : (more : List Bool) (g : Filling) → Fronts a ctx (bits ++ more) g → g ≡ f

-- what was taken with a filling: the cursor went past its packed bits, and what is answered is its header and their count
pub record IsTaken (f : Filling) (old new : Place) (u : Unpacked) : Type 0 where
  pub filling_is : u.filling ≡ f
  pub advances : Advances old new (packed u.filling)
  pub header_is : u.header ≡ header u.filling
  pub bits_is : u.bits ≡ length (packed u.filling)

-- what was read: a filling that fits, whose packed bits the cursor went past, with its header and its count of bits
pub record IsUnpacked (a : Accepting) (ctx : Entries) (old new : Place) (u : Unpacked) : Type 0 where
  pub fits : Fitting a ctx u.filling
  pub advances : Advances old new (packed u.filling)
  pub header_is : u.header ≡ header u.filling
  pub bits_is : u.bits ≡ length (packed u.filling)

-- Truncated: none is at the front of the bits, of which there are few
pub record IsTruncated (a : Accepting) (ctx : Entries) (bits : List Bool) : Type 0 where
  pub none : (f : Filling) → Fronts a ctx bits f → ⊥
  pub few : length bits < 2 ^ 23

-- Refused: nor is one with any further bits
abbrev pub IsRefused : Accepting → Entries → List Bool → Type 0
IsRefused a ctx bits = (more : List Bool) (f : Filling) → Fronts a ctx (bits ++ more) f → ⊥

-- what a fault says of the bits
abbrev pub Blames : UnpackFault → Accepting → Entries → List Bool → Type 0
Blames Truncated a ctx bits = IsTruncated a ctx bits
Blames (Refused at) a ctx bits = IsRefused a ctx bits
Blames OutOfMemory a ctx bits = Unit {0}
