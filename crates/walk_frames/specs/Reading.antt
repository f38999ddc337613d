-- What was read of the octets of a packet.
use Rattle.std.specs.Prelude.{◌≡◌, Bool, List, ◌++◌}
use Rattle.sem_bits.specs.Cursor.{Place}
use Rattle.sem_context.specs.Entries.{Entries}
use Rattle.sem_filling.specs.Fillings.{header, packed}
use Rattle.cert_accepted.specs.Accepted.{Accepting}
use Rattle.walk_engine.specs.Reading.{Fitting}
use Rattle.walk_engine.specs.declared.reader.Unpacked.{Unpacked}

-- a filling that fits, whose packed bits are at the front of the bits, and the others are left
pub record IsTold (p : Accepting) (ctx : Entries) (bits : List Bool) (at : Place) (u : Unpacked) : Type 0 where
  pub fits : Fitting p ctx u.filling
  pub bits_are : bits ≡ packed u.filling ++ at.left
  pub header_is : u.header ≡ header u.filling
