-- The most bits of a header and of a packet.
use Rattle.std.specs.Prelude.{◌≤◌, ℕ, length}
use Rattle.sem_context.specs.Entries.{Entries}
use Rattle.sem_filling.specs.declared.filling.Filling.{Filling}
use Rattle.sem_filling.specs.Fillings.{header, packed}
use Rattle.cert_accepted.specs.Accepted.{Accepting}
use Rattle.walk_engine.specs.Reading.{Fitting}

-- no filling that fits has a longer header
abbrev pub IsMostHeader : Accepting → ℕ → Type 0
IsMostHeader a n = (ctx : Entries) (f : Filling) → Fitting a ctx f → length (header f) ≤ n

-- nor a longer packet
abbrev pub IsMostPacket : Accepting → ℕ → Type 0
IsMostPacket a n = (ctx : Entries) (f : Filling) → Fitting a ctx f → length (packed f) ≤ n
