-- Packets that are packed for losses, and what `unpack` answers of those that come through (docs/DEFINITIONS.md, Losses).
use Rattle.std.specs.Prelude.{◌≡◌, ℕ, Bool, List, [], ◌∷◌, map}
use Rattle.sem_bits.specs.Cursor.{Place}
use Rattle.sem_context.specs.Entries.{Entries}
use Rattle.sem_filling.specs.declared.filling.Filling.{Filling}
use Rattle.sem_filling.specs.Fillings.{header}
use Rattle.sem_filling.specs.Entries.{next}
use Rattle.cert_accepted.specs.Accepted.{Accepting, IsDeterminate}
use Rattle.walk_engine.specs.declared.reader.Unpacked.{Unpacked}
use Rattle.walk_engine.specs.declared.reader.UnpackFault.{UnpackFault}
use Rattle.walk_engine.specs.declared.reader.UnpackFault.TheVariants.{OutOfMemory}
use Rattle.walk_engine.specs.Laws.{AreSame}
use Rattle.walk_engine.specs.Reading as reading
use Rattle.sem_profile.specs.Alike.{AreAlike}
use Rattle.sem_elsewhere.specs.Runs.{Arrives}
use Rattle.sem_elsewhere.specs.Robust.{Sends, ComesThrough}
use Rattle.sem_elsewhere.specs.Paths.{CallAlike}
use Rattle.sem_elsewhere.specs.Covering.{SendsFitting}

-- What a receiver reads of packets, one after the other, whose context goes on by what it read, right or wrong.
pub data Unpacks (a : Accepting) : Entries → List (List Bool) → List Unpacked → Type 0 where
  unpacks_none : {ctx : Entries} → Unpacks a ctx [] []
  unpacks : {ctx : Entries} {bits : List Bool} {more : List (List Bool)} {us : List Unpacked} (old new : Place) (u : Unpacked) → old.left ≡ bits → reading.IsUnpacked a ctx old new u
      → Unpacks a (next ctx u.filling) more us → Unpacks a ctx (bits ∷ more) (u ∷ us)

-- It was refused at a packet, the first of those that are left, after what was read of the others.
pub data Refuses (a : Accepting) : Entries → List (List Bool) → UnpackFault → Type 0 where
  refuses_here : {ctx : Entries} {bits : List Bool} {more : List (List Bool)} {e : UnpackFault} → reading.Blames e a ctx bits → Refuses a ctx (bits ∷ more) e
  refuses_later : {ctx : Entries} {bits : List Bool} {more : List (List Bool)} {e : UnpackFault} (old new : Place) (u : Unpacked) → old.left ≡ bits → reading.IsUnpacked a ctx old new u
      → Refuses a (next ctx u.filling) more e → Refuses a ctx (bits ∷ more) e

-- each is read as what was sent, with its header, and refused only where memory is out
pub record AreReadBack (a : Accepting) (other : Entries) (got : List Filling) (bits : List (List Bool)) : Type 0 where
  pub fillings_are : (us : List Unpacked) → Unpacks a other bits us → map (λ u. u.filling) us ≡ got
  pub headers_are : (us : List Unpacked) → Unpacks a other bits us → map (λ u. u.header) us ≡ map (λ f. header f) got
  pub never_refused : (e : UnpackFault) → Refuses a other bits e → e ≡ OutOfMemory

-- Where each filling fits in the last n + 1 contexts of the sender, which agree where it has no entry: whatever packets are lost, never more than n in a row, `unpack` reads each that comes through
-- as what was sent, whatever bits follow it, and refuses it only where memory is out.
abbrev pub SurvivesLosses : Type 0
SurvivesLosses = (a : Accepting) → IsDeterminate a → (n : ℕ) (ctx other : Entries) → AreSame ctx other → (fs got : List Filling) (bits : List (List Bool)) →
    Sends a.profile.methods a.profile.top n ctx [] fs → ComesThrough n 0 fs got → Arrives got bits → AreReadBack a other got bits

-- The same where the formats of each method call alike: then it is enough that each filling fits in the last n + 1 contexts.
abbrev pub SurvivesLossesAlike : Type 0
SurvivesLossesAlike = (a : Accepting) → IsDeterminate a → AreAlike a.profile.methods → CallAlike a.profile.methods → (n : ℕ) (ctx other : Entries) → AreSame ctx other →
    (fs got : List Filling) (bits : List (List Bool)) → SendsFitting a.profile.methods a.profile.top n ctx [] fs → ComesThrough n 0 fs got → Arrives got bits → AreReadBack a other got bits
