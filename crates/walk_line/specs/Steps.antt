-- One packet of one flow, as its octets come.
use Rattle.std.specs.Prelude.{◌≡◌, ℕ, ◌<◌, ◌≤◌, ◌^◌, Bool, false, List, [], ◌∷◌, ◌++◌, length, replicate, take, Option, Some, None}
use Rattle.sem_bits.specs.Octets.{bits_of, Holds}
use Rattle.sem_context.specs.Entries.{Entries}
use Rattle.sem_filling.specs.declared.filling.Filling.{Filling}
use Rattle.sem_filling.specs.declared.filling.Item.{Item}
use Rattle.sem_filling.specs.Fillings.{packed, item}
use Rattle.sem_filling.specs.Entries.{next}
use Rattle.cert_accepted.specs.Accepted.{Accepting}
use Rattle.walk_engine.specs.Reading.{Fitting, Fronts}
use Rattle.walk_line.specs.Lines.{Contexts, IsBest, reset_octet}
use Rattle.walk_line.specs.Hearing.{Found, NoFront, IsPart, Heard, IsRefused, IsBadlyFilled}
use Rattle.walk_line.specs.declared.flow.Opening.{Opening}
use Rattle.walk_line.specs.declared.flow.Opening.TheVariants as start
use Rattle.walk_line.specs.declared.fault.LineFault.{LineFault}
use Rattle.walk_line.specs.declared.fault.LineFault.TheVariants.{FlowOctet, RefusedPacket, Padding, Ended, OutOfMemory}

-- what begins with an octet in a flow's place, on a line of so many flows
abbrev pub Starts : ℕ → ℕ → Option Opening → Type 0
Starts flows octet (Some (start.Packet flow)) = (octet ≡ flow) × (flow < flows)
Starts flows octet (Some (start.Reset flow)) = (octet ≡ reset_octet flows flow) × (flow < flows)
Starts flows octet None = reset_octet flows flows ≤ octet

-- before the last of the octets no filling was at their front
abbrev pub IsFresh : Accepting → Entries → List ℕ → Type 0
IsFresh p ctx octets = (before : List ℕ) (last : ℕ) → octets ≡ before ++ last ∷ [] → NoFront p ctx before

-- the packet's item, where the octets are a whole one; the context is then the next one
pub record IsTaken (p : Accepting) (old new : Entries) (octets : List ℕ) (it : Item) : Type 0 where
  pub filling : Filling
  pub fits : Fitting p old filling
  pub holds : Holds octets (packed filling)
  pub next_is : new ≡ next old filling
  pub item_is : it ≡ item filling

-- more octets are to come; there are few so far
pub record IsAwaited (p : Accepting) (old new : Entries) (octets : List ℕ) : Type 0 where
  pub none : NoFront p old octets
  pub few : length octets < 2 ^ 20
  pub same : new ≡ old

abbrev pub IsTried : Accepting → Entries → Entries → List ℕ → Option Item → Type 0
IsTried p old new octets None = IsAwaited p old new octets
IsTried p old new octets (Some it) = IsTaken p old new octets it

-- a filling fits, and the bits after its packed bits in the last octet are not all zero
pub record HasBadPadding (p : Accepting) (ctx : Entries) (octets : List ℕ) : Type 0 where
  pub filling : Filling
  pub padding : List Bool
  pub fits : Fitting p ctx filling
  pub bits_are : bits_of octets ≡ packed filling ++ padding
  pub few : length padding < 8
  pub not_zero : padding ≡ replicate (length padding) false → ⊥

-- what a fault says of the octets after a flow's
abbrev pub BlamesPacket : LineFault → Accepting → Entries → List ℕ → Type 0
BlamesPacket FlowOctet p ctx octets = ⊥
BlamesPacket RefusedPacket p ctx octets = (more : List Bool) (f : Filling) → Fronts p ctx (bits_of octets ++ more) f → ⊥
BlamesPacket Padding p ctx octets = HasBadPadding p ctx octets
BlamesPacket Ended p ctx octets = ⊥
BlamesPacket OutOfMemory p ctx octets = Unit {0}

-- before the last of the octets they were part of a packet
abbrev pub IsNew : Accepting → Contexts → List ℕ → Type 0
IsNew p s begun = (before : List ℕ) (last : ℕ) → begun ≡ before ++ last ∷ [] → IsPart p s before

-- what a fault says of the octets of a packet so far
abbrev pub BlamesBegun : LineFault → Accepting → Contexts → List ℕ → Type 0
BlamesBegun FlowOctet p s begun = (octet : ℕ) × (after : List ℕ) × (begun ≡ octet ∷ after) × (reset_octet (length s) (length s) ≤ octet)
BlamesBegun RefusedPacket p s begun = IsRefused p s begun
BlamesBegun Padding p s begun = IsBadlyFilled p s begun
BlamesBegun Ended p s begun = ⊥
BlamesBegun OutOfMemory p s begun = Unit {0}

-- the octets so far were heard, with these items
pub record IsHeard (p : Accepting) (s t : Contexts) (begun rest : List ℕ) (found : Found) : Type 0 where
  pub heard : Heard p s begun found rest t
  pub part : IsPart p t rest
  pub few : length rest ≤ 2 ^ 20
  pub flows : length t ≡ length s

-- so many of the octets were heard as a whole packet, of which nothing is left
pub record IsHeardWhole (p : Accepting) (s t : Contexts) (octets : List ℕ) (n : ℕ) (found : Found) : Type 0 where
  pub some : 0 < n
  pub within : n ≤ length octets
  pub heard : Heard p s (take n octets) found [] t

-- the flow's octet and those of the filling's packed bits were added, and the context is the one that it leaves
pub record AddsPacket (old new : Entries) (flow : ℕ) (f : Filling) (before after : List ℕ) : Type 0 where
  pub octets : List ℕ
  pub holds : Holds octets (packed f)
  pub next_is : new ≡ next old f
  pub after_is : after ≡ before ++ flow ∷ octets

-- the packet of an item was added to the octets, after the flow's octet, and the context is the next one
pub record IsPacked (p : Accepting) (old new : Entries) (flow : ℕ) (it : Item) (before after : List ℕ) : Type 0 where
  pub filling : Filling
  pub octets : List ℕ
  pub best : IsBest p old it filling
  pub holds : Holds octets (packed filling)
  pub next_is : new ≡ next old filling
  pub after_is : after ≡ before ++ flow ∷ octets
