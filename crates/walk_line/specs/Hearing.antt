-- What is heard of octets on a line (docs/DEFINITIONS.md, Lines).
use Rattle.std.specs.Prelude.{◌≡◌, ℕ, ◌<◌, ◌≤◌, Bool, false, List, [], ◌∷◌, ◌++◌, length, replicate, slice_get, slice_set, Some}
use Rattle.sem_bits.specs.Octets.{bits_of, Holds}
use Rattle.sem_context.specs.Entries.{Entries}
use Rattle.sem_filling.specs.declared.filling.Filling.{Filling}
use Rattle.sem_filling.specs.declared.filling.Item.{Item}
use Rattle.sem_filling.specs.Fillings.{packed, item}
use Rattle.sem_filling.specs.Entries.{next}
use Rattle.cert_accepted.specs.Accepted.{Accepting}
use Rattle.walk_engine.specs.Reading.{Fitting, Fronts}
use Rattle.walk_line.specs.Lines.{Contexts, reset_octet}
use Rattle.walk_line.specs.declared.fault.LineFault.{LineFault}
use Rattle.walk_line.specs.declared.fault.LineFault.TheVariants.{FlowOctet, RefusedPacket, Padding, Ended, OutOfMemory}

-- items with their flows
abbrev pub Found : Type 0
Found = List (ℕ × Item)

-- One whole packet or reset: its octets, the item that it gives, and the contexts after it.
pub data Whole (p : Accepting) (s : Contexts) : List ℕ → Found → Contexts → Type 0 where
  -- a flow's octet, and octets that hold the packed bits of a filling that fits in the flow's context
  packet : {octets : List ℕ} (flow : ℕ) (ctx : Entries) (f : Filling) → slice_get s flow ≡ Some ctx → Fitting p ctx f → Holds octets (packed f) →
      Whole p s (flow ∷ octets) ((flow, item f) ∷ []) (slice_set s flow (next ctx f))
  -- an octet above those of the flows empties a context
  reset : (flow : ℕ) (ctx : Entries) → slice_get s flow ≡ Some ctx → Whole p s (reset_octet (length s) flow ∷ []) [] (slice_set s flow [])

-- no filling is at the front of the octets' bits
abbrev pub NoFront : Accepting → Entries → List ℕ → Type 0
NoFront p ctx octets = (f : Filling) → Fronts p ctx (bits_of octets) f → ⊥

-- Less than a whole packet: nothing, or a flow's octet and octets at whose front no filling is.
pub data IsPart (p : Accepting) (s : Contexts) : List ℕ → Type 0 where
  nothing : IsPart p s []
  begun : {octets : List ℕ} (flow : ℕ) (ctx : Entries) → slice_get s flow ≡ Some ctx → NoFront p ctx octets → IsPart p s (flow ∷ octets)

-- From these contexts, octets are whole packets and resets, which give items, and then less than a whole one; and they leave contexts.
pub data Heard (p : Accepting) : Contexts → List ℕ → Found → List ℕ → Contexts → Type 0 where
  waits : {s : Contexts} {rest : List ℕ} → IsPart p s rest → Heard p s rest [] rest s
  goes_on : {s t : Contexts} {all rest : List ℕ} {found : Found} (one more : List ℕ) (here later : Found) (between : Contexts) →
      all ≡ one ++ more → found ≡ here ++ later → Whole p s one here between → Heard p between more later rest t →
      Heard p s all found rest t

-- ---- faults

-- the octets begin no packet of the flow, whatever bits follow
pub record IsRefused (p : Accepting) (s : Contexts) (begun : List ℕ) : Type 0 where
  pub flow : ℕ
  pub octets : List ℕ
  pub ctx : Entries
  pub begun_is : begun ≡ flow ∷ octets
  pub context_is : slice_get s flow ≡ Some ctx
  pub none : (more : List Bool) (f : Filling) → Fronts p ctx (bits_of octets ++ more) f → ⊥

-- a filling fits, and the bits after its packed bits in the last octet are not all zero
pub record IsBadlyFilled (p : Accepting) (s : Contexts) (begun : List ℕ) : Type 0 where
  pub flow : ℕ
  pub octets : List ℕ
  pub ctx : Entries
  pub filling : Filling
  pub padding : List Bool
  pub begun_is : begun ≡ flow ∷ octets
  pub context_is : slice_get s flow ≡ Some ctx
  pub fits : Fitting p ctx filling
  pub bits_are : bits_of octets ≡ packed filling ++ padding
  pub few : length padding < 8
  pub not_zero : padding ≡ replicate (length padding) false → ⊥

-- What a fault says of the octet at which it comes, after a rest of less than a whole packet.
abbrev pub BlamesOctet : LineFault → Accepting → Contexts → List ℕ → ℕ → Type 0
BlamesOctet FlowOctet p s rest at = (rest ≡ []) × (reset_octet (length s) (length s) ≤ at)
BlamesOctet RefusedPacket p s rest at = IsRefused p s (rest ++ at ∷ [])
BlamesOctet Padding p s rest at = IsBadlyFilled p s (rest ++ at ∷ [])
BlamesOctet Ended p s rest at = ⊥
BlamesOctet OutOfMemory p s rest at = Unit {0}
