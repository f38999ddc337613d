-- What a receiver gives of frames (docs/DEFINITIONS.md, Frames): each frame is judged in its flow's context.
use Rattle.std.specs.Prelude.{◌≡◌, ℕ, ◌<◌, ◌≤◌, ◌==◌, Bool, false, List, [], ◌∷◌, ◌++◌, length, map, filter, replicate, slice_get, slice_set, Some}
use Rattle.sem_bits.specs.Octets.{bits_of, Holds}
use Rattle.sem_context.specs.Entries.{Entries}
use Rattle.sem_filling.specs.declared.filling.Filling.{Filling}
use Rattle.sem_filling.specs.declared.filling.Item.{Item}
use Rattle.sem_filling.specs.Fillings.{packed, item}
use Rattle.sem_filling.specs.Entries.{next}
use Rattle.cert_accepted.specs.Accepted.{Accepting}
use Rattle.walk_engine.specs.Reading.{Fitting}
use Rattle.walk_engine.specs.Reading as reading
use Rattle.walk_line.specs.Lines.{Contexts}
use Rattle.walk_frames.specs.Frames.{Frame, packet, overlong, reset, flow_limit}
use Rattle.walk_frames.specs.declared.given.Given.{Given}
use Rattle.walk_frames.specs.declared.given.Given.TheVariants as given
use Rattle.walk_frames.specs.declared.given.PacketRefusal.{PacketRefusal}
use Rattle.walk_frames.specs.declared.given.PacketRefusal.TheVariants.{Truncated, Refused, Padding, Length}

-- ---- one packet

-- a filling that fits is what the octets hold: they give its item, and the context is the next one
pub record IsRead (p : Accepting) (old new : Entries) (body : List ℕ) (it : Item) : Type 0 where
  pub filling : Filling
  pub fits : Fitting p old filling
  pub holds : Holds body (packed filling)
  pub next_is : new ≡ next old filling
  pub item_is : it ≡ item filling

-- a filling fits, and the bits after its packed bits in the last octet are not all zero
pub record HasPadding (p : Accepting) (ctx : Entries) (body : List ℕ) : Type 0 where
  pub filling : Filling
  pub padding : List Bool
  pub fits : Fitting p ctx filling
  pub bits_are : bits_of body ≡ packed filling ++ padding
  pub few : length padding < 8
  pub not_zero : padding ≡ replicate (length padding) false → ⊥

-- a filling fits, and a whole octet or more is left after its packed bits
pub record HasMore (p : Accepting) (ctx : Entries) (body : List ℕ) : Type 0 where
  pub filling : Filling
  pub more : List Bool
  pub fits : Fitting p ctx filling
  pub bits_are : bits_of body ≡ packed filling ++ more
  pub many : 8 ≤ length more

-- what a refusal says of the octets of a packet
abbrev pub Blames : PacketRefusal → Accepting → Entries → List ℕ → Type 0
Blames Truncated p ctx body = reading.IsTruncated p ctx (bits_of body)
Blames (Refused at) p ctx body = reading.IsRefused p ctx (bits_of body)
Blames Padding p ctx body = HasPadding p ctx body
Blames Length p ctx body = HasMore p ctx body

-- what is given of a packet; where it is refused the context stays
abbrev pub Judges : Given → Accepting → Entries → Entries → List ℕ → Type 0
Judges (given.Item it) p old new body = IsRead p old new body it
Judges (given.Refused why) p old new body = (new ≡ old) × Blames why p old body

-- ---- frames

abbrev pub flow_of : Frame → ℕ
flow_of (packet flow body) = flow
flow_of (overlong flow body) = flow
flow_of (reset flow) = flow

-- What a frame gives in its flow's context, and the context then.
pub data Gives (p : Accepting) : Entries → Frame → List Given → Entries → Type 0 where
  judged : {old new : Entries} {flow : ℕ} {body : List ℕ} {g : Given} → Judges g p old new body → Gives p old (packet flow body) (g ∷ []) new
  -- the length isn't spelled as that of what is read is
  too_long : {old : Entries} {flow : ℕ} {body : List ℕ} → Gives p old (overlong flow body) (given.Refused Length ∷ []) old
  emptied : {old : Entries} {flow : ℕ} → Gives p old (reset flow) [] []

-- what is given, with the flows
abbrev pub Found : Type 0
Found = List (ℕ × Given)

abbrev pub tell : ℕ → List Given → Found
tell flow gs = map (λ g. (flow, g)) gs

-- the contexts of a new receiver
abbrev pub new_contexts : Contexts
new_contexts = replicate flow_limit []

-- With these contexts, frames give this and leave contexts.
pub data Receives (p : Accepting) : Contexts → List Frame → Found → Contexts → Type 0 where
  ended : {s : Contexts} → Receives p s [] [] s
  receives_on : {s t : Contexts} {x : Frame} {xs : List Frame} {all : Found} (old new : Entries) (here : List Given) (later : Found) →
      all ≡ tell (flow_of x) here ++ later → slice_get s (flow_of x) ≡ Some old → Gives p old x here new →
      Receives p (slice_set s (flow_of x) new) xs later t → Receives p s (x ∷ xs) all t

-- the frames of a flow, and what is given of it
abbrev pub frames_of : ℕ → List Frame → List Frame
frames_of flow xs = filter (λ x. flow_of x == flow) xs

abbrev pub found_of : ℕ → Found → Found
found_of flow xs = filter (λ x. x.0 == flow) xs
