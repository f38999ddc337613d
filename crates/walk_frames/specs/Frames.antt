-- Frames on a line of 64 flows (docs/DEFINITIONS.md, Frames): each is told by itself, whatever is in it.
use Rattle.std.specs.Prelude.{◌≡◌, ℕ, ◌+◌, ◌/◌, ◌%◌, ◌<◌, ◌≤◌, ◌^◌, nat_lt, if◌then◌else◌, List, [], ◌∷◌, ◌++◌, length}
use Rattle.std.specs.List.{flat_map, AllByRecursion}

-- how many flows there are
abbrev pub flow_limit : ℕ
flow_limit = 64

-- what a flow's reset stands above
abbrev pub reset_octet : ℕ → ℕ
reset_octet flow = 128 + flow

-- What comes in one piece, or is lost as one: a flow's packet, with its octets; one whose length is spelled in more octets than it takes; or a flow's reset.
pub data Frame : Type 0 where
  packet : ℕ → List ℕ → Frame
  overlong : ℕ → List ℕ → Frame
  reset : ℕ → Frame

-- the octets of a length: one below 128, or two, of which the first has its highest bit set
abbrev pub length_octets : ℕ → List ℕ
length_octets n = if nat_lt n 128 then n ∷ [] else (128 + n / 256) ∷ n % 256 ∷ []

-- the octets of a frame
abbrev pub frame_octets : Frame → List ℕ
frame_octets (packet flow body) = flow ∷ length_octets (length body) ++ body
frame_octets (overlong flow body) = flow ∷ 128 ∷ length body ∷ body
frame_octets (reset flow) = reset_octet flow ∷ []

-- the frame is of one of the flows, and its length can be spelled so
abbrev pub IsFrame : Frame → Type 0
IsFrame (packet flow body) = (flow < flow_limit) × (length body < 2 ^ 15)
IsFrame (overlong flow body) = (flow < flow_limit) × (length body < 128)
IsFrame (reset flow) = flow < flow_limit

abbrev pub AreFrames : List Frame → Type 0
AreFrames frames = AllByRecursion IsFrame frames

abbrev pub octets_of : List Frame → List ℕ
octets_of frames = flat_map frame_octets frames

-- ---- what octets are cut into

-- less than a whole frame: some octets more make one of it
pub record IsBegun (octets : List ℕ) : Type 0 where
  pub frame : Frame
  pub is_frame : IsFrame frame
  pub more : List ℕ
  pub some : 0 < length more
  pub octets_are : frame_octets frame ≡ octets ++ more

-- no frame begins so: an octet that is neither a flow's nor a reset's
abbrev pub IsNoFlow : ℕ → Type 0
IsNoFlow octet = (flow_limit ≤ octet) × ((flow : ℕ) → flow < flow_limit → octet ≡ reset_octet flow → ⊥)

-- the octets are these frames, and then less than a whole one
pub record AreCut (octets : List ℕ) (frames : List Frame) (rest : List ℕ) : Type 0 where
  pub are_frames : AreFrames frames
  pub octets_are : octets ≡ octets_of frames ++ rest
  pub begun : IsBegun rest
