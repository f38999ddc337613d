-- What stands at the front of octets on a line.
use Rattle.std.specs.Prelude.{◌≡◌, ℕ, ◌≤◌, List, [], ◌∷◌, ◌++◌, length, slice_range}
use Rattle.walk_frames.specs.Frames.{Frame, packet, overlong, reset, frame_octets, IsFrame, IsBegun, IsNoFlow}
use Rattle.walk_frames.specs.declared.front.Front.{Front}
use Rattle.walk_frames.specs.declared.front.Front.TheVariants as front

-- the frame is at the front of the octets, and ends there
pub record StandsTo (octets : List ℕ) (frame : Frame) (to : ℕ) : Type 0 where
  pub is_frame : IsFrame frame
  pub rest : List ℕ
  pub octets_are : octets ≡ frame_octets frame ++ rest
  pub to_is : to ≡ length (frame_octets frame)

-- a body, as a part of the octets
abbrev pub body : List ℕ → ℕ → ℕ → List ℕ
body octets from to = slice_range octets from to

-- no octets, or an octet with which no frame begins
pub record BeginsNone (octets : List ℕ) : Type 0 where
  pub octet : ℕ
  pub rest : List ℕ
  pub octets_are : octets ≡ octet ∷ rest
  pub none : IsNoFlow octet

abbrev pub IsFront : List ℕ → Front → Type 0
IsFront octets (front.Packet flow from to) = (from ≤ to) × (to ≤ length octets) × StandsTo octets (packet flow (body octets from to)) to
IsFront octets (front.Overlong flow from to) = (from ≤ to) × (to ≤ length octets) × StandsTo octets (overlong flow (body octets from to)) to
IsFront octets (front.Reset flow) = StandsTo octets (reset flow) 1
IsFront octets front.Begun = IsBegun octets
IsFront octets front.NoFlow = BeginsNone octets
