-- Laws of frames: they tell themselves apart.
use Rattle.std.specs.Prelude.{◌≡◌, ℕ, List, [], ◌∷◌, ◌++◌}
use Rattle.walk_frames.specs.Frames.{Frame, AreCut, AreFrames, IsNoFlow, octets_of}

-- The octets of frames are cut into these frames, and nothing is left.
abbrev pub FramesAreCut : Type 0
FramesAreCut = (frames : List Frame) → AreFrames frames → AreCut (octets_of frames) frames []

-- Octets are cut in one way.
abbrev pub CutOnce : Type 0
CutOnce = (octets rest left : List ℕ) (frames others : List Frame) → AreCut octets frames rest → AreCut octets others left → (frames ≡ others) × (rest ≡ left)

-- What octets are cut into, and then what is left of them and more octets, is what they all are cut into: so the cutting into pieces does not matter.
abbrev pub CutsJoin : Type 0
CutsJoin = (octets more rest last : List ℕ) (frames others : List Frame) → AreCut octets frames rest → AreCut (rest ++ more) others last → AreCut (octets ++ more) (frames ++ others) last

-- Where octets are frames, and then an octet with which none begins, they are cut into no frames, and those are all that come before it.
abbrev pub StoppedOnce : Type 0
StoppedOnce = (octets rest after later : List ℕ) (at other : ℕ) (frames others : List Frame) → AreFrames frames → octets ≡ octets_of frames ++ at ∷ after → IsNoFlow at →
    ((AreCut octets others rest → ⊥) × (AreFrames others → octets ≡ octets_of others ++ other ∷ later → IsNoFlow other → (frames ≡ others) × (at ∷ after ≡ other ∷ later)))
