-- Frames tell themselves apart.
use Rattle.std.proofs.Common.{◌≡◌, ◌∙◌, refl, sym, ap, subst, ℕ, zero, suc, ◌+◌, ◌-◌, ◌*◌, ◌/◌, ◌%◌, ◌<◌, ◌≤◌, ◌^◌, ◌⊎◌, inl, inr, Bool, true, false, cond, nat_lt, List, [], ◌∷◌, ◌++◌, length, take, drop, arith, append_assoc}
use Rattle.std.specs.Prelude.{Option, Some, None}
use Rattle.std.specs.List.{AllByRecursion}
use Rattle.std.proofs.lemmas.Bool.{cases_lt, ltb-true, lt-ltb}
use Rattle.std.proofs.lemmas.List.{append-nil}
use Rattle.walk_frames.specs.Frames.{Frame, packet, overlong, reset, frame_octets, length_octets, octets_of, flow_limit, AreCut, AreFrames, IsFrame, IsBegun, IsNoFlow}
use Rattle.walk_frames.specs.Cutting.{FramesAreCut, CutOnce, CutsJoin, StoppedOnce}
use Rattle.walk_frames.proofs.Fronting.{is_not, long_octets, short_octets}

-- ---- a reading of the first frame

-- so many octets, and what is left
abbrev split : ℕ → List ℕ → List ℕ × List ℕ
split zero xs = ([], xs)
split (suc n) [] = ([], [])
split (suc n) (x ∷ xs) = let r = split n xs in (x ∷ r.0, r.1)

split_joined : (b more : List ℕ) → split (length b) (b ++ more) ≡ (b, more)
split_joined [] more = refl
split_joined (x ∷ b) more = ap (λ (r : List ℕ × List ℕ). (x ∷ r.0, r.1)) (split_joined b more)

-- the body that a length stands before
abbrev short_of : ℕ → ℕ → List ℕ → Option (Frame × List ℕ)
short_of flow n xs = let r = split n xs in Some (packet flow r.0, r.1)

abbrev long_of : ℕ → ℕ → List ℕ → Option (Frame × List ℕ)
long_of flow h [] = None
long_of flow h (l ∷ xs) = let n : ℕ = (h - 128) * 256 + l in let r = split n xs in cond (nat_lt n 128) (Some (overlong flow r.0, r.1)) (Some (packet flow r.0, r.1))

abbrev packet_of : ℕ → List ℕ → Option (Frame × List ℕ)
packet_of flow [] = None
packet_of flow (n ∷ xs) = cond (nat_lt n 128) (short_of flow n xs) (long_of flow n xs)

abbrev first_of : List ℕ → Option (Frame × List ℕ)
first_of [] = None
first_of (x ∷ xs) = cond (nat_lt x 64) (packet_of x xs) (Some (reset (x - 128), xs))

-- it reads what a frame is
read_packet : (flow : ℕ) (b more : List ℕ) → length b < 2 ^ 15 → packet_of flow (length_octets (length b) ++ (b ++ more)) ≡ Some (packet flow b, more)
read_packet flow b more few =
    elim (cases_lt (length b) 128) [
      | inl short ↦
          let e : packet_of flow (length_octets (length b) ++ (b ++ more)) ≡ packet_of flow (length b ∷ b ++ more) = ap (λ h. packet_of flow (h ++ (b ++ more))) (short_octets (length b) short) in
          e ∙ ap (λ k. cond k (short_of flow (length b) (b ++ more)) (long_of flow (length b) (b ++ more))) (lt-ltb (length b) 128 short)
          ∙ ap (λ (r : List ℕ × List ℕ). Some (packet flow r.0, r.1)) (split_joined b more)
      | inr long ↦
          let h : ℕ = 128 + length b / 256 in
          let l : ℕ = length b % 256 in
          let n : ℕ = (h - 128) * 256 + l in
          let count : n ≡ length b = omega arith in
          let octets : length_octets (length b) ≡ h ∷ l ∷ [] = long_octets (length b) h l long (omega arith) (omega arith) (sym count) in
          ap (λ z. packet_of flow (z ++ (b ++ more))) octets
          ∙ ap (λ k. cond k (short_of flow h (l ∷ b ++ more)) (long_of flow h (l ∷ b ++ more))) (is_not h 128 (omega arith))
          ∙ ap (λ k. cond k (Some (overlong flow (split n (b ++ more)).0, (split n (b ++ more)).1)) (Some (packet flow (split n (b ++ more)).0, (split n (b ++ more)).1))) (is_not n 128 (omega (arith, count, long)))
          ∙ ap (λ k. Some (packet flow (split k (b ++ more)).0, (split k (b ++ more)).1)) count
          ∙ ap (λ (r : List ℕ × List ℕ). Some (packet flow r.0, r.1)) (split_joined b more)
    ]

first_is : (f : Frame) (more : List ℕ) → IsFrame f → first_of (frame_octets f ++ more) ≡ Some (f, more)
first_is (packet flow b) more is =
    ap (λ k. cond k (packet_of flow ((length_octets (length b) ++ b) ++ more)) (Some (reset (flow - 128), (length_octets (length b) ++ b) ++ more))) (lt-ltb flow 64 is.0)
    ∙ ap (packet_of flow) (append_assoc (length_octets (length b)) b more) ∙ read_packet flow b more is.1
first_is (overlong flow b) more is =
    let n : ℕ = (128 - 128) * 256 + length b in
    let count : n ≡ length b = omega arith in
    ap (λ k. cond k (packet_of flow (128 ∷ length b ∷ b ++ more)) (Some (reset (flow - 128), 128 ∷ length b ∷ b ++ more))) (lt-ltb flow 64 is.0)
    ∙ ap (λ k. cond k (Some (overlong flow (split n (b ++ more)).0, (split n (b ++ more)).1)) (Some (packet flow (split n (b ++ more)).0, (split n (b ++ more)).1))) (lt-ltb n 128 (omega (arith, count, is)))
    ∙ ap (λ k. Some (overlong flow (split k (b ++ more)).0, (split k (b ++ more)).1)) count
    ∙ ap (λ (r : List ℕ × List ℕ). Some (overlong flow r.0, r.1)) (split_joined b more)
first_is (reset flow) more is =
    let back : 128 + flow - 128 ≡ flow = omega arith in
    ap (λ k. cond k (packet_of (128 + flow) more) (Some (reset (128 + flow - 128), more))) (is_not (128 + flow) 64 (omega arith))
    ∙ ap (λ k. Some (reset k, more)) back

-- so the same octets begin with one frame
pub frame_once : (f g : Frame) (more others : List ℕ) → IsFrame f → IsFrame g → frame_octets f ++ more ≡ frame_octets g ++ others → (f ≡ g) × (more ≡ others)
frame_once f g more others is also e =
    let same : Some (f, more) ≡ Some (g, others) = sym (first_is f more is) ∙ ap first_of e ∙ first_is g others also in
    let pairs : (f, more) ≡ (g, others) = cc in
    (ap (λ (z : Frame × List ℕ). z.0) pairs, ap (λ (z : Frame × List ℕ). z.1) pairs)

-- ---- what is less than a frame

nothing_after : (xs ys : List ℕ) → 0 < length ys → [] ≡ xs ++ ys → ⊥
nothing_after [] [] some e = omega (arith, some)
nothing_after [] (y ∷ ys) some e = cc
nothing_after (x ∷ xs) ys some e = cc

pub never_begun : (f : Frame) (more : List ℕ) → IsFrame f → IsBegun (frame_octets f ++ more) → ⊥
never_begun f more is h =
    let e : frame_octets h.frame ++ [] ≡ frame_octets f ++ (more ++ h.more) = append-nil (frame_octets h.frame) ∙ h.octets_are ∙ append_assoc (frame_octets f) more h.more in
    nothing_after more h.more h.some (frame_once h.frame f [] (more ++ h.more) h.is_frame is e).1

pub nothing_begun : IsBegun []
nothing_begun = record { frame = reset 0; is_frame = omega arith; more = 128 ∷ []; some = omega arith; octets_are = refl }

-- no frame begins with that octet
no_frame : (f : Frame) (more after : List ℕ) (at : ℕ) → IsFrame f → IsNoFlow at → frame_octets f ++ more ≡ at ∷ after → ⊥
no_frame (packet flow b) more after at is none e = let same : flow ≡ at = cc in let above = none.0 in let under = is.0 in omega (arith, same, above, under)
no_frame (overlong flow b) more after at is none e = let same : flow ≡ at = cc in let above = none.0 in let under = is.0 in omega (arith, same, above, under)
no_frame (reset flow) more after at is none e = let same : at ≡ 128 + flow = cc in none.1 flow is same

not_begun : (at : ℕ) (after : List ℕ) → IsNoFlow at → IsBegun (at ∷ after) → ⊥
not_begun at after none h = no_frame h.frame [] (after ++ h.more) at h.is_frame none (append-nil (frame_octets h.frame) ∙ h.octets_are)

-- ---- laws

pub frames_are_cut : FramesAreCut
frames_are_cut frames are = record { are_frames = are; octets_are = sym (append-nil (octets_of frames)); begun = nothing_begun }

pub both : (frames others : List Frame) → AreFrames frames → AreFrames others → AreFrames (frames ++ others)
both [] others a b = b
both (f ∷ frames) others a b = (a.0, both frames others a.1 b)

pub octets_joined : (frames others : List Frame) → octets_of (frames ++ others) ≡ octets_of frames ++ octets_of others
octets_joined [] others = refl
octets_joined (f ∷ frames) others = ap (λ xs. frame_octets f ++ xs) (octets_joined frames others) ∙ sym (append_assoc (frame_octets f) (octets_of frames) (octets_of others))

pub cuts_join : CutsJoin
cuts_join octets more rest last frames others a b = record {
  are_frames = both frames others a.are_frames b.are_frames;
  octets_are = ap (λ xs. xs ++ more) a.octets_are ∙ append_assoc (octets_of frames) rest more ∙ ap (λ xs. octets_of frames ++ xs) b.octets_are
      ∙ sym (append_assoc (octets_of frames) (octets_of others) last) ∙ ap (λ xs. xs ++ last) (sym (octets_joined frames others));
  begun = b.begun;
}

-- frames that end alike, where each end begins no frame
abbrev Ends : List ℕ → Type 0
Ends rest = (f : Frame) (more : List ℕ) → IsFrame f → frame_octets f ++ more ≡ rest → ⊥

once_by : (frames others : List Frame) (rest left : List ℕ) → AreFrames frames → AreFrames others → Ends rest → Ends left → octets_of frames ++ rest ≡ octets_of others ++ left → (frames ≡ others) × (rest ≡ left)
once_by [] [] rest left a b no_rest no_left e = (refl, e)
once_by [] (g ∷ others) rest left a b no_rest no_left e = absurd (no_rest g (octets_of others ++ left) b.0 (sym (append_assoc (frame_octets g) (octets_of others) left) ∙ sym e))
once_by (f ∷ frames) [] rest left a b no_rest no_left e = absurd (no_left f (octets_of frames ++ rest) a.0 (sym (append_assoc (frame_octets f) (octets_of frames) rest) ∙ e))
once_by (f ∷ frames) (g ∷ others) rest left a b no_rest no_left e =
    let here = frame_once f g (octets_of frames ++ rest) (octets_of others ++ left) a.0 b.0 (sym (append_assoc (frame_octets f) (octets_of frames) rest) ∙ e ∙ append_assoc (frame_octets g) (octets_of others) left) in
    let later = once_by frames others rest left a.1 b.1 no_rest no_left here.1 in
    ((λ i. here.0 i ∷ later.0 i), later.1)

begun_ends : (rest : List ℕ) → IsBegun rest → Ends rest
begun_ends rest h f more is e = never_begun f more is (subst IsBegun (sym e) h)

pub cut_once : CutOnce
cut_once octets rest left frames others a b =
    once_by frames others rest left a.are_frames b.are_frames (begun_ends rest a.begun) (begun_ends left b.begun) (sym a.octets_are ∙ b.octets_are)

stopped_ends : (at : ℕ) (after : List ℕ) → IsNoFlow at → Ends (at ∷ after)
stopped_ends at after none f more is e = no_frame f more after at is none e

never_cut : (octets rest after : List ℕ) (at : ℕ) (frames others : List Frame) → AreFrames frames → octets ≡ octets_of frames ++ at ∷ after → IsNoFlow at → AreCut octets others rest → ⊥
never_cut octets rest after at frames others are is none cut =
    let r = once_by frames others (at ∷ after) rest are cut.are_frames (stopped_ends at after none) (begun_ends rest cut.begun) (sym is ∙ cut.octets_are) in
    not_begun at after none (subst IsBegun (sym r.1) cut.begun)

pub stopped_once : StoppedOnce
stopped_once octets rest after later at other frames others are is none = (
  never_cut octets rest after at frames others are is none,
  λ also too no_other. once_by frames others (at ∷ after) (other ∷ later) are also (stopped_ends at after none) (stopped_ends other later no_other) (sym is ∙ too),
)
