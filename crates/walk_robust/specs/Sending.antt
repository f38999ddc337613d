-- What a receiver may hold, and how it goes on packet by packet (docs/DEFINITIONS.md, Losses).
use Rattle.std.specs.Prelude.{◌≡◌, ℕ, suc, ◌<◌, nat_lt, List, [], ◌∷◌, None, Some, slice_get, IsSome, if◌then◌else◌}
use Rattle.std.specs.List.{flat_map}
use Rattle.std.specs.Map.{keys_of}
use Rattle.sem_context.specs.Entries.{AreDistinct, Entries, bits_at}
use Rattle.sem_filling.specs.declared.filling.Filling.{Filling}
use Rattle.sem_filling.specs.Entries.{next}
use Rattle.sem_elsewhere.specs.Held.{Holding, IsHeld, GoOn}
use Rattle.walk_engine.specs.Laws.{AreSame}

-- a sender: its own context, the others that a receiver may hold, and how many packets in a row may be lost
pub record Sending : Type 0 where
  pub own : Entries
  pub others : List Holding
  pub lost : ℕ

-- all that a receiver may hold: the sender's own context where nothing was lost right before, and the others
abbrev pub held : Sending → List Holding
held s = record { gap = 0; context = s.own } ∷ s.others

-- two are one where as many packets right before were lost and the contexts are the same map
abbrev pub IsSamePair : Holding → Holding → Type 0
IsSamePair g h = (g.gap ≡ h.gap) × AreSame g.context h.context

abbrev pub AreApart : List Holding → Type 0
AreApart hs = (i j : ℕ) (g h : Holding) → slice_get hs i ≡ Some g → slice_get hs j ≡ Some h → IsSamePair g h → i ≡ j

-- where a pair comes from that is held after a filling: a receiver read it, or it was lost and may have been
pub data ComesFrom (n : ℕ) (before : List Holding) (f : Filling) : Holding → Type 0 where
  was_read : (i : ℕ) (g : Holding) → slice_get before i ≡ Some g → ComesFrom n before f (record { gap = 0; context = next g.context f })
  was_lost : (i : ℕ) (g : Holding) → slice_get before i ≡ Some g → g.gap < n → ComesFrom n before f (record { gap = suc g.gap; context = g.context })

-- What is held after a filling, where n packets in a row may be lost: what comes of each pair and no other, each once where each was there once.
pub record AreHeldAfter (n : ℕ) (before after : List Holding) (f : Filling) : Type 0 where
  pub all : GoOn n before after f
  pub only : (i : ℕ) (h : Holding) → slice_get after i ≡ Some h → ComesFrom n before f h
  pub once : AreApart before → AreApart after

-- ---- what stays

abbrev pub stays : ℕ → Holding → List Holding
stays n h = if nat_lt h.gap n then record { gap = suc h.gap; context = h.context } ∷ [] else []

-- those that were held before a packet which was lost
abbrev pub stayed : ℕ → List Holding → List Holding
stayed n hs = flat_map (stays n) hs

-- ---- what comes

-- the same at each path that these entries don't have
abbrev pub SameOutside : Entries → Entries → Entries → Type 0
SameOutside left one other = (path : List ℕ) → bits_at left path ≡ None → bits_at one path ≡ bits_at other path

-- at each of them the other has what the one has
abbrev pub HoldsOutside : Entries → Entries → Entries → Type 0
HoldsOutside left one other = (path : List ℕ) → bits_at left path ≡ None → IsSome (bits_at one path) → bits_at one path ≡ bits_at other path

-- it has none of them
abbrev pub IsCovered : Entries → Entries → Type 0
IsCovered left one = (path : List ℕ) → bits_at left path ≡ None → bits_at one path ≡ None

-- one of these is the same outside of the entries
pub record IsAmong (left : Entries) (found : List Holding) (context : Entries) : Type 0 where
  pub place : ℕ
  pub one : Holding
  pub at : slice_get found place ≡ Some one
  pub same : SameOutside left one.context context

-- a pair that came of one of these by the filling
pub record CameOf (before : List Holding) (f : Filling) (g : Holding) : Type 0 where
  pub place : ℕ
  pub one : Holding
  pub at : slice_get before place ≡ Some one
  pub pair_is : g ≡ record { gap = 0; context = next one.context f }

-- What comes of some by the filling, beside the first context: of each of them, nothing else, and each map once.
pub record HaveCome (first : Entries) (before : List Holding) (f : Filling) (found : List Holding) : Type 0 where
  pub all : (i : ℕ) (h : Holding) → slice_get before i ≡ Some h → IsHeld (record { gap = 0; context = first } ∷ found) 0 (next h.context f)
  pub only : (i : ℕ) (g : Holding) → slice_get found i ≡ Some g → CameOf before f g
  pub once : AreApart (record { gap = 0; context = first } ∷ found)

-- the context has just the paths of these entries, in their order, and each once
pub record HasJust (left context : Entries) : Type 0 where
  pub distinct : AreDistinct context
  pub paths_are : keys_of context ≡ keys_of left
