-- Which formats of a set a node is wrong for.
use Rattle.std.specs.Prelude.{◌≡◌, ℕ, ◌<◌, Bool, true, false, nat_eq, nat_le, not, List, [], ◌∷◌, ◌++◌, Option, Some, None, slice_get, length, drop, ◌+◌}
use Rattle.sem_profile.specs.declared.profile.FormatSizes.{FormatSizes}
use Rattle.sem_profile.specs.declared.profile.MethodSizes.{MethodSizes}
use Rattle.sem_profile.specs.declared.profile.Format.{Format}
use Rattle.cert_types.specs.declared.certificate.Node.{Node}
use Rattle.cert_types.specs.declared.certificate.Node.TheVariants.{Bit, Parameter, Reference, Leaf, Nowhere}
use Rattle.cert_types.specs.Kept.{are_trees}
use Rattle.cert_rules.specs.Trees.{Reach, reach_at, everything}
use Rattle.cert_rules.specs.Refusals.{RightBefore}

-- the least length of the packed bits is at most the offset
abbrev pub is_short : ℕ → Option FormatSizes → Bool
is_short o None = false
is_short o (Some z) = nat_le z.whole.compressed.least o

-- the node is wrong, where the format of that place reaches it
abbrev pub is_wrong : List FormatSizes → Node → ℕ → Bool
is_wrong sizes (Leaf k) n = not (nat_eq n k)
is_wrong sizes Nowhere n = true
is_wrong sizes (Bit o) n = is_short o (slice_get sizes n)
is_wrong sizes (Parameter i c) n = false
is_wrong sizes (Reference i c) n = false

-- the format of that place is in the set
abbrev pub Has : List Bool → ℕ → Type 0
Has set n = slice_get set n ≡ Some true

-- the first format of the set for which the node is wrong
pub record IsFirstWrong (sizes : List FormatSizes) (set : List Bool) (node : Node) (n : ℕ) : Type 0 where
  pub member : Has set n
  pub wrong : is_wrong sizes node n ≡ true
  pub earlier : (k : ℕ) → k < n → Has set k → is_wrong sizes node k ≡ false

-- the formats that reach, as a set: a mark for each format that has bounds
abbrev pub reaching : Reach → List Format → List FormatSizes → List Bool
reaching reach [] sizes = []
reaching reach (format ∷ formats) [] = []
reaching reach (format ∷ formats) (z ∷ sizes) = reach format z ∷ reaching reach formats sizes

-- the sets of the trees still to be judged, the next one last
abbrev pub stacked : List Format → List FormatSizes → List Reach → List (List Bool)
stacked formats sizes [] = []
stacked formats sizes (r ∷ rs) = stacked formats sizes rs ++ reaching r formats sizes ∷ []

-- the nodes before a place are judged, and the sets are what reaches the trees that come
pub record JudgedTo (formats : List Format) (s : MethodSizes) (nodes : List Node) (place : ℕ) (sets : List (List Bool)) : Type 0 where
  pub reaches : List Reach
  pub are : sets ≡ stacked formats s.formats reaches
  pub whole : are_trees (length reaches) (drop place nodes) ≡ true
  pub at : (k : ℕ) → reach_at (everything ∷ []) nodes (place + k) ≡ reach_at reaches (drop place nodes) k
  pub before : RightBefore formats s nodes place
