-- What each certificate keeps: whole trees, within the limits (docs/FORMATS.md, The text of a certificate).
use Rattle.std.specs.Prelude.{◌≡◌, ℕ, zero, suc, ◌^◌, ◌<◌, ◌≤◌, Bool, true, false, List, [], ◌∷◌, length, Option, Some, slice_get, ℤ, pos, negsuc}
use Rattle.std.specs.List.{AllByRecursion}
use Rattle.cert_types.specs.declared.certificate.Version.{Version}
use Rattle.cert_types.specs.declared.certificate.Version.TheVariants.{One}
use Rattle.cert_types.specs.declared.certificate.Step.{Step}
use Rattle.cert_types.specs.declared.certificate.Step.TheVariants.{ConstraintLength, Solve}
use Rattle.cert_types.specs.declared.certificate.Node.{Node}
use Rattle.cert_types.specs.declared.certificate.Node.TheVariants.{Bit, Parameter, Reference, Leaf, Nowhere}
use Rattle.cert_types.specs.declared.certificate.Plans.{Plans}
use Rattle.cert_types.specs.declared.certificate.FormatPlans.{FormatPlans}
use Rattle.cert_types.specs.declared.certificate.MethodPlans.{MethodPlans}

-- what a certificate says of each method
abbrev pub Entries : Type 0
Entries = List (Option MethodPlans)

-- a certificate: its version, and what it says
pub record Certified : Type 0 where
  pub version : Version
  pub methods : Entries

-- ---- trees

-- how many trees there are after a node, its subtrees and so many more
abbrev pub trees_after : Node → ℕ → ℕ
trees_after (Bit o) n = suc (suc n)
trees_after (Parameter i c) n = suc (suc n)
trees_after (Reference i c) n = suc (suc n)
trees_after (Leaf k) n = n
trees_after Nowhere n = n

-- the nodes, each before its subtrees, are so many trees
abbrev pub are_trees : ℕ → List Node → Bool
are_trees zero [] = true
are_trees zero (x ∷ xs) = false
are_trees (suc n) [] = false
are_trees (suc n) (x ∷ xs) = are_trees (trees_after x n) xs

-- the depths of the trees that are to come after a node at a depth: those of its subtrees, and of others
abbrev pub owed_after : Node → ℕ → List ℕ → List ℕ
owed_after (Bit o) d owed = suc d ∷ suc d ∷ owed
owed_after (Parameter i c) d owed = suc d ∷ suc d ∷ owed
owed_after (Reference i c) d owed = suc d ∷ suc d ∷ owed
owed_after (Leaf k) d owed = owed
owed_after Nowhere d owed = owed

-- the depth of each node of trees, from the depths of their roots
abbrev pub depths : List ℕ → List Node → List ℕ
depths [] nodes = []
depths (d ∷ owed) [] = []
depths (d ∷ owed) (x ∷ nodes) = d ∷ depths (owed_after x d owed) nodes

-- ---- limits

abbrev pub node_limit : ℕ
node_limit = 4096

abbrev pub depth_limit : ℕ
depth_limit = 128

abbrev pub offset_limit : ℕ
offset_limit = 8192

abbrev pub step_limit : ℕ
step_limit = 2048

-- the most bits of a field that a plan chooses, and the most candidates and packed bits of the top: no part of a certificate, but of its validity
abbrev pub choice_limit : ℕ
choice_limit = 16

abbrev pub candidate_limit : ℕ
candidate_limit = 65536

abbrev pub packed_limit : ℕ
packed_limit = 8192

-- from - 2^127 to 2^127 - 1
abbrev pub IsWide : ℤ → Type 0
IsWide (pos n) = n < 2 ^ 127
IsWide (negsuc n) = n < 2 ^ 127

-- a tested bit is below the limit of offsets, and a constant has 128 bits
abbrev pub IsNodeKept : Node → Type 0
IsNodeKept (Bit o) = o < offset_limit
IsNodeKept (Parameter i c) = IsWide c
IsNodeKept (Reference i c) = IsWide c
IsNodeKept (Leaf k) = Unit {0}
IsNodeKept Nowhere = Unit {0}

-- only the second version tests references
abbrev pub IsNodeIn : Version → Node → Type 0
IsNodeIn One (Reference i c) = ⊥
IsNodeIn _ _ = Unit {0}

-- the nodes are one tree, whose root has the depth 1, within the limits
pub record IsTreeKept (tree : List Node) : Type 0 where
  pub whole : are_trees 1 tree ≡ true
  pub few : length tree ≤ node_limit
  pub shallow : AllByRecursion (λ d. d ≤ depth_limit) (depths (1 ∷ []) tree)
  pub each : AllByRecursion IsNodeKept tree

-- the number of its constraint has 64 bits
abbrev pub IsStepKept : Step → Type 0
IsStepKept (ConstraintLength i side n) = n < 2 ^ 64
IsStepKept (Solve i n) = n < 2 ^ 64
IsStepKept _ = Unit {0}

pub record IsPlanKept (steps : List Step) : Type 0 where
  pub few : length steps ≤ step_limit
  pub each : AllByRecursion IsStepKept steps

-- neither plan has too many steps
pub record ArePlansKept (plans : Plans) : Type 0 where
  pub read : IsPlanKept plans.read
  pub write : IsPlanKept plans.write

abbrev pub AreFormatsKept : List FormatPlans → Type 0
AreFormatsKept formats = (n : ℕ) (format : FormatPlans) (plans : Plans) → slice_get formats n ≡ Some format → format.plans ≡ Some plans → ArePlansKept plans

pub record IsMethodKept (version : Version) (method : MethodPlans) : Type 0 where
  pub tree : IsTreeKept method.tree
  pub versed : AllByRecursion (IsNodeIn version) method.tree
  pub formats : AreFormatsKept method.formats

-- each tree is whole and of nodes that the version has, and all is within the limits
pub record AreKept (c : Certified) : Type 0 where
  pub each : (k : ℕ) (method : MethodPlans) → slice_get c.methods k ≡ Some (Some method) → IsMethodKept c.version method
