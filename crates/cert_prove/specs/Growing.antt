-- The tree of the prover's order, and why a method has none (docs/DEFINITIONS.md, Trees of the prover's order).
use Rattle.std.specs.Prelude.{◌≡◌, ℕ, ◌<◌, ◌≤◌, Bool, true, false, not, List, [], ◌∷◌, ◌++◌, length, Some, None, slice_get}
use Rattle.std.specs.List.{filter, items_where_true, AllByRecursion}
use Rattle.sem_expr.specs.declared.interval.Interval.{Interval}
use Rattle.sem_profile.specs.declared.profile.Format.{Format}
use Rattle.sem_profile.specs.declared.profile.MethodSizes.{MethodSizes}
use Rattle.cert_types.specs.declared.certificate.Version.{Version}
use Rattle.cert_types.specs.declared.certificate.Node.{Node}
use Rattle.cert_types.specs.declared.certificate.Node.TheVariants.{Bit, Parameter, Reference, Leaf, Nowhere}
use Rattle.cert_types.specs.Kept.{IsNodeKept, are_trees, depths, node_limit, depth_limit, offset_limit}
use Rattle.cert_rules.specs.Trees.{Reach, reach_at, everything, lacks_bit, never_at, only_at, never_refers, only_refers}
use Rattle.cert_prove.specs.declared.tree.Unparted.{Unparted}
use Rattle.cert_prove.specs.declared.tree.Unparted.TheVariants as unparted
use Rattle.cert_prove.specs.Tree.{Numbered, all_of, TreeRule, NodeRule}

-- ---- the tree

-- those of a set that reach
abbrev pub those : Reach → List Numbered → List Numbered
those reach set = filter (λ z. reach z.format z.sizes) set

-- The nodes are one tree, and each is that of the set of formats that reach it.
pub record OrderedTree (version : Version) (formats : List Format) (s : MethodSizes) (nodes : List Node) : Type 0 where
  pub whole : are_trees 1 nodes ≡ true
  pub each : (n : ℕ) (x : Node) (reach : Reach) → slice_get nodes n ≡ Some x → reach_at (everything ∷ []) nodes n ≡ Some reach → NodeRule version s.parameters (those reach (all_of formats s)) x

-- ---- its growth

-- the sets that go on to a node's subtrees
abbrev pub subsets : List Numbered → Node → List (List Numbered)
subsets set (Bit o) = filter (λ z. lacks_bit true o z.format z.sizes) set ∷ filter (λ z. lacks_bit false o z.format z.sizes) set ∷ []
subsets set (Parameter p c) = filter (λ z. not (never_at p c z.format)) set ∷ filter (λ z. not (only_at p c z.format)) set ∷ []
subsets set (Reference i c) = filter (λ z. not (never_refers i c z.format)) set ∷ filter (λ z. not (only_refers i c z.format)) set ∷ []
subsets set (Leaf n) = []
subsets set Nowhere = []

-- from these sets on, the first of them first, the nodes in preorder are those of the rule, and then these sets are left
pub data Grows (version : Version) (ranges : List Interval) : List (List Numbered) → List Node → List (List Numbered) → Type 0 where
  stops : {sets : List (List Numbered)} → Grows version ranges sets [] sets
  goes_on : {sets left : List (List Numbered)} {nodes : List Node} (set : List Numbered) (x : Node) → NodeRule version ranges set x → Grows version ranges (subsets set x ++ sets) nodes left → Grows version ranges (set ∷ sets) (x ∷ nodes) left

-- the same from all formats of a method
abbrev pub GrowsFromAll : Version → List Format → MethodSizes → List Node → List (List Numbered) → Type 0
GrowsFromAll version formats s nodes left = Grows version s.parameters (all_of formats s ∷ []) nodes left

-- ---- why there is no tree

-- two or more formats of the method, in file order, for which the rule has no test
pub record Stuck (version : Version) (formats : List Format) (s : MethodSizes) (set : List Numbered) : Type 0 where
  pub marks : List Bool
  pub some : set ≡ items_where_true marks (all_of formats s)
  pub first : Numbered
  pub second : Numbered
  pub others : List Numbered
  pub is : set ≡ first ∷ second ∷ others
  pub no_test : TreeRule version s.parameters set None

-- the growth comes to a stuck set, whose first two formats these are, and passed no limit before: the set counts as a node, too
pub record ComesToStuck (version : Version) (formats : List Format) (s : MethodSizes) (first second : ℕ) : Type 0 where
  pub set : List Numbered
  pub stuck : Stuck version formats s set
  pub first_is : first ≡ stuck.first.number
  pub second_is : second ≡ stuck.second.number
  pub nodes : List Node
  pub left : List (List Numbered)
  pub grown : GrowsFromAll version formats s nodes (set ∷ left)
  pub few : length nodes < node_limit
  pub near : AllByRecursion IsNodeKept nodes

-- no node is deeper than it may be, where the root's depth is 1
abbrev pub IsShallow : List Node → Type 0
IsShallow nodes = AllByRecursion (λ d. d ≤ depth_limit) (depths (1 ∷ []) nodes)

-- The growth passes a limit of certificates: as many nodes as may be have grown, and a set is left; the next test is of a bit past the limit of offsets; or the whole tree is too deep.
pub data PassesLimit (version : Version) (formats : List Format) (s : MethodSizes) : Type 0 where
  too_many : (nodes : List Node) (set : List Numbered) (left : List (List Numbered)) → GrowsFromAll version formats s nodes (set ∷ left) → length nodes ≡ node_limit → PassesLimit version formats s
  too_far : (nodes : List Node) (set : List Numbered) (left : List (List Numbered)) (o : ℕ) → GrowsFromAll version formats s nodes (set ∷ left) → NodeRule version s.parameters set (Bit o) → offset_limit ≤ o → PassesLimit version formats s
  too_deep : (nodes : List Node) → GrowsFromAll version formats s nodes [] → (IsShallow nodes → ⊥) → PassesLimit version formats s

-- why the method has no tree
abbrev pub IsUnparted : Version → List Format → MethodSizes → Unparted → Type 0
IsUnparted version formats s (unparted.Stuck first second) = ComesToStuck version formats s first second
IsUnparted version formats s unparted.Limit = PassesLimit version formats s
IsUnparted version formats s unparted.OutOfMemory = Unit {0}
