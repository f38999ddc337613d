-- What is wrong with a decision tree (docs/DEFINITIONS.md, Certificates): the first node that is not right, and by which format.
use Rattle.std.specs.Prelude.{◌≡◌, ◌≢◌, ℕ, ◌<◌, ◌≤◌, List, [], ◌∷◌, slice_get, Some, ℤ}
use Rattle.sem_expr.specs.declared.interval.Interval.{Interval}
use Rattle.sem_expr.specs.Rules.{IsIn}
use Rattle.sem_profile.specs.declared.profile.Format.{Format}
use Rattle.sem_profile.specs.declared.profile.MethodSizes.{MethodSizes}
use Rattle.cert_types.specs.declared.certificate.Node.{Node}
use Rattle.cert_types.specs.declared.certificate.Node.TheVariants.{Bit, Parameter, Reference, Leaf, Nowhere}
use Rattle.cert_rules.specs.Refusals.{RightBefore}
use Rattle.cert_rules.specs.Trees.{Reach, reach_at, Reaches, IsShort, everything}
use Rattle.cert_trees.specs.declared.fault.TreeFault.{TreeFault}
use Rattle.cert_trees.specs.declared.fault.TreeFault.TheVariants.{WrongLeaf, ShortFormat, OutOfRange, BeyondWord}

-- the node at the place and what reaches it, after nodes that are right
pub record Stands (formats : List Format) (s : MethodSizes) (nodes : List Node) (place : ℕ) (x : Node) (reach : Reach) : Type 0 where
  pub node_at : slice_get nodes place ≡ Some x
  pub reach_is : reach_at (everything ∷ []) nodes place ≡ Some reach
  pub before : RightBefore formats s nodes place

-- Each fault, with what shows it: no node before it is at fault, and at it no format before this one.
pub data IsTreeFault (formats : List Format) (s : MethodSizes) (nodes : List Node) : TreeFault → Type 0 where
  leaf_reached : {place n : ℕ} (j : ℕ) (reach : Reach) → Stands formats s nodes place (Leaf j) reach →
      Reaches formats s reach n → n ≢ j → ((k : ℕ) → k < n → Reaches formats s reach k → k ≡ j) → IsTreeFault formats s nodes (WrongLeaf place n)
  nowhere_reached : {place n : ℕ} (reach : Reach) → Stands formats s nodes place Nowhere reach →
      Reaches formats s reach n → ((k : ℕ) → k < n → Reaches formats s reach k → ⊥) → IsTreeFault formats s nodes (WrongLeaf place n)
  bit_past : {place n : ℕ} (o : ℕ) (reach : Reach) → Stands formats s nodes place (Bit o) reach →
      (r : Reaches formats s reach n) → r.sizes.whole.compressed.least ≤ o → ((k : ℕ) → k < n → (q : Reaches formats s reach k) → o < q.sizes.whole.compressed.least) →
      IsTreeFault formats s nodes (ShortFormat place n)
  constant_outside : {place : ℕ} (i : ℕ) (c : ℤ) (range : Interval) (reach : Reach) → Stands formats s nodes place (Parameter i c) reach →
      slice_get s.parameters i ≡ Some range → (IsIn range c → ⊥) → IsTreeFault formats s nodes (OutOfRange place)
  reference_beyond : {place : ℕ} (i : ℕ) (c : ℤ) (reach : Reach) → Stands formats s nodes place (Reference i c) reach → (IsShort c → ⊥) → IsTreeFault formats s nodes (BeyondWord place)
