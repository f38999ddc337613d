-- The depths of a tree's nodes, one after the other.
use Rattle.std.proofs.Common.{◌≡◌, subst, ℕ, ◌<◌, ◌≤◌, List, ◌∷◌, arith}
use Rattle.std.specs.List.{AllByRecursion}
use Rattle.cert_types.specs.declared.certificate.Node.{Node}
use Rattle.cert_types.specs.Kept.{depths, depth_limit}
use Rattle.cert_prove.specs.Growing.{IsShallow}

-- the trees that are still to come are as shallow as the whole
abbrev pub AreShallow : List ℕ → List Node → Type 0
AreShallow owed nodes = AllByRecursion (λ d. d ≤ depth_limit) (depths owed nodes)

-- what is left decides the whole
pub record DeepTo (nodes rest : List Node) (owed : List ℕ) : Type 0 where
  pub onward : AreShallow owed rest → IsShallow nodes
  pub back : IsShallow nodes → AreShallow owed rest

module _ (nodes rest more : List Node) (owed others : List ℕ) (depth : ℕ) (x : Node) (is : owed ≡ depth ∷ others) (next : rest ≡ x ∷ more) where
  opened : AreShallow owed rest → AreShallow (depth ∷ others) (x ∷ more)
  opened h = subst (AreShallow (depth ∷ others)) next (subst (λ ds. AreShallow ds rest) is h)

  pub too_deep : depth_limit < depth → DeepTo nodes rest owed → IsShallow nodes → ⊥
  too_deep lt so h = let first = (opened (so.back h)).0 in omega (arith, lt, first)
