-- A walk through a tree, node by node or by tables.
use Rattle.std.specs.Prelude.{◌≡◌, ℕ, ◌+◌, ◌<◌, Bool, List, ◌∷◌, drop, Option, Some, slice_get, ℤ}
use Rattle.cert_types.specs.declared.certificate.Node.{Node}
use Rattle.cert_types.specs.declared.certificate.Node.TheVariants as node
use Rattle.cert_rules.specs.Trees.{way}
use Rattle.cert_tables.specs.declared.picks.Next.{Next}
use Rattle.cert_tables.specs.declared.picks.Next.TheVariants as next
use Rattle.cert_tables.specs.Picked.{picked_of}

-- the bits from an offset on begin with those of the window
pub record Shows (bits window : List Bool) (o : ℕ) : Type 0 where
  pub each : (i : ℕ) (b : Bool) → slice_get window i ≡ Some b → slice_get bits (o + i) ≡ Some b

-- from the later place on the way leads where it leads from the earlier
pub record IsOn (refs : ℕ → Option ℤ) (bits : List Bool) (args : List ℤ) (nodes : List Node) (place after : ℕ) : Type 0 where
  pub further : place < after
  pub same : way refs bits args 0 (drop after nodes) ≡ way refs bits args 0 (drop place nodes)

-- from both places the way leads to the same, whatever the references and the arguments
abbrev pub IsSame : List Bool → List Node → ℕ → ℕ → Type 0
IsSame bits nodes place after = (refs : ℕ → Option ℤ) (args : List ℤ) → way refs bits args 0 (drop after nodes) ≡ way refs bits args 0 (drop place nodes)

-- what a step from a place says of the way
abbrev pub Steps : Next → (ℕ → Option ℤ) → List Bool → List ℤ → List Node → ℕ → Type 0
Steps (next.Node after) refs bits args nodes place = IsOn refs bits args nodes place after
Steps (next.End picked) refs bits args nodes place = picked ≡ picked_of (way refs bits args 0 (drop place nodes))
Steps (next.Reference field constant) refs bits args nodes place = drop place nodes ≡ node.Reference field constant ∷ drop (place + 1) nodes
