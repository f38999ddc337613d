-- What the tables keep (docs/DEFINITIONS.md, Tables).
use Rattle.std.specs.Prelude.{◌≡◌, ℕ, zero, suc, ◌+◌, ◌^◌, ◌<◌, ◌≤◌, List, [], ◌∷◌, length, drop, Option, Some, slice_get, slice_index_or}
use Rattle.cert_types.specs.declared.certificate.Node.{Node}
use Rattle.cert_types.specs.declared.certificate.Node.TheVariants as node
use Rattle.cert_tables.specs.declared.table.TableStart.{TableStart}
use Rattle.cert_tables.specs.declared.table.Tables.{Tables}
use Rattle.cert_tables.specs.declared.table.TreeTables.{TreeTables}
use Rattle.cert_types.specs.declared.certificate.MethodPlans.{MethodPlans}
use Rattle.cert_types.specs.Kept.{Entries, trees_after}
use Rattle.cert_tables.specs.Tables.{entry, entries_of, tree_of}

-- how many nodes so many trees have
abbrev pub past : ℕ → List Node → ℕ
past zero nodes = 0
past (suc n) [] = 0
past (suc n) (x ∷ nodes) = suc (past (trees_after x n) nodes)

-- the sizes are those of the subtrees from a place on
abbrev pub AreSizesFrom : ℕ → List Node → List ℕ → Type 0
AreSizesFrom from nodes sizes = (n : ℕ) → from ≤ n → slice_index_or sizes n 0 ≡ past 1 (drop n nodes)

-- the entries from the start on are those of the test at the place, for so many bits from its offset on
pub record IsStart (entries : List ℕ) (nodes : List Node) (place : ℕ) (s : TableStart) : Type 0 where
  pub offset : ℕ
  pub after : List Node
  pub test : drop place nodes ≡ node.Bit offset ∷ after
  pub wide : 1 ≤ s.width
  pub narrow : s.width ≤ 8
  pub told : (v : ℕ) → v < 2 ^ s.width → slice_get entries (s.first + v) ≡ Some (entry s.width offset place (drop place nodes) v)

-- each start is that of its node
abbrev pub AreStarts : List ℕ → List Node → List (Option TableStart) → Type 0
AreStarts entries nodes starts = (n : ℕ) (s : TableStart) → slice_get starts n ≡ Some (Some s) → IsStart entries nodes n s

-- the sizes are those of the subtrees, and each start is that of its node
pub record Serves (entries : List ℕ) (nodes : List Node) (t : TreeTables) : Type 0 where
  pub sized : AreSizesFrom 0 nodes t.sizes
  pub started : AreStarts entries nodes t.starts

-- what is kept of trees serves the entries at their places
abbrev pub AreServed : List ℕ → Entries → List TreeTables → Type 0
AreServed entries certificate trees = (k : ℕ) (entry : Option MethodPlans) (tree : TreeTables) → slice_get certificate k ≡ Some entry → slice_get trees k ≡ Some tree → Serves entries (tree_of entry) tree

-- The tables of a certificate: their entries, and for each method what is kept of its tree.
pub record AreTables (certificate : Entries) (t : Tables) : Type 0 where
  pub made : t.entries ≡ entries_of certificate
  pub as_many : length t.trees ≡ length certificate
  pub served : AreServed t.entries certificate t.trees
