-- The tables that stand in place of parts of decision trees (docs/DEFINITIONS.md, Tables).
use Rattle.std.specs.Prelude.{ℕ, zero, suc, ◌+◌, ◌-◌, ◌^◌, max, Bool, true, false, cond, ◌&&◌, List, [], ◌∷◌, ◌++◌, length, map, Option, Some, None, slice_get, nat_eq, nat_lt, nat_le}
use Rattle.std.specs.List.{list_any, range_with_len}
use Rattle.sem_bits.specs.Number.{enc}
use Rattle.cert_types.specs.declared.certificate.Node.{Node}
use Rattle.cert_types.specs.declared.certificate.Node.TheVariants as node
use Rattle.cert_types.specs.declared.certificate.MethodPlans.{MethodPlans}
use Rattle.cert_types.specs.Kept.{Entries, trees_after}

-- ---- the window of a table: some bits, from an offset on

-- the bit at which a test looks, where that is in the window
abbrev pub seen : List Bool → ℕ → ℕ → Option Bool
seen window o p = cond (nat_le o p) (slice_get window (p - o)) None

-- past a test by its bit, to the first tree or past it; no further where the bit is not seen
abbrev pub by_seen : Option Bool → (ℕ → ℕ) → ℕ
by_seen None on = 0
by_seen (Some false) on = suc (on 0)
by_seen (Some true) on = suc (on 1)

-- how many nodes are passed where all tests of bits in the window are followed, from the first tree after so many on
abbrev pub passed : List Bool → ℕ → ℕ → List Node → ℕ
passed window o n [] = 0
passed window o (suc n) (x ∷ nodes) = suc (passed window o (trees_after x n) nodes)
passed window o zero (node.Bit p ∷ nodes) = by_seen (seen window o p) (λ n. passed window o n nodes)
passed window o zero (node.Parameter i c ∷ nodes) = 0
passed window o zero (node.Reference i c ∷ nodes) = 0
passed window o zero (node.Leaf k ∷ nodes) = 0
passed window o zero (node.Nowhere ∷ nodes) = 0

-- ---- how many bits a table looks at

-- how far the bit of a test is from o, where it is one of the eight from o on
abbrev pub near : ℕ → Node → Option ℕ
near o (node.Bit p) = cond (nat_le o p && nat_lt (p - o) 8) (Some (p - o)) None
near o (node.Parameter i c) = None
near o (node.Reference i c) = None
near o (node.Leaf k) = None
near o node.Nowhere = None

-- past a near test, that one covered, to what its subtrees cover, or past another node
abbrev pub covering : Option ℕ → ℕ → ℕ → ℕ
covering None inside past = past
covering (Some n) inside past = max (suc n) inside

-- How many bits from o on cover all near tests that are reached through near tests alone. The nodes are other trees, so many, and then so many trees to look at.
abbrev pub cover : ℕ → ℕ → ℕ → List Node → ℕ
cover o others trees [] = 0
cover o (suc n) trees (x ∷ nodes) = cover o (trees_after x n) trees nodes
cover o zero zero (x ∷ nodes) = 0
cover o zero (suc n) (x ∷ nodes) = covering (near o x) (cover o 0 (suc (suc n)) nodes) (cover o (trees_after x 0) n nodes)

-- a table looks at so many bits: the least number that covers the tests of bits from its node on, all of them within eight
abbrev pub width : ℕ → List Node → ℕ
width o after = max 1 (cover o 0 2 after)

-- ---- the tables of trees

-- where the number of so many bits from o on leads from the test at a place: the place of the node
abbrev pub entry : ℕ → ℕ → ℕ → List Node → ℕ → ℕ
entry w o place nodes v = place + passed (enc w v) o 0 nodes

-- the table of a test of a bit at a place: for each number of its bits the node to which they lead
abbrev pub table : ℕ → ℕ → List Node → List ℕ
table o place after = let w = width o after in map (entry w o place (node.Bit o ∷ after)) (range_with_len 0 (2 ^ w))

-- the tables of the tests of bits from a place on that are named, by their places: here or by an entry of a table before
abbrev pub tables_from : List ℕ → ℕ → List Node → List (List ℕ)
tables_from named place [] = []
tables_from named place (node.Bit o ∷ nodes) =
    cond (list_any (nat_eq place) named) (table o place nodes ∷ tables_from (named ++ table o place nodes) (suc place) nodes) (tables_from named (suc place) nodes)
tables_from named place (node.Parameter i c ∷ nodes) = tables_from named (suc place) nodes
tables_from named place (node.Reference i c ∷ nodes) = tables_from named (suc place) nodes
tables_from named place (node.Leaf k ∷ nodes) = tables_from named (suc place) nodes
tables_from named place (node.Nowhere ∷ nodes) = tables_from named (suc place) nodes

-- those of a tree: its root is named
abbrev pub tables_of : List Node → List (List ℕ)
tables_of nodes = tables_from (0 ∷ []) 0 nodes

-- those of all trees, tree by tree
abbrev pub all_tables : List (List Node) → List (List ℕ)
all_tables [] = []
all_tables (nodes ∷ trees) = tables_of nodes ++ all_tables trees

-- the entries of the tables, up to the first table that would bring them above so many
abbrev pub up_to : ℕ → List (List ℕ) → List ℕ
up_to room [] = []
up_to room (t ∷ tables) = cond (nat_le (length t) room) (t ++ up_to (room - length t) tables) []

-- no more entries are made than these
abbrev pub entry_limit : ℕ
entry_limit = 65536

-- the entries of the tables that are made
abbrev pub made : List (List Node) → List ℕ
made trees = up_to entry_limit (all_tables trees)

-- the tree of what a certificate says of a method, none where it says nothing
abbrev pub tree_of : Option MethodPlans → List Node
tree_of None = []
tree_of (Some entry) = entry.tree

-- the entries of the tables of a certificate, method by method
abbrev pub entries_of : Entries → List ℕ
entries_of certificate = made (map tree_of certificate)
