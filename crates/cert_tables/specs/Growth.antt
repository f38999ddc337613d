-- How the tables are made, one node after the other.
use Rattle.std.specs.Prelude.{◌≡◌, ℕ, suc, ◌-◌, ◌<◌, Bool, false, cond, List, [], ◌++◌, length, drop, slice_index_or, nat_eq}
use Rattle.std.specs.List.{list_any}
use Rattle.cert_types.specs.declared.certificate.Node.{Node}
use Rattle.cert_tables.specs.declared.maker.Making.{Making}
use Rattle.cert_tables.specs.Tables.{entry_limit, up_to, tables_from, tables_of}

-- the entries in the end, where these tables are still to come
abbrev pub in_the_end : Making → List (List ℕ) → List ℕ
in_the_end m tables = m.entries ++ cond m.is_full [] (up_to (entry_limit - length m.entries) tables)

-- the entries of these tables came, as far as they are made: whatever follows, the entries in the end are the same
abbrev pub AreNext : Making → Making → List (List ℕ) → Type 0
AreNext old new tables = (more : List (List ℕ)) → in_the_end new more ≡ in_the_end old (tables ++ more)

-- the entries before stay
abbrev pub Grows : List ℕ → List ℕ → Type 0
Grows old new = (more : List ℕ) × (new ≡ old ++ more)

-- the places below so many are marked that are named
abbrev pub AreMarked : ℕ → List ℕ → List Bool → Type 0
AreMarked most named marks = (m : ℕ) → m < most → slice_index_or marks m false ≡ list_any (nat_eq m) named

-- one node on: the marks are of what is named now, and the entries in the end are the same
pub record IsNext (old new : Making) (marks : List Bool) (named : List ℕ) (place : ℕ) (here after : List Node) : Type 0 where
  pub now_named : List ℕ
  pub marked : AreMarked (length marks) now_named marks
  pub same : (more : List (List ℕ)) → in_the_end new (tables_from now_named (suc place) after ++ more) ≡ in_the_end old (tables_from named place here ++ more)

-- so far from a beginning, before the node of a place
pub record IsUnderWay (old new : Making) (marks : List Bool) (nodes : List Node) (place : ℕ) : Type 0 where
  pub named : List ℕ
  pub marked : AreMarked (length marks) named marks
  pub same : (more : List (List ℕ)) → in_the_end new (tables_from named place (drop place nodes) ++ more) ≡ in_the_end old (tables_of nodes ++ more)
