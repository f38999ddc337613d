-- How far a context has gone on by the entries that come first in it.
use Rattle.std.specs.Prelude.{◌≡◌, ℕ, Bool, List, ◌++◌, length, drop, fold, IsTrue}
use Rattle.std.specs.Map.{keys_of}
use Rattle.sem_context.specs.Entries.{Entries, with_bits_at}
use Rattle.sem_filling.specs.Entries.{Path}
use Rattle.sem_pages.specs.declared.entries.Progress.{Progress}

-- entries with bits put at places, one after the other
abbrev pub changed : Entries → List (ℕ × List Bool) → Entries
changed es changes = fold (λ done c. with_bits_at done c.0 c.1) es changes

-- These entries have the paths that come first in the context, and as many are passed; the changes put them in their places.
pub record IsPassed (ctx : Entries) (p : Progress) (es : Entries) : Type 0 where
  pub count : length es ≡ p.passed
  pub more : List Path
  pub paths_are : keys_of ctx ≡ keys_of es ++ more
  pub changed_are : changed ctx p.changes.items ≡ es ++ drop p.passed ctx

-- the paths of these entries come first in the context, in their order
abbrev pub HasFirst : Entries → Entries → Type 0
HasFirst ctx es = (more : List Path) × (keys_of ctx ≡ keys_of es ++ more)

-- they do where that is said to be known
abbrev pub WhereKnown : Bool → Entries → Entries → Type 0
WhereKnown known ctx es = IsTrue known → HasFirst ctx es

-- where some entries were passed, these are passed after them, if their paths come next where that is said to be known
abbrev pub GoesOn : Bool → Entries → Progress → Progress → Entries → Type 0
GoesOn known ctx old new es = (before : Entries) → IsPassed ctx old before → WhereKnown known ctx (before ++ es) → IsPassed ctx new (before ++ es)
