-- The constraints of a format, in the order of their numbers (docs/NOTATION.md).
use Rattle.std.specs.Prelude.{◌≡◌, ◌&&◌, ◌+◌, ◌++◌, ℕ, Bool, false, List, [], ◌∷◌, Option, Some, None, fold, map, unwrap_or, slice_get, nat_eq, if◌then◌else◌}
use Rattle.text_tree.specs.declared.tree.Item.{Item}
use Rattle.text_tree.specs.declared.tree.Item.TheVariants as items
use Rattle.text_tree.specs.declared.tree.Section.{Section}
use Rattle.sem_expr.specs.declared.expr.Side.{Side}
use Rattle.sem_expr.specs.declared.expr.Side.TheVariants.{Uncompressed, Compressed}
use Rattle.sem_profile.specs.declared.fault.ProfileFault.{ProfileFault}
use Rattle.sem_profile.specs.declared.profile.Constraint.{Constraint}
use Rattle.sem_profile.specs.Precedence.{earlier}
use Rattle.text_sections.specs.declared.mention.Mention.{Mention}
use Rattle.text_sections.specs.declared.mention.Group.{Group}
use Rattle.text_sections.specs.declared.mention.Group.TheVariants as groups
use Rattle.text_sections.specs.Mentions.{is_in}
use Rattle.text_statements.specs.Names.{Names, field_of}
use Rattle.text_statements.specs.Constraints.{ItemMeans, item_fault}

-- a statement, and the side that its bracket is on
pub record Statement : Type 0 where
  pub side : Side
  pub item : Item

abbrev pub on : Side → Item → Statement
on side item = record { side = side; item = item }

-- those of the sections of a group
abbrev pub of_group : Side → Group → List Section → List Statement
of_group side group [] = []
of_group side group (s ∷ ss) = (if is_in group s.kind then map (on side) s.items else []) ++ of_group side group ss

-- ---- DEFAULT: the statements that are the encodings of fields

abbrev pub is_at : ℕ → ℕ → Option Mention → Bool
is_at section place (Some m) = nat_eq m.section section && nat_eq m.item place
is_at section place None = false

abbrev pub choice_of : List (Option Mention) → Option ℕ → Option Mention
choice_of chosen (Some i) = unwrap_or (slice_get chosen i) None
choice_of chosen None = None

-- its name is a field's, and that field is encoded by the statement at this place
abbrev pub is_used : Names → List (Option Mention) → ℕ → ℕ → Item → Bool
is_used s chosen section place (items.Bound b) = is_at section place (choice_of chosen (field_of s b.name))
is_used s chosen section place _ = false

abbrev pub used_from : Names → List (Option Mention) → ℕ → ℕ → List Item → List Statement
used_from s chosen section place [] = []
used_from s chosen section place (x ∷ xs) = (if is_used s chosen section place x then on Compressed x ∷ [] else []) ++ used_from s chosen section (place + 1) xs

abbrev pub defaults_from : Names → List (Option Mention) → ℕ → List Section → List Statement
defaults_from s chosen k [] = []
defaults_from s chosen k (x ∷ xs) = (if is_in groups.Default x.kind then used_from s chosen k 0 x.items else []) ++ defaults_from s chosen (k + 1) xs

-- ---- the whole

-- UNCOMPRESSED and CONTROL, where a bracket is on the uncompressed side; then the statements of DEFAULT that are used, and the format's own
abbrev pub statements : Names → List (Option Mention) → List Section → List Item → List Statement
statements s chosen sections own =
    of_group Uncompressed groups.Header sections ++ (of_group Uncompressed groups.Control sections ++ (defaults_from s chosen 0 sections ++ map (on Compressed) own))

-- the constraints of statements, one after the other
pub data AreNumbered (s : Names) : List Statement → List Constraint → Type 0 where
  none : AreNumbered s [] []
  more : {x : Statement} {xs : List Statement} {cs ds : List Constraint} → ItemMeans s x.side x.item cs → AreNumbered s xs ds → AreNumbered s (x ∷ xs) (cs ++ ds)

abbrev pub statement_fault : Names → Statement → Option ProfileFault
statement_fault s x = item_fault s x.item

-- what is found and the fault so far, where these statements of the whole are still to come
pub record Leads (s : Names) (rest whole : List Statement) (found : List Constraint) (fault : Option ProfileFault) : Type 0 where
  pub faults : fold (λ f x. earlier f (statement_fault s x)) fault rest ≡ fold (λ f x. earlier f (statement_fault s x)) None whole
  pub finds : fault ≡ None → (cs : List Constraint) → AreNumbered s rest cs → AreNumbered s whole (found ++ cs)
