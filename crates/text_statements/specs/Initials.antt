-- The values of INITIAL (docs/NOTATION.md).
use Rattle.std.specs.Prelude.{◌≡◌, ℕ, Bool, true, false, List, [], ◌∷◌, ◌++◌, Option, Some, None, slice_get, if◌then◌else◌}
use Rattle.std.specs.List.{All, filter_map, flat_map}
use Rattle.text_tree.specs.declared.tree.Bound.{Bound}
use Rattle.text_tree.specs.declared.tree.Item.{Item}
use Rattle.text_tree.specs.declared.tree.Item.TheVariants as items
use Rattle.text_tree.specs.declared.tree.Section.{Section}
use Rattle.text_tree.specs.Limits.{is_initial_kind}
use Rattle.sem_profile.specs.declared.fault.ProfileFault.{ProfileFault}
use Rattle.sem_profile.specs.Precedence.{Judged, comes_before}
use Rattle.sem_profile.specs.Words.{word, is_new, with_word}
use Rattle.text_statements.specs.Names.{Names}
use Rattle.text_statements.specs.Initial.{IsInitial, IsNoInitial}
use Rattle.text_statements.specs.declared.initials.Initials.{Initials}

abbrev pub bound_of : Item → Option Bound
bound_of (items.Bound b) = Some b
bound_of (items.Field name bracket) = None
bound_of (items.Enforce at condition) = None

-- the statements that bind a field
abbrev pub bounds_of : List Item → List Bound
bounds_of statements = filter_map bound_of statements

abbrev pub initial_part : Section → List Bound
initial_part section = if is_initial_kind section.kind then bounds_of section.items else []

-- the statements of INITIAL, in order
abbrev pub bounds_in : List Section → List Bound
bounds_in sections = flat_map initial_part sections

-- The values that statements give: each statement has bits, and of a field's several statements the first counts.
pub data AreInitials (s : Names) : List Bound → List (List ℕ) → List (List Bool) → Type 0 where
  no_values : AreInitials s [] [] []
  first : {bs : List Bound} {names : List (List ℕ)} {values : List (List Bool)} (b : Bound) (bits : List Bool) → AreInitials s bs names values
      → is_new names (word s.text b.name) ≡ true → IsInitial s b bits → AreInitials s (bs ++ b ∷ []) (names ++ word s.text b.name ∷ []) (values ++ bits ∷ [])
  again : {bs : List Bound} {names : List (List ℕ)} {values : List (List Bool)} (b : Bound) (bits : List Bool) → AreInitials s bs names values
      → is_new names (word s.text b.name) ≡ false → IsInitial s b bits → AreInitials s (bs ++ b ∷ []) names values

-- the statement has bits, or a fault that does not come before this one
pub data HasNoneBefore (s : Names) (f : ProfileFault) (b : Bound) : Type 0 where
  has_bits : (bits : List Bool) → IsInitial s b bits → HasNoneBefore s f b
  has_later : (g : ProfileFault) → IsNoInitial s b g → comes_before g f ≡ false → HasNoneBefore s f b

-- One of the statements gives its field no value. Of all their faults this one comes first.
pub data HasNoValue (s : Names) (bs : List Bound) : ProfileFault → Type 0 where
  has_no_value : {f : ProfileFault} (k : ℕ) (b : Bound) → slice_get bs k ≡ Some b → IsNoInitial s b f → All (HasNoneBefore s f) bs → HasNoValue s bs f

-- what is known once the statements are read
abbrev pub AreRead : Names → List Bound → Initials → Type 0
AreRead s bs read = Judged (AreInitials s bs read.names read.values) (HasNoValue s bs) read.fault

-- the statements are read after any others
abbrev pub ReadOn : Names → List Bound → Initials → Initials → Type 0
ReadOn s bs old new = (before : List Bound) → AreRead s before old → AreRead s (before ++ bs) new

-- the values with one more, unless the field has some
abbrev pub with_value : Initials → List ℕ → List Bool → Initials
with_value read name bits =
    record { names = with_word read.names name; values = if is_new read.names name then read.values ++ bits ∷ [] else read.values; fault = read.fault }
