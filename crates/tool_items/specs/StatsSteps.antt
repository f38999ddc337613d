-- What is said of the rows of `stats` while they are made from sums: whatever fillings the sums are over, as deep as these are.
use Rattle.std.specs.Prelude.{◌≡◌, ℕ, suc, ◌≤◌, List, ◌++◌, Option}
use Rattle.sem_filling.specs.declared.filling.Filling.{Filling}
use Rattle.sem_profile.specs.declared.profile.Method.{Method}
use Rattle.tool_items.specs.declared.sums.Sums.{Sums}
use Rattle.tool_items.specs.declared.sums.FormatSums.{FormatSums}
use Rattle.tool_items.specs.declared.sums.PlaceSums.{PlaceSums}
use Rattle.tool_items.specs.Counts.{bits_of_field, insides, tally_format}
use Rattle.tool_items.specs.Depth.{deepest}
use Rattle.tool_items.specs.Sums as sums
use Rattle.tool_items.specs.Stats.{field_rows, format_rows, formats_rows, inner_rows, listed_rows, rows, rows_inside}
use Rattle.tool_names.specs.Names.{callee, encoding_at, field_name, formats_of}
use Rattle.tool_items.specs.Counted.{Counted}

-- the sums of a format are those over the fillings that have it; and those of a place of it
pub record IsOfFormat (n : ℕ) (fs : List Filling) (r : sums.Row) : Type 0 where
  pub all_is : r.all ≡ tally_format n fs
  pub places_are : (p : ℕ) → (sums.spot_in r.places p).bits ≡ bits_of_field n p fs
  pub insides_are : (p : ℕ) → sums.AreBelow (insides n p fs) (sums.spot_in r.places p).inside

pub record IsOfPlace (n p : ℕ) (fs : List Filling) (s : sums.Spot) : Type 0 where
  pub bits_are : s.bits ≡ bits_of_field n p fs
  pub inside_is : sums.AreBelow (insides n p fs) s.inside

-- the rows go on by these
abbrev pub Add : List Counted → List Counted → List Counted → Type 0
Add more old new = new ≡ old ++ more

abbrev pub AreRows : List Method → ℕ → Sums → List Counted → Type 0
AreRows methods top s are = (fs : List Filling) → sums.AreSums fs s → are ≡ rows methods top fs

abbrev pub AddFormats : List Method → ℕ → Sums → List Counted → List Counted → Type 0
AddFormats methods top s old new = (fs : List Filling) (d : ℕ) → sums.AreSums fs s → deepest fs ≤ suc d → Add (formats_rows (rows_inside d methods) methods top (formats_of methods top) fs) old new

abbrev pub AddFormat : List Method → ℕ → ℕ → List ℕ → Sums → List Counted → List Counted → Type 0
AddFormat methods top n listing s old new = (fs : List Filling) (d : ℕ) → sums.AreSums fs s → deepest fs ≤ suc d → Add (format_rows (rows_inside d methods) methods top n listing fs) old new

abbrev pub AddFields : List Method → ℕ → ℕ → List ℕ → ℕ → FormatSums → List Counted → List Counted → Type 0
AddFields methods k n listing depth g old new =
    (fs : List Filling) (d : ℕ) → IsOfFormat n fs (sums.row_of g) → deepest fs ≤ suc d → Add (listed_rows (rows_inside d methods) methods k n depth listing fs) old new

abbrev pub AddListed : List Method → ℕ → ℕ → ℕ → ℕ → ℕ → FormatSums → List Counted → List Counted → Type 0
AddListed methods k n p i depth g old new =
    (fs : List Filling) (d : ℕ) → IsOfFormat n fs (sums.row_of g) → deepest fs ≤ suc d → Add (field_rows (rows_inside d methods) (field_name methods k n i) (callee (encoding_at methods k n i)) depth n p fs) old new

abbrev pub AddField : List Method → ℕ → List ℕ → Option ℕ → ℕ → PlaceSums → List Counted → List Counted → Type 0
AddField methods items name called depth q old new =
    (n p : ℕ) (fs : List Filling) (d : ℕ) → IsOfPlace n p fs (sums.spot_of q) → items ≡ (tally_format n fs).items → deepest fs ≤ suc d → Add (field_rows (rows_inside d methods) name called depth n p fs) old new

abbrev pub AddInside : List Method → ℕ → ℕ → Sums → List Counted → List Counted → Type 0
AddInside methods k depth s old new = (fs : List Filling) (d : ℕ) → sums.AreSums fs s → deepest fs ≤ suc d → Add (rows_inside (suc d) methods k depth fs) old new

abbrev pub AddInner : List Method → ℕ → ℕ → List ℕ → ℕ → Sums → List Counted → List Counted → Type 0
AddInner methods k n listing depth s old new = (fs : List Filling) (d : ℕ) → sums.AreSums fs s → deepest fs ≤ suc d → Add (inner_rows (rows_inside d methods) methods k depth n listing fs) old new

abbrev pub AddInnerFormat : List Method → ℕ → ℕ → List ℕ → ℕ → FormatSums → List Counted → List Counted → Type 0
AddInnerFormat methods k n listing depth g old new =
    (fs : List Filling) (d : ℕ) → IsOfFormat n fs (sums.row_of g) → deepest fs ≤ suc d → Add (inner_rows (rows_inside d methods) methods k depth n listing fs) old new
