-- Methods without the formats of those that have no mark.
use Rattle.std.specs.Prelude.{ℕ, suc, Bool, false, List, [], ◌∷◌, slice_index_or, if◌then◌else◌}
use Rattle.sem_profile.specs.declared.profile.Method.{Method}
use Rattle.sem_profile.specs.Uses.{without_formats}

abbrev pub is_marked_at : List Bool → ℕ → Bool
is_marked_at marks k = slice_index_or marks k false

-- each marked method as it is, each other one without formats; the first one's place is given
abbrev pub marked_from : List Bool → ℕ → List Method → List Method
marked_from marks k [] = []
marked_from marks k (m ∷ ms) = (if is_marked_at marks k then m else without_formats m) ∷ marked_from marks (suc k) ms
