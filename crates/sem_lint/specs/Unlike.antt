-- Methods whose formats don't call alike (docs/DEFINITIONS.md, What lint tells).
use Rattle.std.specs.Prelude.{◌≡◌, ◌↔◌, ℕ, ◌||◌, Bool, true, not, List, [], ◌∷◌, slice_get, Option, Some, None, suc, flat_map, if◌then◌else◌}
use Rattle.std.specs.List.{enumerate_from, list_all}
use Rattle.std.specs.Option.{option_or}
use Rattle.sem_profile.specs.declared.profile.Field.{Field}
use Rattle.sem_profile.specs.declared.profile.Format.{Format}
use Rattle.sem_profile.specs.declared.profile.Method.{Method}
use Rattle.sem_elsewhere.specs.Paths.{CallAlike}
use Rattle.sem_lint.specs.declared.unlike.UnlikeCall.{UnlikeCall}
use Rattle.sem_lint.specs.Paths.{called_by, is_local, is_some_number}

-- the field of a format, if there is one, calls the method j
abbrev pub calls_it : ℕ → Option Field → Bool
calls_it j (Some d) = is_some_number (called_by d.encoding) j
calls_it j None = true

-- the field i does so in each format
abbrev pub call_it : ℕ → ℕ → List Format → Bool
call_it i j formats = list_all (λ (g : Format). calls_it j (slice_get g.fields i)) formats

-- The field i calls the method j, and is of one format alone or calls another method, or none, in another format.
abbrev pub is_unlike : List Format → ℕ → Field → ℕ → Bool
is_unlike formats i d j = is_local d.declared.part || not (call_it i j formats)

abbrev pub unlike_by : ℕ → List Format → ℕ → ℕ → Field → Option ℕ → Option UnlikeCall
unlike_by k formats n i d (Some j) = if is_unlike formats i d j then Some (record { method = k; format = n; field = i; callee = j }) else None
unlike_by k formats n i d None = None

abbrev pub unlike_field : ℕ → List Format → ℕ → ℕ → Field → Option UnlikeCall
unlike_field k formats n i d = unlike_by k formats n i d (called_by d.encoding)

-- the first such field of a format, counted from i
abbrev pub unlike_fields : ℕ → List Format → ℕ → ℕ → List Field → Option UnlikeCall
unlike_fields k formats n i [] = None
unlike_fields k formats n i (d ∷ ds) = option_or (unlike_field k formats n i d) (unlike_fields k formats n (suc i) ds)

-- the first one of a method's formats, counted from n
abbrev pub unlike_formats : ℕ → List Format → ℕ → List Format → Option UnlikeCall
unlike_formats k formats n [] = None
unlike_formats k formats n (f ∷ fs) = option_or (unlike_fields k formats n 0 f.fields) (unlike_formats k formats (suc n) fs)

abbrev pub told_call : Option UnlikeCall → List UnlikeCall
told_call (Some x) = x ∷ []
told_call None = []

abbrev pub unlike_method : ℕ → Method → List UnlikeCall
unlike_method k m = told_call (unlike_formats k m.formats 0 m.formats)

-- the first one of each method, in the order of the text
abbrev pub unlike_calls : List Method → List UnlikeCall
unlike_calls methods = flat_map (λ (m : ℕ × Method). unlike_method m.0 m.1) (enumerate_from 0 methods)

-- There is none just where the formats of each method call alike.
abbrev pub SilentWhereAlike : Type 0
SilentWhereAlike = (methods : List Method) → (unlike_calls methods ≡ []) ↔ CallAlike methods
