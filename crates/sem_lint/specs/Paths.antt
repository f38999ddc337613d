-- At which paths a profile has fields (docs/DEFINITIONS.md, What lint tells).
use Rattle.std.specs.Prelude.{◌≡◌, ℕ, ◌&&◌, Bool, true, false, not, nat_eq, List, [], ◌∷◌, ◌++◌, slice_get, Option, Some, None}
use Rattle.std.specs.List.{list_any}
use Rattle.std.specs.Str.{bytes_eq}
use Rattle.sem_profile.specs.declared.profile.Encoding.{Encoding}
use Rattle.sem_profile.specs.declared.profile.Encoding.TheVariants as encoding
use Rattle.sem_profile.specs.declared.profile.Field.{Field}
use Rattle.sem_profile.specs.declared.profile.Format.{Format}
use Rattle.sem_profile.specs.declared.profile.Method.{Method}
use Rattle.sem_profile.specs.Resolved.{Resolved}
pub use Rattle.sem_lint.specs.Spelled.{is_local}

-- the method that a field calls
abbrev pub called_by : Encoding → Option ℕ
called_by (encoding.Call m arguments) = Some m
called_by _ = None

abbrev pub is_some_number : Option ℕ → ℕ → Bool
is_some_number (Some n) m = nat_eq n m
is_some_number None m = false

-- a field of this name, which calls the method m
abbrev pub calls_by : List ℕ → ℕ → Field → Bool
calls_by name m d = bytes_eq d.declared.name name && is_some_number (called_by d.encoding) m

abbrev pub calls_in : List ℕ → ℕ → Format → Bool
calls_in name m f = list_any (calls_by name m) f.fields

abbrev pub calls_of : List ℕ → ℕ → Option Method → Bool
calls_of name m (Some method) = list_any (calls_in name m) method.formats
calls_of name m None = false

-- some format of the method k has such a field
abbrev pub calls : List Method → ℕ → List ℕ → ℕ → Bool
calls methods k name m = calls_of name m (slice_get methods k)

-- a header or control field of this name, which leaves an entry in the context
abbrev pub keeps_by : List ℕ → Field → Bool
keeps_by name d = not (is_local d.declared.part) && bytes_eq d.declared.name name

abbrev pub keeps_in : List ℕ → Format → Bool
keeps_in name f = list_any (keeps_by name) f.fields

abbrev pub keeps_of : List ℕ → Option Method → Bool
keeps_of name (Some method) = list_any (keeps_in name) method.formats
keeps_of name None = false

-- some format of the method k has one
abbrev pub keeps : List Method → ℕ → List ℕ → Bool
keeps methods k name = keeps_of name (slice_get methods k)

-- The path leads from the method k to a header or control field: it is the name of one of the method's own, or the name of a field that calls a method, a dot, and a path
-- that leads on from there.
pub data LeadsToField (methods : List Method) : ℕ → List ℕ → Type 0 where
  own : (k : ℕ) (name : List ℕ) → keeps methods k name ≡ true → LeadsToField methods k name
  inside : (k m : ℕ) (name rest : List ℕ) → calls methods k name m ≡ true → LeadsToField methods m rest → LeadsToField methods k (name ++ 46 ∷ rest)

-- no format has a header or control field at the path
abbrev pub IsUnknown : Resolved → List ℕ → Type 0
IsUnknown p path = LeadsToField p.methods p.top path → ⊥

-- of a list those of which this is so, in their order
pub data AreThose {A : Type 0} (P : A → Type 0) : List A → List A → Type 0 where
  no_more : AreThose P [] []
  that : {x : A} {xs found : List A} → P x → AreThose P xs found → AreThose P (x ∷ xs) (x ∷ found)
  not_that : {x : A} {xs found : List A} → (P x → ⊥) → AreThose P xs found → AreThose P (x ∷ xs) found

-- the path was added, where no field is there
pub data IsNoted (methods : List Method) (top : ℕ) (path : List ℕ) : List (List ℕ) → List (List ℕ) → Type 0 where
  added : {found : List (List ℕ)} → (LeadsToField methods top path → ⊥) → IsNoted methods top path found (found ++ path ∷ [])
  known : {found : List (List ℕ)} → LeadsToField methods top path → IsNoted methods top path found found

-- ---- methods that are reached by the first names of a path

abbrev pub has : List ℕ → ℕ → Bool
has methods m = list_any (λ k. nat_eq k m) methods

-- some of the methods calls m by a field of this name
abbrev pub any_calls : List Method → List ℕ → List ℕ → ℕ → Bool
any_calls methods reached name m = list_any (λ k. calls methods k name m) reached

-- a field that one of the methods has is led to by the path
pub record OneLeads (methods : List Method) (reached : List ℕ) (path : List ℕ) : Type 0 where
  pub method : ℕ
  pub is_reached : has reached method ≡ true
  pub leads : LeadsToField methods method path
