-- Formats by which a wrong reference is not noticed (docs/DEFINITIONS.md, What lint tells).
use Rattle.std.specs.Prelude.{◌≡◌, ◌↔◌, ◌⊎◌, ℕ, ◌&&◌, ◌||◌, Bool, true, false, not, nat_eq, List, [], ◌∷◌, slice_get, Option, Some, None, suc, flat_map, map, if◌then◌else◌}
use Rattle.std.specs.List.{enumerate_from, list_any}
use Rattle.sem_expr.specs.declared.expr.Side.{Side}
use Rattle.sem_expr.specs.declared.expr.Side.TheVariants as side
use Rattle.sem_expr.specs.declared.expr.Subject.{Subject}
use Rattle.sem_expr.specs.declared.expr.Subject.TheVariants as subject
use Rattle.sem_profile.specs.declared.profile.CrcArguments.{CrcArguments}
use Rattle.sem_profile.specs.declared.profile.Encoding.{Encoding}
use Rattle.sem_graph.specs.Calls.{Reaches}
use Rattle.sem_graph.specs.Order.{is_marked}
use Rattle.sem_profile.specs.declared.profile.Field.{Field}
use Rattle.sem_profile.specs.declared.profile.Format.{Format}
use Rattle.sem_profile.specs.declared.profile.Method.{Method}
use Rattle.sem_profile.specs.Resolved.{Resolved}
use Rattle.sem_elsewhere.specs.Uses.{StandsAlone}
use Rattle.sem_lint.specs.declared.unnoticed.Unnoticed.{Unnoticed}
use Rattle.sem_lint.specs.Marks.{marked_at}
use Rattle.sem_lint.specs.Needs.{is_dead, takes_reference, TellsObstacles}
use Rattle.sem_lint.specs.Obstacles.{crc_in}
use Rattle.sem_lint.specs.Paths.{called_by}
use Rattle.sem_lint.specs.Sites.{format_in}

-- ---- checksums

abbrev pub is_of_header : Side → Bool
is_of_header side.Uncompressed = true
is_of_header side.Compressed = false

-- THIS counts for each field
abbrev pub is_over : ℕ → Subject → Bool
is_over i subject.This = true
is_over i (subject.Field j) = nat_eq j i

abbrev pub covers_by : ℕ → Option CrcArguments → Bool
covers_by i (Some crc) = is_of_header crc.side && is_over i crc.subject
covers_by i None = false

-- a `crc` over what THIS or the field i is in the header
abbrev pub covers : ℕ → Encoding → Bool
covers i e = covers_by i (crc_in e)

-- the format has one
abbrev pub is_checked : Format → ℕ → Bool
is_checked f i = list_any (λ (d : Field). covers i d.encoding) f.fields

-- ---- the rule

-- a format of the method k without an obstacle calls the method j by a field that isn't checked in it
pub record CallsUnchecked (methods : List Method) (dead : List (List Bool)) (k j : ℕ) : Type 0 where
  pub number : ℕ
  pub format : Format
  pub format_is : format_in methods k number ≡ Some format
  pub alive : is_dead dead k number ≡ false
  pub place : ℕ
  pub field : Field
  pub field_at : slice_get format.fields place ≡ Some field
  pub unchecked : is_checked format place ≡ false
  pub called : called_by field.encoding ≡ Some j

-- such a format refers to the context by such a field
pub record RefersUnchecked (methods : List Method) (dead : List (List Bool)) (k : ℕ) : Type 0 where
  pub number : ℕ
  pub format : Format
  pub format_is : format_in methods k number ≡ Some format
  pub alive : is_dead dead k number ≡ false
  pub place : ℕ
  pub field : Field
  pub field_at : slice_get format.fields place ≡ Some field
  pub unchecked : is_checked format place ≡ false
  pub refers : takes_reference field.encoding ≡ true

-- The method is the top, or the top reaches it by such calls: no checksum is over all that it encodes.
abbrev pub IsOpen : List Method → List (List Bool) → ℕ → ℕ → Type 0
IsOpen methods dead top k = (k ≡ top) ⊎ Reaches (CallsUnchecked methods dead) top k

-- The method refers so, or reaches one by such calls that does.
abbrev pub IsLoose : List Method → List (List Bool) → ℕ → Type 0
IsLoose methods dead k = RefersUnchecked methods dead k ⊎ ((j : ℕ) × Reaches (CallsUnchecked methods dead) k j × RefersUnchecked methods dead j)

-- ---- what is told

-- an element at its place, counted from i, has this
abbrev pub any_place : {A : Type 0} → (ℕ → A → Bool) → ℕ → List A → Bool
any_place test i [] = false
any_place test i (x ∷ xs) = test i x || any_place test (suc i) xs

-- the first such place
abbrev pub first_place : {A : Type 0} → (ℕ → A → Bool) → ℕ → List A → Option ℕ
first_place test i [] = None
first_place test i (x ∷ xs) = if test i x then Some i else first_place test (suc i) xs

abbrev pub calls_loose : (ℕ → Bool) → Option ℕ → Bool
calls_loose loose (Some j) = loose j
calls_loose loose None = false

-- the field i of a format isn't checked, and refers to the context or calls a method that does
abbrev pub is_wrong_field : (ℕ → Bool) → Format → ℕ → Field → Bool
is_wrong_field loose f i d = (takes_reference d.encoding || calls_loose loose (called_by d.encoding)) && not (is_checked f i)

-- the format n of the method k has no obstacle, but such a field
abbrev pub is_wrong_format : List (List Bool) → (ℕ → Bool) → ℕ → ℕ → Format → Bool
is_wrong_format dead loose k n f = not (is_dead dead k n) && any_place (is_wrong_field loose f) 0 f.fields

-- the first such format of a method
abbrev pub first_wrong : List (List Bool) → (ℕ → Bool) → ℕ → List Format → Option ℕ
first_wrong dead loose k formats = first_place (is_wrong_format dead loose k) 0 formats

abbrev pub told_of : ℕ → Option ℕ → List Unnoticed
told_of k (Some n) = record { method = k; format = n } ∷ []
told_of k None = []

-- of an open method the first such format
abbrev pub unnoticed_method : List (List Bool) → (ℕ → Bool) → (ℕ → Bool) → ℕ → Method → List Unnoticed
unnoticed_method dead loose is_open k m = if is_open k then told_of k (first_wrong dead loose k m.formats) else []

abbrev pub unnoticed_among : List Method → List (List Bool) → (ℕ → Bool) → (ℕ → Bool) → List Unnoticed
unnoticed_among methods dead loose is_open = flat_map (λ (m : ℕ × Method). unnoticed_method dead loose is_open m.0 m.1) (enumerate_from 0 methods)

-- The formats that are told: of each open method the first by which a wrong reference is not noticed, in the order of the text.
pub record AreUnnoticed (p : Resolved) (found : List Unnoticed) : Type 0 where
  pub dead : List (List Bool)
  pub tells_obstacles : TellsObstacles p dead
  pub loose : ℕ → Bool
  pub are_loose : (k : ℕ) → (loose k ≡ true) ↔ IsLoose p.methods dead k
  pub is_open : ℕ → Bool
  pub are_open : (k : ℕ) → (is_open k ≡ true) ↔ IsOpen p.methods dead p.top k
  pub found_is : found ≡ unnoticed_among p.methods dead loose is_open

-- None is told that stands alone, as the laws of losses have it.
abbrev pub AloneIsSilent : Type 0
AloneIsSilent = (methods : List Method) (dead : List (List Bool)) (loose : ℕ → Bool) → ((k : ℕ) → (loose k ≡ true) ↔ IsLoose methods dead k) → (k n : ℕ) (f : Format) → StandsAlone methods f
    → is_wrong_format dead loose k n f ≡ false

-- ---- how it is found

-- whom the field i of a format calls, if it isn't checked
abbrev pub callee_in : Option ℕ → Bool → List ℕ
callee_in (Some j) false = j ∷ []
callee_in _ _ = []

abbrev pub callee_of : Format → ℕ → Field → List ℕ
callee_of f i d = callee_in (called_by d.encoding) (is_checked f i)

-- whom a format calls so
abbrev pub callees_of : Format → List ℕ
callees_of f = flat_map (λ (d : ℕ × Field). callee_of f d.0 d.1) (enumerate_from 0 f.fields)

-- the same without an obstacle
abbrev pub callees_in : List (List Bool) → ℕ → ℕ → Format → List ℕ
callees_in dead k n f = if is_dead dead k n then [] else callees_of f

abbrev pub callees : List (List Bool) → ℕ → Method → List ℕ
callees dead k m = flat_map (λ (f : ℕ × Format). callees_in dead k f.0 f.1) (enumerate_from 0 m.formats)

-- whom each method calls so
abbrev pub graph_of : List (List Bool) → List Method → List (List ℕ)
graph_of dead methods = map (λ (m : ℕ × Method). callees dead m.0 m.1) (enumerate_from 0 methods)

-- the field i of a format refers to the context, and isn't checked
abbrev pub is_reference : Format → ℕ → Field → Bool
is_reference f i d = takes_reference d.encoding && not (is_checked f i)

-- the format n of the method k has no obstacle, but such a field
abbrev pub refers_by : List (List Bool) → ℕ → ℕ → Format → Bool
refers_by dead k n f = not (is_dead dead k n) && any_place (is_reference f) 0 f.fields

abbrev pub refers_in : List (List Bool) → ℕ → List Format → Bool
refers_in dead k formats = any_place (refers_by dead k) 0 formats

-- which methods refer so
abbrev pub own_of : List (List Bool) → List Method → List Bool
own_of dead methods = map (λ (m : ℕ × Method). refers_in dead m.0 m.1.formats) (enumerate_from 0 methods)

-- the method reaches one that does
abbrev pub reaches_own : List (List Bool) → List Bool → ℕ → Bool
reaches_own table own k = any_place (λ j is. is && is_marked table k j) 0 own

-- by which method reaches which, and which refer
abbrev pub loose_by : List (List Bool) → List Bool → ℕ → Bool
loose_by table own k = marked_at own k || reaches_own table own k

abbrev pub open_by : List (List Bool) → ℕ → ℕ → Bool
open_by table top k = nat_eq k top || is_marked table top k
