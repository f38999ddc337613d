-- Where the sides of fields stand in the bits that they are joined to, by the bounds on lengths alone.
use Rattle.std.specs.Prelude.{◌≡◌, ℕ, ◌+◌, ◌≤◌, nat_eq, nat_le, Bool, List, [], ◌∷◌, length, slice_get, slice_range, Option, Some, None, option_map, option_and_then, IfSome, if◌then◌else◌}
use Rattle.std.specs.Option.{option_flatten}
use Rattle.sem_expr.specs.declared.expr.Side.{Side}
use Rattle.sem_expr.specs.declared.expr.Side.TheVariants.{Uncompressed, Compressed}
use Rattle.sem_profile.specs.declared.profile.Bounds.{Bounds}
use Rattle.sem_profile.specs.declared.profile.Field.{Field}
use Rattle.sem_profile.specs.declared.profile.Format.{Format}
use Rattle.sem_profile.specs.declared.profile.Sizes.{Sizes}
pub use Rattle.sem_profile.specs.BoundsFaults.{side_bounds}
use Rattle.sem_filling.specs.Fillings.{is_header}

-- the header fields among these, which are counted from k
abbrev pub header_order : ℕ → List Field → List ℕ
header_order k [] = []
header_order k (d ∷ ds) = if is_header d.declared.part then k ∷ header_order (k + 1) ds else header_order (k + 1) ds

-- the fields whose sides are joined to that side of the whole, in order
abbrev pub order_of : Format → Side → List ℕ
order_of format Uncompressed = header_order 0 format.fields
order_of format Compressed = format.listing

-- the only length within the bounds
abbrev pub only_within : Bounds → Option ℕ
only_within b = if nat_eq b.least b.most then Some b.least else None

-- that of a side of the field i
abbrev pub only_length : List Sizes → Side → ℕ → Option ℕ
only_length sizes side i = option_and_then (λ b. only_within (side_bounds side b)) (slice_get sizes i)

-- that of the field i, of lengths that are noted where they are known
abbrev pub length_in : List (Option ℕ) → ℕ → Option ℕ
length_in lengths i = option_flatten (slice_get lengths i)

-- after how many bits the field i begins, where each field before it has one length
abbrev pub begin_of : (ℕ → Option ℕ) → ℕ → List ℕ → Option ℕ
begin_of only i [] = None
begin_of only i (j ∷ js) = if nat_eq i j then Some 0 else option_and_then (λ n. option_map (λ m. n + m) (begin_of only i js)) (only j)

-- after so many bits, where a field of that length begins after the offset
abbrev pub behind : ℕ → Option ℕ → Option ℕ
behind offset o = option_map (λ n. offset + n) o

-- more bits than can be held
abbrev pub IsFar : Option ℕ → Type 0
IsFar o = IfSome o (λ n. 2147483648 ≤ n)

abbrev pub BeginsAt : List ℕ → (ℕ → Option ℕ) → ℕ → ℕ → Type 0
BeginsAt order only i offset = begin_of only i order ≡ Some offset

-- so many of the bits, from the offset on, where there are so many
abbrev pub cut_of : List Bool → ℕ → ℕ → Option (List Bool)
cut_of bits offset count = if nat_le (offset + count) (length bits) then Some (slice_range bits offset (offset + count)) else None

-- the bits of the field i
abbrev pub held : List ℕ → (ℕ → Option ℕ) → List Bool → ℕ → Option (List Bool)
held order only bits i = option_and_then (λ offset. option_and_then (λ count. cut_of bits offset count) (only i)) (begin_of only i order)

abbrev pub Holds : List ℕ → (ℕ → Option ℕ) → List Bool → ℕ → List Bool → Type 0
Holds order only bits i own = held order only bits i ≡ Some own
