-- What the sides of a filling determine, and what stands where.
use Rattle.std.specs.Prelude.{◌≡◌, ℕ, ℤ, Bool, true, List, ◌∷◌, ◌++◌, slice_get, Option, Some, None}
use Rattle.sem_expr.specs.declared.expr.Side.TheVariants.{Compressed}
use Rattle.sem_profile.specs.declared.profile.Part.{Part}
use Rattle.sem_profile.specs.declared.profile.Part.TheVariants.{Local}
use Rattle.sem_profile.specs.declared.profile.Method.{Method}
use Rattle.sem_filling.specs.declared.filling.Filling.{Filling, out-Filling}
use Rattle.sem_filling.specs.Fillings.{Sides, inner_at, listing_of, level, is_header, header_bits, header, packed_bits, packed}
use Rattle.sem_filling.specs.Entries.{Path}
use Rattle.sem_filling.specs.Fits.{Context, Fits, field_side, reference_of}
use Rattle.sem_filling.specs.Fronts.{DetAt, InFrontsAt}

-- ---- sides determine a filling

-- Two fillings that fit one method are one where they have one format, the same sides, and the same filling inside each field.
abbrev pub DeterminedByLevel : Type 0
DeterminedByLevel = (methods : List Method) (k : ℕ) (ctx other_ctx : Context) (args other_args : List ℤ) (path other_path : Path) (f g : Filling) →
    Fits methods ctx k args path f → Fits methods other_ctx k other_args other_path g →
    (out-Filling f).format ≡ (out-Filling g).format → level f ≡ level g → ((i : ℕ) → inner_at f i ≡ inner_at g i) → f ≡ g

mutual
  -- the two have one format and the same sides, and so have those inside each field
  pub data SameSides : Filling → Filling → Type 0 where
    same_sides : {f g : Filling} → (out-Filling f).format ≡ (out-Filling g).format → level f ≡ level g → ((i : ℕ) → SameInside (inner_at f i) (inner_at g i)) → SameSides f g

  -- neither is there, or both are and have the same sides
  pub data SameInside : Option Filling → Option Filling → Type 0 where
    neither : SameInside None None
    both_have : {f g : Filling} → SameSides f g → SameInside (Some f) (Some g)

-- Two fillings that fit one method are one where they have the same sides at all levels, whatever their contexts, arguments and paths.
abbrev pub DeterminedBySides : Type 0
DeterminedBySides = (methods : List Method) (k : ℕ) (ctx other_ctx : Context) (args other_args : List ℤ) (path other_path : Path) (f g : Filling) →
    Fits methods ctx k args path f → Fits methods other_ctx k other_args other_path g → SameSides f g → f ≡ g

-- ---- references

-- of a header or control field the context's entry, where there is one, and else the initial value; of a local field nothing
pub record IsReference (ctx : Context) (path : Path) (initial : Option (List Bool)) : Type 0 where
  pub of_entry : (part : Part) (bits : List Bool) → (part ≡ Local → ⊥) → ctx path ≡ Some bits → reference_of part ctx path initial ≡ Some bits
  pub of_initial : (part : Part) → (part ≡ Local → ⊥) → ctx path ≡ None → reference_of part ctx path initial ≡ initial
  pub of_local : reference_of Local ctx path initial ≡ None

abbrev pub AReference : Type 0
AReference = (ctx : Context) (path : Path) (initial : Option (List Bool)) → IsReference ctx path initial

-- ---- both sides, part by part

-- Bits that begin with a filling's packed bits are the sides of the fields that are listed before a field, its own, those of the fields after it, and the rest.
abbrev pub FrontSplits : Type 0
FrontSplits = (f : Filling) (before after : List ℕ) (i : ℕ) (bits rest : List Bool) → listing_of f ≡ before ++ i ∷ after → bits ≡ packed f ++ rest →
    bits ≡ packed_bits before (level f) ++ (field_side (slice_get (level f) i) Compressed ++ (packed_bits after (level f) ++ rest))

-- A header that begins bits is the uncompressed sides of the header fields before a header field, its own, and those after it.
abbrev pub HeaderSplits : Type 0
HeaderSplits = (f : Filling) (before after : List Sides) (s : Sides) (bits rest : List Bool) → level f ≡ before ++ s ∷ after → is_header s.declared.part ≡ true → bits ≡ header f ++ rest →
    bits ≡ header_bits before ++ (s.uncompressed ++ (header_bits after ++ rest))

-- ---- at the front

-- Packed bits followed by any others are read as the filling that they were packed from, where the method is determinate.
abbrev pub ReadsBack : Type 0
ReadsBack = (methods : List Method) (k : ℕ) (args : List ℤ) (path : Path) → DetAt methods k args path → (ctx : Context) (f g : Filling) (rest : List Bool) →
    Fits methods ctx k args path f → InFrontsAt methods k ctx args path (packed f ++ rest) g → g ≡ f
