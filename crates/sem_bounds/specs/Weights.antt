-- How many fields a method's message has, with those of the methods that encode them.
use Rattle.std.specs.Prelude.{◌≡◌, ℕ, ◌+◌, ◌≤◌, List, [], ◌∷◌, slice_get, Some}
use Rattle.sem_profile.specs.declared.profile.Encoding.{Encoding}
use Rattle.sem_profile.specs.declared.profile.Encoding.TheVariants as encoding
use Rattle.sem_profile.specs.declared.profile.Field.{Field}
use Rattle.sem_profile.specs.declared.profile.Format.{Format}
use Rattle.sem_profile.specs.declared.profile.Method.{Method}

-- a field, and what the method weighs that encodes it
abbrev pub field_weight : (ℕ → ℕ) → Encoding → ℕ
field_weight weight encoding.Bare = 1
field_weight weight (encoding.Library l) = 1
field_weight weight (encoding.Call k arguments) = weight k + 1

abbrev pub fields_weight : (ℕ → ℕ) → List Field → ℕ
fields_weight weight [] = 0
fields_weight weight (d ∷ ds) = field_weight weight d.encoding + fields_weight weight ds

-- a format weighs at most this, which is at most 4,096, and lists no field twice
pub record IsLight (weight : ℕ → ℕ) (most : ℕ) (format : Format) : Type 0 where
  pub fields : fields_weight weight format.fields ≤ most
  pub limit : most ≤ 4096
  pub once : (n m i : ℕ) → slice_get format.listing n ≡ Some i → slice_get format.listing m ≡ Some i → n ≡ m

-- the methods have weights that are above those of none of their formats
pub record AreLight (methods : List Method) : Type 0 where
  pub weight : ℕ → ℕ
  pub each : (k n : ℕ) (m : Method) (format : Format) → slice_get methods k ≡ Some m → slice_get m.formats n ≡ Some format → IsLight weight (weight k) format
