-- The fields that the formats of a method have in common.
use Rattle.std.specs.Prelude.{◌≡◌, ℕ, List, Some, slice_get}
use Rattle.sem_profile.specs.declared.profile.Field.{Field}
use Rattle.sem_profile.specs.declared.profile.Format.{Format}
use Rattle.sem_profile.specs.declared.profile.Method.{Method}
use Rattle.sem_profile.specs.declared.profile.Part.TheVariants as parts

-- the field that a format has at a place is that of another, but for its encoding
pub record IsAlike (d e : Field) : Type 0 where
  pub declared_is : e.declared ≡ d.declared
  pub initial_is : e.initial ≡ d.initial

-- each format of a method has the header and control fields of the others at the same places
pub record AreAlike (methods : List Method) : Type 0 where
  pub fields : (k n j i : ℕ) (m : Method) (f g : Format) (d : Field) → slice_get methods k ≡ Some m → slice_get m.formats n ≡ Some f → slice_get m.formats j ≡ Some g → slice_get f.fields i ≡ Some d
      → (d.declared.part ≡ parts.Local → ⊥) → (e : Field) × (slice_get g.fields i ≡ Some e) × IsAlike d e
