-- Formats that call alike, field by field.
use Rattle.std.specs.Prelude.{◌≡◌, ℕ, List, Option, Some, slice_get}
use Rattle.sem_expr.specs.declared.expr.Expr.{Expr}
use Rattle.sem_profile.specs.declared.profile.Encoding.TheVariants as encoding
use Rattle.sem_profile.specs.declared.profile.Field.{Field}
use Rattle.sem_profile.specs.declared.profile.Format.{Format}
use Rattle.sem_profile.specs.declared.profile.Part.TheVariants.{Local}

-- the field calls the method k
abbrev pub Calls : ℕ → Field → Type 0
Calls k d = (es : List Expr) × (d.encoding ≡ encoding.Call k es)

-- the other field is there, and calls the method k
abbrev pub OtherCalls : ℕ → Option Field → Type 0
OtherCalls k o = (e : Field) × (o ≡ Some e) × Calls k e

-- if the field calls a method, it isn't local, and the other field is there and calls the same
abbrev pub CallsAs : Field → Option Field → Type 0
CallsAs d o = (k : ℕ) → Calls k d → (d.declared.part ≡ Local → ⊥) × OtherCalls k o

abbrev pub CallAs : List Field → List Field → Type 0
CallAs ds es = (i : ℕ) (d : Field) → slice_get ds i ≡ Some d → CallsAs d (slice_get es i)

abbrev pub IsAsEach : List Field → List Format → Type 0
IsAsEach ds formats = (n : ℕ) (g : Format) → slice_get formats n ≡ Some g → CallAs ds g.fields

abbrev pub AreFormatsAlike : List Format → Type 0
AreFormatsAlike formats = (n : ℕ) (f : Format) → slice_get formats n ≡ Some f → IsAsEach f.fields formats
