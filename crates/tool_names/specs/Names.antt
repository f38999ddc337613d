-- The names and places of methods, formats and fields, as they are printed (docs/FORMATS.md).
use Rattle.std.specs.Prelude.{ℕ, List, [], ◌++◌, Option, None, Some, codes, slice_get, option_and_then, option_map, unwrap_or, ◌+◌}
use Rattle.sem_profile.specs.declared.profile.Encoding.{Encoding}
use Rattle.sem_profile.specs.declared.profile.Encoding.TheVariants as encoding
use Rattle.sem_profile.specs.declared.profile.Field.{Field}
use Rattle.sem_profile.specs.declared.profile.Format.{Format}
use Rattle.sem_profile.specs.declared.profile.Method.{Method}
use Rattle.cert_text.specs.Text.{name_of}
use Rattle.text_source.specs.declared.span.Span.{Span}
use Rattle.sem_profile.specs.declared.profile.Constraint.{Constraint}

-- the name of a method, of a format of it, and of a field of that; one that has none is called -
abbrev pub method_name : List Method → ℕ → List ℕ
method_name methods k = name_of (option_map (λ m. m.name) (slice_get methods k))

abbrev pub format_at : List Method → ℕ → ℕ → Option Format
format_at methods k n = option_and_then (λ m. slice_get m.formats n) (slice_get methods k)

abbrev pub format_name : List Method → ℕ → ℕ → List ℕ
format_name methods k n = name_of (option_and_then (λ f. f.name) (format_at methods k n))

abbrev pub field_at : List Method → ℕ → ℕ → ℕ → Option Field
field_at methods k n i = option_and_then (λ f. slice_get f.fields i) (format_at methods k n)

-- how a field of a format is encoded, by the numbers of its method, its format and the field
abbrev pub encoding_at : List Method → ℕ → ℕ → ℕ → Option Encoding
encoding_at methods k n i = option_map (λ d. d.encoding) (field_at methods k n i)

-- the method that a field calls
abbrev pub callee : Option Encoding → Option ℕ
callee None = None
callee (Some encoding.Bare) = None
callee (Some (encoding.Library method)) = None
callee (Some (encoding.Call k arguments)) = Some k

abbrev pub field_name : List Method → ℕ → ℕ → ℕ → List ℕ
field_name methods k n i = name_of (option_map (λ d. d.declared.name) (field_at methods k n i))

-- both names
abbrev pub names : List Method → ℕ → ℕ → List ℕ
names methods k n = method_name methods k ++ codes " " ++ format_name methods k n

abbrev pub formats_of : List Method → ℕ → List Format
formats_of methods k = unwrap_or (option_map (λ (m : Method). m.formats) (slice_get methods k)) []

abbrev pub constraints_at : List Method → ℕ → ℕ → List Constraint
constraints_at methods k n = unwrap_or (option_map (λ f. f.constraints) (format_at methods k n)) []

-- the place of a method's name
abbrev pub method_place : List Method → ℕ → Span
method_place methods k = unwrap_or (option_map (λ m. m.place) (slice_get methods k)) (record { from = 0; to = 0 })
