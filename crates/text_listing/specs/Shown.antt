-- What is printed of a resolved profile.
use Rattle.std.specs.Prelude.{ℕ, List, [], ◌∷◌, ◌++◌, Option, Some, None, codes, decimal, flat_map}
use Rattle.std.specs.List.{slice_get, enumerate_from}
use Rattle.text_source.specs.declared.span.Span.{Span}
use Rattle.text_source.specs.Places.{line_of, column_of}
use Rattle.sem_profile.specs.declared.profile.Bounds.{Bounds}
use Rattle.sem_profile.specs.declared.profile.Constraint.{Constraint}
use Rattle.sem_profile.specs.declared.profile.Constraint.TheVariants as constraints
use Rattle.sem_profile.specs.declared.profile.Format.{Format}
use Rattle.sem_profile.specs.declared.profile.FormatSizes.{FormatSizes}
use Rattle.sem_profile.specs.declared.profile.Method.{Method}
use Rattle.sem_profile.specs.declared.profile.MethodSizes.{MethodSizes}

-- the place of a constraint: of its bracket, or of the first token of its conjunct
abbrev pub place_of : Constraint → Span
place_of (constraints.Bracket field side lengths place) = place
place_of (constraints.Enforce condition place) = place

-- a format without a name is called -
abbrev pub name_of : Option (List ℕ) → List ℕ
name_of (Some name) = name
name_of None = codes "-"

-- the bounds on the packed bits, 0 and 0 where there are no sizes
abbrev pub packed_bounds : Option FormatSizes → Bounds
packed_bounds (Some sizes) = sizes.whole.compressed
packed_bounds None = record { least = 0; most = 0 }

-- the sizes of a method's formats, none where there are no sizes
abbrev pub format_sizes : Option MethodSizes → List FormatSizes
format_sizes (Some sizes) = sizes.formats
format_sizes None = []

-- a number with a line and a column
abbrev pub numbered_place : ℕ → ℕ → ℕ → List ℕ
numbered_place number line column = decimal number ++ codes " " ++ decimal line ++ codes ":" ++ decimal column ++ 10 ∷ []

-- a constraint: its number, and where its first octet stands
abbrev pub constraint_line : List ℕ → ℕ → Constraint → List ℕ
constraint_line octets number constraint =
    let at = (place_of constraint).from in
    numbered_place number (line_of octets at) (column_of octets at)

-- a format: its name and the bounds on its packed bits
abbrev pub format_line : List ℕ → Bounds → List ℕ
format_line name bounds = codes "format " ++ name ++ codes " least " ++ decimal bounds.least ++ codes " most " ++ decimal bounds.most ++ 10 ∷ []

-- the constraints of a format, by their numbers
abbrev pub constraints_text : List ℕ → List Constraint → List ℕ
constraints_text octets constraints = flat_map (λ c. constraint_line octets c.0 c.1) (enumerate_from 0 constraints)

-- a format and its constraints
abbrev pub format_text : List ℕ → Bounds → Format → List ℕ
format_text octets bounds format =
    format_line (name_of format.name) bounds ++ constraints_text octets format.constraints

-- the line of a method, none where it has no formats
abbrev pub title : List ℕ → List Format → List ℕ
title name [] = []
title name (format ∷ formats) = codes "method " ++ name ++ 10 ∷ []

-- the formats of a method
abbrev pub formats_text : List ℕ → List FormatSizes → List Format → List ℕ
formats_text octets sizes formats = flat_map (λ f. format_text octets (packed_bounds (slice_get sizes f.0)) f.1) (enumerate_from 0 formats)

-- a method and its formats
abbrev pub method_text : List ℕ → List FormatSizes → Method → List ℕ
method_text octets sizes method = title method.name method.formats ++ formats_text octets sizes method.formats

-- all methods of a profile
abbrev pub shown : List ℕ → List Method → List MethodSizes → List ℕ
shown octets methods sizes = flat_map (λ m. method_text octets (format_sizes (slice_get sizes m.0)) m.1) (enumerate_from 0 methods)
