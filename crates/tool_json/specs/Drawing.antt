-- Where the packed bits of each format stand, as objects of JSON (docs/FORMATS.md, JSON lines): of the same columns as the diagrams of `draw`.
use Rattle.std.specs.Prelude.{ℕ, ℤ, nat_eq, List, [], ◌++◌, Option, Some, None, codes, decimal, flat_map, option_map, unwrap_or, if◌then◌else◌}
use Rattle.std.specs.Fmt.{signed_decimal}
use Rattle.std.specs.List.{enumerate_from}
use Rattle.json.specs.Token.{Token}
use Rattle.sem_lint.specs.declared.columns.Column.{Column}
use Rattle.sem_lint.specs.Columns.{columns_at}
use Rattle.sem_filling.specs.Bounded.{sizes_at}
use Rattle.sem_profile.specs.declared.profile.Bounds.{Bounds}
use Rattle.sem_profile.specs.declared.profile.Format.{Format}
use Rattle.sem_profile.specs.declared.profile.FormatSizes.{FormatSizes}
use Rattle.sem_profile.specs.declared.profile.Method.{Method}
use Rattle.sem_profile.specs.declared.profile.MethodSizes.{MethodSizes}
use Rattle.sem_profile.specs.Resolved.{Resolved}
use Rattle.tool_names.specs.Names.{callee, encoding_at, field_name, format_name, formats_of, method_name}
use Rattle.tool_names.specs.Objects.{array_closed, array_opened, closed, figure, line, null_member, opened, text}

abbrev pub bounds_members : List ℕ → List ℕ → Bounds → List Token
bounds_members least most b = figure least (decimal b.least) ++ figure most (decimal b.most)

-- the method that a field calls, if it calls one
abbrev pub called_member : List Method → Option ℕ → List Token
called_member methods (Some k) = text (codes "calls") (method_name methods k)
called_member methods None = null_member (codes "calls")

abbrev pub number_member : ℤ → List Token
number_member z = text (codes "constant") (signed_decimal z)

-- the number that the bits spell, if the format gives a constant
abbrev pub constant_member : Option ℤ → List Token
constant_member (Some z) = number_member z
constant_member None = null_member (codes "constant")

abbrev pub column_tokens : List Method → ℕ → ℕ → Column → List Token
column_tokens methods k n c =
    opened ++ text (codes "field") (field_name methods k n c.field) ++ called_member methods (callee (encoding_at methods k n c.field))
    ++ bounds_members (codes "offset_least") (codes "offset_most") c.offset ++ bounds_members (codes "bits_least") (codes "bits_most") c.width ++ constant_member c.constant ++ closed

abbrev pub columns_tokens : List Method → ℕ → ℕ → List Column → List Token
columns_tokens methods k n cs = flat_map (column_tokens methods k n) cs

-- the bounds of the packed bits of a format
abbrev pub packed_bounds : List MethodSizes → ℕ → ℕ → Bounds
packed_bounds table k n = unwrap_or (option_map (λ (s : FormatSizes). s.whole.compressed) (sizes_at table k n)) (record { least = 0; most = 0 })

abbrev pub diagram_begun : List ℕ → List ℕ → List Token
diagram_begun method format = opened ++ text (codes "kind") (codes "diagram") ++ text (codes "method") method ++ text (codes "format") format

-- a format: its names, the bounds of its packed bits, and its columns
abbrev pub format_tokens : Resolved → ℕ → ℕ → List Token
format_tokens p k n =
    diagram_begun (method_name p.methods k) (format_name p.methods k n)
    ++ bounds_members (codes "least") (codes "most") (packed_bounds p.sizes k n) ++ array_opened (codes "columns") ++ columns_tokens p.methods k n (columns_at p k n) ++ array_closed

abbrev pub format_line : Resolved → ℕ → ℕ → List ℕ
format_line p k n = line (format_tokens p k n)

abbrev pub method_lines : Resolved → ℕ → List Format → List ℕ
method_lines p k formats = flat_map (λ (f : ℕ × Format). format_line p k f.0) (enumerate_from 0 formats)

-- a method that is not the top
abbrev pub called_lines : Resolved → ℕ → Method → List ℕ
called_lines p k m = if nat_eq k p.top then [] else method_lines p k m.formats

abbrev pub others_lines : Resolved → List ℕ
others_lines p = flat_map (λ (m : ℕ × Method). called_lines p m.0 m.1) (enumerate_from 0 p.methods)

-- the formats of the top, and then those of the methods that it reaches
abbrev pub drawn_objects : Resolved → List ℕ
drawn_objects p = method_lines p p.top (formats_of p.methods p.top) ++ others_lines p
