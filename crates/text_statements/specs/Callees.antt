-- What the name of a method stands for (RFC 4997, section 4.11).
use Rattle.std.specs.Prelude.{ℕ, Bool, List, Option, None, Some, is_some, codes, position, slice_get, if◌then◌else◌}
use Rattle.std.specs.Option.{option_map, option_or, unwrap_or}
use Rattle.std.specs.Str.{bytes_eq}
use Rattle.text_statements.specs.declared.callee.Callee.{Callee}
use Rattle.text_statements.specs.declared.callee.Callee.TheVariants as callees
use Rattle.text_statements.specs.declared.callee.Methods.{Methods}

abbrev pub library : List ℕ → Option Callee
library name =
    if bytes_eq name (codes "uncompressed_value") then Some callees.UncompressedValue else
    if bytes_eq name (codes "compressed_value") then Some callees.CompressedValue else
    if bytes_eq name (codes "irregular") then Some callees.Irregular else
    if bytes_eq name (codes "static") then Some callees.Static else
    if bytes_eq name (codes "lsb") then Some callees.Lsb else
    if bytes_eq name (codes "crc") then Some callees.Crc else None

abbrev pub is_library : List ℕ → Bool
is_library name = is_some (library name)

-- a library method, or else one of the file
abbrev pub callee : Methods → List ℕ → Option Callee
callee methods name = option_or (library name) (option_map callees.Own (position (bytes_eq name) methods.names.now))

-- how many arguments it takes
abbrev pub arity : Methods → Callee → ℕ
arity methods callees.UncompressedValue = 2
arity methods callees.CompressedValue = 2
arity methods callees.Irregular = 1
arity methods callees.Static = 0
arity methods callees.Lsb = 2
arity methods callees.Crc = 5
arity methods (callees.Own k) = unwrap_or (slice_get methods.arities.now k) 0
