-- A library method of which each argument has one value.
use Rattle.std.specs.Prelude.{ℤ, Bool, List, Option, Some, option_map, option_and_then}
use Rattle.sem_expr.specs.Ranged.{Bounding}
use Rattle.sem_library.specs.Methods as lib
use Rattle.sem_profile.specs.declared.profile.CrcArguments.{CrcArguments}
use Rattle.sem_profile.specs.declared.profile.Library.{Library}
use Rattle.sem_profile.specs.declared.profile.Library.TheVariants as library
use Rattle.sem_reasons.specs.Told.{pinned}
use Rattle.sem_reasons.specs.declared.across.Valued.{Valued}
use Rattle.sem_reasons.specs.declared.across.Valued.TheVariants as valued

abbrev pub two_valued : (ℤ → ℤ → Valued) → Option ℤ → Option ℤ → Option Valued
two_valued make o q = option_and_then (λ x. option_map (λ y. make x y) q) o

abbrev pub crc_with_values : Bounding → CrcArguments → Option Valued
crc_with_values r crc =
    option_and_then (λ n. option_and_then (λ p. option_and_then (λ i. option_map (λ l. valued.Crc n p i l) (pinned r crc.length)) (pinned r crc.initial)) (pinned r crc.polynomial)) (pinned r crc.bits)

-- the values of the arguments, where each has one by its range
abbrev pub with_values : Bounding → Library → Option Valued
with_values r (library.UncompressedValue len v) = two_valued valued.UncompressedValue (pinned r len) (pinned r v)
with_values r (library.CompressedValue len v) = two_valued valued.CompressedValue (pinned r len) (pinned r v)
with_values r (library.Irregular len) = option_map valued.Irregular (pinned r len)
with_values r library.Static = Some valued.Static
with_values r (library.Lsb k offset) = two_valued valued.Lsb (pinned r k) (pinned r offset)
with_values r (library.Crc crc) = crc_with_values r crc

-- the method, with the bits that a crc covers
abbrev pub method_of : Valued → List Bool → lib.Method
method_of (valued.UncompressedValue len v) covered = lib.uncompressed_value len v
method_of (valued.CompressedValue len v) covered = lib.compressed_value len v
method_of (valued.Irregular len) covered = lib.irregular len
method_of valued.Static covered = lib.static
method_of (valued.Lsb k offset) covered = lib.lsb k offset
method_of (valued.Crc n p i len) covered = lib.crc n p i covered len
