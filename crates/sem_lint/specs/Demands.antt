-- Arguments of library methods that never lie between the numbers that their method asks for (docs/NOTATION.md).
use Rattle.std.specs.Prelude.{◌≡◌, ℕ, List, slice_get, Option, Some, None, pos, Ok, if◌then◌else◌}
use Rattle.std.specs.Option.{option_or}
use Rattle.text_source.specs.declared.span.Span.{Span}
use Rattle.sem_expr.specs.declared.expr.Comparison.TheVariants.{Equal}
use Rattle.sem_expr.specs.declared.expr.Expr.{Expr}
use Rattle.sem_expr.specs.declared.expr.Expr.TheVariants as expr
use Rattle.sem_expr.specs.declared.expr.Expr.TheVariants.{Number, Parameter, Binary'}
use Rattle.sem_expr.specs.declared.expr.Side.TheVariants.{Uncompressed, Compressed}
use Rattle.sem_expr.specs.declared.expr.Subject.TheVariants as subject
use Rattle.sem_expr.specs.declared.interval.Interval.{Interval}
use Rattle.sem_expr.specs.Ranged.{Bounding, ranged}
use Rattle.sem_expr.specs.Rules.{from_to}
use Rattle.sem_profile.specs.declared.profile.CrcArguments.{CrcArguments}
use Rattle.sem_profile.specs.declared.profile.Encoding.{Encoding}
use Rattle.sem_profile.specs.declared.profile.Encoding.TheVariants as encoding
use Rattle.sem_profile.specs.declared.profile.Field.{Field}
use Rattle.sem_profile.specs.declared.profile.Library.{Library}
use Rattle.sem_profile.specs.declared.profile.Library.TheVariants as library
use Rattle.sem_lint.specs.Attributes.{length_range, value_range}
use Rattle.sem_lint.specs.Never.{are_apart}
use Rattle.sem_filling.specs.declared.obstacle.Unmet.{Unmet}

abbrev pub place_of : Expr → Span
place_of (Number s n) = s
place_of (Parameter s i) = s
place_of (expr.Attribute s t) = s
place_of (Binary' s op p x q y) = s

-- the argument is never one of the numbers that are due
abbrev pub missed : Bounding → Expr → Interval → Option Unmet
missed r e due = if are_apart Equal (ranged r e) (Ok due) then Some (record { at = place_of e; due = due }) else None

-- a crc has 1 to 64 bits
abbrev pub crc_bits : Interval
crc_bits = from_to (pos 1) (pos 64)

-- its bits are as many as said, its other two numbers fit in them, and its data have the length that is said
abbrev pub unmet_by_crc : Bounding → ℕ → CrcArguments → Option Unmet
unmet_by_crc r i crc =
    option_or (option_or (missed r crc.bits crc_bits) (missed r crc.bits (length_range r (subject.Field i) Compressed)))
    (option_or (option_or (missed r crc.polynomial (value_range r (subject.Field i) Compressed)) (missed r crc.initial (value_range r (subject.Field i) Compressed)))
    (missed r crc.length (length_range r crc.subject crc.side)))

-- the first argument of the field i that its method never takes: a length is that of the side, and a value fits in it
abbrev pub unmet_by : Bounding → ℕ → Library → Option Unmet
unmet_by r i (library.UncompressedValue len v) = option_or (missed r len (length_range r (subject.Field i) Uncompressed)) (missed r v (value_range r (subject.Field i) Uncompressed))
unmet_by r i (library.CompressedValue len v) = option_or (missed r len (length_range r (subject.Field i) Compressed)) (missed r v (value_range r (subject.Field i) Compressed))
unmet_by r i (library.Irregular len) = option_or (missed r len (length_range r (subject.Field i) Uncompressed)) (missed r len (length_range r (subject.Field i) Compressed))
unmet_by r i library.Static = None
unmet_by r i (library.Lsb k offset) = missed r k (length_range r (subject.Field i) Compressed)
unmet_by r i (library.Crc crc) = unmet_by_crc r i crc

abbrev pub unmet_in : Bounding → ℕ → Encoding → Option Unmet
unmet_in r i encoding.Bare = None
unmet_in r i (encoding.Library l) = unmet_by r i l
unmet_in r i (encoding.Call k arguments) = None

-- the field i has it
pub record IsUnmetAt (fields : List Field) (r : Bounding) (i : ℕ) (u : Unmet) : Type 0 where
  pub field : Field
  pub field_at : slice_get fields i ≡ Some field
  pub unmet : unmet_in r i field.encoding ≡ Some u

-- some field does
abbrev pub HasUnmet : List Field → Bounding → Unmet → Type 0
HasUnmet fields r u = (i : ℕ) × IsUnmetAt fields r i u
