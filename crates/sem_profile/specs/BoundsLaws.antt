-- What holds of the expressions of a format without a fault.
use Rattle.std.specs.Prelude.{◌≡◌, ℕ, false, List, [], ◌∷◌, slice_get, Some, None}
use Rattle.text_source.specs.declared.span.Span.{Span}
use Rattle.sem_expr.specs.declared.expr.Attribute.{Attribute}
use Rattle.sem_expr.specs.declared.expr.Side.{Side}
use Rattle.sem_expr.specs.declared.expr.Expr.{Expr}
use Rattle.sem_expr.specs.declared.expr.Cond.{Cond}
use Rattle.sem_expr.specs.declared.inputs.Input.TheVariants as input
use Rattle.sem_expr.specs.declared.ranges.Ranges.{Ranges}
use Rattle.sem_expr.specs.Inputs.{inputs_of, condition_inputs_of}
use Rattle.sem_expr.specs.Spread.{IsAccepted, AreAccepted}
use Rattle.sem_expr.specs.Bounds.{bounding_of}
use Rattle.sem_profile.specs.declared.profile.FormatSizes.{FormatSizes}
use Rattle.sem_profile.specs.declared.profile.Library.{Library}
use Rattle.sem_profile.specs.declared.profile.Library.TheVariants as library
use Rattle.sem_profile.specs.declared.profile.Encoding.{Encoding}
use Rattle.sem_profile.specs.declared.profile.Encoding.TheVariants as encoding
use Rattle.sem_profile.specs.declared.profile.Constraint.TheVariants.{Bracket, Enforce}
use Rattle.sem_profile.specs.declared.profile.Field.{Field}
use Rattle.sem_profile.specs.declared.profile.Format.{Format}
use Rattle.sem_profile.specs.declared.extent.Extent.TheVariants.{Whole}
use Rattle.sem_profile.specs.BoundsFaults.{is_wide, format_fault}

abbrev pub library_exprs : Library → List Expr
library_exprs (library.UncompressedValue len v) = len ∷ v ∷ []
library_exprs (library.CompressedValue len v) = len ∷ v ∷ []
library_exprs (library.Irregular len) = len ∷ []
library_exprs library.Static = []
library_exprs (library.Lsb k offset) = k ∷ offset ∷ []
library_exprs (library.Crc crc) = crc.bits ∷ crc.polynomial ∷ crc.initial ∷ crc.length ∷ []

abbrev pub encoding_exprs : Encoding → List Expr
encoding_exprs encoding.Bare = []
encoding_exprs (encoding.Library l) = library_exprs l
encoding_exprs (encoding.Call k arguments) = arguments

-- the expression of whole numbers is an argument of an encoding or stands in a bracket
pub data StandsIn (format : Format) : Expr → Type 0 where
  in_encoding : {d : Field} {e : Expr} (i n : ℕ) → slice_get format.fields i ≡ Some d → slice_get (encoding_exprs d.encoding) n ≡ Some e → StandsIn format e
  in_bracket : {field : ℕ} {side : Side} {lengths : List Expr} {place : Span} {e : Expr} (j n : ℕ) → slice_get format.constraints j ≡ Some (Bracket field side lengths place) →
      slice_get lengths n ≡ Some e → StandsIn format e

-- it has a range, and the bits whose values it asks for are at most 64
pub record IsSound (s : FormatSizes) (r : Ranges) (e : Expr) : Type 0 where
  pub accepted : IsAccepted (bounding_of r) e
  pub narrow : (k : ℕ) (t : Attribute) → slice_get (inputs_of e) k ≡ Some (input.Attribute t) → is_wide s t ≡ false

pub record ConditionIsSound (s : FormatSizes) (r : Ranges) (c : Cond) : Type 0 where
  pub accepted : AreAccepted (bounding_of r) c
  pub narrow : (k : ℕ) (t : Attribute) → slice_get (condition_inputs_of c) k ≡ Some (input.Attribute t) → is_wide s t ≡ false

-- where a format has no fault, each of its expressions and conditions is sound
pub record AllSound (format : Format) (s : FormatSizes) (r : Ranges) : Type 0 where
  pub expressions : (e : Expr) → StandsIn format e → IsSound s r e
  pub conditions : (j : ℕ) (c : Cond) (place : Span) → slice_get format.constraints j ≡ Some (Enforce c place) → ConditionIsSound s r c

abbrev pub FaultlessIsSound : Type 0
FaultlessIsSound = (format : Format) (s : FormatSizes) (r : Ranges) → format_fault Whole format s r ≡ None → AllSound format s r
