-- One level of a filling, as its expressions see it.
use Rattle.std.specs.Prelude.{◌≡◌, ℕ, List, map, length, slice_get, Some}
use Rattle.text_source.specs.declared.span.Span.{Span}
use Rattle.sem_expr.specs.declared.known.Known.{Known}
use Rattle.sem_expr.specs.declared.expr.Expr.{Expr}
use Rattle.sem_expr.specs.declared.expr.Cond.{Cond}
use Rattle.sem_expr.specs.Values.{Assignment, val, truth}
use Rattle.sem_expr.specs.Known.{assignment_of}
use Rattle.sem_expr.specs.Spread.{IsRanged, AreRanged}
use Rattle.sem_profile.specs.declared.profile.Sizes.{Sizes}
use Rattle.sem_profile.specs.declared.profile.Constraint.{Constraint}
use Rattle.sem_profile.specs.declared.profile.Constraint.TheVariants.{Bracket, Enforce}
use Rattle.sem_profile.specs.declared.profile.Format.{Format}
use Rattle.sem_profile.specs.BoundsLaws.{StandsIn}
use Rattle.sem_filling.specs.declared.filling.FilledField.{FilledField}
use Rattle.sem_filling.specs.Fillings.{Sides, sides_of}
use Rattle.sem_filling.specs.Bounded.{SidesLie}

-- the two lengths of the field at a place lie in its bounds, if it has any
abbrev pub FieldLies : List Sizes → ℕ → Sides → Type 0
FieldLies sizes i s = (b : Sizes) → slice_get sizes i ≡ Some b → SidesLie b (length s.uncompressed) (length s.compressed)

-- the same of each field
abbrev pub FieldsLie : List Sizes → List FilledField → Type 0
FieldsLie sizes fields = (i : ℕ) (s : Sides) → slice_get (map sides_of fields) i ≡ Some s → FieldLies sizes i s

-- each expression may be evaluated under the known numbers
abbrev pub AllRanged : Known → List Expr → Type 0
AllRanged known es = (n : ℕ) (e : Expr) → slice_get es n ≡ Some e → IsRanged (assignment_of known) e

-- so may those of a constraint
abbrev pub ConstraintRanged : Known → Constraint → Type 0
ConstraintRanged known (Bracket i which lengths place) = AllRanged known lengths
ConstraintRanged known (Enforce c place) = AreRanged (assignment_of known) c

-- each expression and each condition of the format may be evaluated, and has the value that it has under the assignment
pub record Evaluates (known : Known) (a : Assignment) (format : Format) : Type 0 where
  pub ranged : (e : Expr) → StandsIn format e → IsRanged (assignment_of known) e
  pub value_is : (e : Expr) → StandsIn format e → val (assignment_of known) e ≡ val a e
  pub conditions_ranged : (j : ℕ) (c : Cond) (place : Span) → slice_get format.constraints j ≡ Some (Enforce c place) → AreRanged (assignment_of known) c
  pub truth_is : (j : ℕ) (c : Cond) (place : Span) → slice_get format.constraints j ≡ Some (Enforce c place) → truth (assignment_of known) c ≡ truth a c
