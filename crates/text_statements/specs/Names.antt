-- What the names in an expression stand for.
use Rattle.std.specs.Prelude.{ℕ, ℤ, Bool, true, List, Option, Some, position, slice_get}
use Rattle.std.specs.Option.{option_map, option_or, option_and_then}
use Rattle.std.specs.Str.{bytes_eq}
use Rattle.text_source.specs.declared.span.Span.{Span}
use Rattle.text_tree.specs.declared.tree.Attribute.{Attribute as Word}
use Rattle.text_tree.specs.declared.tree.Attribute.TheVariants as words
use Rattle.text_tree.specs.declared.tree.Owner.{Owner}
use Rattle.text_tree.specs.declared.tree.Owner.TheVariants as owners
use Rattle.sem_expr.specs.declared.expr.Side.{Side}
use Rattle.sem_expr.specs.declared.expr.Side.TheVariants.{Uncompressed, Compressed}
use Rattle.sem_expr.specs.declared.expr.Measure.{Measure}
use Rattle.sem_expr.specs.declared.expr.Measure.TheVariants.{Value, Length}
use Rattle.sem_expr.specs.declared.expr.Subject.{Subject}
use Rattle.sem_expr.specs.declared.expr.Subject.TheVariants as subjects
use Rattle.sem_expr.specs.declared.expr.Expr.{Expr}
use Rattle.sem_expr.specs.declared.expr.Expr.TheVariants as expr
use Rattle.sem_profile.specs.Words.{word}

pub record Names : Type 0 where
  pub text : List ℕ
  -- the names of the constants, and the numbers of the first of them
  pub constants : List (List ℕ)
  pub values : List ℤ
  pub parameters : List (List ℕ)
  -- in field order
  pub fields : List (List ℕ)
  -- whether attributes may stand there
  pub has_attributes : Bool

abbrev pub names : List ℕ → List (List ℕ) → List ℤ → List (List ℕ) → List (List ℕ) → Names
names text constants values parameters fields =
    record { text = text; constants = constants; values = values; parameters = parameters; fields = fields; has_attributes = true }

-- the index of the name at a place
abbrev pub index_of : List ℕ → List (List ℕ) → Span → Option ℕ
index_of text list name = position (bytes_eq (word text name)) list

-- the index of the field of the name
abbrev pub field_of : Names → Span → Option ℕ
field_of s name = index_of s.text s.fields name

-- the number of the constant that the name stands for
abbrev pub number_named : Names → Span → Option ℤ
number_named s name = option_and_then (λ i. slice_get s.values i) (index_of s.text s.constants name)

-- what a name stands for by itself: a parameter, or else a constant's number
abbrev pub plain : Names → Span → Option Expr
plain s name =
    option_or
    (option_map (λ i. expr.Parameter name i) (index_of s.text s.parameters name))
    (option_map (λ v. expr.Number name v) (number_named s name))

-- whose bits an attribute speaks of
abbrev pub subject_of : Names → Owner → Option Subject
subject_of s owners.This = Some subjects.This
subject_of s (owners.Field name) = option_map (λ i. subjects.Field i) (index_of s.text s.fields name)

abbrev pub side_of : Word → Side
side_of words.Uvalue = Uncompressed
side_of words.Ulength = Uncompressed
side_of words.Cvalue = Compressed
side_of words.Clength = Compressed

abbrev pub measure_of : Word → Measure
measure_of words.Uvalue = Value
measure_of words.Cvalue = Value
measure_of words.Ulength = Length
measure_of words.Clength = Length
