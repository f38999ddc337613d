-- The numbers by which a condition goes: of each attribute and parameter in it that can have one number alone, that number.
use Rattle.std.specs.Prelude.{ℤ, nat_eq, Bool, true, false, ◌&&◌, List, [], ◌∷◌, ◌++◌, Option, Some, None, if◌then◌else◌}
use Rattle.std.specs.List.{list_any}
use Rattle.std.specs.Ordering.{int_eq}
use Rattle.sem_expr.specs.declared.expr.Attribute.{Attribute}
use Rattle.sem_expr.specs.declared.expr.Cond.{Cond}
use Rattle.sem_expr.specs.declared.expr.Measure.{Measure}
use Rattle.sem_expr.specs.declared.expr.Measure.TheVariants.{Value, Length}
use Rattle.sem_expr.specs.declared.expr.Side.{Side}
use Rattle.sem_expr.specs.declared.expr.Side.TheVariants.{Uncompressed, Compressed}
use Rattle.sem_expr.specs.declared.expr.Subject.{Subject}
use Rattle.sem_expr.specs.declared.expr.Subject.TheVariants as subject
use Rattle.sem_expr.specs.declared.inputs.Input.{Input}
use Rattle.sem_expr.specs.declared.inputs.Input.TheVariants as input
use Rattle.sem_expr.specs.declared.interval.Interval.{Interval}
use Rattle.sem_expr.specs.Inputs.{condition_inputs_of}
use Rattle.sem_expr.specs.Ranged.{Bounding}
use Rattle.sem_profile.specs.declared.profile.Constraint.{Constraint}
use Rattle.sem_profile.specs.declared.profile.Constraint.TheVariants.{Bracket, Enforce}
use Rattle.sem_filling.specs.declared.reason.Figure.{Figure}

-- the only number of an interval
abbrev pub lone : Interval → Option ℤ
lone i = if int_eq i.from i.to then Some i.from else None

abbrev pub range_of : Bounding → Input → Interval
range_of r (input.Attribute t) = r.attribute t
range_of r (input.Parameter i) = r.parameter i

abbrev pub same_side : Side → Side → Bool
same_side Uncompressed Uncompressed = true
same_side Compressed Compressed = true
same_side _ _ = false

abbrev pub same_measure : Measure → Measure → Bool
same_measure Value Value = true
same_measure Length Length = true
same_measure _ _ = false

abbrev pub same_subject : Subject → Subject → Bool
same_subject (subject.Field i) (subject.Field j) = nat_eq i j
same_subject subject.This subject.This = true
same_subject _ _ = false

abbrev pub same_attribute : Attribute → Attribute → Bool
same_attribute t u = same_subject t.subject u.subject && (same_side t.side u.side && same_measure t.measure u.measure)

abbrev pub same_input : Input → Input → Bool
same_input (input.Attribute t) (input.Attribute u) = same_attribute t u
same_input (input.Parameter i) (input.Parameter j) = nat_eq i j
same_input _ _ = false

abbrev pub has_input : Input → List Figure → Bool
has_input x figures = list_any (λ (f : Figure). same_input x f.input) figures

abbrev pub with_number : List Figure → Input → Option ℤ → List Figure
with_number found x (Some v) = found ++ record { input = x; value = v } ∷ []
with_number found x None = found

-- and this input, if it is not there and has one number alone
abbrev pub with_input : Bounding → List Figure → Input → List Figure
with_input r found x = if has_input x found then found else with_number found x (lone (range_of r x))

abbrev pub figures_from : Bounding → List Figure → List Input → List Figure
figures_from r found [] = found
figures_from r found (x ∷ xs) = figures_from r (with_input r found x) xs

-- those of a condition, in the order of the text
abbrev pub figures : Bounding → Cond → List Figure
figures r c = figures_from r [] (condition_inputs_of c)

abbrev pub figures_of : Bounding → Constraint → List Figure
figures_of r (Bracket i side lengths place) = []
figures_of r (Enforce condition place) = figures r condition

abbrev pub figures_at : Bounding → Option Constraint → List Figure
figures_at r (Some c) = figures_of r c
figures_at r None = []
