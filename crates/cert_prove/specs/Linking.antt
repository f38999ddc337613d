-- Which constraints may tell something of a field.
use Rattle.std.specs.Prelude.{◌≡◌, ℕ, ◌+◌, ◌<◌, Bool, true, false, List, [], ◌∷◌, ◌++◌, nat_eq, length, get_or, Option, Some, None}
use Rattle.std.specs.List.{flat_map, list_any}
use Rattle.sem_expr.specs.declared.expr.Comparison.TheVariants.{Equal}
use Rattle.sem_expr.specs.declared.expr.Operator.{Operator}
use Rattle.sem_expr.specs.declared.expr.Operator.TheVariants.{Add, Remainder}
use Rattle.sem_expr.specs.declared.expr.Cond.{Cond}
use Rattle.sem_expr.specs.declared.expr.Cond.TheVariants.{Compare}
use Rattle.sem_expr.specs.declared.expr.Expr.{Expr}
use Rattle.sem_expr.specs.declared.expr.Expr.TheVariants as expr
use Rattle.sem_expr.specs.declared.expr.Expr.TheVariants.{Number, Parameter, Binary'}
use Rattle.sem_expr.specs.declared.expr.Subject.{Subject}
use Rattle.sem_expr.specs.declared.expr.Subject.TheVariants as subject
use Rattle.sem_profile.specs.declared.profile.Constraint.{Constraint}
use Rattle.sem_profile.specs.declared.profile.Constraint.TheVariants.{Bracket, Enforce}
use Rattle.sem_profile.specs.declared.profile.Format.{Format}
use Rattle.cert_types.specs.declared.certificate.Step.{Step}
use Rattle.cert_prove.specs.declared.kinds.StepKind.{StepKind}
use Rattle.cert_prove.specs.Order.{steps_of}

-- the field of a subject
abbrev pub field_named : Subject → Option ℕ
field_named (subject.Field i) = Some i
field_named subject.This = None

-- the field of which the expression is an attribute alone
abbrev pub named : Expr → Option ℕ
named (expr.Attribute s t) = field_named t.subject
named (Number s n) = None
named (Parameter s p) = None
named (Binary' s op p x q y) = None

-- the fields of whose attributes the operands of a sum are, by its operator
abbrev pub operands : Operator → Expr → Expr → List (Option ℕ)
operands Add x y = named x ∷ named y ∷ []
operands _ x y = None ∷ None ∷ []

-- the same of an expression
abbrev pub summed : Expr → List (Option ℕ)
summed (Binary' s op p x q y) = operands op x y
summed (expr.Attribute s t) = None ∷ None ∷ []
summed (Number s n) = None ∷ None ∷ []
summed (Parameter s p) = None ∷ None ∷ []

-- of a remainder, by its operator, those of the sum
abbrev pub reduced : Operator → Expr → List (Option ℕ)
reduced Remainder x = summed x
reduced _ x = None ∷ None ∷ []

-- the field of which the expression is an attribute alone, or those of whose attributes it is a remainder of a sum
abbrev pub naming : Expr → List (Option ℕ)
naming (Binary' s op p x q y) = reduced op x
naming (expr.Attribute s t) = field_named t.subject ∷ None ∷ []
naming (Number s n) = None ∷ None ∷ []
naming (Parameter s p) = None ∷ None ∷ []

-- it is this one
abbrev pub is_this : ℕ → Option ℕ → Bool
is_this i None = false
is_this i (Some j) = nat_eq j i

-- one of them is
abbrev pub is_among : ℕ → List (Option ℕ) → Bool
is_among i names = list_any (is_this i) names

-- the condition is an equation of such an attribute, or of a remainder of such a sum
abbrev pub equates : ℕ → Cond → Bool
equates i (Compare s Equal x y) = is_among i (naming x ++ naming y)
equates i _ = false

-- a bracket on the field, or such an equation
abbrev pub tells_of : ℕ → Constraint → Bool
tells_of i (Bracket j side lengths place) = nat_eq j i
tells_of i (Enforce condition place) = equates i condition

-- the number where the test holds
abbrev pub number_if : Bool → ℕ → List ℕ
number_if true n = n ∷ []
number_if false n = []

-- the number is noted in the rows of the fields that pass the test
pub record IsNoted (tells : ℕ → Bool) (n : ℕ) (old new : List (List ℕ)) : Type 0 where
  pub each : length new ≡ length old
  pub right : (i : ℕ) → i < length old → get_or new i [] ≡ get_or old i [] ++ number_if (tells i) n

-- the numbers of the constraints that do, the first being n
abbrev pub telling : ℕ → ℕ → List Constraint → List ℕ
telling i n [] = []
telling i n (k ∷ ks) = number_if (tells_of i k) n ++ telling i (n + 1) ks

-- for each field its row of these numbers
pub record AreRows (format : Format) (rows : List (List ℕ)) : Type 0 where
  pub each : length rows ≡ length format.fields
  pub right : (i : ℕ) → i < length rows → get_or rows i [] ≡ telling i 0 format.constraints

-- the steps of a kind by these rows, the first being that of the field n
abbrev pub by_rows : StepKind → ℕ → List (List ℕ) → List Step
by_rows kind n [] = []
by_rows kind n (row ∷ rows) = steps_of row kind n ++ by_rows kind (n + 1) rows

-- of several kinds
abbrev pub candidates_of : List StepKind → List (List ℕ) → List Step
candidates_of kinds rows = flat_map (λ kind. by_rows kind 0 rows) kinds
