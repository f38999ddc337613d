-- The constraints of a format that compare a parameter, or the value of a field that is static, with a constant.
use Rattle.std.specs.Prelude.{ℕ, Bool, true, false, nat_eq, not, ◌&&◌, List, slice_get, Option, Some, None, ℤ, cond}
use Rattle.std.specs.Ordering.{int_eq}
use Rattle.sem_expr.specs.declared.expr.Comparison.{Comparison}
use Rattle.sem_expr.specs.declared.expr.Comparison.TheVariants.{Equal, NotEqual}
use Rattle.sem_expr.specs.declared.expr.Subject.{Subject}
use Rattle.sem_expr.specs.declared.expr.Subject.TheVariants as subject
use Rattle.sem_expr.specs.declared.expr.Side.{Side}
use Rattle.sem_expr.specs.declared.expr.Side.TheVariants.{Uncompressed}
use Rattle.sem_expr.specs.declared.expr.Measure.{Measure}
use Rattle.sem_expr.specs.declared.expr.Measure.TheVariants as measure
use Rattle.sem_expr.specs.declared.expr.Expr.{Expr}
use Rattle.sem_expr.specs.declared.expr.Expr.TheVariants as expr
use Rattle.sem_expr.specs.declared.expr.Expr.TheVariants.{Number, Parameter, Binary'}
use Rattle.sem_expr.specs.declared.expr.Cond.{Cond}
use Rattle.sem_expr.specs.declared.expr.Cond.TheVariants.{Compare}
use Rattle.sem_profile.specs.declared.profile.Field.{Field}
use Rattle.sem_profile.specs.declared.profile.Constraint.{Constraint}
use Rattle.sem_profile.specs.declared.profile.Constraint.TheVariants.{Bracket, Enforce}
use Rattle.sem_profile.specs.Constants.{constant}
use Rattle.cert_rules.specs.Rules.{when, first_or}
use Rattle.cert_rules.specs.Trees.{is_static_field}
use Rattle.cert_trees.specs.declared.equations.Equation.{Equation}

-- the parameter that the expression is
abbrev pub parameter_of : Expr → Option ℕ
parameter_of (Parameter s i) = Some i
parameter_of (Number s n) = None
parameter_of (expr.Attribute s t) = None
parameter_of (Binary' s op x p y q) = None

-- the field whose value the expression is, where it is static among these
abbrev pub static_value : List Field → Subject → Side → Measure → Option ℕ
static_value fields (subject.Field i) Uncompressed measure.Value = when (is_static_field (slice_get fields i)) i
static_value fields _ _ _ = None

abbrev pub static_of : List Field → Expr → Option ℕ
static_of fields (expr.Attribute s t) = static_value fields t.subject t.side t.measure
static_of fields (Parameter s i) = None
static_of fields (Number s n) = None
static_of fields (Binary' s op x p y q) = None

-- what is tested and a constant, where both are there
abbrev pub paired : Bool → Option ℕ → Option ℤ → Option Equation
paired equal (Some p) (Some c) = Some record { tested = p; constant = c; equal = equal }
paired equal (Some p) None = None
paired equal None c = None

-- whether a comparison says that its numbers are equal, or that they differ
abbrev pub equality : Comparison → Option Bool
equality Equal = Some true
equality NotEqual = Some false
equality _ = None

-- either way round, of what an expression tests
abbrev pub compared_by : (Expr → Option ℕ) → Expr → Expr → Option Bool → Option Equation
compared_by of x y None = None
compared_by of x y (Some equal) = first_or (paired equal (of x) (constant y)) (paired equal (of y) (constant x))

-- p == c or p != c
abbrev pub condition_by : (Expr → Option ℕ) → Cond → Option Equation
condition_by of (Compare s comparison x y) = compared_by of x y (equality comparison)
condition_by of _ = None

abbrev pub equation_by : (Expr → Option ℕ) → Constraint → Option Equation
equation_by of (Enforce condition place) = condition_by of condition
equation_by of (Bracket i side lengths place) = None

-- of parameters
abbrev pub condition_equation : Cond → Option Equation
condition_equation = condition_by parameter_of

abbrev pub equation_of : Constraint → Option Equation
equation_of = equation_by parameter_of

-- of fields that are static
abbrev pub reference_of : List Field → Constraint → Option Equation
reference_of fields = equation_by (static_of fields)

-- by the equation that is not c
abbrev pub excludes : ℕ → ℤ → Equation → Bool
excludes p c e = nat_eq e.tested p && cond e.equal (not (int_eq c e.constant)) (int_eq c e.constant)

-- by the equation it is c
abbrev pub fixes : ℕ → ℤ → Equation → Bool
fixes p c e = nat_eq e.tested p && (e.equal && int_eq c e.constant)
