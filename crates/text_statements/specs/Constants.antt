-- The values of constants (docs/NOTATION.md, Constants).
use Rattle.std.specs.Prelude.{◌≡◌, ◌≢◌, ⊤, ℕ, ℤ, false, List, [], ◌∷◌, ◌++◌, map, Option, Some, None, Result, Ok, Err}
use Rattle.std.specs.List.{filter_map, AllPairs}
use Rattle.text_source.specs.declared.span.Span.{Span}
use Rattle.text_tree.specs.declared.tree.Expr.{Expr as Tree}
use Rattle.text_tree.specs.declared.tree.Constant.{Constant}
use Rattle.text_tree.specs.declared.tree.Part.{Part}
use Rattle.text_tree.specs.declared.tree.Part.TheVariants as parts
use Rattle.text_tree.specs.Spans.{span_of}
use Rattle.sem_expr.specs.declared.expr.Expr.{Expr}
use Rattle.sem_expr.specs.declared.interval.Interval.{Interval}
use Rattle.sem_expr.specs.declared.fault.RangeFault.{RangeFault}
use Rattle.sem_expr.specs.Known.{assignment_of, nothing_known}
use Rattle.sem_expr.specs.Values.{val}
use Rattle.sem_profile.specs.declared.fault.ProfileFault.{ProfileFault}
use Rattle.sem_profile.specs.declared.fault.ProfileFaultKind.TheVariants as f
use Rattle.sem_profile.specs.declared.fault.ResolveError.{ResolveError}
use Rattle.sem_profile.specs.declared.fault.ResolveError.TheVariants as errors
use Rattle.sem_profile.specs.Faults.{of_range, unnamed}
use Rattle.sem_profile.specs.Words.{word}
use Rattle.text_statements.specs.declared.term.TermKind.TheVariants as kinds
use Rattle.text_statements.specs.declared.term.Term.TheVariants.{Number}
use Rattle.text_statements.specs.Names.{Names}
use Rattle.text_statements.specs.Ranges.{range_of}
use Rattle.text_statements.specs.Judged.{fault_of}
use Rattle.text_statements.specs.Means.{Means}

abbrev pub value_of : Expr → Option ℤ
value_of e = val (assignment_of nothing_known) e

-- ---- the constants of a file

abbrev pub evaluated_by : Span → Option ℤ → Result Interval RangeFault → Result ℤ ProfileFault
evaluated_by at v (Err g) = Err (of_range g)
evaluated_by at (Some v) (Ok i) = Ok v
evaluated_by at None (Ok i) = Err (unnamed f.NoValue at)

-- the value of an expression at a place, or its first part without a range, or that it has no value
abbrev pub evaluated : Span → Expr → Result ℤ ProfileFault
evaluated at e = evaluated_by at (value_of e) (range_of e)

-- the part means an expression that has this value
pub record IsValue (s : Names) (part : Tree) (v : ℤ) : Type 0 where
  pub expr : Expr
  pub means : Means s part (Number expr)
  pub value : evaluated (span_of part) expr ≡ Ok v

-- why a part has no value: a fault of its names and kinds, in a constant of its ranges too, or its meaning has none
pub data ValueFault (s : Names) (part : Tree) : ProfileFault → Type 0 where
  ill_formed : {fault : ProfileFault} → fault_of kinds.Number s part ≡ Some fault → ValueFault s part fault
  valueless : {e : Expr} {fault : ProfileFault} → Means s part (Number e) → evaluated (span_of part) e ≡ Err fault → ValueFault s part fault

abbrev pub constant_part : Part → Option Constant
constant_part (parts.Constant c) = Some c
constant_part (parts.Method m) = None

-- the constants of a file, in the order of the text
abbrev pub constants_in : List Part → List Constant
constants_in file = filter_map constant_part file

abbrev pub constant_names : List ℕ → List Part → List (List ℕ)
constant_names text file = map (λ c. word text c.name) (constants_in file)

-- no two of the names are one
abbrev pub AreDistinct : List (List ℕ) → Type 0
AreDistinct names = AllPairs (λ a b. a ≢ b) names

-- What names stand for in a constant: the first constants have these values, and the later ones none yet.
abbrev pub earlier : List ℕ → List (List ℕ) → List ℤ → Names
earlier text names values = record { text = text; constants = names; values = values; parameters = []; fields = []; has_attributes = false }

-- each constant has its value, by those of the earlier ones
pub data AreValues (text : List ℕ) (names : List (List ℕ)) : List Constant → List ℤ → Type 0 where
  no_values : AreValues text names [] []
  next_value : {constants : List Constant} {values : List ℤ} (c : Constant) {v : ℤ} → AreValues text names constants values
      → IsValue (earlier text names values) c.value v → AreValues text names (constants ++ c ∷ []) (values ++ v ∷ [])

-- the fault of the first constant without a value
pub record IsFirstFault (text : List ℕ) (names : List (List ℕ)) (constants : List Constant) (fault : ProfileFault) : Type 0 where
  pub before : List Constant
  pub values : List ℤ
  pub have : AreValues text names before values
  pub constant : Constant
  pub after : List Constant
  pub split : constants ≡ before ++ constant ∷ after
  pub cause : ValueFault (earlier text names values) constant.value fault

-- an answer's fault is such a one; out of memory says nothing
abbrev pub Blames : (ProfileFault → Type 0) → ResolveError → Type 0
Blames Cause (errors.Fault fault) = Cause fault
Blames Cause errors.OutOfMemory = ⊤
