-- Which fault an expression has: the first one, inner parts first and left to right. A part with a fault inside isn't judged itself.
-- In a constant, where no attribute may stand, the ranges of parts are judged with their names and kinds.
use Rattle.std.specs.Prelude.{◌≡◌, ⊤, pos, neg_ℤ, Bool, true, false, List, [], ◌∷◌, Option, Some, None, Result, Ok, if◌then◌else◌}
use Rattle.std.specs.Option.{option_map, option_or}
use Rattle.std.specs.Result.{result_err}
use Rattle.text_source.specs.declared.span.Span.{Span}
use Rattle.text_tree.specs.declared.tree.Expr.{Expr as Tree}
use Rattle.text_tree.specs.declared.tree.Expr.{fold-Expr}
use Rattle.text_tree.specs.declared.tree.Expr.TheOpen.{Expr-F}
use Rattle.text_tree.specs.declared.tree.Owner.{Owner}
use Rattle.text_tree.specs.declared.tree.Owner.TheVariants as owners
use Rattle.text_tree.specs.declared.tree.Attribute.{Attribute as Word}
use Rattle.sem_expr.specs.declared.expr.Expr.{Expr}
use Rattle.sem_expr.specs.declared.expr.Subject.{Subject}
use Rattle.sem_expr.specs.declared.interval.Interval.{Interval}
use Rattle.sem_expr.specs.declared.fault.RangeFault.{RangeFault}
use Rattle.sem_expr.specs.Rules.{from_to}
use Rattle.sem_expr.specs.Ranged.{joined, both_ranged}
use Rattle.sem_expr.specs.declared.expr.Expr.TheVariants as expr
use Rattle.sem_expr.specs.declared.expr.Expr.TheVariants.{Parameter, Binary'}
use Rattle.sem_expr.specs.declared.expr.Cond.{Cond}
use Rattle.sem_expr.specs.declared.expr.Cond.TheVariants.{Constant, Compare, Not', And', Or'}
use Rattle.sem_profile.specs.declared.fault.ProfileFault.{ProfileFault}
use Rattle.sem_profile.specs.declared.fault.ProfileFaultKind.TheVariants as f
use Rattle.sem_profile.specs.declared.fault.ResolveError.{ResolveError}
use Rattle.sem_profile.specs.declared.fault.ResolveError.TheVariants as errors
use Rattle.sem_profile.specs.Faults.{about, unnamed}
use Rattle.text_statements.specs.declared.term.TermKind.{TermKind}
use Rattle.text_statements.specs.declared.term.TermKind.TheVariants.{Number, Truth}
use Rattle.text_statements.specs.declared.term.Term.{Term}
use Rattle.text_statements.specs.declared.term.Term.TheVariants as terms
use Rattle.text_statements.specs.declared.term.Meaning.{Meaning}
use Rattle.text_statements.specs.declared.term.Meaning.TheVariants as means
use Rattle.text_statements.specs.Names.{Names, plain, subject_of, side_of, measure_of}
use Rattle.text_statements.specs.Operators.{meaning_of}
use Rattle.text_statements.specs.Ranges.{range_of, of_range}

-- what an expression is of, its place without round brackets around it, and the first fault inside it
pub record Judgement : Type 0 where
  pub kind : TermKind
  pub place : Span
  pub fault : Option ProfileFault
  -- of a whole number without a fault
  pub range : Result Interval RangeFault

abbrev pub wrong_kind : Span → ProfileFault
wrong_kind at = unnamed f.WrongKind at

-- the fault at a place where the kinds differ
abbrev pub differing : TermKind → TermKind → Span → Option ProfileFault
differing Number Number at = None
differing Truth Truth at = None
differing Number Truth at = Some (wrong_kind at)
differing Truth Number at = Some (wrong_kind at)

-- the fault where an expression of this kind is wanted: one inside it, or else that it is of the other kind
abbrev pub wanted : TermKind → Judgement → Option ProfileFault
wanted kind j = option_or j.fault (differing kind j.kind j.place)

-- a name that stands for nothing is not known
abbrev pub unless_known : {A : Type 0} → Span → Option A → Option ProfileFault
unless_known name (Some x) = None
unless_known name None = Some (about f.UnknownName name)

abbrev pub owner_fault : Names → Owner → Option ProfileFault
owner_fault s owners.This = None
owner_fault s (owners.Field name) = unless_known name (subject_of s (owners.Field name))

-- where no attributes may stand, one is of the wrong kind
abbrev pub if_allowed : Bool → Span → Option ProfileFault → Option ProfileFault
if_allowed true at fault = fault
if_allowed false at fault = Some (wrong_kind at)

-- what stands for the range of what is no whole number
abbrev pub no_range : Result Interval RangeFault
no_range = Ok (from_to (pos 0) (pos 0))

-- the fault of a range, where ranges are judged
abbrev pub range_fault : Names → Result Interval RangeFault → Option ProfileFault
range_fault s r = if s.has_attributes then None else option_map of_range (result_err r)

-- a whole number of this range
abbrev pub numeral : Names → Span → Result Interval RangeFault → Judgement
numeral s at r = record { kind = Number; place = at; fault = range_fault s r; range = r }

abbrev pub name_judgement : Names → Span → Option Expr → Judgement
name_judgement s at None = record { kind = Number; place = at; fault = Some (about f.UnknownName at); range = no_range }
name_judgement s at (Some e) = numeral s at (range_of e)

abbrev pub attribute_range : Span → Word → Option Subject → Result Interval RangeFault
attribute_range at which None = no_range
attribute_range at which (Some whose) = range_of (expr.Attribute at record { subject = whose; side = side_of which; measure = measure_of which })

abbrev pub operator_judgement : Names → Span → Meaning → Judgement → Judgement → Judgement
operator_judgement s at (means.Arithmetic o) x y =
    let r = both_ranged (joined at o) x.range y.range in
    record { kind = Number; place = at; fault = option_or (option_or (wanted Number x) (wanted Number y)) (range_fault s r); range = r }
operator_judgement s at (means.Comparison o) x y = record { kind = Truth; place = at; fault = option_or (wanted Number x) (wanted Number y); range = no_range }
operator_judgement s at means.And x y = record { kind = Truth; place = at; fault = option_or (wanted Truth x) (wanted Truth y); range = no_range }
operator_judgement s at means.Or x y = record { kind = Truth; place = at; fault = option_or (wanted Truth x) (wanted Truth y); range = no_range }

abbrev pub judge : Names → Expr-F Judgement → Judgement
judge s (Expr-F.Number at n) = numeral s at (range_of (expr.Number at (pos n)))
judge s (Expr-F.Negative at n) = numeral s at (range_of (expr.Number at (neg_ℤ (pos n))))
judge s (Expr-F.Truth at b) = record { kind = Truth; place = at; fault = None; range = no_range }
judge s (Expr-F.Name at) = name_judgement s at (plain s at)
judge s (Expr-F.Attribute at owner which) =
    record { kind = Number; place = at; fault = if_allowed s.has_attributes at (owner_fault s owner); range = attribute_range at which (subject_of s owner) }
judge s (Expr-F.Group at x) = x
judge s (Expr-F.Not at x) = record { kind = Truth; place = at; fault = wanted Truth x; range = no_range }
judge s (Expr-F.Binary at operator sign x y) = operator_judgement s at (meaning_of operator) x y

abbrev pub judged : Names → Tree → Judgement
judged s = fold-Expr Judgement (judge s)

-- the fault of an expression where one of this kind is wanted
abbrev pub fault_of : TermKind → Names → Tree → Option ProfileFault
fault_of kind s x = wanted kind (judged s x)

-- the first fault that is there, of several parts
abbrev pub first_of : {A : Type 0} → (A → Option ProfileFault) → List A → Option ProfileFault
first_of fault [] = None
first_of fault (x ∷ xs) = option_or (fault x) (first_of fault xs)

-- an answer's fault is this one; out of memory says nothing
abbrev pub Refuses : Option ProfileFault → ResolveError → Type 0
Refuses fault (errors.Fault f) = fault ≡ Some f
Refuses fault errors.OutOfMemory = ⊤

-- ---- the judgement of a typed expression

abbrev pub place_of : Expr → Span
place_of (expr.Number at n) = at
place_of (Parameter at i) = at
place_of (expr.Attribute at t) = at
place_of (Binary' at op p x q y) = at

abbrev pub condition_place : Cond → Span
condition_place (Constant at b) = at
condition_place (Compare at op x y) = at
condition_place (Not' at p x) = at
condition_place (And' at p x q y) = at
condition_place (Or' at p x q y) = at

abbrev pub found : Term → Judgement
found (terms.Number e) = record { kind = Number; place = place_of e; fault = None; range = range_of e }
found (terms.Truth c) = record { kind = Truth; place = condition_place c; fault = None; range = no_range }
