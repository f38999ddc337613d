-- The constraints that statements give (docs/NOTATION.md), and the first fault in their expressions.
use Rattle.std.specs.Prelude.{ℕ, List, [], ◌∷◌, Option, None, Some}
use Rattle.std.specs.List.{AllZip}
use Rattle.text_source.specs.declared.span.Span.{Span}
use Rattle.text_tree.specs.declared.tree.Bound.{Bound}
use Rattle.text_tree.specs.declared.tree.Bracket.{Bracket}
use Rattle.text_tree.specs.declared.tree.Bracket.TheVariants as brackets
use Rattle.text_tree.specs.declared.tree.Expr.{Expr as Tree}
use Rattle.text_tree.specs.declared.tree.Item.{Item}
use Rattle.text_tree.specs.declared.tree.Item.TheVariants as items
use Rattle.sem_expr.specs.declared.expr.Expr.{Expr}
use Rattle.sem_expr.specs.declared.expr.Side.{Side}
use Rattle.sem_profile.specs.declared.fault.ProfileFault.{ProfileFault}
use Rattle.sem_profile.specs.declared.profile.Constraint.{Constraint}
use Rattle.sem_profile.specs.declared.profile.Constraint.TheVariants as constraints
use Rattle.text_statements.specs.declared.term.TermKind.TheVariants as kind
use Rattle.text_statements.specs.Conjuncts.{AreConjuncts}
use Rattle.text_statements.specs.Judged.{fault_of, first_of}
use Rattle.text_statements.specs.Names.{Names, field_of}
use Rattle.text_statements.specs.declared.constraints.Said.{Said}
use Rattle.text_statements.specs.declared.constraints.Said.TheVariants as said
use Rattle.text_statements.specs.Arguments.{IsNumber}

abbrev pub on_index : Side → Span → List Expr → Option ℕ → List Constraint
on_index side place lengths (Some i) = constraints.Bracket i side lengths place ∷ []
on_index side place lengths None = []

-- a bracket on a side of the field of the name; nothing where the name is no field
abbrev pub on_field : Names → Side → Span → Span → List Expr → List Constraint
on_field s side name place lengths = on_index side place lengths (field_of s name)

-- VARIABLE says nothing
pub data BracketMeans (s : Names) (side : Side) (name : Span) : Bracket → List Constraint → Type 0 where
  variable : {at : Span} → BracketMeans s side name (brackets.Variable at) []
  lengths : {place : Span} {parts : List Tree} (es : List Expr) → AllZip (IsNumber s) parts es
      → BracketMeans s side name (brackets.Lengths place parts) (on_field s side name place es)

pub data OptionalMeans (s : Names) (side : Side) (name : Span) : Option Bracket → List Constraint → Type 0 where
  no_bracket : OptionalMeans s side name None []
  with_bracket : {b : Bracket} {cs : List Constraint} → BracketMeans s side name b cs → OptionalMeans s side name (Some b) cs

-- the constraints of one statement: its bracket, or the conjuncts of an ENFORCE
pub data ItemMeans (s : Names) (side : Side) : Item → List Constraint → Type 0 where
  field : {name : Span} {bracket : Option Bracket} {cs : List Constraint} → OptionalMeans s side name bracket cs → ItemMeans s side (items.Field name bracket) cs
  bound : {b : Bound} {cs : List Constraint} → OptionalMeans s side b.name b.bracket cs → ItemMeans s side (items.Bound b) cs
  enforced : {at : Span} {condition : Tree} {cs : List Constraint} → AreConjuncts s condition cs → ItemMeans s side (items.Enforce at condition) cs

-- what the code found of one, as a list
abbrev pub listed : Said → List Constraint
listed said.Nothing = []
listed (said.One c) = c ∷ []
listed (said.Several cs) = cs

-- ---- faults

abbrev pub bracket_fault : Names → Bracket → Option ProfileFault
bracket_fault s (brackets.Variable at) = None
bracket_fault s (brackets.Lengths place parts) = first_of (fault_of kind.Number s) parts

abbrev pub optional_fault : Names → Option Bracket → Option ProfileFault
optional_fault s None = None
optional_fault s (Some bracket) = bracket_fault s bracket

abbrev pub item_fault : Names → Item → Option ProfileFault
item_fault s (items.Field name bracket) = optional_fault s bracket
item_fault s (items.Bound b) = optional_fault s b.bracket
item_fault s (items.Enforce at condition) = fault_of kind.Truth s condition
