-- The constraints of statements name only what their scope has.
use Rattle.std.proofs.Common.{ℕ, ◌<◌, List, [], ◌∷◌, IfSome}
use Rattle.std.specs.Prelude.{Option, Some, None}
use Rattle.std.specs.List.{AllByRecursion, AllZip}
use Rattle.text_source.specs.declared.span.Span.{Span}
use Rattle.text_tree.specs.declared.tree.Bracket.{Bracket as TreeBracket}
use Rattle.text_tree.specs.declared.tree.Expr.{Expr as Tree}
use Rattle.text_tree.specs.declared.tree.Item.{Item}
use Rattle.sem_expr.specs.declared.expr.Expr.{Expr}
use Rattle.sem_expr.specs.declared.expr.Side.{Side}
use Rattle.sem_expr.specs.Inputs.{inputs_of, condition_inputs_of}
use Rattle.sem_profile.specs.declared.profile.Constraint.{Constraint}
use Rattle.sem_profile.specs.declared.profile.Constraint.TheVariants.{Bracket, Enforce}
use Rattle.text_statements.specs.declared.term.Term.TheVariants.{Number, Truth}
use Rattle.text_statements.specs.Conjuncts.{AreConjuncts, both, single}
use Rattle.text_statements.specs.Names.{Names, field_of}
use Rattle.text_statements.specs.Arguments.{IsNumber}
use Rattle.text_statements.specs.Constraints.{on_index, BracketMeans, variable, OptionalMeans, no_bracket, with_bracket, ItemMeans, enforced}
use Rattle.text_statements.specs.Constraints as statements
use Rattle.text_methods.specs.Constraints.{Statement, AreNumbered, none, more}
use Rattle.text_resolve.proofs.MethodsWithin.{ScopeIsWithin, AllWithin, all_both, meaning_is_within, position_is_within}

-- all inputs of the expression
abbrev pub ExprIsWithin : ℕ → ℕ → Expr → Type 0
ExprIsWithin fields parameters e = AllWithin fields parameters (inputs_of e)

pub numbers_are_within : (s : Names) (fields parameters : ℕ) → ScopeIsWithin s fields parameters → (parts : List Tree) (es : List Expr) → AllZip (IsNumber s) parts es
    → AllByRecursion (ExprIsWithin fields parameters) es
numbers_are_within s fields parameters scope [] [] all = tt
numbers_are_within s fields parameters scope [] (e ∷ es) all = absurd all
numbers_are_within s fields parameters scope (x ∷ xs) [] all = absurd all
numbers_are_within s fields parameters scope (x ∷ xs) (e ∷ es) all =
    (meaning_is_within s fields parameters scope x (Number e) all.0, numbers_are_within s fields parameters scope xs es all.1)

abbrev pub ConstraintIsWithin : ℕ → ℕ → Constraint → Type 0
ConstraintIsWithin fields parameters (Bracket i side lengths place) = (i < fields) × AllByRecursion (ExprIsWithin fields parameters) lengths
ConstraintIsWithin fields parameters (Enforce c place) = AllWithin fields parameters (condition_inputs_of c)

abbrev pub AreConstrained : ℕ → ℕ → List Constraint → Type 0
AreConstrained fields parameters cs = AllByRecursion (ConstraintIsWithin fields parameters) cs

conjuncts_are_within : (s : Names) (fields parameters : ℕ) → ScopeIsWithin s fields parameters → (part : Tree) (cs : List Constraint) → AreConjuncts s part cs → AreConstrained fields parameters cs
conjuncts_are_within s fields parameters scope part cs (both {x = x} {y = y} {left = ls} {right = rs} h k) =
    all_both (ConstraintIsWithin fields parameters) ls rs (conjuncts_are_within s fields parameters scope x ls h) (conjuncts_are_within s fields parameters scope y rs k)
conjuncts_are_within s fields parameters scope part cs (single {c = c} alone means place) = (meaning_is_within s fields parameters scope part (Truth c) means, tt)

on_index_is_within : (fields parameters : ℕ) (side : Side) (place : Span) (es : List Expr) (o : Option ℕ) → IfSome o (λ i. i < fields) → AllByRecursion (ExprIsWithin fields parameters) es
    → AreConstrained fields parameters (on_index side place es o)
on_index_is_within fields parameters side place es (Some i) lt all = ((lt, all), tt)
on_index_is_within fields parameters side place es None lt all = tt

bracket_is_within : (s : Names) (fields parameters : ℕ) → ScopeIsWithin s fields parameters → (side : Side) (at : Span) (b : TreeBracket) (cs : List Constraint) → BracketMeans s side at b cs
    → AreConstrained fields parameters cs
bracket_is_within s fields parameters scope side at b cs variable = tt
bracket_is_within s fields parameters scope side at b cs (statements.lengths {place = place} {parts = parts} es all) =
    on_index_is_within fields parameters side place es (field_of s at) (position_is_within _ s.fields fields scope.of_fields) (numbers_are_within s fields parameters scope parts es all)

optional_is_within : (s : Names) (fields parameters : ℕ) → ScopeIsWithin s fields parameters → (side : Side) (at : Span) (o : Option TreeBracket) (cs : List Constraint) → OptionalMeans s side at o cs
    → AreConstrained fields parameters cs
optional_is_within s fields parameters scope side at o cs no_bracket = tt
optional_is_within s fields parameters scope side at o cs (with_bracket {b = b} means) = bracket_is_within s fields parameters scope side at b cs means

item_is_within : (s : Names) (fields parameters : ℕ) → ScopeIsWithin s fields parameters → (side : Side) (item : Item) (cs : List Constraint) → ItemMeans s side item cs → AreConstrained fields parameters cs
item_is_within s fields parameters scope side item cs (statements.field {name = at} {bracket = o} means) = optional_is_within s fields parameters scope side at o cs means
item_is_within s fields parameters scope side item cs (statements.bound {b = b} means) = optional_is_within s fields parameters scope side b.name b.bracket cs means
item_is_within s fields parameters scope side item cs (enforced {condition = condition} conjuncts) = conjuncts_are_within s fields parameters scope condition cs conjuncts

pub constraints_are_within : (s : Names) (fields parameters : ℕ) → ScopeIsWithin s fields parameters → (xs : List Statement) (cs : List Constraint) → AreNumbered s xs cs → AreConstrained fields parameters cs
constraints_are_within s fields parameters scope xs cs none = tt
constraints_are_within s fields parameters scope xs cs (more {x = x} {xs = rest} {cs = first} {ds = ds} means others) =
    all_both (ConstraintIsWithin fields parameters) first ds (item_is_within s fields parameters scope x.side x.item first means) (constraints_are_within s fields parameters scope rest ds others)
