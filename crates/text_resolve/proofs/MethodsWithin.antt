-- An expression names only what its scope has.
use Rattle.std.proofs.Common.{◌≡◌, ◌∙◌, ℕ, ◌<◌, ◌≤◌, suc, zero, List, [], ◌∷◌, ◌++◌, length, refl, subst, arith, IfSome}
use Rattle.std.specs.Prelude.{ℤ, slice_get, Option, Some, None, Bool, position}
use Rattle.std.specs.List.{AllByRecursion}
use Rattle.std.specs.Option.{option_map, option_or}
use Rattle.std.proofs.lemmas.List.Quantifiers.{position-Some}
use Rattle.text_source.specs.declared.span.Span.{Span}
use Rattle.text_tree.specs.declared.tree.Expr.{Expr as Tree}
use Rattle.text_tree.specs.declared.tree.Owner.{Owner}
use Rattle.text_tree.specs.declared.tree.Owner.TheVariants as owners
use Rattle.sem_expr.specs.declared.expr.Expr.{Expr}
use Rattle.sem_expr.specs.declared.expr.Expr.TheVariants as expr
use Rattle.sem_expr.specs.declared.expr.Subject.{Subject}
use Rattle.sem_expr.specs.declared.expr.Subject.TheVariants as subjects
use Rattle.sem_expr.specs.declared.inputs.Input.{Input}
use Rattle.sem_expr.specs.declared.inputs.Input.TheVariants as input
use Rattle.sem_expr.specs.Inputs.{inputs_of, condition_inputs_of}
use Rattle.sem_graph.proofs.OrderPushing.{some_is}
use Rattle.text_statements.specs.declared.term.Term.{Term}
use Rattle.text_statements.specs.declared.term.Term.TheVariants.{Number, Truth}
use Rattle.text_statements.specs.Names.{Names, index_of, number_named, subject_of}
use Rattle.text_statements.specs.Means.{Means, number, negative, truth, name, attribute, group, denial, arithmetic, comparison, conjunction, disjunction}
use Rattle.sem_profile.specs.WellFormed.{AreWithin}

-- ---- of each element

pub all_both : {X : Type 0} (P : X → Type 0) (xs ys : List X) → AllByRecursion P xs → AllByRecursion P ys → AllByRecursion P (xs ++ ys)
all_both P [] ys p q = q
all_both P (x ∷ xs) ys p q = (p.0, all_both P xs ys p.1 q)

pub all_at : {X : Type 0} (P : X → Type 0) (xs : List X) → AllByRecursion P xs → (k : ℕ) (x : X) → slice_get xs k ≡ Some x → P x
all_at P [] all k x at = let wrong : None ≡ Some x = at in absurd cc
all_at P (y ∷ ys) all zero x at = subst P (some_is at) all.0
all_at P (y ∷ ys) all (suc k) x at = all_at P ys all.1 k x at

-- ---- inputs

-- the scope has at most so many fields and parameters
pub record ScopeIsWithin (s : Names) (fields parameters : ℕ) : Type 0 where
  pub of_fields : length s.fields ≤ fields
  pub of_parameters : length s.parameters ≤ parameters

abbrev pub SubjectIsWithin : ℕ → Subject → Type 0
SubjectIsWithin fields u = (i : ℕ) → u ≡ subjects.Field i → i < fields

abbrev pub InputIsWithin : ℕ → ℕ → Input → Type 0
InputIsWithin fields parameters (input.Attribute t) = SubjectIsWithin fields t.subject
InputIsWithin fields parameters (input.Parameter i) = i < parameters

abbrev pub AllWithin : ℕ → ℕ → List Input → Type 0
AllWithin fields parameters inputs = AllByRecursion (InputIsWithin fields parameters) inputs

pub are_within : (fields parameters : ℕ) (inputs : List Input) → AllWithin fields parameters inputs → AreWithin fields parameters inputs
are_within fields parameters inputs all = record {
  of_fields = λ k i t at is. all_at (InputIsWithin fields parameters) inputs all k (input.Attribute t) at i is;
  of_parameters = λ k i at. all_at (InputIsWithin fields parameters) inputs all k (input.Parameter i) at;
}

-- ---- names

pub position_is_within : (test : List ℕ → Bool) (names : List (List ℕ)) (count : ℕ) → length names ≤ count → IfSome (position test names) (λ i. i < count)
position_is_within test names count le = by (position test names) refl
  where
    by : (o : Option ℕ) → position test names ≡ o → IfSome o (λ i. i < count)
    by None e = tt
    by (Some i) e = let found = position-Some test names i [] e in let lt : i < length names = found.0 in omega (arith, lt, le)

plain_is_within : (fields parameters : ℕ) (at : Span) (e : Expr) (p : Option ℕ) (v : Option ℤ) → IfSome p (λ i. i < parameters)
    → option_or (option_map (λ i. expr.Parameter at i) p) (option_map (λ n. expr.Number at n) v) ≡ Some e → AllWithin fields parameters (inputs_of e)
plain_is_within fields parameters at e (Some i) v lt is = subst (λ z. AllWithin fields parameters (inputs_of z)) (some_is is) (lt, tt)
plain_is_within fields parameters at e None (Some n) lt is = subst (λ z. AllWithin fields parameters (inputs_of z)) (some_is is) tt
plain_is_within fields parameters at e None None lt is = let wrong : None ≡ Some e = is in absurd cc

field_is : (i j : ℕ) → subjects.Field i ≡ subjects.Field j → i ≡ j
field_is i j e = cc

found_is_within : (fields : ℕ) (o : Option ℕ) (u : Subject) → IfSome o (λ i. i < fields) → option_map (λ i. subjects.Field i) o ≡ Some u → SubjectIsWithin fields u
found_is_within fields (Some j) u lt is = λ i e. subst (λ n. n < fields) (field_is j i (some_is is ∙ e)) lt
found_is_within fields None u lt is = let wrong : None ≡ Some u = is in absurd cc

subject_is_within : (s : Names) (fields : ℕ) → length s.fields ≤ fields → (owner : Owner) (u : Subject) → subject_of s owner ≡ Some u → SubjectIsWithin fields u
subject_is_within s fields le owners.This u is = λ i e. let wrong : subjects.This ≡ subjects.Field i = some_is is ∙ e in absurd cc
subject_is_within s fields le (owners.Field at) u is = found_is_within fields (index_of s.text s.fields at) u (position_is_within _ s.fields fields le) is

-- ---- expressions

abbrev pub TermIsWithin : ℕ → ℕ → Term → Type 0
TermIsWithin fields parameters (Number e) = AllWithin fields parameters (inputs_of e)
TermIsWithin fields parameters (Truth c) = AllWithin fields parameters (condition_inputs_of c)

pub meaning_is_within : (s : Names) (fields parameters : ℕ) → ScopeIsWithin s fields parameters → (part : Tree) (term : Term) → Means s part term → TermIsWithin fields parameters term
meaning_is_within s fields parameters scope part term number = tt
meaning_is_within s fields parameters scope part term negative = tt
meaning_is_within s fields parameters scope part term truth = tt
meaning_is_within s fields parameters scope part term (name {at = at} {e = e} is) =
    plain_is_within fields parameters at e (index_of s.text s.parameters at) (number_named s at) (position_is_within _ s.parameters parameters scope.of_parameters) is
meaning_is_within s fields parameters scope part term (attribute {owner = owner} {whose = whose} has is) = (subject_is_within s fields scope.of_fields owner whose is, tt)
meaning_is_within s fields parameters scope part term (group {x = x} h) = meaning_is_within s fields parameters scope x term h
meaning_is_within s fields parameters scope part term (denial {x = x} {c = c} h) = meaning_is_within s fields parameters scope x (Truth c) h
meaning_is_within s fields parameters scope part term (arithmetic {x = x} {y = y} {l = l} {r = r} is h k) =
    all_both (InputIsWithin fields parameters) (inputs_of l) (inputs_of r) (meaning_is_within s fields parameters scope x (Number l) h) (meaning_is_within s fields parameters scope y (Number r) k)
meaning_is_within s fields parameters scope part term (comparison {x = x} {y = y} {l = l} {r = r} is h k) =
    all_both (InputIsWithin fields parameters) (inputs_of l) (inputs_of r) (meaning_is_within s fields parameters scope x (Number l) h) (meaning_is_within s fields parameters scope y (Number r) k)
meaning_is_within s fields parameters scope part term (conjunction {x = x} {y = y} {c = c} {d = d} is h k) =
    all_both (InputIsWithin fields parameters) (condition_inputs_of c) (condition_inputs_of d) (meaning_is_within s fields parameters scope x (Truth c) h) (meaning_is_within s fields parameters scope y (Truth d) k)
meaning_is_within s fields parameters scope part term (disjunction {x = x} {y = y} {c = c} {d = d} is h k) =
    all_both (InputIsWithin fields parameters) (condition_inputs_of c) (condition_inputs_of d) (meaning_is_within s fields parameters scope x (Truth c) h) (meaning_is_within s fields parameters scope y (Truth d) k)
