-- What equations tell of a parameter or a reference, against the constraints.
use Rattle.std.proofs.Common.{◌≡◌, ◌∙◌, refl, sym, ap, ℕ, Bool, true, false, nat_eq, cond, List, [], ◌∷◌, Option, Some, None}
use Rattle.std.specs.Prelude.{◌&&◌, ◌||◌, ℤ, Result, Ok, Err, slice_get, option_and_then}
use Rattle.std.proofs.lemmas.Bool.{eqb-true}
use Rattle.std.specs.List.{list_any, filter_map, cons_option}
use Rattle.sem_expr.specs.declared.interval.Interval.{Interval}
use Rattle.sem_expr.specs.declared.fault.RangeFault.{RangeFault}
use Rattle.sem_expr.specs.declared.expr.Comparison.TheVariants.{Equal, NotEqual, Less, Greater, AtMost, AtLeast}
use Rattle.sem_expr.specs.declared.expr.Subject.{Subject}
use Rattle.sem_expr.specs.declared.expr.Subject.TheVariants as subject
use Rattle.sem_expr.specs.declared.expr.Side.{Side}
use Rattle.sem_expr.specs.declared.expr.Side.TheVariants.{Uncompressed, Compressed}
use Rattle.sem_expr.specs.declared.expr.Measure.{Measure}
use Rattle.sem_expr.specs.declared.expr.Measure.TheVariants as measure
use Rattle.sem_expr.specs.declared.expr.Expr.{Expr}
use Rattle.sem_expr.specs.declared.expr.Expr.TheVariants as expr
use Rattle.sem_expr.specs.declared.expr.Expr.TheVariants.{Number, Parameter, Binary'}
use Rattle.sem_expr.specs.declared.expr.Cond.TheVariants.{Constant, Compare, Not', And', Or'}
use Rattle.sem_expr.specs.Ranged.{ranged}
use Rattle.sem_expr.specs.Bounds.{anything, bounding_of}
use Rattle.sem_profile.specs.declared.profile.Field.{Field}
use Rattle.sem_profile.specs.declared.profile.Constraint.{Constraint}
use Rattle.sem_profile.specs.declared.profile.Constraint.TheVariants.{Bracket, Enforce}
use Rattle.sem_profile.specs.Constants.{constant, where_ranged}
use Rattle.cert_rules.specs.Facts.{same_side}
use Rattle.cert_rules.specs.Rules.{when, first_or, same_subject, same_measure}
use Rattle.cert_rules.specs.Trees.{is_parameter, compared_with, said_of, denied_of, is_number, is_other, is_denied, is_said, is_static_field, is_value}
use Rattle.cert_trees.specs.declared.equations.Equation.{Equation}
use Rattle.cert_trees.specs.Equations.{parameter_of, static_value, static_of, paired, compared_by, equation_by, equation_of, reference_of, excludes, fixes}

-- the test of an equation, where there is one
abbrev pub any_of : (Equation → Bool) → Option Equation → Bool
any_of f None = false
any_of f (Some e) = f e

no_value : (r : Result Interval RangeFault) → where_ranged r None ≡ None
no_value (Ok i) = refl
no_value (Err f) = refl

-- a parameter is no constant, and neither is the value of a field
parameter_varies : (x : Expr) (p : ℕ) → parameter_of x ≡ Some p → constant x ≡ None
parameter_varies (Parameter s i) p e = no_value (ranged (bounding_of anything) (Parameter s i))
parameter_varies (Number s n) p e = absurd (cc)
parameter_varies (expr.Attribute s t) p e = absurd (cc)
parameter_varies (Binary' s op x l y r) p e = absurd (cc)

static_varies : (fields : List Field) (x : Expr) (i : ℕ) → static_of fields x ≡ Some i → constant x ≡ None
static_varies fields (expr.Attribute s t) i e = by t.subject t.side t.measure e
  where
    by : (z : Subject) (d : Side) (m : Measure) → static_value fields z d m ≡ Some i → constant (expr.Attribute s (record { subject = z; side = d; measure = m })) ≡ None
    by (subject.Field j) Uncompressed measure.Value e = no_value (ranged (bounding_of anything) (expr.Attribute s (record { subject = subject.Field j; side = Uncompressed; measure = measure.Value })))
    by (subject.Field j) Uncompressed measure.Length e = absurd (cc)
    by (subject.Field j) Compressed m e = absurd (cc)
    by subject.This z m e = absurd (cc)
static_varies fields (Parameter s n) i e = absurd (cc)
static_varies fields (Number s n) i e = absurd (cc)
static_varies fields (Binary' s op x l y r) i e = absurd (cc)

and_false : (b : Bool) → (b && false) ≡ false
and_false true = refl
and_false false = refl

-- what is tested is that one
abbrev pub named : ℕ → Option ℕ → Bool
named p None = false
named p (Some i) = nat_eq i p

abbrev where_named : ℕ → Option ℕ → Option ℤ → Option ℤ
where_named p a v = cond (named p a) v None

constant_where : (b : Bool) (y : Expr) → option_and_then constant (when b y) ≡ cond b (constant y) None
constant_where true y = refl
constant_where false y = refl

either_way : {A : Type 0} (b : Bool) (x : A) → cond b x x ≡ x
either_way true x = refl
either_way false x = refl

no_number : (p : ℕ) (a : Option ℕ) → where_named p a None ≡ None
no_number p a = either_way (named p a) None

-- tests of what an expression is, if it varies
module _ (of : Expr → Option ℕ) (varies : (x : Expr) (p : ℕ) → of x ≡ Some p → constant x ≡ None) where
  with_is : (p : ℕ) (x y : Expr) → compared_with (λ z. named p (of z)) x y ≡ first_or (where_named p (of x) (constant y)) (where_named p (of y) (constant x))
  with_is p x y = λ i. first_or (constant_where (named p (of x)) y i) (constant_where (named p (of y)) x i)

  module _ (f : Equation → Bool) (g : Option ℤ → Bool) (p : ℕ) (equal : Bool) (none : g None ≡ false)
      (law : (q : ℕ) (c : ℤ) → f record { tested = q; constant = c; equal = equal } ≡ (nat_eq q p && g (Some c))) where
    one_side : (a : Option ℕ) (v : Option ℤ) → any_of f (paired equal a v) ≡ g (where_named p a v)
    one_side None v = sym none
    one_side (Some q) None = sym none ∙ ap g (sym (no_number p (Some q)))
    one_side (Some q) (Some c) = law q c ∙ by (nat_eq q p)
      where
        by : (b : Bool) → (b && g (Some c)) ≡ g (cond b (Some c) None)
        by true = refl
        by false = sym none

    unpaired : (a : Option ℕ) → paired equal a None ≡ None
    unpaired None = refl
    unpaired (Some q) = refl

    -- either way round: the one that is tested is no constant
    sides : (a b : Option ℕ) (u v : Option ℤ) → ((q : ℕ) → a ≡ Some q → u ≡ None) → ((q : ℕ) → b ≡ Some q → v ≡ None) →
        any_of f (first_or (paired equal a v) (paired equal b u)) ≡ g (first_or (where_named p a v) (where_named p b u))
    sides None b u v left right = one_side b u
    sides (Some q) b u None left right =
        ap (λ o. any_of f (first_or o (paired equal b u))) (unpaired (Some q)) ∙ (one_side b u ∙ ap (λ o. g (first_or o (where_named p b u))) (sym (no_number p (Some q))))
    sides (Some q) (Some r) u (Some c) left right = let wrong : Some c ≡ None = right r refl in absurd (cc)
    sides (Some q) None u (Some c) left right = one_side (Some q) (Some c) ∙ by (nat_eq q p)
      where
        by : (b : Bool) → g (cond b (Some c) None) ≡ g (first_or (cond b (Some c) None) None)
        by true = refl
        by false = refl

    of_comparison : (x y : Expr) → any_of f (compared_by of x y (Some equal)) ≡ g (compared_with (λ z. named p (of z)) x y)
    of_comparison x y = sides (of x) (of y) (constant x) (constant y) (varies x) (varies y) ∙ ap g (sym (with_is p x y))

  or_false : (b : Bool) → (b || false) ≡ b
  or_false true = refl
  or_false false = refl

  module _ (p : ℕ) (c : ℤ) where
    abbrev is : Expr → Bool
    is x = named p (of x)

    excluded_by : (k : Constraint) → any_of (excludes p c) (equation_by of k) ≡ (is_other c (said_of is k) || is_number c (denied_of is k))
    excluded_by (Bracket i side lengths place) = refl
    excluded_by (Enforce (Compare s Equal x y) place) = of_comparison (excludes p c) (is_other c) p true refl (λ q d. refl) x y ∙ sym (or_false (is_other c (compared_with is x y)))
    excluded_by (Enforce (Compare s NotEqual x y) place) = of_comparison (excludes p c) (is_number c) p false refl (λ q d. refl) x y
    excluded_by (Enforce (Compare s Less x y) place) = refl
    excluded_by (Enforce (Compare s Greater x y) place) = refl
    excluded_by (Enforce (Compare s AtMost x y) place) = refl
    excluded_by (Enforce (Compare s AtLeast x y) place) = refl
    excluded_by (Enforce (Constant s b) place) = refl
    excluded_by (Enforce (Not' s q x) place) = refl
    excluded_by (Enforce (And' s q x r y) place) = refl
    excluded_by (Enforce (Or' s q x r y) place) = refl

    fixed_by : (k : Constraint) → any_of (fixes p c) (equation_by of k) ≡ is_number c (said_of is k)
    fixed_by (Bracket i side lengths place) = refl
    fixed_by (Enforce (Compare s Equal x y) place) = of_comparison (fixes p c) (is_number c) p true refl (λ q d. refl) x y
    fixed_by (Enforce (Compare s NotEqual x y) place) = of_comparison (fixes p c) (λ o. false) p false refl (λ q d. refl) x y
    fixed_by (Enforce (Compare s Less x y) place) = refl
    fixed_by (Enforce (Compare s Greater x y) place) = refl
    fixed_by (Enforce (Compare s AtMost x y) place) = refl
    fixed_by (Enforce (Compare s AtLeast x y) place) = refl
    fixed_by (Enforce (Constant s b) place) = refl
    fixed_by (Enforce (Not' s q x) place) = refl
    fixed_by (Enforce (And' s q x r y) place) = refl
    fixed_by (Enforce (Or' s q x r y) place) = refl

    among : (f : Equation → Bool) (g : Constraint → Bool) → ((k : Constraint) → any_of f (equation_by of k) ≡ g k) → (ks : List Constraint) → list_any f (filter_map (equation_by of) ks) ≡ list_any g ks
    among f g same [] = refl
    among f g same (k ∷ ks) = first (equation_by of k) ∙ (λ i. same k i || among f g same ks i)
      where
        first : (o : Option Equation) → list_any f (cons_option o (filter_map (equation_by of) ks)) ≡ (any_of f o || list_any f (filter_map (equation_by of) ks))
        first None = refl
        first (Some e) = refl

    all_denied : (ks : List Constraint) → list_any (excludes p c) (filter_map (equation_by of) ks) ≡ is_denied is c ks
    all_denied ks = among (excludes p c) (λ k. is_other c (said_of is k) || is_number c (denied_of is k)) excluded_by ks

    all_said : (ks : List Constraint) → list_any (fixes p c) (filter_map (equation_by of) ks) ≡ is_said is c ks
    all_said ks = among (fixes p c) (λ k. is_number c (said_of is k)) fixed_by ks

-- ---- parameters

is_named : (p : ℕ) (x : Expr) → is_parameter p x ≡ named p (parameter_of x)
is_named p (Parameter s i) = refl
is_named p (Number s n) = refl
is_named p (expr.Attribute s t) = refl
is_named p (Binary' s op x l y r) = refl

alike : (is other : Expr → Bool) → ((x : Expr) → is x ≡ other x) → is ≡ other
alike is other each = λ i x. each x i

pub all_excluded : (p : ℕ) (c : ℤ) (ks : List Constraint) → list_any (excludes p c) (filter_map equation_of ks) ≡ is_denied (is_parameter p) c ks
all_excluded p c ks = all_denied parameter_of parameter_varies p c ks ∙ ap (λ is. is_denied is c ks) (alike (λ x. named p (parameter_of x)) (is_parameter p) (λ x. sym (is_named p x)))

pub all_fixed : (p : ℕ) (c : ℤ) (ks : List Constraint) → list_any (fixes p c) (filter_map equation_of ks) ≡ is_said (is_parameter p) c ks
all_fixed p c ks = all_said parameter_of parameter_varies p c ks ∙ ap (λ is. is_said is c ks) (alike (λ x. named p (parameter_of x)) (is_parameter p) (λ x. sym (is_named p x)))

-- ---- references

-- of nothing nothing is denied or said
none_denied : (c : ℤ) (ks : List Constraint) → is_denied (λ x. false) c ks ≡ false
none_denied c [] = refl
none_denied c (k ∷ ks) = (λ i. by k i || is_denied (λ x. false) c ks) ∙ none_denied c ks
  where
    by : (k : Constraint) → (is_other c (said_of (λ x. false) k) || is_number c (denied_of (λ x. false) k)) ≡ false
    by (Bracket i side lengths place) = refl
    by (Enforce (Compare s Equal x y) place) = refl
    by (Enforce (Compare s NotEqual x y) place) = refl
    by (Enforce (Compare s Less x y) place) = refl
    by (Enforce (Compare s Greater x y) place) = refl
    by (Enforce (Compare s AtMost x y) place) = refl
    by (Enforce (Compare s AtLeast x y) place) = refl
    by (Enforce (Constant s b) place) = refl
    by (Enforce (Not' s q x) place) = refl
    by (Enforce (And' s q x r y) place) = refl
    by (Enforce (Or' s q x r y) place) = refl

none_said : (c : ℤ) (ks : List Constraint) → is_said (λ x. false) c ks ≡ false
none_said c [] = refl
none_said c (k ∷ ks) = (λ i. by k i || is_said (λ x. false) c ks) ∙ none_said c ks
  where
    by : (k : Constraint) → is_number c (said_of (λ x. false) k) ≡ false
    by (Bracket i side lengths place) = refl
    by (Enforce (Compare s Equal x y) place) = refl
    by (Enforce (Compare s NotEqual x y) place) = refl
    by (Enforce (Compare s Less x y) place) = refl
    by (Enforce (Compare s Greater x y) place) = refl
    by (Enforce (Compare s AtMost x y) place) = refl
    by (Enforce (Compare s AtLeast x y) place) = refl
    by (Enforce (Constant s b) place) = refl
    by (Enforce (Not' s q x) place) = refl
    by (Enforce (And' s q x r y) place) = refl
    by (Enforce (Or' s q x r y) place) = refl

and_true : (b : Bool) → (b && true) ≡ b
and_true true = refl
and_true false = refl

module _ (fields : List Field) (i : ℕ) where
  of_both : (a : Bool) (j : ℕ) → nat_eq j i ≡ true → named i (when a j) ≡ a
  of_both true j e = e
  of_both false j e = refl

  of_neither : (a : Bool) (j : ℕ) → nat_eq j i ≡ false → named i (when a j) ≡ false
  of_neither true j e = e
  of_neither false j e = refl

  -- the expression is that field's value, where the field is static
  static_named : (b : Bool) → is_static_field (slice_get fields i) ≡ b → (x : Expr) → named i (static_of fields x) ≡ (b && is_value i x)
  static_named b e (Number s n) = sym (and_false b)
  static_named b e (Parameter s n) = sym (and_false b)
  static_named b e (Binary' s op x l y r) = sym (and_false b)
  static_named b e (expr.Attribute s t) = by t.subject t.side t.measure
    where
      at_field : (j : ℕ) (a : Bool) → is_static_field (slice_get fields j) ≡ a → (c : Bool) → nat_eq j i ≡ c → named i (when a j) ≡ (b && (nat_eq j i && (true && true)))
      at_field j a is true same =
          let here : a ≡ b = sym is ∙ (ap (λ n. is_static_field (slice_get fields n)) (eqb-true j i same) ∙ e) in
          of_both a j same ∙ (here ∙ sym (ap (λ z. b && (z && (true && true))) same ∙ and_true b))
      at_field j a is false other = of_neither a j other ∙ sym (ap (λ z. b && (z && (true && true))) other ∙ and_false b)

      by : (s : Subject) (z : Side) (m : Measure) → named i (static_value fields s z m) ≡ (b && (same_subject s (subject.Field i) && (same_side z Uncompressed && same_measure m measure.Value)))
      by (subject.Field j) Uncompressed measure.Value = at_field j (is_static_field (slice_get fields j)) refl (nat_eq j i) refl
      by (subject.Field j) Uncompressed measure.Length = sym (ap (λ z. b && z) (and_false (nat_eq j i)) ∙ and_false b)
      by (subject.Field j) Compressed measure.Value = sym (ap (λ z. b && z) (and_false (nat_eq j i)) ∙ and_false b)
      by (subject.Field j) Compressed measure.Length = sym (ap (λ z. b && z) (and_false (nat_eq j i)) ∙ and_false b)
      by subject.This z m = sym (and_false b)

  all_refer : (f : (Expr → Bool) → Bool) → f (λ x. false) ≡ false → f (λ x. named i (static_of fields x)) ≡ (is_static_field (slice_get fields i) && f (is_value i))
  all_refer f none = by (is_static_field (slice_get fields i)) refl
    where
      by : (b : Bool) → is_static_field (slice_get fields i) ≡ b → f (λ x. named i (static_of fields x)) ≡ (b && f (is_value i))
      by true e = ap f (alike (λ x. named i (static_of fields x)) (is_value i) (static_named true e))
      by false e = ap f (alike (λ x. named i (static_of fields x)) (λ x. false) (static_named false e)) ∙ none

  pub all_never : (c : ℤ) (ks : List Constraint) → list_any (excludes i c) (filter_map (reference_of fields) ks) ≡ (is_static_field (slice_get fields i) && is_denied (is_value i) c ks)
  all_never c ks = all_denied (static_of fields) (static_varies fields) i c ks ∙ all_refer (λ is. is_denied is c ks) (none_denied c ks)

  pub all_only : (c : ℤ) (ks : List Constraint) → list_any (fixes i c) (filter_map (reference_of fields) ks) ≡ (is_static_field (slice_get fields i) && is_said (is_value i) c ks)
  all_only c ks = all_said (static_of fields) (static_varies fields) i c ks ∙ all_refer (λ is. is_said is c ks) (none_said c ks)
