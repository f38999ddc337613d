-- What the function finds stands, and where it finds none, none stands.
use Rattle.std.proofs.Common.{◌≡◌, ◌∙◌, sym, ap, subst, ℕ, Bool, true, false, List}
use Rattle.std.specs.Option.{is_some}
use Rattle.std.specs.Prelude.{Option, Some, None, slice_get, Result, Ok, Err, IfOk, IfSome, IfNone, MatchOption}
use Rattle.sem_expr.specs.declared.expr.Side.{Side}
use Rattle.sem_expr.specs.declared.interval.Interval.{Interval}
use Rattle.text_source.specs.declared.span.Span.{Span}
use Rattle.sem_expr.specs.Ranged.{Bounding}
use Rattle.sem_profile.specs.declared.profile.FormatSizes.{FormatSizes}
use Rattle.sem_profile.specs.declared.profile.MethodSizes.{MethodSizes}
use Rattle.sem_profile.specs.declared.profile.Constraint.{Constraint}
use Rattle.sem_profile.specs.declared.profile.Field.{Field}
use Rattle.sem_profile.specs.declared.profile.Format.{Format}
use Rattle.sem_profile.specs.Resolved.{Resolved}
use Rattle.sem_filling.specs.Fits.{format_at}
use Rattle.sem_filling.proofs.FitsSized.{one_value}
use Rattle.sem_filling.specs.declared.obstacle.Obstacle.{Obstacle}
use Rattle.sem_filling.specs.declared.obstacle.Obstacle.TheVariants as obstacle
use Rattle.sem_lint.specs.Never.{IsUntrue}
use Rattle.sem_lint.specs.Demands.{HasUnmet}
use Rattle.sem_lint.specs.Marks.{CallsMarked, marked_at}
use Rattle.sem_lint.specs.Undefined.{undefined_condition}
use Rattle.sem_filling.specs.declared.obstacle.Unmet.{Unmet}
use Rattle.sem_lint.specs.Obstacles.{HasNoLength, SendsMore, SplitsOctets, LacksValue, HasNoValue, of_argument, of_condition, StandsUnder, StandsIn, Stands, CallsAt, Hinders, by_itself, by_call, IsLifeless}

pub there_is : {A : Type 0} (B : Type 0) (o : Option A) → true ≡ is_some o → IfNone o B
there_is B (Some x) e = tt
there_is B None e = absurd (cc)

pub there_is_none : {A : Type 0} (B : Type 0) (C : A → Type 0) (o : Option A) → false ≡ is_some o → MatchOption o B C → B
there_is_none B C (Some x) e h = absurd (cc)
there_is_none B C None e h = h

-- none of any kind is none
pub none_stands : (format : Format) (sizes : FormatSizes) (r : Bounding)
    → ((i : ℕ) (side : Side) → HasNoLength sizes.fields i side → ⊥) → ((i : ℕ) → SendsMore format.fields sizes.fields i → ⊥) → ((i : ℕ) → SplitsOctets format.fields sizes i → ⊥)
    → ((at : Span) → HasNoValue format.fields format.constraints r at → ⊥) → ((u : Unmet) → HasUnmet format.fields r u → ⊥)
    → ((j : ℕ) → IsUntrue format.constraints r j → ⊥) → (o : Obstacle) → StandsUnder format sizes r o → ⊥
none_stands format sizes r lengths more splits values unmet untrue (obstacle.NoLength i side) stands = lengths i side stands
none_stands format sizes r lengths more splits values unmet untrue (obstacle.SendsMore i) stands = more i stands
none_stands format sizes r lengths more splits values unmet untrue (obstacle.SplitsOctets i) stands = splits i stands
none_stands format sizes r lengths more splits values unmet untrue (obstacle.NoValue at) stands = values at stands
none_stands format sizes r lengths more splits values unmet untrue (obstacle.OutOfRange u) stands = unmet u stands
none_stands format sizes r lengths more splits values unmet untrue (obstacle.NeverTrue j) stands = untrue j stands
none_stands format sizes r lengths more splits values unmet untrue (obstacle.CallsDead i) stands = stands

-- an argument, else a condition
pub no_value : (fields : List Field) (constraints : List Constraint) (r : Bounding) → ((at : Span) → LacksValue fields r at → ⊥) → ((at : Span) → undefined_condition r constraints ≡ Some at → ⊥)
    → (at : Span) → HasNoValue fields constraints r at → ⊥
no_value fields constraints r arguments conditions at (of_argument lacks) = arguments at lacks
no_value fields constraints r arguments conditions at (of_condition is) = conditions at is

pub none_else : (fields : List Field) (constraints : List Constraint) (r : Bounding) (o : Option Span) → o ≡ undefined_condition r constraints → ((at : Span) → LacksValue fields r at → ⊥)
    → MatchOption o ((at : Span) → HasNoValue fields constraints r at → ⊥) (HasNoValue fields constraints r)
none_else fields constraints r (Some at) is none = of_condition (sym is)
none_else fields constraints r None is none = no_value fields constraints r none (λ at here. let wrong : None ≡ Some at = is ∙ here in absurd (cc))

module _ (p : Resolved) (k n : ℕ) (format : Format) (whole : MethodSizes) (sizes : FormatSizes) (format_is : format_at p.methods k n ≡ Some format) (whole_at : slice_get p.sizes k ≡ Some whole)
    (sizes_at : slice_get whole.formats n ≡ Some sizes) where
  -- what stands in the format stands in that of the profile
  pub one_stands : (o : Option Obstacle) → MatchOption o ((x : Obstacle) → StandsIn format sizes whole.parameters x → ⊥) (StandsIn format sizes whole.parameters)
      → MatchOption o ((x : Obstacle) → Stands p k n x → ⊥) (Stands p k n)
  one_stands (Some x) h = record { format = format; format_is = format_is; whole = whole; whole_at = whole_at; sizes = sizes; sizes_at = sizes_at; stands = h }
  one_stands None h = λ x has.
      let same_format : has.format ≡ format = one_value _ has.format format has.format_is format_is in
      let same_whole : has.whole ≡ whole = one_value _ has.whole whole has.whole_at whole_at in
      let same_sizes : has.sizes ≡ sizes = one_value _ has.sizes sizes has.sizes_at (ap (λ (w : MethodSizes). slice_get w.formats n) same_whole ∙ sizes_at) in
      h x (subst (λ (y : Format). StandsIn y sizes whole.parameters x) same_format (subst (λ (y : FormatSizes). StandsIn has.format y whole.parameters x) same_sizes
      (subst (λ (y : MethodSizes). StandsIn has.format has.sizes y.parameters x) same_whole has.stands)))

-- an obstacle of the format itself
pub own_hinders : (p : Resolved) (k n : ℕ) (o : Option Obstacle) → MatchOption o ((x : Obstacle) → Stands p k n x → ⊥) (Stands p k n) → IfSome o (Hinders p k n)
own_hinders p k n None h = tt
own_hinders p k n (Some x) h = by_itself h

-- neither of its own, nor in a call
pub none_hinders : (p : Resolved) (k n : ℕ) (o : Option Obstacle) → ((x : Obstacle) → Stands p k n x → ⊥)
    → MatchOption o ((i j : ℕ) → CallsAt p k n i j → IsLifeless p j → ⊥) (Hinders p k n) → IfNone o ((x : Obstacle) → Hinders p k n x → ⊥)
none_hinders p k n (Some x) own h = tt
none_hinders p k n None own h = λ x has. by x has
  where
    by : (x : Obstacle) → Hinders p k n x → ⊥
    by x (by_itself stands) = own x stands
    by (obstacle.CallsDead i) (by_call j calls dead) = h i j calls dead

pub some_hinders : (p : Resolved) (k n : ℕ) (o : Option Obstacle) → MatchOption o ((i j : ℕ) → CallsAt p k n i j → IsLifeless p j → ⊥) (Hinders p k n) → IfSome o (Hinders p k n)
some_hinders p k n None h = tt
some_hinders p k n (Some x) h = h

-- ---- calls of marked methods

module _ (p : Resolved) (k n : ℕ) (format : Format) (format_is : format_at p.methods k n ≡ Some format) (fields : List Field) (fields_are : fields ≡ format.fields) (marks : List Bool) where
  pub call_hinders : ((j : ℕ) → marked_at marks j ≡ true → IsLifeless p j) → (i : ℕ) → CallsMarked marks fields i → Hinders p k n (obstacle.CallsDead i)
  call_hinders only i calls =
      by_call calls.method
      (record { format = format; format_is = format_is; field = calls.field; field_at = subst (λ fs. slice_get fs i ≡ Some calls.field) fields_are calls.field_at; arguments = calls.arguments; is_call = calls.is_call })
      (only calls.method calls.marked)

  pub no_call : ((j : ℕ) → IsLifeless p j → marked_at marks j ≡ true) → ((i : ℕ) → CallsMarked marks fields i → ⊥) → (i j : ℕ) → CallsAt p k n i j → IsLifeless p j → ⊥
  no_call all none i j calls dead =
      let same : calls.format ≡ format = one_value _ calls.format format calls.format_is format_is in
      none i (record {
        field = calls.field;
        field_at = subst (λ fs. slice_get fs i ≡ Some calls.field) (sym fields_are) (subst (λ (y : Format). slice_get y.fields i ≡ Some calls.field) same calls.field_at);
        method = j;
        arguments = calls.arguments;
        is_call = calls.is_call;
        marked = all j dead;
      })

-- where the format isn't there, or has no bounds
pub no_format : (p : Resolved) (k n : ℕ) → format_at p.methods k n ≡ None → (x : Obstacle) → Stands p k n x → ⊥
no_format p k n e x has = let wrong = sym e ∙ has.format_is in absurd (cc)

pub no_whole : (p : Resolved) (k n : ℕ) → slice_get p.sizes k ≡ None → (x : Obstacle) → Stands p k n x → ⊥
no_whole p k n e x has = let wrong = sym e ∙ has.whole_at in absurd (cc)

-- what the function ensures, over other ranges that are the same
pub by_ranges : {E : Type 0} (r : Result (Option Obstacle) E) (format : Format) (sizes : FormatSizes) (ps qs : List Interval) → ps ≡ qs
    → IfOk r (λ o. MatchOption o ((x : Obstacle) → StandsIn format sizes ps x → ⊥) (StandsIn format sizes ps)) → IfOk r (λ o. MatchOption o ((x : Obstacle) → StandsIn format sizes qs x → ⊥) (StandsIn format sizes qs))
by_ranges r format sizes ps qs same h = subst (λ xs. IfOk r (λ o. MatchOption o ((x : Obstacle) → StandsIn format sizes xs x → ⊥) (StandsIn format sizes xs))) same h

pub each_ok : {A E : Type 0} {P Q : A → Type 0} (r : Result A E) → ((a : A) → P a → Q a) → IfOk r P → IfOk r Q
each_ok (Ok a) on h = on a h
each_ok (Err e) on h = tt
