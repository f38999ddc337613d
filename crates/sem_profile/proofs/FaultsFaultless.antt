-- A format without a fault has sound expressions.
use Rattle.std.proofs.Common.{◌≡◌, ◌∙◌, ap, sym, refl, ℕ, List, [], ◌∷◌, ◌++◌, suc, zero, Bool, true, false, cond, fold}
use Rattle.std.specs.Prelude.{slice_get, Some, None, Option, Result, Ok, Err, IsOk}
use Rattle.std.specs.Option.{option_map}
use Rattle.std.specs.Result.{result_err}
use Rattle.sem_expr.specs.declared.expr.Attribute.{Attribute}
use Rattle.sem_expr.specs.declared.expr.Expr.{Expr}
use Rattle.sem_expr.specs.declared.expr.Expr.TheVariants as expr
use Rattle.sem_expr.specs.declared.expr.Expr.TheVariants.{Number, Parameter, Binary'}
use Rattle.sem_expr.specs.declared.expr.Cond.{Cond}
use Rattle.sem_expr.specs.declared.expr.Cond.TheVariants.{Constant, Compare, Not', And', Or'}
use Rattle.sem_expr.specs.declared.inputs.Input.{Input}
use Rattle.sem_expr.specs.declared.inputs.Input.TheVariants as input
use Rattle.sem_expr.specs.declared.fault.RangeFault.{RangeFault}
use Rattle.sem_expr.specs.declared.interval.Interval.{Interval}
use Rattle.sem_expr.specs.declared.ranges.Ranges.{Ranges}
use Rattle.sem_expr.specs.Inputs.{inputs_of, condition_inputs_of}
use Rattle.sem_expr.specs.Ranged.{Bounding, ranged, fault_in, first_fault}
use Rattle.sem_expr.specs.Spread.{AreAccepted}
use Rattle.sem_expr.specs.Bounds.{bounding_of}
use Rattle.sem_profile.specs.declared.profile.FormatSizes.{FormatSizes}
use Rattle.sem_profile.specs.declared.profile.Library.{Library}
use Rattle.sem_profile.specs.declared.profile.Library.TheVariants as library
use Rattle.sem_profile.specs.declared.profile.Encoding.{Encoding}
use Rattle.sem_profile.specs.declared.profile.Encoding.TheVariants as encoding
use Rattle.sem_profile.specs.declared.profile.Constraint.TheVariants.{Bracket, Enforce}
use Rattle.sem_profile.specs.declared.profile.Field.{Field}
use Rattle.sem_profile.specs.declared.profile.Format.{Format}
use Rattle.sem_profile.specs.declared.fault.ProfileFault.{ProfileFault}
use Rattle.sem_profile.specs.Precedence.{earlier}
use Rattle.sem_profile.specs.declared.extent.Extent.TheVariants.{Whole}
use Rattle.sem_profile.specs.Faults.{of_range}
use Rattle.sem_profile.specs.BoundsFaults.{is_wide, wide_value, wide_in, wide_in_condition, expr_fault, condition_fault, earliest, library_fault, encoding_fault, constraint_fault}
use Rattle.sem_profile.specs.BoundsLaws.{library_exprs, encoding_exprs, StandsIn, in_encoding, in_bracket, IsSound, ConditionIsSound, FaultlessIsSound}
use Rattle.sem_profile.proofs.FaultsFolding.{neither}

none-before : {A : Type 0} → (judge : A → Option ProfileFault) (o : Option ProfileFault) (xs : List A) → fold (λ c x. earlier c (judge x)) o xs ≡ None → o ≡ None
none-before judge o [] e = e
none-before judge o (x ∷ xs) e = (neither o (judge x) (none-before judge (earlier o (judge x)) xs e)).0

none-each : {A : Type 0} → (judge : A → Option ProfileFault) (o : Option ProfileFault) (xs : List A) → fold (λ c x. earlier c (judge x)) o xs ≡ None
    → (i : ℕ) (x : A) → slice_get xs i ≡ Some x → judge x ≡ None
none-each judge o [] e i x at = let wrong : None ≡ Some x = at in absurd cc
none-each judge o (y ∷ ys) e zero x at =
    let same : y ≡ x = cc in
    ap judge (sym same) ∙ (neither o (judge y) (none-before judge (earlier o (judge y)) ys e)).1
none-each judge o (y ∷ ys) e (suc i) x at = none-each judge (earlier o (judge y)) ys e i x at

-- ---- inputs

one-of : (xs ys : List Input) (k : ℕ) (i : Input) (P : Type 0) → slice_get (xs ++ ys) k ≡ Some i → ((n : ℕ) → slice_get xs n ≡ Some i → P) → ((n : ℕ) → slice_get ys n ≡ Some i → P) → P
one-of [] ys k i P at first second = second k at
one-of (x ∷ xs) ys zero i P at first second = first zero at
one-of (x ∷ xs) ys (suc k) i P at first second = one-of xs ys k i P at (λ n. first (suc n)) second

not-wide : (b : Bool) (f : ProfileFault) → cond b (Some f) None ≡ None → b ≡ false
not-wide true f e = let wrong : Some f ≡ None = e in absurd cc
not-wide false f e = refl

narrow-expr : (format : Format) (s : FormatSizes) (e : Expr) → wide_in format s e ≡ None → (k : ℕ) (t : Attribute) → slice_get (inputs_of e) k ≡ Some (input.Attribute t) → is_wide s t ≡ false
narrow-expr format s (Number at n) none k t here = let wrong : None ≡ Some (input.Attribute t) = here in absurd cc
narrow-expr format s (Parameter at i) none zero t here = let wrong : Some (input.Parameter i) ≡ Some (input.Attribute t) = here in absurd cc
narrow-expr format s (Parameter at i) none (suc k) t here = let wrong : None ≡ Some (input.Attribute t) = here in absurd cc
narrow-expr format s (expr.Attribute at u) none zero t here =
    let both : Some (input.Attribute u) ≡ Some (input.Attribute t) = here in
    let same : u ≡ t = cc in
    ap (is_wide s) (sym same) ∙ not-wide (is_wide s u) (wide_value format.fields at u.subject) none
narrow-expr format s (expr.Attribute at u) none (suc k) t here = let wrong : None ≡ Some (input.Attribute t) = here in absurd cc
narrow-expr format s (Binary' at op p x q y) none k t here =
    let both = neither (wide_in format s x) (wide_in format s y) none in
    one-of (inputs_of x) (inputs_of y) k (input.Attribute t) (is_wide s t ≡ false) here (λ n. narrow-expr format s x both.0 n t) (λ n. narrow-expr format s y both.1 n t)

narrow-condition : (format : Format) (s : FormatSizes) (c : Cond) → wide_in_condition format s c ≡ None
    → (k : ℕ) (t : Attribute) → slice_get (condition_inputs_of c) k ≡ Some (input.Attribute t) → is_wide s t ≡ false
narrow-condition format s (Constant at b) none k t here = let wrong : None ≡ Some (input.Attribute t) = here in absurd cc
narrow-condition format s (Compare at op x y) none k t here =
    let both = neither (wide_in format s x) (wide_in format s y) none in
    one-of (inputs_of x) (inputs_of y) k (input.Attribute t) (is_wide s t ≡ false) here (λ n. narrow-expr format s x both.0 n t) (λ n. narrow-expr format s y both.1 n t)
narrow-condition format s (Not' at p x) none k t here = narrow-condition format s x none k t here
narrow-condition format s (And' at p x q y) none k t here =
    let both = neither (wide_in_condition format s x) (wide_in_condition format s y) none in
    one-of (condition_inputs_of x) (condition_inputs_of y) k (input.Attribute t) (is_wide s t ≡ false) here (λ n. narrow-condition format s x both.0 n t) (λ n. narrow-condition format s y both.1 n t)
narrow-condition format s (Or' at p x q y) none k t here =
    let both = neither (wide_in_condition format s x) (wide_in_condition format s y) none in
    one-of (condition_inputs_of x) (condition_inputs_of y) k (input.Attribute t) (is_wide s t ≡ false) here (λ n. narrow-condition format s x both.0 n t) (λ n. narrow-condition format s y both.1 n t)

-- ---- ranges

no-range-fault : (o : Option RangeFault) → option_map of_range o ≡ None → o ≡ None
no-range-fault None e = refl
no-range-fault (Some f) e = let wrong : Some (of_range f) ≡ None = e in absurd cc

has-range : (r : Result Interval RangeFault) → result_err r ≡ None → IsOk r
has-range (Ok i) e = refl
has-range (Err f) e = let wrong : Some f ≡ None = e in absurd cc

no-first : (a b : Option RangeFault) → first_fault a b ≡ None → (a ≡ None) × (b ≡ None)
no-first None b e = (refl, e)
no-first (Some f) b e = let wrong : Some f ≡ None = e in absurd cc

all-ranged : (r : Bounding) (c : Cond) → fault_in r c ≡ None → AreAccepted r c
all-ranged r (Constant s b) e = tt
all-ranged r (Compare s op x y) e =
    let both = no-first (result_err (ranged r x)) (result_err (ranged r y)) e in (has-range (ranged r x) both.0, has-range (ranged r y) both.1)
all-ranged r (Not' s p x) e = all-ranged r x e
all-ranged r (And' s p x q y) e = let both = no-first (fault_in r x) (fault_in r y) e in (all-ranged r x both.0, all-ranged r y both.1)
all-ranged r (Or' s p x q y) e = let both = no-first (fault_in r x) (fault_in r y) e in (all-ranged r x both.0, all-ranged r y both.1)

-- ---- both

sound-expr : (format : Format) (s : FormatSizes) (r : Ranges) (e : Expr) → expr_fault Whole format s r e ≡ None → IsSound s r e
sound-expr format s r e none =
    let both = neither (wide_in format s e) (option_map of_range (result_err (ranged (bounding_of r) e))) none in
    record { accepted = has-range (ranged (bounding_of r) e) (no-range-fault (result_err (ranged (bounding_of r) e)) both.1); narrow = narrow-expr format s e both.0 }

sound-condition : (format : Format) (s : FormatSizes) (r : Ranges) (c : Cond) → condition_fault Whole format s r c ≡ None → ConditionIsSound s r c
sound-condition format s r c none =
    let both = neither (wide_in_condition format s c) (option_map of_range (fault_in (bounding_of r) c)) none in
    record { accepted = all-ranged (bounding_of r) c (no-range-fault (fault_in (bounding_of r) c) both.1); narrow = narrow-condition format s c both.0 }

of-one : (judge : Expr → Option ProfileFault) (x : Expr) → judge x ≡ None → (n : ℕ) (e : Expr) → slice_get (x ∷ []) n ≡ Some e → judge e ≡ None
of-one judge x none zero e at = let same : x ≡ e = cc in ap judge (sym same) ∙ none
of-one judge x none (suc n) e at = let wrong : None ≡ Some e = at in absurd cc

of-two : (judge : Expr → Option ProfileFault) (x y : Expr) → earlier (judge x) (judge y) ≡ None → (n : ℕ) (e : Expr) → slice_get (x ∷ y ∷ []) n ≡ Some e → judge e ≡ None
of-two judge x y none zero e at = of-one judge x (neither (judge x) (judge y) none).0 zero e at
of-two judge x y none (suc n) e at = of-one judge y (neither (judge x) (judge y) none).1 n e at

of-library : (judge : Expr → Option ProfileFault) (l : Library) → library_fault judge l ≡ None → (n : ℕ) (e : Expr) → slice_get (library_exprs l) n ≡ Some e → judge e ≡ None
of-library judge (library.UncompressedValue len v) none n e at = of-two judge len v none n e at
of-library judge (library.CompressedValue len v) none n e at = of-two judge len v none n e at
of-library judge (library.Irregular len) none n e at = of-one judge len none n e at
of-library judge library.Static none n e at = let wrong : None ≡ Some e = at in absurd cc
of-library judge (library.Lsb k offset) none n e at = of-two judge k offset none n e at
of-library judge (library.Crc crc) none n e at = by n at
  where
    both : (earlier (judge crc.bits) (judge crc.polynomial) ≡ None) × (earlier (judge crc.initial) (judge crc.length) ≡ None)
    both = neither (earlier (judge crc.bits) (judge crc.polynomial)) (earlier (judge crc.initial) (judge crc.length)) none

    by : (m : ℕ) → slice_get (library_exprs (library.Crc crc)) m ≡ Some e → judge e ≡ None
    by zero at = of-two judge crc.bits crc.polynomial both.0 zero e at
    by (suc zero) at = of-two judge crc.bits crc.polynomial both.0 (suc zero) e at
    by (suc (suc m)) at = of-two judge crc.initial crc.length both.1 m e at

of-encoding : (judge : Expr → Option ProfileFault) (c : Encoding) → encoding_fault judge c ≡ None → (n : ℕ) (e : Expr) → slice_get (encoding_exprs c) n ≡ Some e → judge e ≡ None
of-encoding judge encoding.Bare none n e at = let wrong : None ≡ Some e = at in absurd cc
of-encoding judge (encoding.Library l) none n e at = of-library judge l none n e at
of-encoding judge (encoding.Call k es) none n e at = none-each judge None es none n e at

pub faultless : FaultlessIsSound
faultless format s r none =
    let both = neither (earliest (λ d. encoding_fault (expr_fault Whole format s r) d.encoding) format.fields) (earliest (constraint_fault Whole format s r) format.constraints) none in
    record { expressions = λ e stands. in-it both.0 both.1 e stands; conditions = λ j c place at. sound-condition format s r c (none-each (constraint_fault Whole format s r) None format.constraints both.1 j (Enforce c place) at) }
  where
    in-it : earliest (λ (d : Field). encoding_fault (expr_fault Whole format s r) d.encoding) format.fields ≡ None → earliest (constraint_fault Whole format s r) format.constraints ≡ None
        → (e : Expr) → StandsIn format e → IsSound s r e
    in-it fields constraints e (in_encoding {d = d} i n at here) =
        sound-expr format s r e (of-encoding (expr_fault Whole format s r) d.encoding (none-each (λ (d : Field). encoding_fault (expr_fault Whole format s r) d.encoding) None format.fields fields i d at) n e here)
    in-it fields constraints e (in_bracket {field = field} {side = side} {lengths = lengths} {place = place} j n at here) =
        sound-expr format s r e (none-each (expr_fault Whole format s r) None lengths (none-each (constraint_fault Whole format s r) None format.constraints constraints j (Bracket field side lengths place) at) n e here)
