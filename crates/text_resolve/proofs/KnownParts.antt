-- Where no part of a format has a fault, none of the known parts has one.
use Rattle.std.proofs.Common.{◌≡◌, ap, ◌||◌, Bool, true, false, cond, List, [], ◌∷◌, Option, Some, None, Result, Ok, Err, fold, refl}
use Rattle.std.specs.Option.{option_map}
use Rattle.std.specs.Result.{result_err}
use Rattle.sem_expr.specs.declared.expr.Cond.{Cond}
use Rattle.sem_expr.specs.declared.expr.Cond.TheVariants.{Constant, Compare, Not', And', Or'}
use Rattle.sem_expr.specs.declared.expr.Expr.{Expr}
use Rattle.sem_expr.specs.declared.expr.Expr.TheVariants as exprs
use Rattle.sem_expr.specs.declared.expr.Expr.TheVariants.{Number, Parameter, Binary'}
use Rattle.sem_expr.specs.declared.fault.RangeFault.{RangeFault}
use Rattle.sem_expr.specs.declared.interval.Interval.{Interval}
use Rattle.sem_expr.specs.declared.ranges.Ranges.{Ranges}
use Rattle.sem_expr.specs.Bounds.{bounding_of}
use Rattle.sem_expr.specs.Ranged.{Bounding, ranged, joined, both_ranged, first_fault, fault_in}
use Rattle.sem_profile.specs.declared.fault.ProfileFault.{ProfileFault}
use Rattle.sem_profile.specs.declared.profile.Constraint.{Constraint}
use Rattle.sem_profile.specs.declared.profile.Constraint.TheVariants.{Bracket, Enforce}
use Rattle.sem_profile.specs.declared.profile.Encoding.{Encoding}
use Rattle.sem_profile.specs.declared.profile.Encoding.TheVariants as encodings
use Rattle.sem_profile.specs.declared.profile.Field.{Field}
use Rattle.sem_profile.specs.declared.profile.Format.{Format}
use Rattle.sem_profile.specs.declared.profile.FormatSizes.{FormatSizes}
use Rattle.sem_profile.specs.declared.profile.Library.TheVariants as libraries
use Rattle.sem_profile.specs.Faults.{of_range}
use Rattle.sem_profile.specs.Precedence.{earlier, earliest}
use Rattle.sem_profile.specs.declared.extent.Extent.TheVariants.{Whole, Known}
use Rattle.sem_profile.specs.BoundsFaults.{wide_in, wide_in_condition, expr_fault, condition_fault, encoding_fault, constraint_fault, format_fault}
use Rattle.sem_profile.specs.Extents.{lacks, known_fault, known_condition_fault}
use Rattle.sem_profile.proofs.FaultsFolding.{neither}

-- ---- ranges

no_first : (a b : Option RangeFault) → first_fault a b ≡ None → (a ≡ None) × (b ≡ None)
no_first None b e = (refl, e)
no_first (Some f) b e = let wrong : Some f ≡ None = e in absurd cc

first_none : (a b : Option RangeFault) → a ≡ None → b ≡ None → first_fault a b ≡ None
first_none a b p q = λ i. first_fault (p i) (q i)

pub both_right : (f : Interval → Interval → Result Interval RangeFault) (a b : Result Interval RangeFault) → result_err (both_ranged f a b) ≡ None → (result_err a ≡ None) × (result_err b ≡ None)
both_right f (Err g) b e = let wrong : Some g ≡ None = e in absurd cc
both_right f (Ok i) (Err g) e = let wrong : Some g ≡ None = e in absurd cc
both_right f (Ok i) (Ok j) e = (refl, refl)

known_right : (r : Bounding) (e : Expr) → result_err (ranged r e) ≡ None → known_fault r e ≡ None
known_right r (Number at n) h = h
known_right r (Parameter at n) h = refl
known_right r (exprs.Attribute at t) h = h
known_right r (Binary' at op p x q y) h =
    let parts = both_right (joined at op) (ranged r x) (ranged r y) h in
    by (lacks r x || lacks r y) (first_none (known_fault r x) (known_fault r y) (known_right r x parts.0) (known_right r y parts.1))
  where
    by : (b : Bool) → first_fault (known_fault r x) (known_fault r y) ≡ None
        → cond b (first_fault (known_fault r x) (known_fault r y)) (result_err (both_ranged (joined at op) (ranged r x) (ranged r y))) ≡ None
    by true sides = sides
    by false sides = h

condition_right : (r : Bounding) (c : Cond) → fault_in r c ≡ None → known_condition_fault r c ≡ None
condition_right r (Constant at b) h = refl
condition_right r (Compare at op x y) h =
    let parts = no_first (result_err (ranged r x)) (result_err (ranged r y)) h in first_none (known_fault r x) (known_fault r y) (known_right r x parts.0) (known_right r y parts.1)
condition_right r (Not' at p x) h = condition_right r x h
condition_right r (And' at p x q y) h =
    let parts = no_first (fault_in r x) (fault_in r y) h in first_none (known_condition_fault r x) (known_condition_fault r y) (condition_right r x parts.0) (condition_right r y parts.1)
condition_right r (Or' at p x q y) h =
    let parts = no_first (fault_in r x) (fault_in r y) h in first_none (known_condition_fault r x) (known_condition_fault r y) (condition_right r x parts.0) (condition_right r y parts.1)

-- ---- faults

both_none : (a b : Option ProfileFault) → a ≡ None → b ≡ None → earlier a b ≡ None
both_none a b p q = λ i. earlier (p i) (q i)

no_fault : (o : Option RangeFault) → option_map of_range o ≡ None → o ≡ None
no_fault None e = refl
no_fault (Some f) e = let wrong : Some (of_range f) ≡ None = e in absurd cc

expr_right : (f : Format) (s : FormatSizes) (r : Ranges) (e : Expr) → expr_fault Whole f s r e ≡ None → expr_fault Known f s r e ≡ None
expr_right f s r e h =
    let parts = neither (wide_in f s e) (option_map of_range (result_err (ranged (bounding_of r) e))) h in
    both_none (wide_in f s e) (option_map of_range (known_fault (bounding_of r) e)) parts.0 (ap (option_map of_range) (known_right (bounding_of r) e (no_fault (result_err (ranged (bounding_of r) e)) parts.1)))

condition_fault_right : (f : Format) (s : FormatSizes) (r : Ranges) (c : Cond) → condition_fault Whole f s r c ≡ None → condition_fault Known f s r c ≡ None
condition_fault_right f s r c h =
    let parts = neither (wide_in_condition f s c) (option_map of_range (fault_in (bounding_of r) c)) h in
    both_none (wide_in_condition f s c) (option_map of_range (known_condition_fault (bounding_of r) c)) parts.0
    (ap (option_map of_range) (condition_right (bounding_of r) c (no_fault (fault_in (bounding_of r) c) parts.1)))

-- where the one judge finds nothing, nor does the other
fold_right : {X : Type 0} (judge known : X → Option ProfileFault) → ((x : X) → judge x ≡ None → known x ≡ None) → (xs : List X) (o p : Option ProfileFault) → (o ≡ None → p ≡ None)
    → fold (λ c x. earlier c (judge x)) o xs ≡ None → fold (λ c x. earlier c (known x)) p xs ≡ None
fold_right judge known right [] o p first h = first h
fold_right judge known right (x ∷ xs) o p first h =
    fold_right judge known right xs (earlier o (judge x)) (earlier p (known x)) (λ e. let parts = neither o (judge x) e in both_none p (known x) (first parts.0) (right x parts.1)) h

earliest_right : {X : Type 0} (judge known : X → Option ProfileFault) → ((x : X) → judge x ≡ None → known x ≡ None) → (xs : List X) → earliest judge xs ≡ None → earliest known xs ≡ None
earliest_right judge known right xs h = fold_right judge known right xs None None (λ e. e) h

abbrev Judge : Type 0
Judge = Expr → Option ProfileFault

pair_right : (judge known : Judge) → ((e : Expr) → judge e ≡ None → known e ≡ None) → (x y : Expr) → earlier (judge x) (judge y) ≡ None → earlier (known x) (known y) ≡ None
pair_right judge known right x y h = let parts = neither (judge x) (judge y) h in both_none (known x) (known y) (right x parts.0) (right y parts.1)

encoding_right : (judge known : Judge) → ((e : Expr) → judge e ≡ None → known e ≡ None) → (c : Encoding) → encoding_fault judge c ≡ None → encoding_fault known c ≡ None
encoding_right judge known right encodings.Bare h = refl
encoding_right judge known right (encodings.Library (libraries.UncompressedValue x y)) h = pair_right judge known right x y h
encoding_right judge known right (encodings.Library (libraries.CompressedValue x y)) h = pair_right judge known right x y h
encoding_right judge known right (encodings.Library (libraries.Irregular x)) h = right x h
encoding_right judge known right (encodings.Library libraries.Static) h = refl
encoding_right judge known right (encodings.Library (libraries.Lsb x y)) h = pair_right judge known right x y h
encoding_right judge known right (encodings.Library (libraries.Crc c)) h =
    let parts = neither (earlier (judge c.bits) (judge c.polynomial)) (earlier (judge c.initial) (judge c.length)) h in
    both_none (earlier (known c.bits) (known c.polynomial)) (earlier (known c.initial) (known c.length))
    (pair_right judge known right c.bits c.polynomial parts.0) (pair_right judge known right c.initial c.length parts.1)
encoding_right judge known right (encodings.Call k es) h = earliest_right judge known right es h

constraint_right : (f : Format) (s : FormatSizes) (r : Ranges) (c : Constraint) → constraint_fault Whole f s r c ≡ None → constraint_fault Known f s r c ≡ None
constraint_right f s r (Bracket field side lengths place) h = earliest_right (expr_fault Whole f s r) (expr_fault Known f s r) (expr_right f s r) lengths h
constraint_right f s r (Enforce c place) h = condition_fault_right f s r c h

pub known_parts_right : (f : Format) (s : FormatSizes) (r : Ranges) → format_fault Whole f s r ≡ None → format_fault Known f s r ≡ None
known_parts_right f s r h =
    let of_field = λ (judge : Judge) (d : Field). encoding_fault judge d.encoding in
    let parts = neither (earliest (of_field (expr_fault Whole f s r)) f.fields) (earliest (constraint_fault Whole f s r) f.constraints) h in
    both_none (earliest (of_field (expr_fault Known f s r)) f.fields) (earliest (constraint_fault Known f s r) f.constraints)
    (earliest_right (of_field (expr_fault Whole f s r)) (of_field (expr_fault Known f s r)) (λ d. encoding_right (expr_fault Whole f s r) (expr_fault Known f s r) (expr_right f s r) d.encoding) f.fields parts.0)
    (earliest_right (constraint_fault Whole f s r) (constraint_fault Known f s r) (constraint_right f s r) f.constraints parts.1)
