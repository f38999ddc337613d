-- A plan of the order names fields and constraints of its format.
use Rattle.std.proofs.Common.{◌≡◌, ◌∙◌, sym, ap, refl, cond, ℕ, ◌<◌, Bool, true, false, List, [], ◌∷◌, ◌++◌, length}
use Rattle.std.specs.Prelude.{Option, Some, None, slice_get, option_and_then, option_map}
use Rattle.std.specs.List.{AllByRecursion, find}
use Rattle.std.proofs.lemmas.Option.{slice_get_within}
use Rattle.sem_profile.specs.declared.profile.Format.{Format}
use Rattle.sem_profile.specs.declared.profile.FormatSizes.{FormatSizes}
use Rattle.sem_profile.specs.declared.profile.MethodSizes.{MethodSizes}
use Rattle.cert_types.specs.declared.certificate.Version.{Version}
use Rattle.cert_types.specs.declared.certificate.Direction.{Direction}
use Rattle.cert_types.specs.declared.certificate.Direction.TheVariants.{Read, Write}
use Rattle.cert_types.specs.declared.certificate.Step.{Step}
use Rattle.cert_types.specs.declared.certificate.Step.TheVariants.{Take, Call, LibraryUp, LibraryDown, MethodLength, ConstraintLength, Solve, Choose, Ask}
use Rattle.cert_types.specs.declared.rule.Fact.{Fact}
use Rattle.cert_types.specs.declared.rule.Rule.{Rule}
use Rattle.cert_types.specs.Of.{IsStepOf}
use Rattle.cert_types.specs.declared.certificate.Version.TheVariants.{One, Two}
use Rattle.cert_rules.specs.Rules.{first_or, value_given, remainder_given, from_two, by_equation, by_remainder, by_value, common_rule}
use Rattle.cert_rules.specs.Plans.{rule_of, way_of, learnt}
use Rattle.cert_prove.specs.Ordered.{Follows, OrderedPlan, is_next}

-- what an option is made from is there
from_some : {A B : Type 0} (f : A → Option B) (o : Option A) (r : B) → option_and_then f o ≡ Some r → (x : A) × (o ≡ Some x) × (f x ≡ Some r)
from_some f None r e = absurd cc
from_some f (Some x) r e = (x, refl, e)

mapped_some : {A B : Type 0} (f : A → B) (o : Option A) (r : B) → option_map f o ≡ Some r → (x : A) × (o ≡ Some x)
mapped_some f None r e = absurd cc
mapped_some f (Some x) r e = (x, refl)

-- an index at which something is
below : {A B : Type 0} (f : A → Option B) (xs : List A) (i : ℕ) (r : B) → option_and_then f (slice_get xs i) ≡ Some r → i < length xs
below f xs i r e = let x = from_some f (slice_get xs i) r e in slice_get_within xs i x.0 x.1

-- and one of the second list, whose element is mapped
both_below : {A B C D : Type 0} (g : C → D) (f : B → Option C) (h : A → Option D) (xs : List A) (ys : List B) (i n : ℕ) (r : D) → ((x : A) → h x ≡ option_map g (option_and_then f (slice_get ys n))) → option_and_then h (slice_get xs i) ≡ Some r → n < length ys
both_below g f h xs ys i n r is e =
    let x = from_some h (slice_get xs i) r e in
    let m = mapped_some g (option_and_then f (slice_get ys n)) r (sym (is x.0) ∙ x.2) in
    below f ys n m.0 m.1

-- a value that a constraint gives, by either form of an equation
value_below : (version : Version) (sizes : FormatSizes) (format : Format) (i n : ℕ) (r : Rule) → by_value version sizes format i n ≡ Some r → n < length format.constraints
value_below version sizes format i n r e = by (by_equation format i n) refl e
  where
    remainder : (v : Version) → from_two v (by_remainder sizes format i n) ≡ Some r → n < length format.constraints
    remainder One h = absurd cc
    remainder Two h = let m = mapped_some _ (option_and_then (remainder_given sizes i) (slice_get format.constraints n)) r h in below _ format.constraints n m.0 m.1

    by : (o : Option Rule) → by_equation format i n ≡ o → first_or o (from_two version (by_remainder sizes format i n)) ≡ Some r → n < length format.constraints
    by (Some q) is h = let m = mapped_some _ (option_and_then (value_given i) (slice_get format.constraints n)) q is in below _ format.constraints n m.0 m.1
    by None is h = remainder version h

common_of : (version : Version) (sizes : FormatSizes) (format : Format) (step : Step) (r : Rule) → common_rule version sizes format step ≡ Some r → IsStepOf format step
common_of version sizes format (LibraryUp i) r e = record { field = below _ format.fields i r e; constraint = tt }
common_of version sizes format (LibraryDown i) r e = record { field = below _ format.fields i r e; constraint = tt }
common_of version sizes format (MethodLength i side) r e = record { field = below _ format.fields i r e; constraint = tt }
common_of version sizes format (ConstraintLength i side n) r e = record { field = below _ format.fields i r e; constraint = both_below _ _ _ format.fields format.constraints i n r (λ x. refl) e }
common_of version sizes format (Solve i n) r e = record { field = below _ format.fields i r e; constraint = value_below version sizes format i n r (from_some _ (slice_get format.fields i) r e).2 }
common_of version sizes format (Take i) r e = absurd cc
common_of version sizes format (Call i) r e = absurd cc
common_of version sizes format (Choose i) r e = absurd cc
common_of version sizes format (Ask i) r e = absurd cc

-- a step that has a rule
pub ruled_of : (version : Version) (direction : Direction) (table : List MethodSizes) (sizes : FormatSizes) (format : Format) (step : Step) (r : Rule) → rule_of version direction table sizes format step ≡ Some r → IsStepOf format step
ruled_of version Read table sizes format (Take i) r e = record { field = below _ format.fields i r e; constraint = tt }
ruled_of version Read table sizes format (Call i) r e = record { field = below _ format.fields i r e; constraint = tt }
ruled_of version Read table sizes format (LibraryUp i) r e = common_of version sizes format (LibraryUp i) r e
ruled_of version Read table sizes format (LibraryDown i) r e = common_of version sizes format (LibraryDown i) r e
ruled_of version Read table sizes format (MethodLength i side) r e = common_of version sizes format (MethodLength i side) r e
ruled_of version Read table sizes format (ConstraintLength i side n) r e = common_of version sizes format (ConstraintLength i side n) r e
ruled_of version Read table sizes format (Solve i n) r e = common_of version sizes format (Solve i n) r e
ruled_of version Read table sizes format (Choose i) r e = absurd cc
ruled_of version Read table sizes format (Ask i) r e = absurd cc
ruled_of version Write table sizes format (Take i) r e = record { field = below _ format.fields i r e; constraint = tt }
ruled_of version Write table sizes format (Call i) r e = record { field = below _ format.fields i r e; constraint = tt }
ruled_of version Write table sizes format (LibraryUp i) r e = common_of version sizes format (LibraryUp i) r e
ruled_of version Write table sizes format (LibraryDown i) r e = common_of version sizes format (LibraryDown i) r e
ruled_of version Write table sizes format (MethodLength i side) r e = common_of version sizes format (MethodLength i side) r e
ruled_of version Write table sizes format (ConstraintLength i side n) r e = common_of version sizes format (ConstraintLength i side n) r e
ruled_of version Write table sizes format (Solve i n) r e = common_of version sizes format (Solve i n) r e
ruled_of version Write table sizes format (Choose i) r e = let m = mapped_some _ (option_and_then _ (slice_get format.fields i)) r e in record { field = below _ format.fields i m.0 m.1; constraint = tt }
ruled_of version Write table sizes format (Ask i) r e = record { field = below _ format.fields i r e; constraint = tt }

-- what is found passes the test
pub found_passes : {A : Type 0} (p : A → Bool) (xs : List A) (x : A) → find p xs ≡ Some x → p x ≡ true
found_passes p [] x e = absurd cc
found_passes p (y ∷ ys) x e = by (p y) refl (found_passes p ys x) e where
  by : (b : Bool) → p y ≡ b → (find p ys ≡ Some x → p x ≡ true) → cond b (Some y) (find p ys) ≡ Some x → p x ≡ true
  by true is later h = let same : y ≡ x = cc in ap p (sym same) ∙ is
  by false is later h = later h

has_rule : (known : List Fact) (o : Option Rule) → is_next known o ≡ true → (r : Rule) × (o ≡ Some r)
has_rule known None e = absurd cc
has_rule known (Some r) e = (r, refl)

followed_of : (version : Version) (direction : Direction) (table : List MethodSizes) (sizes : FormatSizes) (format : Format) (order : List Step) (known : List Fact) (steps : List Step) → Follows (way_of version direction table sizes format) order known steps → AllByRecursion (IsStepOf format) steps
followed_of version direction table sizes format order known [] follows = tt
followed_of version direction table sizes format order known (step ∷ steps) follows =
    let rules = rule_of version direction table sizes format in
    let ruled = has_rule known (rules step) (found_passes (λ s. is_next known (rules s)) order step follows.1) in
    (ruled_of version direction table sizes format step ruled.0 ruled.1, followed_of version direction table sizes format order (learnt (rules step) ++ known) steps follows.2)

pub plan_of : (version : Version) (direction : Direction) (table : List MethodSizes) (sizes : FormatSizes) (format : Format) (order steps : List Step) → OrderedPlan (way_of version direction table sizes format) order steps → AllByRecursion (IsStepOf format) steps
plan_of version direction table sizes format order steps plan = followed_of version direction table sizes format order _ steps plan.follows
