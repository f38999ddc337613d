-- The laws of closures and of plans of the order.
use Rattle.std.proofs.Common.{◌≡◌, refl, ℕ, List, [], ◌∷◌, arith}
use Rattle.std.specs.Prelude.{Some, slice_get}
use Rattle.sem_profile.specs.declared.profile.Format.{Format}
use Rattle.sem_profile.specs.declared.profile.FormatSizes.{FormatSizes}
use Rattle.sem_profile.specs.declared.profile.MethodSizes.{MethodSizes}
use Rattle.cert_types.specs.declared.certificate.Version.{Version}
use Rattle.cert_types.specs.declared.certificate.Direction.{Direction}
use Rattle.cert_types.specs.declared.certificate.Direction.TheVariants.{Read, Write}
use Rattle.cert_types.specs.declared.certificate.MethodPlans.{MethodPlans}
use Rattle.cert_types.specs.declared.certificate.Step.{Step}
use Rattle.cert_rules.specs.Plans.{way_of, IsPlan}
use Rattle.cert_rules.specs.Valid.{HasPlans}
use Rattle.cert_prove.specs.OrderLaws.{StaysInClosure, LackingHasNoPlan, LackingIsNotValid, OrderedIsPlan}
use Rattle.cert_prove.proofs.ClosureLemmas.{stays_in, no_plan, follows_enabled}

pub stays_in_closure : StaysInClosure
stays_in_closure way steps e = stays_in way steps e

pub lacking_has_no_plan : LackingHasNoPlan
lacking_has_no_plan way [] n steps plan = absurd (let some = n.some in omega (arith, some))
lacking_has_no_plan way (side ∷ rest) n steps plan = no_plan way side rest n.lacking steps plan

plan_of : (version : Version) (direction : Direction) (table : List MethodSizes) (sizes : FormatSizes) (format : Format) (entry : MethodPlans) (n : ℕ) → HasPlans version table sizes format entry n → (steps : List Step) × IsPlan (way_of version direction table sizes format) steps
plan_of version Read table sizes format entry n h = (h.plans.read, h.read)
plan_of version Write table sizes format entry n h = (h.plans.write, h.write)

-- a list with an element has a first one
first_of : {X : Type 0} (xs : List X) (n : ℕ) (x : X) → slice_get xs n ≡ Some x → (y : X) × (slice_get xs 0 ≡ Some y)
first_of [] n x e = absurd (cc)
first_of (y ∷ xs) n x e = (y, refl)

pub lacking_is_not_valid : LackingIsNotValid
lacking_is_not_valid methods table top cert k n m s sizes format direction sides is_m is_s is is_sizes lacking valid =
    let first = first_of m.formats n format is in
    let has = valid.entries k m s first.0 is_m is_s first.1 in
    let plan = plan_of cert.version direction table sizes format has.entry n (has.formats n format sizes is is_sizes) in
    lacking_has_no_plan (way_of cert.version direction table sizes format) sides lacking plan.0 plan.1

pub ordered_is_plan : OrderedIsPlan
ordered_is_plan way order steps h = record { enabled = follows_enabled way order steps way.start h.follows; complete = h.complete }
