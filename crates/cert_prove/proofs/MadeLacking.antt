-- What a refusal of a part says of the profile, after the parts that are there.
use Rattle.std.proofs.Common.{◌≡◌, ◌∙◌, sym, ap, subst, refl, ℕ, zero, suc, ◌<◌, List, [], ◌∷◌, length, arith}
use Rattle.std.specs.Prelude.{Option, Some, None, slice_get}
use Rattle.sem_profile.specs.declared.profile.Format.{Format}
use Rattle.sem_profile.specs.declared.profile.Method.{Method}
use Rattle.sem_profile.specs.declared.profile.FormatSizes.{FormatSizes}
use Rattle.sem_profile.specs.declared.profile.MethodSizes.{MethodSizes}
use Rattle.sem_filling.proofs.FillingsUnique.{also_at}
use Rattle.cert_types.specs.declared.certificate.Version.{Version}
use Rattle.cert_types.specs.declared.certificate.Direction.{Direction}
use Rattle.cert_types.specs.declared.certificate.Direction.TheVariants.{Read, Write}
use Rattle.cert_types.specs.declared.certificate.FormatPlans.{FormatPlans}
use Rattle.cert_types.specs.declared.certificate.MethodPlans.{MethodPlans}
use Rattle.cert_types.specs.declared.certificate.Node.{Node}
use Rattle.cert_types.specs.declared.certificate.Step.{Step}
use Rattle.cert_types.specs.Kept.{Entries, IsTreeKept, IsPlanKept}
use Rattle.cert_rules.specs.Plans.{way_of}
use Rattle.cert_prove.specs.declared.fault.FieldSide.{FieldSide}
use Rattle.cert_prove.specs.declared.fault.Unordered.{Unordered}
use Rattle.cert_prove.specs.declared.fault.Unordered.TheVariants.{TooLong, Lacking}
use Rattle.cert_prove.specs.Order.{order_of}
use Rattle.cert_prove.specs.Ordered.{OrderedPlan}
use Rattle.cert_prove.specs.Refusals as order
use Rattle.cert_prove.specs.declared.tree.Unparted.{Unparted}
use Rattle.cert_prove.specs.declared.tree.Unparted.TheVariants as unparted
use Rattle.cert_prove.specs.Growing.{OrderedTree, IsUnparted}
use Rattle.cert_prove.specs.declared.unproved.Unproved.{Unproved}
use Rattle.cert_prove.specs.declared.unproved.Unproved.TheVariants.{Limit, NoPlan, NoTree}
use Rattle.cert_prove.specs.Made.{IsFormatMade, IsMethodMade, IsEntryMade, FormatLacks, FormatsLack, MethodLacks}
use Rattle.cert_prove.specs.Proved.{HasPlan, HasAll, PlansBefore, MethodsBefore, ReadBefore, by_plan, by_tree}
use Rattle.cert_prove.proofs.EntriesPairs.{Pairs}

-- ---- what is there

-- an index below the length has an element
there : {A : Type 0} (xs : List A) (i : ℕ) → i < length xs → (x : A) × (slice_get xs i ≡ Some x)
there [] i few = absurd (omega (arith, few))
there (x ∷ xs) zero few = (x, refl)
there (x ∷ xs) (suc i) few = there xs i (omega (arith, few))

-- what is made of a format has both plans
both_plans : (version : Version) (table : List MethodSizes) (z : FormatSizes) (f : Format) (e : FormatPlans) → IsFormatMade version table z f e → HasPlan version Read table z f × HasPlan version Write table z f
both_plans version table z f e made =
    (record { steps = made.plans.read; ordered = made.ordered.read; kept = made.kept.read }, record { steps = made.plans.write; ordered = made.ordered.write; kept = made.kept.write })

-- the formats that a loop has passed
plans_passed : (version : Version) (table : List MethodSizes) (bounds : List FormatSizes) (formats : List Format) (entries : List FormatPlans) (n : ℕ) (m : Method) (s : MethodSizes) →
    Pairs (λ j f e. (z : FormatSizes) → slice_get bounds j ≡ Some z → IsFormatMade version table z f e) formats entries n → m.formats ≡ formats → s.formats ≡ bounds → PlansBefore version table m s n
plans_passed version table bounds formats entries n m s passed is are j f z few here sized =
    let long = passed.long in
    let e = there entries j (omega (arith, few, long)) in
    both_plans version table z f e.0 (passed.each j f e.0 (ap (λ fs. slice_get fs j) (sym is) ∙ here) e.1 z (ap (λ zs. slice_get zs j) (sym are) ∙ sized))

-- what is made of a method has all
has_all : (version : Version) (table : List MethodSizes) (m : Method) (s : MethodSizes) (entry : MethodPlans) → IsMethodMade version table m s entry → HasAll version table m s
has_all version table m s entry made = record {
  tree = record { tree = made.tree; ordered = made.ordered; kept = made.kept };
  plans = λ j f z few here sized. let e = also_at m.formats made.formats j f (sym made.made.each) here in both_plans version table z f e.0 (made.made.made j f z e.0 here sized e.1);
}

-- the methods that a loop has passed
pub methods_passed : (version : Version) (table : List MethodSizes) (methods : List Method) (entries : Entries) (k : ℕ) → Pairs (λ j m o. (s : MethodSizes) → slice_get table j ≡ Some s → IsEntryMade version table m s o) methods entries k → MethodsBefore version methods table k
methods_passed version table methods entries k passed j m s few at used =
    let long = passed.long in
    let o = there entries j (omega (arith, few, long)) in
    by o.0 (passed.each j m o.0 at.method_at o.1 s at.sizes_at)
  where
    by : (o : Option MethodPlans) → IsEntryMade version table m s o → HasAll version table m s
    by None none = let e = ap length none in absurd (omega (arith, used, e))
    by (Some entry) made = has_all version table m s entry made

-- ---- what isn't

pub plan_passes : (version : Version) (table : List MethodSizes) (k n : ℕ) (direction : Direction) (z : FormatSizes) (f : Format) (why : Unordered) → why ≡ TooLong → order.Blames version direction table z f why →
    ReadBefore version direction table z f → FormatLacks version table k n z f Limit
plan_passes version table k n direction z f why is blames first = λ methods m s at whole here sized before.
    by_plan direction (record { method = m; whole = s; method_at = at; whole_at = whole; format_at = here; sizes_at = sized }) (subst (λ (u : Unordered). order.Blames version direction table z f u) is blames) (record { formats = before; read = first })

pub plan_lacks : (version : Version) (table : List MethodSizes) (k n : ℕ) (direction : Direction) (z : FormatSizes) (f : Format) (why : Unordered) (sides : List FieldSide) → why ≡ Lacking sides → order.Blames version direction table z f why →
    ReadBefore version direction table z f → FormatLacks version table k n z f (NoPlan k n direction sides)
plan_lacks version table k n direction z f why sides is blames first = λ methods m s at whole here sized before.
    record {
      format = f;
      bounds = z;
      at = record { method = m; whole = s; method_at = at; whole_at = whole; format_at = here; sizes_at = sized };
      never = subst (λ (u : Unordered). order.Blames version direction table z f u) is blames;
      before = record { formats = before; read = first };
    }

pub tree_passes : (version : Version) (table : List MethodSizes) (k : ℕ) (m : Method) (s : MethodSizes) (why : Unparted) → why ≡ unparted.Limit → IsUnparted version m.formats s why → MethodLacks version table k m s Limit
tree_passes version table k m s why is blames = λ methods at sized before. by_tree (record { method_at = at; sizes_at = sized }) (subst (λ (u : Unparted). IsUnparted version m.formats s u) is blames) before

pub set_is_stuck : (version : Version) (table : List MethodSizes) (k first second : ℕ) (m : Method) (s : MethodSizes) (why : Unparted) → why ≡ unparted.Stuck first second → IsUnparted version m.formats s why → MethodLacks version table k m s (NoTree k first second)
set_is_stuck version table k first second m s why is blames = λ methods at sized before.
    record { method = m; sizes = s; at = record { method_at = at; sizes_at = sized }; stuck = subst (λ (u : Unparted). IsUnparted version m.formats s u) is blames; before = before }

-- a format's refusal, as one of the method's formats, after those that a loop has passed
pub format_lacks : (version : Version) (table : List MethodSizes) (k n : ℕ) (bounds : List FormatSizes) (formats : List Format) (entries : List FormatPlans) (z : FormatSizes) (f : Format) (why : Unproved) → slice_get formats n ≡ Some f → slice_get bounds n ≡ Some z
    → Pairs (λ j f e. (z : FormatSizes) → slice_get bounds j ≡ Some z → IsFormatMade version table z f e) formats entries n → FormatLacks version table k n z f why → FormatsLack version table k bounds formats why
format_lacks version table k n bounds formats entries z f why at sized passed lacks = λ methods m s here whole is are before tree.
    lacks methods m s here whole (subst (λ fs. slice_get fs n ≡ Some f) (sym is) at) (subst (λ zs. slice_get zs n ≡ Some z) (sym are) sized)
    (record { methods_before = before; tree = tree; plans = plans_passed version table bounds formats entries n m s passed is are })

-- those of its formats, as one of the method, whose tree is there
pub formats_lack : (version : Version) (table : List MethodSizes) (k : ℕ) (m : Method) (s : MethodSizes) (bounds : List FormatSizes) (formats told : List Format) (tree : List Node) (why : Unproved) → bounds ≡ s.formats → formats ≡ m.formats → told ≡ m.formats →
    OrderedTree version told s tree → IsTreeKept tree →
    FormatsLack version table k bounds formats why → MethodLacks version table k m s why
formats_lack version table k m s bounds formats told tree why same_bounds same_formats same_told ordered kept lacks = λ methods at sized before.
    lacks methods m s at sized (sym same_formats) (sym same_bounds) before (record { tree = tree; ordered = subst (λ (fs : List Format). OrderedTree version fs s tree) same_told ordered; kept = kept })

-- ---- as the code has them

-- the plan to read is there
pub read_there : (version : Version) (table : List MethodSizes) (z : FormatSizes) (f : Format) (steps : List Step) → OrderedPlan (way_of version Read table z f) (order_of Read f) steps → IsPlanKept steps → ReadBefore version Write table z f
read_there version table z f steps ordered kept = record { steps = steps; ordered = ordered; kept = kept }
