-- From what the parts of a certificate's check find to what is found of the certificate.
use Rattle.std.proofs.Common.{◌≡◌, ◌∙◌, refl, sym, ap, subst, ℕ, ◌<◌, Bool, true, false, List, [], ◌∷◌, length, arith}
use Rattle.std.specs.Prelude.{slice_get, Option, Some, None, Result, Ok, Err, IfOk, IfSome, IfNone, IsTrue, ◌↔◌}
use Rattle.std.specs.declared.alloc.AllocError.{AllocError}
use Rattle.sem_profile.specs.declared.profile.Format.{Format}
use Rattle.sem_profile.specs.declared.profile.Method.{Method}
use Rattle.sem_profile.specs.declared.profile.FormatSizes.{FormatSizes}
use Rattle.sem_profile.specs.declared.profile.MethodSizes.{MethodSizes}
use Rattle.cert_types.specs.declared.certificate.Version.{Version}
use Rattle.cert_types.specs.declared.certificate.Direction.{Direction}
use Rattle.cert_types.specs.declared.certificate.Direction.TheVariants.{Read, Write}
use Rattle.cert_types.specs.declared.certificate.Node.{Node}
use Rattle.cert_types.specs.declared.certificate.Plans.{Plans}
use Rattle.cert_types.specs.declared.certificate.Step.{Step}
use Rattle.cert_types.specs.declared.certificate.MethodPlans.{MethodPlans}
use Rattle.cert_types.specs.Kept.{Certified, Entries}
use Rattle.cert_plans.specs.declared.fault.PlanFault.{PlanFault}
use Rattle.cert_plans.specs.declared.fault.PlanFault.TheVariants.{NotEnabled, NeverLearnt}
use Rattle.cert_plans.specs.Faults.{IsPlanFault}
use Rattle.cert_plans.specs.Laws.{refusal_of}
use Rattle.cert_plans.proofs.PlanFaults.{plan_faults_refuse}
use Rattle.cert_rules.specs.declared.fault.CheckFault.{CheckFault}
use Rattle.cert_rules.specs.declared.fault.CheckFault.TheVariants as check
use Rattle.cert_rules.specs.Plans.{way_of, IsPlan}
use Rattle.cert_rules.specs.Trees.{PartsFormats}
use Rattle.cert_rules.specs.Counts.{entry_at}
use Rattle.cert_rules.specs.Refusals as refusals
use Rattle.cert_rules.specs.Valid.{plans_at, HasPlans, HasEntry}
use Rattle.cert_trees.specs.declared.fault.TreeFault.{TreeFault}
use Rattle.cert_trees.specs.Faults.{IsTreeFault, leaf_reached, nowhere_reached, bit_past, constant_outside, reference_beyond}
use Rattle.sem_filling.proofs.Each.{Before}
use Rattle.cert_check.specs.declared.validity.Verdict.{Verdict}
use Rattle.cert_check.specs.declared.validity.Verdict.TheVariants as verdict
use Rattle.cert_check.specs.Right.{Serve, AreEntriesRight, IsEntryRight, IsMethodRight}
use Rattle.cert_check.specs.Blaming.{AreRightBefore, FormatsRightBefore, ReadIsRight, RightBeforeFormat, RightBeforePlan, IsFirstFault}
use Rattle.cert_check.specs.Judged.{IsTopVerdict, IsVerdict, RefusesIn, RefusesEntry, RefusesFormats, RefusesFormat, RefusesPlans, of_tree}

-- what an option that is there holds
pub found_in : {A : Type 0} (P : A → Type 0) (o : Option A) (x : A) → o ≡ Some x → IfSome o P → P x
found_in P o x is h = subst (λ p. IfSome p P) is h

-- and what one says that is not
pub none_in : {A : Type 0} (P : Type 0) (o : Option A) → o ≡ None → IfNone o P → P
none_in P o is h = subst (λ p. IfNone p P) is h

pub filled : {A : Type 0} (xs : List A) (b : Bool) → (IsTrue b ↔ (xs ≡ [])) → b ≡ false → 0 < length xs
filled [] b is e = absurd (let yes : b ≡ true = is.1 refl in let wrong : true ≡ false = sym yes ∙ e in cc)
filled (x ∷ xs) b is e = omega arith

tree_refuses : (version : Version) (table : List MethodSizes) (k : ℕ) (m : Method) (s : MethodSizes) (entry : MethodPlans) (fault : TreeFault) → IsTreeFault m.formats s entry.tree fault → RefusesEntry version table k m s entry (of_tree k fault)
tree_refuses version table k m s entry fault (leaf_reached j reach stands r apart first) methods cert at right top = record { refused = refusals.leaf_reached j reach at stands.node_at stands.reach_is r apart stands.before first; before = right }
tree_refuses version table k m s entry fault (nowhere_reached reach stands r first) methods cert at right top = record { refused = refusals.nowhere_reached reach at stands.node_at stands.reach_is r stands.before first; before = right }
tree_refuses version table k m s entry fault (bit_past o reach stands r short first) methods cert at right top = record { refused = refusals.bit_past o reach at stands.node_at stands.reach_is r short stands.before first; before = right }
tree_refuses version table k m s entry fault (constant_outside i c range reach stands range_at outside) methods cert at right top = record { refused = refusals.constant_outside i c range at stands.node_at reach stands.reach_is range_at outside stands.before; before = right }
tree_refuses version table k m s entry fault (reference_beyond i c reach stands beyond) methods cert at right top = record { refused = refusals.reference_beyond i c at stands.node_at reach stands.reach_is beyond stands.before; before = right }

-- what stands before a format
abbrev before_format : (version : Version) (table : List MethodSizes) (k n : ℕ) (m : Method) (s : MethodSizes) (entry : MethodPlans) (methods : List Method) (cert : Entries) → refusals.At methods table cert k m s entry → AreRightBefore methods table (record { version = version; methods = cert }) k →
    PartsFormats m.formats s entry.tree → FormatsRightBefore version table m s entry n → RightBeforeFormat methods table (record { version = version; methods = cert }) k n
before_format version table k n m s entry methods cert at right tree formats = record { methods_before = right; method = m; whole = s; entry = entry; at = at; tree = tree; formats_before = formats }

pub no_format_refuses : (version : Version) (table : List MethodSizes) (k n : ℕ) (bounds : List FormatSizes) (format : Format) (entry : MethodPlans) → plans_at entry n ≡ None → RefusesFormat version table k n bounds format entry (check.NoFormat k n)
no_format_refuses version table k n bounds format entry none m s format_at are tree formats methods cert at right top = record { refused = refusals.lacks_format format at format_at none; before = before_format version table k n m s entry methods cert at right tree formats }

pub no_method_refuses : (version : Version) (methods : List Method) (table : List MethodSizes) (cert : Entries) (k : ℕ) (m : Method) → slice_get methods k ≡ Some m → 0 < length m.formats → entry_at cert k ≡ None → AreRightBefore methods table (record { version = version; methods = cert }) k →
    RefusesIn methods table (record { version = version; methods = cert }) (check.NoMethod k)
no_method_refuses version methods table cert k m method_at some none right top = record { refused = by m.formats refl; before = right }
  where
    by : (formats : List Format) → m.formats ≡ formats → refusals.IsRefused methods table top (record { version = version; methods = cert }) (check.NoMethod k)
    by [] e = absurd (omega (arith, some, ap length e))
    by (first ∷ formats) e = refusals.lacks_method m first method_at (ap (λ fs. slice_get fs 0) e) none

-- the place of an entry
pub entry_stands : (methods : List Method) (table : List MethodSizes) (cert : Entries) (k : ℕ) (m : Method) (s : MethodSizes) (entry : MethodPlans) → slice_get methods k ≡ Some m → slice_get table k ≡ Some s →
    0 < length m.formats → entry_at cert k ≡ Some entry → refusals.At methods table cert k m s entry
entry_stands methods table cert k m s entry method_at sizes_at some entry_is = by m.formats refl
  where
    by : (formats : List Format) → m.formats ≡ formats → refusals.At methods table cert k m s entry
    by [] e = absurd (omega (arith, some, ap length e))
    by (first ∷ formats) e = record { method_at = method_at; sizes_at = sizes_at; first = first; has_format = ap (λ fs. slice_get fs 0) e; entry_is = entry_is }

pub entry_right : (version : Version) (methods : List Method) (table : List MethodSizes) (cert : Entries) (k : ℕ) (m : Method) (s : MethodSizes) (entry : MethodPlans) → slice_get methods k ≡ Some m → slice_get table k ≡ Some s →
    entry_at cert k ≡ Some entry → IsEntryRight version table m s entry → IsMethodRight methods table (record { version = version; methods = cert }) k
entry_right version methods table cert k m s entry method_at sizes_at entry_is right x z first x_at z_at has =
    let same_m : m ≡ x = cc in
    let same_s : s ≡ z = cc in
    let whole : HasEntry version table m s cert k = record { entry = entry; entry_is = entry_is; tree = right.tree; formats = λ n f z f_at z_at. right.formats n f f_at z z_at } in
    subst (λ y. HasEntry version table y z cert k) same_m (subst (λ y. HasEntry version table m y cert k) same_s whole)

-- a method without formats needs no entry
pub formatless : (methods : List Method) (table : List MethodSizes) (cert : Certified) (k : ℕ) (m : Method) → slice_get methods k ≡ Some m → length m.formats ≡ 0 → IsMethodRight methods table cert k
formatless methods table cert k m method_at none x z first x_at z_at has =
    let same : m ≡ x = cc in
    let is : slice_get m.formats 0 ≡ Some first = ap (λ y. slice_get y.formats 0) same ∙ has in
    absurd (by m.formats none is)
  where
    by : (formats : List Format) → length formats ≡ 0 → slice_get formats 0 ≡ Some first → ⊥
    by [] e at = cc
    by (y ∷ ys) e at = omega (arith, e)

-- what a plan's fault wants of the plan to read
abbrev pub ReadFirst : Direction → Version → List MethodSizes → FormatSizes → Format → Plans → Type 0
ReadFirst Read version table sizes format plans = Unit {0}
ReadFirst Write version table sizes format plans = IsPlan (way_of version Read table sizes format) plans.read

read_right : (direction : Direction) (version : Version) (table : List MethodSizes) (n : ℕ) (sizes : FormatSizes) (format : Format) (plans : Plans) (entry : MethodPlans) (m : Method) (s : MethodSizes) → plans_at entry n ≡ Some plans → slice_get m.formats n ≡ Some format → slice_get s.formats n ≡ Some sizes →
    ReadFirst direction version table sizes format plans → ReadIsRight direction version table m s entry n
read_right Read version table n sizes format plans entry m s are here sized is = tt
read_right Write version table n sizes format plans entry m s are here sized is = record { format = format; sizes = sizes; plans = plans; format_at = here; sizes_at = sized; plans_are = are; read = is }

-- the fault of a plan, by its direction, after what is right before it
plan_first : (methods : List Method) (table : List MethodSizes) (top : ℕ) (cert : Certified) (k n : ℕ) (direction : Direction) (fault : PlanFault) → refusals.IsRefused methods table top cert (refusal_of k n direction fault) → RightBeforePlan methods table cert k n direction →
    IsFirstFault methods table top cert (refusal_of k n direction fault)
plan_first methods table top cert k n direction (NotEnabled step) refused before = record { refused = refused; before = before }
plan_first methods table top cert k n direction (NeverLearnt field side) refused before = record { refused = refused; before = before }

pub plan_refuses : (version : Version) (table : List MethodSizes) (k n : ℕ) (sizes : FormatSizes) (format : Format) (plans : Plans) (direction : Direction) (steps : List Step) (fault : PlanFault) (found : CheckFault) → ReadFirst direction version table sizes format plans →
    steps ≡ refusals.steps_of direction plans → IsPlanFault (way_of version direction table sizes format) steps fault → found ≡ refusal_of k n direction fault → RefusesPlans version table k n sizes format plans found
plan_refuses version table k n sizes format plans direction steps fault found first same wrong is entry plans_at m s format_at sizes_at tree formats methods cert at right top =
    let whole : Certified = record { version = version; methods = cert } in
    let wrong_there : IsPlanFault (way_of version direction table sizes format) (refusals.steps_of direction plans) fault = subst (λ (xs : List Step). IsPlanFault (way_of version direction table sizes format) xs fault) same wrong in
    subst (λ f. IsFirstFault methods table top whole f) (sym is)
    (plan_first methods table top whole k n direction fault (plan_faults_refuse methods table top whole k n m s entry format sizes plans direction fault at format_at sizes_at plans_at wrong_there)
    (record { format = before_format version table k n m s entry methods cert at right tree formats; read = read_right direction version table n sizes format plans entry m s plans_at format_at sizes_at first }))

-- no fault is found of the plan to read
pub read_is_right : (version : Version) (table : List MethodSizes) (sizes : FormatSizes) (format : Format) (plans : Plans) (steps : List Step) (o : Option PlanFault) → o ≡ None → steps ≡ plans.read → IfNone o (IsPlan (way_of version Read table sizes format) steps) →
    IsPlan (way_of version Read table sizes format) plans.read
read_is_right version table sizes format plans steps o none same h = subst (λ (xs : List Step). IsPlan (way_of version Read table sizes format) xs) same (none_in _ o none h)

-- nor of the tree
pub tree_is_right : (m : Method) (s : MethodSizes) (entry : MethodPlans) (formats : List Format) (nodes : List Node) (o : Option TreeFault) → o ≡ None → formats ≡ m.formats → nodes ≡ entry.tree → IfNone o (PartsFormats formats s nodes) → PartsFormats m.formats s entry.tree
tree_is_right m s entry formats nodes o none same_formats same_nodes h = subst (λ (xs : List Node). PartsFormats m.formats s xs) same_nodes (subst (λ (fs : List Format). PartsFormats fs s nodes) same_formats (none_in _ o none h))

pub plans_refuse : (version : Version) (table : List MethodSizes) (k n : ℕ) (bounds : List FormatSizes) (sizes : FormatSizes) (format : Format) (plans : Plans) (entry : MethodPlans) (r : Result (Option CheckFault) AllocError) → plans_at entry n ≡ Some plans → slice_get bounds n ≡ Some sizes →
    IfOk r (λ o. IfSome o (RefusesPlans version table k n sizes format plans)) → IfOk r (λ o. IfSome o (RefusesFormat version table k n bounds format entry))
plans_refuse version table k n bounds sizes format plans entry (Ok None) at sized h = tt
plans_refuse version table k n bounds sizes format plans entry (Ok (Some f)) at sized h = λ m s format_at are tree formats. h entry at m s format_at (ap (λ zs. slice_get zs n) are ∙ sized) tree formats
plans_refuse version table k n bounds sizes format plans entry (Err e) at sized h = tt

-- plans that serve are those of the format with the bounds at its place
pub serving : (version : Version) (table : List MethodSizes) (n : ℕ) (bounds : List FormatSizes) (sizes : FormatSizes) (format : Format) (plans : Plans) (entry : MethodPlans) (r : Result (Option CheckFault) AllocError) → plans_at entry n ≡ Some plans → slice_get bounds n ≡ Some sizes →
    IfOk r (λ o. IfNone o (Serve version table sizes format plans)) → IfOk r (λ o. IfNone o ((z : FormatSizes) → slice_get bounds n ≡ Some z → HasPlans version table z format entry n))
serving version table n bounds sizes format plans entry (Ok (Some f)) at sized h = tt
serving version table n bounds sizes format plans entry (Err e) at sized h = tt
serving version table n bounds sizes format plans entry (Ok None) at sized h = λ z z_at.
    let same : sizes ≡ z = let e : Some sizes ≡ Some z = sym sized ∙ z_at in cc in
    subst (λ y. HasPlans version table y format entry n) same (record { plans = plans; plans_are = at; read = h.read; write = h.write })

pub tree_refuses_as : (version : Version) (table : List MethodSizes) (k : ℕ) (m : Method) (s : MethodSizes) (entry : MethodPlans) (formats : List Format) (nodes : List Node) (fault : TreeFault) (found : CheckFault) → formats ≡ m.formats → nodes ≡ entry.tree →
    IsTreeFault formats s nodes fault → found ≡ of_tree k fault → RefusesEntry version table k m s entry found
tree_refuses_as version table k m s entry formats nodes fault found same_formats same_nodes wrong is =
    let here : IsTreeFault m.formats s entry.tree fault = subst (λ (xs : List Node). IsTreeFault m.formats s xs fault) same_nodes (subst (λ (fs : List Format). IsTreeFault fs s nodes fault) same_formats wrong) in
    subst (RefusesEntry version table k m s entry) (sym is) (tree_refuses version table k m s entry fault here)

pub formats_refuse : (version : Version) (table : List MethodSizes) (k : ℕ) (m : Method) (s : MethodSizes) (entry : MethodPlans) (r : Result (Option CheckFault) AllocError) → PartsFormats m.formats s entry.tree → IfOk r (λ o. IfSome o (RefusesFormats version table k s.formats m.formats entry)) →
    IfOk r (λ o. IfSome o (RefusesEntry version table k m s entry))
formats_refuse version table k m s entry (Ok None) tree h = tt
formats_refuse version table k m s entry (Ok (Some f)) tree h = h m s refl refl tree
formats_refuse version table k m s entry (Err e) tree h = tt

-- the formats that a loop has passed
before_place : (version : Version) (table : List MethodSizes) (bounds : List FormatSizes) (formats : List Format) (entry : MethodPlans) (m : Method) (s : MethodSizes) (n : ℕ) → m.formats ≡ formats → s.formats ≡ bounds →
    Before (λ j format. (z : FormatSizes) → slice_get bounds j ≡ Some z → HasPlans version table z format entry j) formats n → FormatsRightBefore version table m s entry n
before_place version table bounds formats entry m s n is are passed j format sizes few here sized = passed j format few (ap (λ fs. slice_get fs j) (sym is) ∙ here) sizes (ap (λ zs. slice_get zs j) (sym are) ∙ sized)

-- a format by its place
pub format_refuses : (version : Version) (table : List MethodSizes) (k n : ℕ) (bounds : List FormatSizes) (format : Format) (formats : List Format) (entry : MethodPlans) (fault : CheckFault) → slice_get formats n ≡ Some format →
    Before (λ j format. (z : FormatSizes) → slice_get bounds j ≡ Some z → HasPlans version table z format entry j) formats n → RefusesFormat version table k n bounds format entry fault →
    RefusesFormats version table k bounds formats entry fault
format_refuses version table k n bounds format formats entry fault at passed h m s is are tree = h m s (ap (λ fs. slice_get fs n) is ∙ at) are tree (before_place version table bounds formats entry m s n is are passed)

pub entry_refuses : (version : Version) (methods : List Method) (table : List MethodSizes) (cert : Entries) (k : ℕ) (m : Method) (s : MethodSizes) (entry : MethodPlans) (r : Result (Option CheckFault) AllocError) → refusals.At methods table cert k m s entry →
    AreRightBefore methods table (record { version = version; methods = cert }) k → IfOk r (λ o. IfSome o (RefusesEntry version table k m s entry)) → IfOk r (λ o. IfSome o (RefusesIn methods table (record { version = version; methods = cert })))
entry_refuses version methods table cert k m s entry (Ok None) at right h = tt
entry_refuses version methods table cert k m s entry (Ok (Some f)) at right h = h methods cert at right
entry_refuses version methods table cert k m s entry (Err e) at right h = tt

-- the fault of the same certificate
pub refused_as : (methods xs : List Method) (table ys : List MethodSizes) (cert es : Certified) (fault : CheckFault) → xs ≡ methods → ys ≡ table → es ≡ cert → RefusesIn xs ys es fault → RefusesIn methods table cert fault
refused_as methods xs table ys cert es fault a b d h =
    subst (λ (x : List Method). RefusesIn x table cert fault) a (subst (λ (y : List MethodSizes). RefusesIn xs y cert fault) b (subst (λ (e : Certified). RefusesIn xs ys e fault) d h))

-- all entries are right, and the top has this verdict
pub whole_verdict : (methods xs : List Method) (table ys : List MethodSizes) (top t : ℕ) (cert es : Certified) (r : Result Verdict AllocError) → xs ≡ methods → ys ≡ table → t ≡ top → es ≡ cert → AreEntriesRight xs ys es →
    IfOk r (IsTopVerdict xs ys t es) → IfOk r (IsVerdict methods table top cert)
whole_verdict methods xs table ys top t cert es r a b c d right h =
    subst (λ (x : List Method). IfOk r (IsVerdict x table top cert)) a (subst (λ (y : List MethodSizes). IfOk r (IsVerdict xs y top cert)) b
    (subst (λ (z : ℕ). IfOk r (IsVerdict xs ys z cert)) c (subst (λ (e : Certified). IfOk r (IsVerdict xs ys t e)) d (by r h))))
  where
    by : (q : Result Verdict AllocError) → IfOk q (IsTopVerdict xs ys t es) → IfOk q (IsVerdict xs ys t es)
    by (Err e) g = tt
    by (Ok (verdict.Wrong fault)) g = g right
    by (Ok (verdict.Right counts)) g =
        (record { entries = λ k m s first. right k m s first; counts = g.counted.counts; are_counts = g.counted.are_counts; few = g.few; short = g.short }, g.counted)

-- the same where the entries of the certificate itself are right
pub right_verdict : (methods xs : List Method) (table ys : List MethodSizes) (top t : ℕ) (cert : Certified) (es : Entries) (r : Result Verdict AllocError) → xs ≡ methods → ys ≡ table → t ≡ top → es ≡ cert.methods → AreEntriesRight methods table cert →
    IfOk r (IsTopVerdict xs ys t (record { version = cert.version; methods = es })) → IfOk r (IsVerdict methods table top cert)
right_verdict methods xs table ys top t cert es r a b c d right h =
    let as_shown = subst (λ x. AreEntriesRight x ys (record { version = cert.version; methods = es })) (sym a)
    (subst (λ y. AreEntriesRight methods y (record { version = cert.version; methods = es })) (sym b) (subst (λ e. AreEntriesRight methods table (record { version = cert.version; methods = e })) (sym d) right)) in
    whole_verdict methods xs table ys top t cert (record { version = cert.version; methods = es }) r a b c (λ i. record { version = cert.version; methods = d i }) as_shown h
