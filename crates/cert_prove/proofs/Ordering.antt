-- Laws of the prover's order, from those of plans and of trees.
use Rattle.std.proofs.Common.{◌≡◌, ◌∙◌, sym, ap, subst, refl, ℕ, ◌⊎◌, inl, inr, List}
use Rattle.std.specs.Prelude.{slice_get}
use Rattle.sem_profile.specs.declared.profile.Format.{Format}
use Rattle.sem_profile.specs.declared.profile.Method.{Method}
use Rattle.sem_profile.specs.declared.profile.FormatSizes.{FormatSizes}
use Rattle.sem_profile.specs.declared.profile.MethodSizes.{MethodSizes}
use Rattle.sem_filling.proofs.FitsSized.{one_value}
use Rattle.cert_types.specs.declared.certificate.Direction.TheVariants.{Read, Write}
use Rattle.cert_types.specs.Kept.{Certified}
use Rattle.cert_rules.specs.declared.fault.CheckFault.{CheckFault}
use Rattle.cert_rules.specs.declared.fault.CheckFault.TheVariants.{TooMany, TooLong}
use Rattle.cert_rules.specs.Plans.{way_of}
use Rattle.cert_rules.specs.Refusals.{steps_of}
use Rattle.cert_rules.specs.Trees.{PartsFormats}
use Rattle.cert_rules.proofs.Refusals.{IsTopFault, many, long, of_the_top}
use Rattle.cert_prove.specs.Order.{order_of}
use Rattle.cert_prove.specs.Refusals.{NeverLearns}
use Rattle.cert_prove.proofs.RefusalsLemmas.{lacking_has_no_plan, ordered_is_plan}
use Rattle.cert_prove.proofs.TreeRuling.{ordered_parts}
use Rattle.cert_prove.proofs.TreeWhole.{stuck_has_no_tree}
use Rattle.cert_prove.specs.Laws.{UnplannedHasNoPlan, UnpartedHasNoTree, OrderedIsRight, OrderedIsRefused}

pub unplanned_has_no_plan : UnplannedHasNoPlan
unplanned_has_no_plan version methods table k n direction sides format bounds plans lacks at plan =
    let m = one_value (slice_get methods k) lacks.at.method at.method lacks.at.method_at at.method_at in
    let s = one_value (slice_get table k) lacks.at.whole at.whole lacks.at.whole_at at.whole_at in
    let f : lacks.format ≡ format = one_value (slice_get at.method.formats n) lacks.format format (ap (λ (z : Method). slice_get z.formats n) (sym m) ∙ lacks.at.format_at) at.format_at in
    let z : lacks.bounds ≡ bounds = one_value (slice_get at.whole.formats n) lacks.bounds bounds (ap (λ (z : MethodSizes). slice_get z.formats n) (sym s) ∙ lacks.at.sizes_at) at.sizes_at in
    let here : NeverLearns (way_of version direction table lacks.bounds format) sides = subst (λ (g : Format). NeverLearns (way_of version direction table lacks.bounds g) sides) f lacks.never in
    let never : NeverLearns (way_of version direction table bounds format) sides = subst (λ (y : FormatSizes). NeverLearns (way_of version direction table y format) sides) z here in
    lacking_has_no_plan (way_of version direction table bounds format) sides never (steps_of direction plans) plan

pub unparted_has_no_tree : UnpartedHasNoTree
unparted_has_no_tree version methods table k first second m s entry lacks at versed parts =
    let same_m = one_value (slice_get methods k) m lacks.method at.method_at lacks.at.method_at in
    let same_s = one_value (slice_get table k) s lacks.sizes at.sizes_at lacks.at.sizes_at in
    let here : PartsFormats lacks.method.formats lacks.sizes entry.tree =
    subst (λ (z : MethodSizes). PartsFormats lacks.method.formats z entry.tree) same_s (subst (λ (z : Method). PartsFormats z.formats s entry.tree) same_m parts) in
    stuck_has_no_tree version lacks.method.formats lacks.sizes lacks.stuck.set lacks.stuck.stuck entry.tree versed here

pub ordered_is_right : OrderedIsRight
ordered_is_right methods table cert is k m s first at sized has =
    let v = cert.version in
    let e = is.entries k m s first at sized has in
    record {
      entry = e.entry;
      entry_is = e.entry_is;
      tree = ordered_parts v m.formats s e.entry.tree e.tree;
      formats = λ n format bounds there bounded. let p = e.formats n format bounds there bounded in record {
        plans = p.plans;
        plans_are = p.plans_are;
        read = ordered_is_plan (way_of v Read table bounds format) (order_of Read format) p.plans.read p.ordered.read;
        write = ordered_is_plan (way_of v Write table bounds format) (order_of Write format) p.plans.write p.ordered.write;
      };
    }

of_top : (methods : List Method) (table : List MethodSizes) (top : ℕ) (cert : Certified) (fault : CheckFault) → IsTopFault methods table top cert fault → (fault ≡ TooMany) ⊎ (fault ≡ TooLong)
of_top methods table top cert fault (many counts n are is above) = inl refl
of_top methods table top cert fault (long s is above) = inr refl

pub ordered_is_refused : OrderedIsRefused
ordered_is_refused methods table top cert fault are is refused = of_top methods table top cert fault (of_the_top methods table cert are (ordered_is_right methods table cert is) top fault refused)
