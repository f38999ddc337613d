-- A fault is there only where the certificate is not valid.
use Rattle.std.proofs.Common.{◌≡◌, ◌<◌, sym, ◌∙◌, ap, subst, ℕ, Bool, true, false, List, [], ◌∷◌, ◌++◌, arith}
use Rattle.std.specs.Prelude.{Option, Some, slice_get, option_and_then}
use Rattle.sem_profile.specs.declared.profile.Format.{Format}
use Rattle.sem_profile.specs.declared.profile.Method.{Method}
use Rattle.sem_profile.specs.declared.profile.FormatSizes.{FormatSizes}
use Rattle.sem_profile.specs.declared.profile.MethodSizes.{MethodSizes}
use Rattle.sem_profile.specs.Methods.{IsOrder}
use Rattle.sem_profile.specs.Outcome.{AreSizes}
use Rattle.sem_filling.specs.Fits.{format_at}
use Rattle.sem_filling.proofs.Bounding.{placed}
use Rattle.sem_filling.proofs.FitsSized.{one_value}
use Rattle.cert_types.specs.declared.certificate.Direction.{Direction}
use Rattle.cert_types.specs.declared.certificate.Direction.TheVariants.{Read, Write}
use Rattle.cert_types.specs.declared.certificate.Step.{Step}
use Rattle.cert_types.specs.declared.certificate.Node.TheVariants as node
use Rattle.cert_types.specs.declared.certificate.Plans.{Plans}
use Rattle.cert_types.specs.declared.certificate.MethodPlans.{MethodPlans}
use Rattle.cert_types.specs.Kept.{Certified, Entries, candidate_limit}
use Rattle.sem_filling.proofs.FillingsUnique.{also_at}
use Rattle.cert_types.specs.declared.rule.Fact.{Fact}
use Rattle.cert_types.specs.declared.rule.Rule.{Rule}
use Rattle.cert_rules.specs.Plans.{way_of, rule_of, enabled, learnt, known_after, all_enabled, known_at_start, IsPlan}
use Rattle.cert_rules.specs.Trees.{PartsFormats}
use Rattle.cert_rules.specs.Counts.{entry_at, AreCounts}
use Rattle.cert_rules.specs.Valid.{plans_at, HasPlans, HasEntry, Valid}
use Rattle.cert_rules.specs.declared.fault.CheckFault.{CheckFault}
use Rattle.cert_rules.specs.declared.fault.CheckFault.TheVariants.{TooMany, TooLong}
use Rattle.cert_rules.specs.Refusals.{steps_of, At, IsRefused, lacks_method, lacks_format, step_refused, side_unknown, leaf_reached, nowhere_reached, bit_past, constant_outside, reference_beyond, counts_above, bits_above, FaultsExclude}
use Rattle.cert_rules.proofs.ViewsAgree.{and_true}
use Rattle.cert_rules.proofs.Counts.{one_count}
use Rattle.cert_rules.proofs.Plans.{goal_reached}

not_both : (b : Bool) → b ≡ true → b ≡ false → ⊥
not_both true e h = absurd (cc)
not_both false e h = absurd (cc)

and_then_at : (methods : List Method) (k : ℕ) (m : Method) (n : ℕ) (format : Format) → slice_get methods k ≡ Some m → slice_get m.formats n ≡ Some format → format_at methods k n ≡ Some format
and_then_at methods k m n format e h = ap (option_and_then (λ (z : Method). slice_get z.formats n)) e ∙ h

-- each step of a plan is enabled
each_enabled : (rules : Step → Option Rule) (known : List Fact) (before after : List Step) (step : Step) → all_enabled rules known (before ++ step ∷ after) ≡ true → enabled (known_after rules known before) (rules step) ≡ true
each_enabled rules known [] after step e = (and_true (enabled known (rules step)) (all_enabled rules (learnt (rules step) ++ known) after) e).0
each_enabled rules known (s ∷ before) after step e =
    each_enabled rules (learnt (rules s) ++ known) before after step (and_true (enabled known (rules s)) (all_enabled rules (learnt (rules s) ++ known) (before ++ step ∷ after)) e).1

-- A fault of the top alone, with what shows it.
pub data IsTopFault (methods : List Method) (table : List MethodSizes) (top : ℕ) (cert : Certified) : CheckFault → Type 0 where
  many : (counts : List ℕ) (n : ℕ) → AreCounts methods cert.methods counts → slice_get counts top ≡ Some n → candidate_limit < n → IsTopFault methods table top cert TooMany
  long : (s : MethodSizes) → slice_get table top ≡ Some s → 8192 < s.whole.compressed.most → IsTopFault methods table top cert TooLong

-- each method that has formats has an entry that is right
abbrev pub AreRight : List Method → List MethodSizes → Certified → Type 0
AreRight methods table cert = (k : ℕ) (m : Method) (s : MethodSizes) (first : Format) → slice_get methods k ≡ Some m → slice_get table k ≡ Some s → slice_get m.formats 0 ≡ Some first → HasEntry cert.version table m s cert.methods k

module _ (methods : List Method) (table : List MethodSizes) (cert : Certified) (are : AreSizes methods table) (right : AreRight methods table cert) where
  -- what the certificate has of a method
  found : (k : ℕ) (m : Method) (s : MethodSizes) (entry : MethodPlans) → At methods table cert.methods k m s entry → (h : HasEntry cert.version table m s cert.methods k) × (h.entry ≡ entry)
  found k m s entry at =
      let h = right k m s at.first at.method_at at.sizes_at at.has_format in
      (h, one_value (entry_at cert.methods k) h.entry entry h.entry_is at.entry_is)

  tree_found : (k : ℕ) (m : Method) (s : MethodSizes) (entry : MethodPlans) → At methods table cert.methods k m s entry → PartsFormats m.formats s entry.tree
  tree_found k m s entry at = let f = found k m s entry at in subst (λ (z : MethodPlans). PartsFormats m.formats s z.tree) f.1 f.0.tree

  plans_found : (k n : ℕ) (m : Method) (s : MethodSizes) (entry : MethodPlans) (format : Format) (sizes : FormatSizes) (plans : Plans) (direction : Direction) → At methods table cert.methods k m s entry → slice_get m.formats n ≡ Some format → slice_get s.formats n ≡ Some sizes →
      plans_at entry n ≡ Some plans → IsPlan (way_of cert.version direction table sizes format) (steps_of direction plans)
  plans_found k n m s entry format sizes plans direction at e es is =
      let f = found k m s entry at in
      let p = f.0.formats n format sizes e es in
      let same : p.plans ≡ plans = one_value (plans_at entry n) p.plans plans (ap (λ z. plans_at z n) (sym f.1) ∙ p.plans_are) is in
      by direction p plans same where
        by : (direction : Direction) {entry : MethodPlans} (p : HasPlans cert.version table sizes format entry n) (plans : Plans) → p.plans ≡ plans → IsPlan (way_of cert.version direction table sizes format) (steps_of direction plans)
        by Read p plans same = subst (λ (z : Plans). IsPlan (way_of cert.version Read table sizes format) z.read) same p.read
        by Write p plans same = subst (λ (z : Plans). IsPlan (way_of cert.version Write table sizes format) z.write) same p.write

  -- only a fault of the top can be left
  pub of_the_top : (top : ℕ) (r : CheckFault) → IsRefused methods table top cert r → IsTopFault methods table top cert r
  of_the_top top r (lacks_method {k} m first at is none) =
      let s = also_at methods table k m (sym are.each) at in
      let h = right k m s.0 first at s.1 is in
      absurd (let e = h.entry_is in cc)
  of_the_top top r (lacks_format {k} {n} {m} {s} {entry} format at is none) =
      let f = found k m s entry at in
      let z = placed methods table are k n format (and_then_at methods k m n format at.method_at is) in
      let same : z.whole ≡ s = let x = z.whole_at in let y = at.sizes_at in cc in
      let p = f.0.formats n format z.sizes is (subst (λ (w : MethodSizes). slice_get w.formats n ≡ Some z.sizes) same z.sizes_at) in
      absurd (let e : plans_at entry n ≡ Some p.plans = ap (λ z. plans_at z n) (sym f.1) ∙ p.plans_are in cc)
  of_the_top top r (step_refused {k} {n} {m} {s} {entry} format sizes plans direction before after step at is is_sizes is_plans cut so_far refused) =
      let p = plans_found k n m s entry format sizes plans direction at is is_sizes is_plans in
      let all = ap (all_enabled (rule_of cert.version direction table sizes format) (known_at_start format)) (sym cut) ∙ p.enabled in
      absurd (not_both _ (each_enabled (rule_of cert.version direction table sizes format) (known_at_start format) before after step all) refused)
  of_the_top top r (side_unknown {k} {n} {m} {s} {entry} format sizes plans direction place goal at is is_sizes is_plans enabled at_goal unknown learnt) =
      let way = way_of cert.version direction table sizes format in
      let known = known_after way.rule way.start (steps_of direction plans) in
      absurd (not_both _ (goal_reached way.goals known (plans_found k n m s entry format sizes plans direction at is is_sizes is_plans).complete place goal at_goal) unknown)
  of_the_top top r (leaf_reached {k} {place} {n} {m} {s} {entry} j reach at is_node is_reach reached other before first) =
      absurd (other ((tree_found k m s entry at).each place (node.Leaf j) reach is_node is_reach n reached))
  of_the_top top r (nowhere_reached {k} {place} {n} {m} {s} {entry} reach at is_node is_reach reached before first) =
      absurd ((tree_found k m s entry at).each place node.Nowhere reach is_node is_reach n reached)
  of_the_top top r (bit_past {k} {place} {n} {m} {s} {entry} o reach at is_node is_reach reached past before first) =
      absurd (let low = (tree_found k m s entry at).each place (node.Bit o) reach is_node is_reach n reached in omega (arith, low, past))
  of_the_top top r (constant_outside {k} {place} {m} {s} {entry} i c range at is_node reach is_reach is_range outside before) =
      absurd (outside ((tree_found k m s entry at).each place (node.Parameter i c) reach is_node is_reach range is_range))
  of_the_top top r (reference_beyond {k} {place} {m} {s} {entry} i c at is_node reach is_reach beyond before) =
      absurd (beyond ((tree_found k m s entry at).each place (node.Reference i c) reach is_node is_reach))
  of_the_top top r (counts_above counts n are_counts is above) = many counts n are_counts is above
  of_the_top top r (bits_above s is above) = long s is above

top_excluded : (methods : List Method) (table : List MethodSizes) (top : ℕ) (cert : Certified) (order : List ℕ) → IsOrder methods order → Valid methods table top cert → (r : CheckFault) → IsTopFault methods table top cert r → ⊥
top_excluded methods table top cert order ordered valid r (many counts n are_counts is above) =
    let one = one_count methods order cert.methods counts valid.counts ordered are_counts valid.are_counts in
    let few = valid.few n (ap (λ c. slice_get c top) (sym one) ∙ is) in
    omega (arith, few, above)
top_excluded methods table top cert order ordered valid r (long s is above) = absurd (let most = valid.short s is in omega (arith, most, above))

pub faults_exclude : FaultsExclude
faults_exclude methods table top cert order ordered are valid r h = top_excluded methods table top cert order ordered valid r (of_the_top methods table cert are valid.entries top r h)
