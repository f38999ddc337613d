-- Where a method's tree leads, and the plan of its format.
use Rattle.std.proofs.Common.{◌≡◌, refl, sym, ◌∙◌, ap, subst, ℕ, zero, suc, ◌<◌, List, [], ◌∷◌, Bool, length, arith}
use Rattle.std.specs.Prelude.{option_and_then, Option, Some, None, slice_get, ℤ}
use Rattle.std.specs.List.{AllByRecursion}
use Rattle.std.proofs.lemmas.Option.{slice_get_within, same_Some}
use Rattle.sem_profile.proofs.FieldsRuling.{there}
use Rattle.cert_types.specs.declared.certificate.Direction.TheVariants.{Read}
use Rattle.cert_types.specs.declared.certificate.MethodPlans.{MethodPlans}
use Rattle.cert_types.specs.declared.certificate.Node.{Node}
use Rattle.cert_types.specs.declared.certificate.Node.TheVariants.{Bit}
use Rattle.cert_types.specs.declared.certificate.Plans.{Plans}
use Rattle.cert_types.specs.Kept.{Certified, AreKept, IsNodeKept}
use Rattle.cert_accepted.specs.Accepted.{Accepting, IsAccepted}
use Rattle.sem_filling.specs.declared.filling.Filling.{Filling, out-Filling}
use Rattle.sem_filling.specs.Fillings.{packed}
use Rattle.sem_filling.specs.Fits.{Context, format_at}
use Rattle.sem_filling.proofs.FitsInverted.{parts}
use Rattle.sem_filling.proofs.FitsSized.{and_then_some}
use Rattle.sem_filling.proofs.FitsJudged.{placed}
use Rattle.sem_profile.specs.declared.profile.Format.{Format}
use Rattle.sem_profile.specs.declared.profile.Method.{Method}
use Rattle.sem_profile.specs.declared.profile.MethodSizes.{MethodSizes}
use Rattle.sem_profile.specs.Resolved.{IsSound}
use Rattle.cert_rules.specs.Counts.{entry_at}
use Rattle.cert_rules.specs.Plans.{way_of, known_at_start, IsPlan}
use Rattle.cert_rules.specs.Reading.{Spot, IsAhead, Follows}
use Rattle.cert_rules.specs.Trees.{Arrival, leads, nowhere, cut_off, references, way}
use Rattle.cert_rules.specs.Valid.{HasEntry, plans_at}
use Rattle.cert_rules.proofs.ViewsLearning.{tree_leads}
use Rattle.cert_rules.proofs.Trees.{cut_off_below}
use Rattle.cert_rules.proofs.RulesVersions.{plans_go_on}
use Rattle.sem_filling.proofs.Bounding as bounds
use Rattle.sem_filling.specs.Bounded.{sizes_at}
use Rattle.sem_profile.specs.declared.profile.FormatSizes.{FormatSizes}
use Rattle.cert_tables.specs.declared.picks.Picked.TheVariants as picked
use Rattle.cert_tables.specs.Picked.{formats_of, picked_of, arrival, picks}
use Rattle.walk_read.specs.Walking.{way_from}

-- ---- the entry of a method that has a format

first_there : {A : Type 0} (xs : List A) (n : ℕ) (x : A) → slice_get xs n ≡ Some x → (y : A) × (slice_get xs 0 ≡ Some y)
first_there xs n x e = there xs 0 (omega (arith, slice_get_within xs n x e))

pub record Entered (a : Accepting) (k n : ℕ) (format : Format) : Type 0 where
  pub method : Method
  pub method_at : slice_get a.profile.methods k ≡ Some method
  pub format_is : slice_get method.formats n ≡ Some format
  pub whole : MethodSizes
  pub whole_at : slice_get a.profile.sizes k ≡ Some whole
  pub has : HasEntry a.certificate.version a.profile.sizes method whole a.certificate.methods k

module _ (a : Accepting) (accepted : IsAccepted a) (sound : IsSound a.profile) where
  pub entered : (k n : ℕ) (format : Format) → format_at a.profile.methods k n ≡ Some format → Entered a k n format
  entered k n format at =
      let here = placed a.profile.methods k n format at in
      let s = there a.profile.sizes k (omega (arith, sound.sized.each, slice_get_within a.profile.methods k here.method here.method_at)) in
      let first = first_there here.method.formats n format here.format_is in
      record {
        method = here.method;
        method_at = here.method_at;
        format_is = here.format_is;
        whole = s.0;
        whole_at = s.1;
        has = accepted.valid.entries k here.method s.0 first.0 here.method_at s.1 first.1;
      }

  -- ---- the tree

  module _ (ctx : Context) (spot : Spot) where
    pub followed : (f : Filling) → IsAhead a.profile.methods ctx spot f →
        Follows (out-Filling f).format spot.bits (packed f) (arrival (entry_at a.certificate.methods spot.method) (references ctx spot.path (formats_of (slice_get a.profile.methods spot.method))) spot.bits spot.args)
    followed f h =
        let p = parts h.in_front.fits in
        let e = entered spot.method (out-Filling f).format p.format p.is_format in
        subst (λ (o : Option Method). Follows (out-Filling f).format spot.bits (packed f) (arrival (entry_at a.certificate.methods spot.method) (references ctx spot.path (formats_of o)) spot.bits spot.args)) (sym e.method_at)
        (subst (λ z. Follows (out-Filling f).format spot.bits (packed f) (arrival z (references ctx spot.path e.method.formats) spot.bits spot.args)) (sym e.has.entry_is)
        (tree_leads a.profile.methods a.profile.sizes sound.sized sound.alike ctx spot f h e.method e.whole e.has.entry.tree e.method_at e.whole_at e.has.tree))

-- what the code reads of where the way leads
module _ (k : ℕ) (bits own : List Bool) where
  pub leads_to : (n : ℕ) (w : Arrival) → picked_of w ≡ picked.Format n → Follows k bits own w → k ≡ n
  leads_to n (leads m) is follows = let same : m ≡ n = cc in follows ∙ same
  leads_to n nowhere is follows = absurd follows
  leads_to n cut_off is follows = absurd cc

  pub leads_nowhere : (w : Arrival) → picked_of w ≡ picked.Nothing → Follows k bits own w → ⊥
  leads_nowhere (leads m) is follows = absurd cc
  leads_nowhere nowhere is follows = follows
  leads_nowhere cut_off is follows = absurd cc

  pub is_longer : (w : Arrival) → picked_of w ≡ picked.Short → Follows k bits own w → length bits < length own
  is_longer (leads m) is follows = absurd cc
  is_longer nowhere is follows = absurd follows
  is_longer cut_off is follows = follows

pub is_cut_off : (w : Arrival) → picked_of w ≡ picked.Short → w ≡ cut_off
is_cut_off (leads m) is = absurd cc
is_cut_off nowhere is = absurd cc
is_cut_off cut_off is = refl

-- ---- the bits that a tree tests

node_kept : (nodes : List Node) → AllByRecursion IsNodeKept nodes → (n o : ℕ) → slice_get nodes n ≡ Some (Bit o) → o < 8192
node_kept [] all n o e = absurd cc
node_kept (x ∷ nodes) all zero o e = subst IsNodeKept (same_Some x (Bit o) e) all.0
node_kept (x ∷ nodes) all (suc n) o e = node_kept nodes all.1 n o e

entry_there : (cert : List (Option MethodPlans)) (k : ℕ) (entry : MethodPlans) → entry_at cert k ≡ Some entry → slice_get cert k ≡ Some (Some entry)
entry_there cert k entry is = let h = and_then_some (λ o. o) (slice_get cert k) entry is in h.1 ∙ ap Some h.2

pub few_tested : (cert : Certified) → AreKept cert → (k : ℕ) (refs : ℕ → Option ℤ) (bits : List Bool) (args : List ℤ) → picks cert.methods k refs args bits ≡ picked.Short → length bits < 8192
few_tested cert kept k refs bits args is = at (entry_at cert.methods k) refl is
  where
    at : (o : Option MethodPlans) → entry_at cert.methods k ≡ o → picked_of (arrival o refs bits args) ≡ picked.Short → length bits < 8192
    at None none cut = absurd cc
    at (Some entry) there cut =
        cut_off_below 8192 entry.tree refs bits args 0 (node_kept entry.tree (kept.each k entry (entry_there cert.methods k entry there)).tree.each) (is_cut_off (way refs bits args 0 entry.tree) cut)

-- ---- the plans

module _ (a : Accepting) (accepted : IsAccepted a) (sound : IsSound a.profile) (k n : ℕ) (format : Format) (at : format_at a.profile.methods k n ≡ Some format) where
  pub none_planned : entry_at a.certificate.methods k ≡ None → ⊥
  none_planned none =
      let e = entered a accepted sound k n format at in
      let wrong : None ≡ Some e.has.entry = sym none ∙ e.has.entry_is in
      absurd cc

  module _ (entry : MethodPlans) (is : entry_at a.certificate.methods k ≡ Some entry) where
    -- the format has plans, by its bounds
    planned_by : (sizes : FormatSizes) → sizes_at a.profile.sizes k n ≡ Some sizes → (plans : Plans) × (plans_at entry n ≡ Some plans) × IsPlan (way_of a.certificate.version Read a.profile.sizes sizes format) plans.read
    planned_by sizes sized =
        let e = entered a accepted sound k n format at in
        let bounds : slice_get e.whole.formats n ≡ Some sizes = ap (option_and_then (λ (s : MethodSizes). slice_get s.formats n)) (sym e.whole_at) ∙ sized in
        let h = e.has.formats n format sizes e.format_is bounds in
        let same : e.has.entry ≡ entry = same_Some e.has.entry entry (sym e.has.entry_is ∙ is) in
        (h.plans, subst (λ z. plans_at z n ≡ Some h.plans) same h.plans_are, h.read)

    pub none_here : plans_at entry n ≡ None → ⊥
    none_here none =
        let z = bounds.placed a.profile.methods a.profile.sizes sound.sized k n format at in
        let sized : sizes_at a.profile.sizes k n ≡ Some z.sizes = ap (option_and_then (λ (s : MethodSizes). slice_get s.formats n)) z.whole_at ∙ z.sizes_at in
        let p = planned_by z.sizes sized in
        let wrong : None ≡ Some p.0 = sym none ∙ p.1 in
        absurd cc

    -- by the rules of version two, which any plan goes by
    pub plan_is : (plans : Plans) → plans_at entry n ≡ Some plans → (sizes : FormatSizes) → sizes_at a.profile.sizes k n ≡ Some sizes → IsPlan (way_from sizes format (known_at_start format)) plans.read
    plan_is plans are sizes sized =
        let p = planned_by sizes sized in
        let same : p.0 ≡ plans = same_Some p.0 plans (sym p.1 ∙ are) in
        let on = plans_go_on a.certificate.version Read a.profile.sizes sizes format p.0.read p.2 in
        subst (λ z. IsPlan (way_from sizes format (known_at_start format)) z.read) same record { enabled = on.enabled; complete = on.complete }
