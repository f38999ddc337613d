-- What is made of each method is a certificate of the order, within the limits.
use Rattle.std.proofs.Common.{◌≡◌, ◌∙◌, sym, ap, subst, refl, ℕ, List, length}
use Rattle.std.specs.Prelude.{Option, Some, None, slice_get, option_and_then}
use Rattle.sem_profile.specs.declared.profile.Format.{Format}
use Rattle.sem_profile.specs.declared.profile.Method.{Method}
use Rattle.sem_profile.specs.declared.profile.FormatSizes.{FormatSizes}
use Rattle.sem_profile.specs.declared.profile.MethodSizes.{MethodSizes}
use Rattle.sem_profile.specs.Resolved.{Resolved, IsSound}
use Rattle.sem_profile.specs.WellFormed.{AreWellFormed}
use Rattle.sem_profile.specs.Alike.{AreAlike}
use Rattle.std.proofs.lemmas.List.{length-map}
use Rattle.sem_profile.specs.Formats.{format_sizes}
use Rattle.sem_filling.proofs.FillingsUnique.{also_at}
use Rattle.cert_types.specs.declared.certificate.Version.{Version}
use Rattle.cert_types.specs.declared.certificate.Direction.TheVariants.{Read, Write}
use Rattle.cert_types.specs.declared.certificate.Plans.{Plans}
use Rattle.cert_types.specs.declared.certificate.FormatPlans.{FormatPlans}
use Rattle.cert_types.specs.declared.certificate.MethodPlans.{MethodPlans}
use Rattle.cert_types.specs.Kept.{Certified, Entries, AreKept, AreFormatsKept, ArePlansKept, IsMethodKept}
use Rattle.cert_types.specs.Of.{ArePlansOf, IsFormatOf, IsMethodOf, IsEntryOf, of_method}
use Rattle.cert_rules.specs.Counts.{entry_at}
use Rattle.cert_prove.specs.Made.{IsFormatMade, AreFormatsMade, IsMethodMade, IsEntryMade, AreMade}
use Rattle.cert_prove.specs.OrderedFormats.{AreOrdered, HasOrderedPlans, HasOrderedEntry, IsOrdered}
use Rattle.cert_prove.proofs.TreeNaming.{ordered_names, ordered_is_versed}
use Rattle.cert_prove.proofs.EntriesPairs.{zip_of}
use Rattle.cert_prove.proofs.MadeSteps.{plan_of}

module _ (version : Version) (table : List MethodSizes) where
  -- ---- formats

  plans_of : (z : FormatSizes) (f : Format) (plans : Plans) → AreOrdered version table z f plans → ArePlansOf f plans
  plans_of z f plans ordered = record { read = plan_of version Read table z f _ plans.read ordered.read; write = plan_of version Write table z f _ plans.write ordered.write }

  made_format_of : (z : FormatSizes) (f : Format) (entry : FormatPlans) → IsFormatMade version table z f entry → IsFormatOf f entry
  made_format_of z f entry made = subst (IsFormatOf f) (sym made.is) record { name = refl; fields = refl; plans = λ p h. let same : made.plans ≡ p = cc in subst (ArePlansOf f) same (plans_of z f made.plans made.ordered) }

  shown_plans : (z : FormatSizes) (f : Format) (entry : FormatPlans) → (made : IsFormatMade version table z f entry) → entry.plans ≡ Some made.plans
  shown_plans z f entry made = ap (λ (e : FormatPlans). e.plans) made.is

  formats_kept : (bounds : List FormatSizes) (formats : List Format) (entries : List FormatPlans) → length bounds ≡ length formats → AreFormatsMade version table bounds formats entries → AreFormatsKept entries
  formats_kept bounds formats entries long made n entry plans at has =
      let f = also_at entries formats n entry made.each at in
      let z = also_at formats bounds n f.0 (sym long) f.1 in
      let one = made.made n f.0 z.0 entry f.1 z.1 at in
      let same : one.plans ≡ plans = let e : Some one.plans ≡ Some plans = sym (shown_plans z.0 f.0 entry one) ∙ has in cc in
      subst ArePlansKept same one.kept

  has_plans : (bounds : List FormatSizes) (formats : List Format) (entry : MethodPlans) → AreFormatsMade version table bounds formats entry.formats → (n : ℕ) (f : Format) (z : FormatSizes) → slice_get formats n ≡ Some f → slice_get bounds n ≡ Some z → HasOrderedPlans version table z f entry n
  has_plans bounds formats entry made n f z at sized =
      let e = also_at formats entry.formats n f (sym made.each) at in
      let one = made.made n f z e.0 at sized e.1 in
      record { plans = one.plans; plans_are = ap (λ o. option_and_then (λ (x : FormatPlans). x.plans) o) e.1 ∙ shown_plans z f e.0 one; ordered = one.ordered }

  -- ---- methods

  made_method_of : (methods : List Method) (k : ℕ) (m : Method) (s : MethodSizes) (entry : MethodPlans) → AreWellFormed methods → AreAlike methods → slice_get methods k ≡ Some m → length s.formats ≡ length m.formats → IsMethodMade version table m s entry → IsMethodOf m entry
  made_method_of methods k m s entry sound alike at long made = subst (IsMethodOf m) (sym made.is) record {
    used = made.used;
    name = refl;
    parameters = refl;
    tree = ordered_names version methods k m s made.tree sound alike at made.ordered;
    formats = zip_of IsFormatOf m.formats made.formats made.made.each (λ i f e here there. let z = also_at m.formats s.formats i f (sym long) here in made_format_of z.0 f e (made.made.made i f z.0 e here z.1 there));
  }

  made_method_kept : (m : Method) (s : MethodSizes) (entry : MethodPlans) → length s.formats ≡ length m.formats → IsMethodMade version table m s entry → IsMethodKept version entry
  made_method_kept m s entry long made = subst (IsMethodKept version) (sym made.is) record { tree = made.kept; versed = ordered_is_versed version m.formats s made.tree made.ordered; formats = formats_kept s.formats m.formats made.formats long made.made }

  has_entry : (m : Method) (s : MethodSizes) (cert : Entries) (k : ℕ) (entry : MethodPlans) → entry_at cert k ≡ Some entry → IsMethodMade version table m s entry → HasOrderedEntry version table m s cert k
  has_entry m s cert k entry at made =
      let whole : MethodPlans = of_method m made.tree made.formats in
      record { entry = whole; entry_is = at ∙ ap Some made.is; tree = made.ordered; formats = has_plans s.formats m.formats whole made.made }

  -- ---- all

  module _ (methods : List Method) (cert : Entries) (each : length table ≡ length methods) (long : (k : ℕ) (m : Method) (s : MethodSizes) → slice_get methods k ≡ Some m → slice_get table k ≡ Some s → length s.formats ≡ length m.formats) (made : AreMade version methods table cert) where
    at_method : (k : ℕ) (m : Method) (s : MethodSizes) → slice_get methods k ≡ Some m → slice_get table k ≡ Some s → (o : Option MethodPlans) × (slice_get cert k ≡ Some o) × IsEntryMade version table m s o
    at_method k m s at sized = let o = also_at methods cert k m (sym made.each) at in (o.0, o.1, made.made k m s o.0 at sized o.1)

    pub made_kept : AreKept (record { version = version; methods = cert })
    made_kept = record {
      each = λ k entry at.
          let m = also_at cert methods k (Some entry) made.each at in
          let s = also_at methods table k m.0 (sym each) m.1 in
          made_method_kept m.0 s.0 entry (long k m.0 s.0 m.1 s.1) (made.made k m.0 s.0 (Some entry) m.1 s.1 at);
    }

    entry_of : AreWellFormed methods → AreAlike methods → (k : ℕ) (m : Method) (s : MethodSizes) (o : Option MethodPlans) → slice_get methods k ≡ Some m → slice_get table k ≡ Some s → IsEntryMade version table m s o → IsEntryOf m o
    entry_of sound alike k m s None at sized is = tt
    entry_of sound alike k m s (Some entry) at sized is = made_method_of methods k m s entry sound alike at (long k m s at sized) is

    has_formats : (k : ℕ) (m : Method) (s : MethodSizes) (first : Format) (o : Option MethodPlans) → slice_get m.formats 0 ≡ Some first → slice_get cert k ≡ Some o → IsEntryMade version table m s o → HasOrderedEntry version table m s cert k
    has_formats k m s first None has at is = absurd (let e : None ≡ Some first = ap (λ fs. slice_get fs 0) (sym is) ∙ has in cc)
    has_formats k m s first (Some entry) has at is = has_entry m s cert k entry (ap (λ o. option_and_then (λ x. x) o) at) is

    pub made_ordered : AreWellFormed methods → AreAlike methods → IsOrdered methods table (record { version = version; methods = cert })
    made_ordered sound alike = record {
      entries = λ k m s first at sized has. let o = at_method k m s at sized in has_formats k m s first o.0 has o.1 o.2;
      of = zip_of IsEntryOf methods cert made.each (λ k m o at there. let s = also_at methods table k m (sym each) at in entry_of sound alike k m s.0 o at s.1 (made.made k m s.0 o at s.1 there));
    }

-- ---- of a profile

-- each method has the bounds of its formats
pub bounded : (p : Resolved) (methods : List Method) (table : List MethodSizes) → IsSound p → methods ≡ p.methods → table ≡ p.sizes → (k : ℕ) (m : Method) (s : MethodSizes) → slice_get methods k ≡ Some m → slice_get table k ≡ Some s → length s.formats ≡ length m.formats
bounded p methods table sound same_methods same_table k m s at sized =
    let has = sound.sized.sized k m s (ap (λ ms. slice_get ms k) (sym same_methods) ∙ at) (ap (λ t. slice_get t k) (sym same_table) ∙ sized) in
    ap length has.formats_are ∙ length-map m.formats (format_sizes p.sizes)

module _ (version : Version) (p : Resolved) (methods : List Method) (table : List MethodSizes) (cert : Entries) (sound : IsSound p) (same_methods : methods ≡ p.methods) (same_table : table ≡ p.sizes) (made : AreMade version methods table cert) where
  as_long : length table ≡ length methods
  as_long = ap length same_table ∙ sound.sized.each ∙ sym (ap length same_methods)

  long : (k : ℕ) (m : Method) (s : MethodSizes) → slice_get methods k ≡ Some m → slice_get table k ≡ Some s → length s.formats ≡ length m.formats
  long = bounded p methods table sound same_methods same_table

  pub sound_kept : AreKept (record { version = version; methods = cert })
  sound_kept = made_kept version table methods cert as_long long made

  pub sound_ordered : (whole : Certified) → whole.version ≡ version → whole.methods ≡ cert → IsOrdered p.methods p.sizes whole
  sound_ordered whole same is =
      let here : IsOrdered methods table (record { version = version; methods = cert }) =
      made_ordered version table methods cert as_long long made (subst AreWellFormed (sym same_methods) sound.well_formed) (subst AreAlike (sym same_methods) sound.alike) in
      let there : IsOrdered methods table whole = subst (IsOrdered methods table) (λ i. record { version = sym same i; methods = sym is i }) here in
      subst (λ ms. IsOrdered ms p.sizes whole) same_methods (subst (λ t. IsOrdered methods t whole) same_table there)
