-- The numbers of candidates are determined, where the methods stand in an order, callees first.
use Rattle.std.proofs.Common.{◌≡◌, refl, sym, ◌∙◌, ap, ℕ, zero, suc, ◌+◌, ◌*◌, ◌<◌, List, [], ◌∷◌, length, arith}
use Rattle.std.specs.Prelude.{Option, Some, None, slice_get, option_and_then, unwrap_or}
use Rattle.std.proofs.lemmas.Option.{slice_get_within}
use Rattle.sem_expr.specs.declared.expr.Expr.{Expr}
use Rattle.sem_profile.specs.declared.profile.Encoding.{Encoding}
use Rattle.sem_profile.specs.declared.profile.Encoding.TheVariants as encoding
use Rattle.sem_profile.specs.declared.profile.Field.{Field}
use Rattle.sem_profile.specs.declared.profile.Format.{Format}
use Rattle.sem_profile.specs.declared.profile.Method.{Method}
use Rattle.sem_profile.specs.Methods.{CallsMethod, IsOrder}
use Rattle.sem_filling.proofs.FillingsUnique.{list_same, also_at}
use Rattle.cert_types.specs.declared.certificate.Step.{Step}
use Rattle.cert_types.specs.declared.certificate.Step.TheVariants.{Take, Call, LibraryUp, LibraryDown, MethodLength, ConstraintLength, Solve, Choose, Ask}
use Rattle.cert_types.specs.declared.certificate.Plans.{Plans}
use Rattle.cert_types.specs.declared.certificate.FormatPlans.{FormatPlans}
use Rattle.cert_types.specs.declared.certificate.MethodPlans.{MethodPlans}
use Rattle.cert_types.specs.Kept.{Entries}
use Rattle.cert_rules.specs.Counts.{callee, ways, plan_ways, format_ways, method_ways, entry_ways, entry_at, AreCounts}
use Rattle.cert_rules.specs.Laws.{OneCount}

module _ (counts others : List ℕ) where
  -- the counts of the methods that the format calls are the same
  abbrev pub Same : Format → Type 0
  Same format = (i j : ℕ) (d : Field) (es : List Expr) → slice_get format.fields i ≡ Some d → d.encoding ≡ encoding.Call j es → slice_get counts j ≡ slice_get others j

  called_same : (format : Format) → Same format → (i : ℕ) (o : Option Field) → slice_get format.fields i ≡ o →
      option_and_then (slice_get counts) (option_and_then (λ d. callee d.encoding) o) ≡ option_and_then (slice_get others) (option_and_then (λ d. callee d.encoding) o)
  called_same format same i None e = refl
  called_same format same i (Some d) e = by d.encoding refl
    where
      by : (c : Encoding) → d.encoding ≡ c → option_and_then (slice_get counts) (callee c) ≡ option_and_then (slice_get others) (callee c)
      by encoding.Bare is = refl
      by (encoding.Library l) is = refl
      by (encoding.Call j es) is = same i j d es e is

  ways_same : (format : Format) → Same format → (step : Step) → ways counts format step ≡ ways others format step
  ways_same format same (Take i) = refl
  ways_same format same (Call i) = ap (λ o. unwrap_or o 1) (called_same format same i (slice_get format.fields i) refl)
  ways_same format same (LibraryUp i) = refl
  ways_same format same (LibraryDown i) = refl
  ways_same format same (MethodLength i side) = refl
  ways_same format same (ConstraintLength i side n) = refl
  ways_same format same (Solve i n) = refl
  ways_same format same (Choose i) = refl
  ways_same format same (Ask i) = refl

  plan_same : (format : Format) → Same format → (steps : List Step) → plan_ways counts format steps ≡ plan_ways others format steps
  plan_same format same [] = refl
  plan_same format same (step ∷ steps) = λ i. ways_same format same step i * plan_same format same steps i

  format_same : (format : Format) → Same format → (plans : Option Plans) → format_ways counts format plans ≡ format_ways others format plans
  format_same format same None = refl
  format_same format same (Some p) = plan_same format same p.write

  method_same : (formats : List Format) → ((n : ℕ) (format : Format) → slice_get formats n ≡ Some format → Same format) → (entries : List FormatPlans) →
      method_ways counts formats entries ≡ method_ways others formats entries
  method_same [] same entries = refl
  method_same (format ∷ formats) same [] = refl
  method_same (format ∷ formats) same (entry ∷ entries) = λ i. format_same format (same zero format refl) entry.plans i + method_same formats (λ n. same (suc n)) entries i

  pub entry_same : (formats : List Format) → ((n : ℕ) (format : Format) → slice_get formats n ≡ Some format → Same format) → (entry : Option MethodPlans) →
      entry_ways counts formats entry ≡ entry_ways others formats entry
  entry_same formats same None = refl
  entry_same formats same (Some entry) = method_same formats same entry.formats

module _ (methods : List Method) (order : List ℕ) (cert : Entries) (counts others : List ℕ) (ordered : IsOrder methods order) (are : AreCounts methods cert counts) (also : AreCounts methods cert others) where
  as_many : length counts ≡ length others
  as_many = are.each ∙ sym also.each

  -- where they are the same of what a method calls, they are of the method
  same_here : (k : ℕ) → ((j : ℕ) (m : Method) → slice_get methods k ≡ Some m → CallsMethod m j → slice_get counts j ≡ slice_get others j) → (n n' : ℕ) → slice_get counts k ≡ Some n → slice_get others k ≡ Some n' → n ≡ n'
  same_here k same n n' is is' =
      let t = also_at counts methods k n are.each is in
      let callees = λ (place : ℕ) (format : Format) (here : slice_get t.0.formats place ≡ Some format) (i j : ℕ) (d : Field) (es : List Expr) (at : slice_get format.fields i ≡ Some d) (is_call : d.encoding ≡ encoding.Call j es). same j t.0 t.1 record { format = format; format_place = place; format_at = here; field = d; field_place = i; field_at = at; arguments = es; is_call = is_call } in
      are.right k n t.0 t.1 is ∙ (entry_same counts others t.0.formats callees (entry_at cert k) ∙ sym (also.right k n' t.0 t.1 is'))

  -- one option from elements that are one
  same_option : (k : ℕ) (o : Option ℕ) → slice_get counts k ≡ o → (o' : Option ℕ) → slice_get others k ≡ o' → ((n n' : ℕ) → slice_get counts k ≡ Some n → slice_get others k ≡ Some n' → n ≡ n') → o ≡ o'
  same_option k None e None e' h = refl
  same_option k (Some n) e (Some n') e' h = ap Some (h n n' e e')
  same_option k (Some n) e None e' h = absurd (let t = also_at counts others k n as_many e in let wrong : Some t.0 ≡ None = sym t.1 ∙ e' in cc)
  same_option k None e (Some n') e' h = absurd (let t = also_at others counts k n' (sym as_many) e' in let wrong : Some t.0 ≡ None = sym t.1 ∙ e in cc)

  -- of each method that stands before a place
  same_before : (place p k : ℕ) → p < place → slice_get order p ≡ Some k → slice_get counts k ≡ slice_get others k
  same_before zero p k below at = absurd (omega (arith, below))
  same_before (suc place) p k below at =
      same_option k (slice_get counts k) refl (slice_get others k) refl
      (same_here k (λ j m is calls. let q = ordered.before p k j m at is calls in same_before place q.0 j (omega (arith, below, q.1)) q.2))

  same_counts : counts ≡ others
  same_counts = list_same counts others as_many (λ k n n' is is'. by k n n' is is')
    where
      by : (k n n' : ℕ) → slice_get counts k ≡ Some n → slice_get others k ≡ Some n' → n ≡ n'
      by k n n' is is' =
          let t = also_at counts methods k n are.each is in
          let p = ordered.each k (slice_get_within methods k t.0 t.1) in
          let same = same_before (suc p.0) p.0 k (omega arith) p.1 in
          let one : Some n ≡ Some n' = sym is ∙ (same ∙ is') in
          cc

pub one_count : OneCount
one_count methods order cert counts others ordered are also = same_counts methods order cert counts others ordered are also
