-- Which limits are passed.
use Rattle.std.proofs.Common.{rules, ◌≡◌, ◌∙◌, ap, ℕ, suc, zero, ◌<◌, ◌≤◌, inl, inr, Bool, true, false, cond, ◌||◌, List, [], ◌∷◌, refl, sym, subst, length, arith}
use Rattle.std.specs.Prelude.{slice_get, Option, Some, None}
use Rattle.std.specs.List.{list_any}
use Rattle.std.proofs.lemmas.List.{length-map}
use Rattle.text_source.specs.declared.span.Span.{Span}
use Rattle.sem_graph.specs.Measures.{number_at, FieldCalls, AreWeights}
use Rattle.sem_graph.specs.Order.{IsOrder}
use Rattle.sem_graph.proofs.Measuring.{weight_is_local}
use Rattle.sem_profile.specs.declared.profile.Format.{Format}
use Rattle.sem_profile.specs.declared.profile.Method.{Method}
use Rattle.sem_profile.specs.declared.fault.ProfileFault.{ProfileFault}
use Rattle.sem_profile.specs.Precedence.{Judged, earlier, earliest}
use Rattle.sem_profile.proofs.PrecedenceLemmas.{which, neither}
use Rattle.text_sections.specs.Causes.{IsOneOf, is_one_of}
use Rattle.text_sections.proofs.CausesFolding.{earliest_answers}
use Rattle.sem_profile.specs.Limits.{field_limit, weight_limit, AreShort, IsLight, IsWithinLimits}
use Rattle.text_resolve.specs.ProfileLimits.{too_large_at, is_long, long_format, IsLong, stands_long, IsHeavy, weighs_more, IsTooLarge, calls_too_deep, format_too_long, fields_too_many}
use Rattle.sem_profile.specs.Limits.{IsShallow}
use Rattle.text_resolve.specs.CallDepth.{IsTooDeep}
use Rattle.sem_profile.specs.Uses.{Uses, method_uses, uses_of, used_graph}
use Rattle.text_resolve.proofs.CallsUsing.{order_of_fields}

-- the weights of methods in an order are determined
same_before : (uses : List (List (List (Option ℕ)))) (order ws vs : List ℕ) → IsOrder (FieldCalls uses) (length uses) order → AreWeights uses ws → AreWeights uses vs
    → (count p i : ℕ) → p < count → slice_get order p ≡ Some i → number_at ws i ≡ number_at vs i
same_before uses order ws vs ordered w v zero p i lt at = absurd (omega arith)
same_before uses order ws vs ordered w v (suc count) p i lt at =
    let within = ordered.only p i at in
    w.rule i within
    ∙ (weight_is_local uses ws vs i (λ j call.
    let s = ordered.callees_first p i j at call in
    same_before uses order ws vs ordered w v count s.0 j (omega (arith, s.1, lt)) s.2)
    ∙ sym (v.rule i within))

one_weight : (uses : List (List (List (Option ℕ)))) (order ws vs : List ℕ) (i : ℕ) → IsOrder (FieldCalls uses) (length uses) order → AreWeights uses ws → AreWeights uses vs → i < length uses
    → number_at ws i ≡ number_at vs i
one_weight uses order ws vs i ordered w v lt = let s = ordered.each i lt in same_before uses order ws vs ordered w v (length order) s.0 i s.1 s.2

pub judged_light : (methods : List Method) (order : List ℕ) (top : ℕ) (ws : List ℕ) → IsOrder (Uses methods) (length methods) order → top < length methods → AreWeights (uses_of methods) ws
    → number_at ws top ≤ weight_limit → Judged (IsLight methods top) (IsHeavy methods top) None
judged_light methods order top ws ordered within are le = record {
  fine = λ e vs others.
      let same : number_at vs top ≡ number_at ws top = one_weight (uses_of methods) order vs ws top (order_of_fields methods order ordered) others are (subst (λ n. top < n) (sym (length-map methods method_uses)) within) in
      omega (arith, same, le);
  cause = λ f e. let wrong : None ≡ Some f = e in absurd cc;
}

pub judged_heavy : (methods : List Method) (top : ℕ) (ws : List ℕ) (m : Method) (f : ProfileFault) → slice_get methods top ≡ Some m → AreWeights (uses_of methods) ws
    → weight_limit < number_at ws top → f ≡ too_large_at m → Judged (IsLight methods top) (IsHeavy methods top) (Some f)
judged_heavy methods top ws m f at are lt is = record {
  fine = λ e. let wrong : Some f ≡ None = e in absurd cc;
  cause = λ g e. let same : f ≡ g = cc in subst (IsHeavy methods top) (sym is ∙ same) (weighs_more m ws at are lt);
}

-- formats that are too long
record LongAt (formats : List Format) : Type 0 where
  place : ℕ
  format : Format
  at : slice_get formats place ≡ Some format
  long : is_long format ≡ true

long_among : (formats : List Format) → list_any is_long formats ≡ true → LongAt formats
long_among [] h = absurd cc
long_among (f ∷ fs) h = by (is_long f) refl h (λ rest. long_among fs rest)
  where
    by : (b : Bool) → is_long f ≡ b → (b || list_any is_long fs) ≡ true → (list_any is_long fs ≡ true → LongAt fs) → LongAt (f ∷ fs)
    by true e h more = record { place = 0; format = f; at = refl; long = e }
    by false e h more = let l = more h in record { place = suc l.place; format = l.format; at = l.at; long = l.long }

none_long : (formats : List Format) (k : ℕ) (f : Format) → list_any is_long formats ≡ false → slice_get formats k ≡ Some f → is_long f ≡ false
none_long [] k f h at = let wrong : None ≡ Some f = at in absurd cc
none_long (x ∷ fs) k f h at = by (is_long x) refl h k at (λ rest j here. none_long fs j f rest here)
  where
    by : (b : Bool) → is_long x ≡ b → (b || list_any is_long fs) ≡ false → (k : ℕ) → slice_get (x ∷ fs) k ≡ Some f → (list_any is_long fs ≡ false → (j : ℕ) → slice_get fs j ≡ Some f → is_long f ≡ false) → is_long f ≡ false
    by true e h k at more = absurd cc
    by false e h zero at more = let same : x ≡ f = cc in subst (λ y. is_long y ≡ false) same e
    by false e h (suc k) at more = more h k at

long_means : (f : Format) → is_long f ≡ true → field_limit < length f.fields
long_means f h = search (rules, h)

short_means : (f : Format) → is_long f ≡ false → length f.fields ≤ field_limit
short_means f h = search (rules, h)

-- the fault of a method, by its test
fault_by : (m : Method) (f : ProfileFault) (b : Bool) → list_any is_long m.formats ≡ b → cond b (Some (too_large_at m)) None ≡ Some f → (list_any is_long m.formats ≡ true) × (too_large_at m ≡ f)
fault_by m f true e h = let same : too_large_at m ≡ f = cc in (e, same)
fault_by m f false e h = let wrong : None ≡ Some f = h in absurd cc

method_short : (methods : List Method) (i : ℕ) (m : Method) → (IsOneOf long_format methods (too_large_at m) → ⊥) → slice_get methods i ≡ Some m → (b : Bool) → list_any is_long m.formats ≡ b → list_any is_long m.formats ≡ false
method_short methods i m none at true e = absurd (none (is_one_of i at (ap (λ t. cond t (Some (too_large_at m)) None) e)))
method_short methods i m none at false e = e

long_cause : (methods : List Method) (f : ProfileFault) → IsOneOf long_format methods f → IsLong methods f
long_cause methods f (is_one_of i {x = m} at is) =
    let t = fault_by m f (list_any is_long m.formats) refl is in
    let l = long_among m.formats t.0 in
    subst (IsLong methods) t.1 (stands_long i l.place m l.format at l.at (long_means l.format l.long))

judged_long : (methods : List Method) → Judged (AreShort methods) (IsLong methods) (earliest long_format methods)
judged_long methods =
    let answers = earliest_answers long_format methods in
    record {
      fine = λ e i k m f at there. short_means f (none_long m.formats k f (method_short methods i m (answers.fine e (too_large_at m)) at (list_any is_long m.formats) refl) there);
      cause = λ f e. long_cause methods f (answers.cause f e);
    }

-- the three limits at once
pub judged_limits : (names : List Span) (methods : List Method) (top : ℕ) (deep long heavy : Option ProfileFault) → Judged (IsShallow (used_graph methods) top) (IsTooDeep (used_graph methods) top names) deep
    → long ≡ earliest long_format methods → Judged (IsLight methods top) (IsHeavy methods top) heavy → Judged (IsWithinLimits methods top) (IsTooLarge names methods top) (earlier (earlier deep long) heavy)
judged_limits names methods top deep long heavy d is h =
    let l = subst (Judged (AreShort methods) (IsLong methods)) (sym is) (judged_long methods) in
    record {
      fine = λ e.
          let last = neither (earlier deep long) heavy e in
          let first = neither deep long last.0 in
          record { shallow = d.fine first.0; short = l.fine first.1; light = h.fine last.1 };
      cause = λ f e. elim (which (earlier deep long) heavy f e) as (λ _. IsTooLarge names methods top f) [
        | inl one_of ↦ elim (which deep long f one_of) as (λ _. IsTooLarge names methods top f) [
          | inl x ↦ calls_too_deep (d.cause f x)
          | inr y ↦ format_too_long (l.cause f y)
        ]
        | inr z ↦ fields_too_many (h.cause f z)
      ];
    }
