-- What bounds ask of the methods that are kept: each has a weight within the limit, and those with parameters are called.
use Rattle.std.proofs.Common.{◌≡◌, ◌∙◌, ap, ℕ, suc, zero, ◌<◌, ◌≤◌, ◌+◌, inl, inr, List, [], ◌∷◌, length, map, sum_by, refl, sym, subst, arith}
use Rattle.std.specs.Prelude.{Some, None, slice_get}
use Rattle.std.specs.Option.{option_map}
use Rattle.std.proofs.lemmas.List.{length-map}
use Rattle.std.proofs.lemmas.List.Sums.{sum_by-cons}
use Rattle.std.proofs.lemmas.Option.{slice_get_within, slice_get-map}
use Rattle.sem_expr.specs.declared.expr.Expr.{Expr}
use Rattle.sem_profile.specs.declared.profile.Encoding.{Encoding}
use Rattle.sem_profile.specs.declared.profile.Encoding.TheVariants as encoding
use Rattle.sem_profile.specs.declared.profile.Field.{Field}
use Rattle.sem_profile.specs.declared.profile.Format.{Format}
use Rattle.sem_profile.specs.declared.profile.Method.{Method}
use Rattle.sem_graph.specs.Calls.{Reaches, by_call, further}
use Rattle.sem_graph.specs.Measures.{number_at, field_weight, format_weight, greatest_by, AreWeights}
use Rattle.sem_graph.specs.Order.{IsOrder}
use Rattle.sem_graph.proofs.OrderPushing.{some_is}
use Rattle.sem_bounds.specs.Callers.{IsCalled, AreCalled}
use Rattle.sem_bounds.specs.Weights as bounds
use Rattle.sem_bounds.specs.Weights.{AreLight}
use Rattle.sem_profile.specs.Limits.{weight_limit, IsLight}
use Rattle.sem_profile.specs.Rooted.{IsPlain}
use Rattle.sem_profile.specs.Uses.{Uses, callee_of, format_uses, method_uses, uses_of, IsReached, AreReached}
use Rattle.sem_profile.specs.WellFormed.{AreWellFormed}
use Rattle.text_resolve.proofs.ProfileLimitsKept.{have_weights}
use Rattle.text_resolve.proofs.WellFormedSoundKept.{Surely, surely_from, surely_less, surely_same, with_format}
use Rattle.text_resolve.proofs.CallsUsing.{element_at, row_made, order_of_fields}

-- ---- one format

abbrev weighed : List ℕ → List Field → ℕ
weighed ws fields = bounds.fields_weight (number_at ws) fields

same_field : (ws : List ℕ) (e : Encoding) → field_weight ws (callee_of e) ≡ bounds.field_weight (number_at ws) e
same_field ws encoding.Bare = refl
same_field ws (encoding.Library l) = refl
same_field ws (encoding.Call k arguments) = refl

same_fields : (ws : List ℕ) (fields : List Field) → sum_by (field_weight ws) (map (λ d. callee_of d.encoding) fields) ≡ weighed ws fields
same_fields ws [] = refl
same_fields ws (d ∷ ds) =
    let here = same_field ws d.encoding in
    let rest = same_fields ws ds in
    sum_by-cons (field_weight ws) (callee_of d.encoding) (map (λ e. callee_of e.encoding) ds) ∙ (λ i. here i + rest i)

greatest_at : {X : Type 0} (f : X → ℕ) (xs : List X) (n : ℕ) (x : X) → slice_get xs n ≡ Some x → f x ≤ greatest_by f xs
greatest_at f [] n x at = let wrong : None ≡ Some x = at in absurd cc
greatest_at f (y ∷ ys) zero x at = let same : f y ≡ f x = ap f (some_is at) in omega (arith, same)
greatest_at f (y ∷ ys) (suc n) x at = omega (arith, greatest_at f ys n x at)

-- where a method's weight is within the limit, that of each of its formats isn't above it
format_lighter : (methods : List Method) (ws : List ℕ) (i n : ℕ) (m : Method) (f : Format) → AreWeights (uses_of methods) ws → slice_get methods i ≡ Some m → slice_get m.formats n ≡ Some f
    → number_at ws i ≤ weight_limit → weighed ws f.fields ≤ number_at ws i
format_lighter methods ws i n m f are at here light =
    let within : i < length (uses_of methods) = omega (arith, slice_get_within methods i m at, length-map methods method_uses) in
    let weight = are.rule i within ∙ ap (greatest_by (format_weight ws)) (row_made method_uses methods i m at) in
    let row : slice_get (method_uses m) n ≡ Some (format_uses f) = slice_get-map format_uses m.formats n ∙ ap (option_map format_uses) here in
    omega (arith, light, weight, greatest_at (format_weight ws) (method_uses m) n (format_uses f) row, same_fields ws f.fields)

field_lighter : (ws : List ℕ) (fields : List Field) (n k : ℕ) (d : Field) (es : List Expr) → slice_get fields n ≡ Some d → d.encoding ≡ encoding.Call k es → number_at ws k < weighed ws fields
field_lighter ws [] n k d es at is = let wrong : None ≡ Some d = at in absurd cc
field_lighter ws (e ∷ ds) zero k d es at is =
    let same : bounds.field_weight (number_at ws) e.encoding ≡ number_at ws k + 1 = ap (λ (x : Field). bounds.field_weight (number_at ws) x.encoding) (some_is at) ∙ ap (bounds.field_weight (number_at ws)) is in
    omega (arith, same)
field_lighter ws (e ∷ ds) (suc n) k d es at is = omega (arith, field_lighter ws ds n k d es at is)

callee_lighter : (methods : List Method) (ws : List ℕ) (i j : ℕ) → AreWeights (uses_of methods) ws → Uses methods i j → number_at ws i ≤ weight_limit → number_at ws j ≤ weight_limit
callee_lighter methods ws i j are uses light =
    let c = uses.calls in
    omega (arith, light, format_lighter methods ws i c.format_place uses.method c.format are uses.at c.format_at light, field_lighter ws c.format.fields c.field_place j c.field c.arguments c.field_at c.is_call)

-- ---- what the top reaches

reaches_light : (methods : List Method) (ws : List ℕ) (top k : ℕ) → AreWeights (uses_of methods) ws → number_at ws top ≤ weight_limit → Reaches (Uses methods) top k → number_at ws k ≤ weight_limit
reaches_light methods ws top k are light (by_call uses) = callee_lighter methods ws top k are uses light
reaches_light methods ws top k are light (further {j = j} way uses) = callee_lighter methods ws j k are uses (reaches_light methods ws top j are light way)

reached_light : (methods : List Method) (ws : List ℕ) (top k : ℕ) → AreWeights (uses_of methods) ws → number_at ws top ≤ weight_limit → IsReached methods top k → number_at ws k ≤ weight_limit
reached_light methods ws top k are light (inl same) = subst (λ n. number_at ws n ≤ weight_limit) (sym same) light
reached_light methods ws top k are light (inr way) = reaches_light methods ws top k are light way

surely_light : (weight : ℕ → ℕ) (most : ℕ) (f : Format) → Surely (bounds.IsLight weight most f) → bounds.IsLight weight most f
surely_light weight most f sure = record {
  fields = let less = surely_less (bounds.fields_weight weight f.fields) (suc most) (surely_from sure (λ s. omega (arith, s.fields))) in omega (arith, less);
  limit = let less = surely_less most 4097 (surely_from sure (λ s. omega (arith, s.limit))) in omega (arith, less);
  once = λ n m i at_n at_m. surely_same n m (surely_from sure (λ s. s.once n m i at_n at_m));
}

pub kept_are_light : (methods kept : List Method) (top : ℕ) (order : List ℕ) → IsOrder (Uses methods) (length methods) order → IsLight methods top → AreWellFormed methods → AreReached methods top kept
    → AreLight kept
kept_are_light methods kept top order ordered light formed are =
    let all = have_weights (uses_of methods) order (order_of_fields methods order ordered) in
    record {
      weight = number_at all.0;
      each = λ k n m f at here. surely_light (number_at all.0) (number_at all.0 k) f (surely_from (with_format methods kept top k n m f are at here) (λ there.
          let within = reached_light methods all.0 top k all.1 (light all.0 all.1) there.0 in
          record {
            fields = format_lighter methods all.0 k n m f all.1 there.1 here within;
            limit = within;
            once = (formed.formats k n m f there.1 here).once;
          }));
    }

-- ---- calls

-- the call by which the top reaches a method at last
last_call : (methods : List Method) (top k : ℕ) → Reaches (Uses methods) top k → (j : ℕ) × IsReached methods top j × Uses methods j k
last_call methods top k (by_call uses) = (top, inl refl, uses)
last_call methods top k (further {j = j} way uses) = (j, inr way, uses)

called_by : (methods kept : List Method) (top k : ℕ) (m : Method) → AreWellFormed methods → AreReached methods top kept → slice_get methods k ≡ Some m → Reaches (Uses methods) top k → IsCalled kept k m
called_by methods kept top k m formed are at way =
    let last = last_call methods top k way in
    let c = last.2.calls in
    let callee = (formed.formats last.0 c.format_place last.2.method c.format last.2.at c.format_at).calls c.field_place k c.field c.arguments c.field_at c.is_call in
    record {
      place = last.0;
      caller = last.2.method;
      caller_at = are.reached last.0 last.2.method last.2.at last.1;
      calls = c;
      as_many = callee.2 ∙ ap (λ (z : Method). length z.parameters) (some_is (sym callee.1 ∙ at));
    }

pub kept_are_called : (methods kept : List Method) (top : ℕ) → IsPlain methods top → AreWellFormed methods → AreReached methods top kept → AreCalled kept
kept_are_called methods kept top plain formed are = record {
  each = λ k m at some uncalled.
      let f = element_at m.formats 0 some in
      surely_same (length m.parameters) 0 (surely_from (with_format methods kept top k 0 m f.0 are at f.1) (λ there. by k m uncalled there.1 there.0));
}
  where
    by : (k : ℕ) (m : Method) → (IsCalled kept k m → ⊥) → slice_get methods k ≡ Some m → IsReached methods top k → length m.parameters ≡ 0
    by k m uncalled at (inl same) = ap length (plain m (subst (λ n. slice_get methods n ≡ Some m) same at))
    by k m uncalled at (inr way) = absurd (uncalled (called_by methods kept top k m formed are at way))
