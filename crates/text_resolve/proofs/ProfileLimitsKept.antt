-- The limits hold on when the methods that the top doesn't reach lose their formats.
use Rattle.std.proofs.Common.{◌≡◌, ◌∙◌, ap, ℕ, suc, zero, ◌<◌, ◌≤◌, ◌+◌, inl, List, length, refl, sym, subst, get_or, slice_set, replicate, arith}
use Rattle.std.specs.Prelude.{Option, Some, slice_get}
use Rattle.std.proofs.lemmas.List.{length-map, length-replicate}
use Rattle.std.proofs.lemmas.Option.{slice_get_within}
use Rattle.sem_profile.specs.declared.profile.Method.{Method}
use Rattle.sem_graph.specs.Measures.{number_at, format_weight, greatest_by, weight_by, FieldCalls, AreWeights}
use Rattle.sem_graph.specs.Order.{IsOrder}
use Rattle.sem_graph.proofs.MeasuresFilling.{Filled, filled_none, filled_more, filled_all}
use Rattle.sem_graph.proofs.Measuring.{weight_is_local, read_at}
use Rattle.sem_graph.proofs.OrderPushing.{some_is}
use Rattle.sem_profile.specs.Limits.{field_limit, AreShort, IsLight, IsWithinLimits}
use Rattle.sem_profile.specs.Limits.{IsShallow, Chain, at_top, called}
use Rattle.sem_profile.specs.Uses.{Uses, method_uses, uses_of, used_graph, IsReached, AreReached}
use Rattle.text_resolve.proofs.WellFormedSoundKept.{surely_from, surely_less, reached_on, with_format}
use Rattle.text_resolve.proofs.CallsUsing.{element_at, row_made, calls_are_uses, uses_are_calls, field_calls_are_uses, order_of_fields}

-- ---- chains of calls

-- what a kept method calls it called before, where the top reaches it
pub uses_before : (methods kept : List Method) (top i j : ℕ) → AreReached methods top kept → IsReached methods top i → Uses kept i j → Uses methods i j
uses_before methods kept top i j are way uses =
    let old = element_at methods i (omega (arith, slice_get_within kept i uses.method uses.at, are.each)) in
    let same : old.0 ≡ uses.method = some_is (sym (are.reached i old.0 old.1 way) ∙ uses.at) in
    record { method = uses.method; at = old.1 ∙ ap Some same; calls = uses.calls }

chain_before : (methods kept : List Method) (top n j : ℕ) → AreReached methods top kept → Chain (used_graph kept) top n j → Chain (used_graph methods) top n j × IsReached methods top j
chain_before methods kept top n j are at_top = (at_top, inl refl)
chain_before methods kept top n j are (called {n = m} {i = i} chain calls) =
    let before = chain_before methods kept top m i are chain in
    let uses = uses_before methods kept top i j are before.1 (calls_are_uses kept i j calls) in
    (called before.0 (uses_are_calls methods i j uses), reached_on methods top i j before.1 uses)

kept_shallow : (methods kept : List Method) (top : ℕ) → AreReached methods top kept → IsShallow (used_graph methods) top → IsShallow (used_graph kept) top
kept_shallow methods kept top are shallow = λ j n chain. shallow j n (chain_before methods kept top n j are chain).0

-- ---- formats

kept_short : (methods kept : List Method) (top : ℕ) → AreReached methods top kept → AreShort methods → AreShort kept
kept_short methods kept top are short = λ i k m f at here.
    let less = surely_less (length f.fields) (suc field_limit) (surely_from (with_format methods kept top i k m f are at here) (λ there. omega (arith, short i k m f there.1 here))) in
    omega (arith, less)

-- ---- weights

-- methods in an order have weights
weighed_to : (uses : List (List (List (Option ℕ)))) (order : List ℕ) → IsOrder (FieldCalls uses) (length uses) order → (k : ℕ) → k ≤ length order
    → (weights : List ℕ) × Filled (weight_by uses) (length uses) order k weights
weighed_to uses order ordered zero le =
    let zeros : List ℕ = replicate (length uses) 0 in
    (zeros, filled_none (weight_by uses) (length uses) order zeros (length-replicate (length uses) 0))
weighed_to uses order ordered (suc k) le =
    let before = weighed_to uses order ordered k (omega (arith, le)) in
    let place : ℕ = get_or order k 0 in
    let weight : ℕ = weight_by uses before.0 place in
    let next : k + 1 ≡ suc k = omega arith in (
      slice_set before.0 place weight,
      subst (λ n. Filled (weight_by uses) (length uses) order n (slice_set before.0 place weight)) next
          (filled_more (weight_by uses) (length uses) order k before.0 place weight ordered (weight_is_local uses) before.1 (read_at order k (omega (arith, le))) refl),
    )

pub have_weights : (uses : List (List (List (Option ℕ)))) (order : List ℕ) → IsOrder (FieldCalls uses) (length uses) order → (weights : List ℕ) × AreWeights uses weights
have_weights uses order ordered =
    let all = weighed_to uses order ordered (length order) (omega arith) in
    (all.0, record { each = all.1.each; rule = filled_all (weight_by uses) (length uses) order (length order) all.0 ordered (omega arith) all.1 })

-- a method that the top reaches weighs what it weighed before
same_weight : (methods kept : List Method) (top : ℕ) (order ws vs : List ℕ) → IsOrder (Uses methods) (length methods) order → AreReached methods top kept → AreWeights (uses_of kept) ws → AreWeights (uses_of methods) vs
    → (count p i : ℕ) → p < count → slice_get order p ≡ Some i → IsReached methods top i → number_at ws i ≡ number_at vs i
same_weight methods kept top order ws vs ordered are w v zero p i lt at way = absurd (omega arith)
same_weight methods kept top order ws vs ordered are w v (suc count) p i lt at way =
    let within : i < length methods = ordered.only p i at in
    let m = element_at methods i within in
    let row = row_made method_uses kept i m.0 (are.reached i m.0 m.1 way) ∙ sym (row_made method_uses methods i m.0 m.1) in
    w.rule i (omega (arith, within, are.each, length-map kept method_uses))
    ∙ (ap (greatest_by (format_weight ws)) row
    ∙ (weight_is_local (uses_of methods) ws vs i (λ j call.
    let uses = field_calls_are_uses methods i j call in
    let s = ordered.callees_first p i j at uses in
    same_weight methods kept top order ws vs ordered are w v count s.0 j (omega (arith, s.1, lt)) s.2 (reached_on methods top i j way uses))
    ∙ sym (v.rule i (omega (arith, within, length-map methods method_uses)))))

kept_light : (methods kept : List Method) (top : ℕ) (order : List ℕ) → IsOrder (Uses methods) (length methods) order → top < length methods → AreReached methods top kept → IsLight methods top → IsLight kept top
kept_light methods kept top order ordered within are light = λ ws w.
    let all = have_weights (uses_of methods) order (order_of_fields methods order ordered) in
    let s = ordered.each top within in
    let same : number_at ws top ≡ number_at all.0 top = same_weight methods kept top order ws all.0 ordered are w all.1 (length order) s.0 top s.1 s.2 (inl refl) in
    omega (arith, same, light all.0 all.1)

pub kept_within_limits : (methods kept : List Method) (top : ℕ) (order : List ℕ) → IsOrder (Uses methods) (length methods) order → top < length methods → AreReached methods top kept
    → IsWithinLimits methods top → IsWithinLimits kept top
kept_within_limits methods kept top order ordered within are limits = record {
  shallow = kept_shallow methods kept top are limits.shallow;
  short = kept_short methods kept top are limits.short;
  light = kept_light methods kept top order ordered within are limits.light;
}
