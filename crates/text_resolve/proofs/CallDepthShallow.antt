-- Which method is too deep, by the ends of chains.
use Rattle.std.proofs.Common.{◌≡◌, ◌∙◌, refl, ap, sym, subst, drop, ℕ, zero, suc, ◌<◌, ◌≤◌, ◌+◌, inl, inr, List, [], ◌∷◌, length, Some, None, arith, Bool, true, false, cond}
use Rattle.std.specs.Prelude.{Option, slice_get}
use Rattle.std.proofs.lemmas.Bool.{cases_order, false≢true}
use Rattle.text_source.specs.declared.span.Span.{Span}
use Rattle.sem_graph.specs.Calls.{Calls, Marked, Within}
use Rattle.sem_graph.specs.Order.{IsOrder}
use Rattle.sem_profile.specs.Precedence.{Judged}
use Rattle.sem_profile.specs.declared.fault.ProfileFault.{ProfileFault}
use Rattle.text_resolve.specs.Reached.{is_marked_at}
use Rattle.sem_profile.specs.Limits.{Chain, at_top, called, IsShallow}
use Rattle.text_resolve.specs.CallDepth.{AreEnds, too_deep, first_deep, IsTooDeep, stands_deep}
use Rattle.text_resolve.proofs.CallDepthEnds.{marked_inside}

record DeepAt (marks : List Bool) (k : ℕ) (ms : List Span) (f : ProfileFault) : Type 0 where
  place : ℕ
  name : Span
  at : slice_get ms place ≡ Some name
  deep : Marked marks (place + k)
  before : (i : ℕ) → i < place → Marked marks (i + k) → ⊥
  is : too_deep name ≡ f

deep_found : (marks : List Bool) (k : ℕ) (ms : List Span) (f : ProfileFault) → first_deep marks k ms ≡ Some f → DeepAt marks k ms f
deep_found marks k [] f h = let wrong : None ≡ Some f = h in absurd cc
deep_found marks k (m ∷ ms) f h = by (is_marked_at marks k) refl h (λ g. deep_found marks (suc k) ms f g)
  where
    by : (b : Bool) → is_marked_at marks k ≡ b → cond b (Some (too_deep m)) (first_deep marks (suc k) ms) ≡ Some f
        → (first_deep marks (suc k) ms ≡ Some f → DeepAt marks (suc k) ms f) → DeepAt marks k (m ∷ ms) f
    by true e h more =
        let same : too_deep m ≡ f = cc in
        record { place = 0; name = m; at = refl; deep = subst (Marked marks) (let z : k ≡ 0 + k = omega arith in z) e; before = λ i lt d. absurd (omega (arith, lt)); is = same }
    by false e h more =
        let r = more h in
        let n : r.place + suc k ≡ suc r.place + k = omega arith in
        record { place = suc r.place; name = r.name; at = r.at; deep = subst (Marked marks) n r.deep; before = earlier r; is = r.is }
      where
        earlier : (r : DeepAt marks (suc k) ms f) (i : ℕ) → i < suc r.place → Marked marks (i + k) → ⊥
        earlier r zero lt d = absurd (false≢true (sym e ∙ subst (Marked marks) (let z : 0 + k ≡ k = omega arith in z) d))
        earlier r (suc i) lt d = r.before i (omega (arith, lt)) (subst (Marked marks) (let n : suc i + k ≡ i + suc k = omega arith in n) d)

deep_none : (marks : List Bool) (k : ℕ) (ms : List Span) → first_deep marks k ms ≡ None → (i : ℕ) → i < length ms → Marked marks (i + k) → ⊥
deep_none marks k [] h i lt d = absurd (omega (arith, lt))
deep_none marks k (m ∷ ms) h i lt d = by (is_marked_at marks k) refl h i lt d (λ g j. deep_none marks (suc k) ms g j)
  where
    by : (b : Bool) → is_marked_at marks k ≡ b → cond b (Some (too_deep m)) (first_deep marks (suc k) ms) ≡ None → (i : ℕ) → i < suc (length ms) → Marked marks (i + k)
        → (first_deep marks (suc k) ms ≡ None → (j : ℕ) → j < length ms → Marked marks (j + suc k) → ⊥) → ⊥
    by true e h i lt d more = let wrong : Some (too_deep m) ≡ None = h in absurd cc
    by false e h zero lt d more = absurd (false≢true (sym e ∙ subst (Marked marks) (let z : 0 + k ≡ k = omega arith in z) d))
    by false e h (suc i) lt d more = more h i (omega (arith, lt)) (subst (Marked marks) (let n : suc i + k ≡ i + suc k = omega arith in n) d)

pub callees_within : (graph : List (List ℕ)) (order : List ℕ) → IsOrder (Calls graph) (length graph) order → Within graph
callees_within graph order ordered i j calls =
    let stands = ordered.each i calls.0 in
    let before = ordered.callees_first stands.0 i j stands.2 calls in
    ordered.only before.0 j before.2

-- a longer chain begins with one of 17 methods
begins : (graph : List (List ℕ)) (top n j : ℕ) → Chain graph top n j → 17 ≤ n → (i : ℕ) × Chain graph top 17 i
begins graph top n j at_top le = absurd (omega (arith, le))
begins graph top n j (called {n = m} {i = i} chain calls) le =
    elim (cases_order m 16) as (λ _. (k : ℕ) × Chain graph top 17 k) [
      | inl same ↦ (j, subst (λ l. Chain graph top l j) (let z : suc m ≡ 17 = omega (arith, same) in z) (called chain calls))
      | inr o ↦ elim o as (λ _. (k : ℕ) × Chain graph top 17 k) [
        | inl less ↦ absurd (omega (arith, less, le))
        | inr more ↦ begins graph top m i chain (omega (arith, more))
      ]
    ]

pub judged_ends : (graph : List (List ℕ)) (top : ℕ) (marks : List Bool) (names : List Span) (found : Option ProfileFault) → AreEnds graph top 17 marks
    → length graph ≡ length names → found ≡ first_deep marks 0 names → Judged (IsShallow graph top) (IsTooDeep graph top names) found
judged_ends graph top marks names found ends count is = record {
  fine = λ e j n chain. shallow (sym is ∙ e) j n chain;
  cause = λ f e.
      let r = deep_found marks 0 names f (sym is ∙ e) in
      let deep : Marked marks r.place = subst (Marked marks) (let z : r.place + 0 ≡ r.place = omega arith in z) r.deep in
      subst (IsTooDeep graph top names) r.is
      (stands_deep r.place r.name r.at (ends.only r.place deep)
      (λ i lt chain. r.before i lt (subst (Marked marks) (let z : i ≡ i + 0 = omega arith in z) (ends.all i chain))));
}
  where
    shallow : first_deep marks 0 names ≡ None → (j n : ℕ) → Chain graph top n j → n ≤ 16
    shallow e j n chain =
        elim (cases_order n 16) as (λ _. n ≤ 16) [
          | inl same ↦ omega (arith, same)
          | inr o ↦ elim o as (λ _. n ≤ 16) [
            | inl less ↦ omega (arith, less)
            | inr more ↦
                let there = begins graph top n j chain (omega (arith, more)) in
                let here = ends.all there.0 there.1 in
                absurd (deep_none marks 0 names e there.0 (omega (arith, marked_inside marks there.0 here, ends.each, count)) (subst (Marked marks) (let z : there.0 ≡ there.0 + 0 = omega arith in z) here))
          ]
        ]

-- a method that isn't marked is passed
pub passed : (marks : List Bool) (j : ℕ) (names : List Span) (k : ℕ) → k < length names → is_marked_at marks j ≡ false → first_deep marks j (drop k names) ≡ first_deep marks (suc j) (drop (suc k) names)
passed marks j [] k h e = absurd (omega (arith, h))
passed marks j (n ∷ ns) zero h e = ap (λ b. cond b (Some (too_deep n)) (first_deep marks (suc j) ns)) e
passed marks j (n ∷ ns) (suc k) h e = passed marks j ns k (omega (arith, h)) e
