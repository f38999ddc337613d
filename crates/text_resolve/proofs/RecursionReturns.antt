-- What a search for a call that leads back tells.
use Rattle.std.proofs.Common.{rules, ◌≡◌, ◌∙◌, ap, ℕ, ◌<◌, ◌+◌, Bool, true, false, List, [], ◌∷◌, refl, sym, subst, inl, cond, map, suc, zero, length, arith, nat_eq, ◌↔◌, ◌||◌}
use Rattle.std.specs.Prelude.{slice_get, Some, None, Option}
use Rattle.std.specs.List.{list_any}
use Rattle.std.specs.Option.{option_map, option_or}
use Rattle.std.proofs.lemmas.Bool.{eqb-true}
use Rattle.text_tree.specs.declared.tree.Method.{Method}
use Rattle.text_tree.specs.declared.tree.Part.{Part}
use Rattle.sem_graph.specs.Calls.{Has}
use Rattle.sem_graph.specs.Order.{Table, LeadsBack, leads_back, is_marked, NoReturn}
use Rattle.sem_graph.proofs.OrderBackward.{by_marks, decide}
use Rattle.sem_profile.specs.declared.fault.ProfileFault.{ProfileFault}
use Rattle.text_resolve.specs.declared.calls.CallSite.{CallSite}
use Rattle.text_resolve.specs.Parts.{methods_of, method_names}
use Rattle.text_resolve.specs.Calls.{calls_from, callees_of, graph_of}
use Rattle.text_resolve.specs.Recursion.{recursive, back_in, first_back, is_any_back, IsRecursive, calls_back}
use Rattle.text_resolve.proofs.CallsSites.{row_at, site_at, site_inside}

-- what the test says
test_means : (graph : List (List ℕ)) (table : List (List Bool)) (i j : ℕ) → Table graph table → j < length graph → (leads_back table i j ≡ true) ↔ LeadsBack graph i j
test_means graph table i j each lt = by (nat_eq j i) refl
  where
    by : (b : Bool) → nat_eq j i ≡ b → ((b || is_marked table j i) ≡ true) ↔ LeadsBack graph i j
    by true e = (λ t. inl (eqb-true j i e), λ t. refl)
    by false e = by_marks graph table i j (is_marked table j i) (λ same. absurd (search (rules, e, same))) refl each lt

-- a call that was found
record Found (table : List (List Bool)) (text : List ℕ) (names : List (List ℕ)) (k : ℕ) (ms : List Method) (f : ProfileFault) : Type 0 where
  at : ℕ
  method : Method
  place : ℕ
  call : CallSite
  method_at : slice_get ms at ≡ Some method
  call_at : slice_get (calls_from text names method) place ≡ Some call
  back : leads_back table (at + k) call.method ≡ true
  is : recursive method.name call ≡ f

found_in : (table : List (List Bool)) (k : ℕ) (cs : List CallSite) (c : CallSite) → back_in table k cs ≡ Some c → (n : ℕ) × (slice_get cs n ≡ Some c) × (leads_back table k c.method ≡ true)
found_in table k [] c h = let wrong : None ≡ Some c = h in absurd cc
found_in table k (x ∷ cs) c h = by (leads_back table k x.method) refl h (λ g. found_in table k cs c g)
  where
    by : (b : Bool) → leads_back table k x.method ≡ b → cond b (Some x) (back_in table k cs) ≡ Some c
        → (back_in table k cs ≡ Some c → (n : ℕ) × (slice_get cs n ≡ Some c) × (leads_back table k c.method ≡ true))
        → (n : ℕ) × (slice_get (x ∷ cs) n ≡ Some c) × (leads_back table k c.method ≡ true)
    by true e h more = let same : x ≡ c = cc in (0, ap Some same, subst (λ d. leads_back table k d.method ≡ true) same e)
    by false e h more = let r = more h in (suc r.0, r.1, r.2)

none_in : (table : List (List Bool)) (k : ℕ) (cs : List CallSite) → back_in table k cs ≡ None → (n : ℕ) (c : CallSite) → slice_get cs n ≡ Some c → leads_back table k c.method ≡ false
none_in table k [] h n c at = let wrong : None ≡ Some c = at in absurd cc
none_in table k (x ∷ cs) h n c at = by (leads_back table k x.method) refl h n at (λ g i. none_in table k cs g i c)
  where
    by : (b : Bool) → leads_back table k x.method ≡ b → cond b (Some x) (back_in table k cs) ≡ None → (n : ℕ) → slice_get (x ∷ cs) n ≡ Some c
        → (back_in table k cs ≡ None → (i : ℕ) → slice_get cs i ≡ Some c → leads_back table k c.method ≡ false) → leads_back table k c.method ≡ false
    by true e h n at more = let wrong : Some x ≡ None = h in absurd cc
    by false e h zero at more = let same : x ≡ c = cc in subst (λ d. leads_back table k d.method ≡ false) same e
    by false e h (suc n) at more = more h n at

found : (table : List (List Bool)) (text : List ℕ) (names : List (List ℕ)) (k : ℕ) (ms : List Method) (f : ProfileFault) → first_back table text names k ms ≡ Some f → Found table text names k ms f
found table text names k [] f h = let wrong : None ≡ Some f = h in absurd cc
found table text names k (m ∷ ms) f h = by (back_in table k (calls_from text names m)) refl h (λ g. found table text names (suc k) ms f g)
  where
    by : (o : Option CallSite) → back_in table k (calls_from text names m) ≡ o → option_or (option_map (recursive m.name) o) (first_back table text names (suc k) ms) ≡ Some f
        → (first_back table text names (suc k) ms ≡ Some f → Found table text names (suc k) ms f) → Found table text names k (m ∷ ms) f
    by (Some c) e h more =
        let r = found_in table k (calls_from text names m) c e in
        let same : recursive m.name c ≡ f = cc in
        record { at = 0; method = m; place = r.0; call = c; method_at = refl; call_at = r.1; back = subst (λ i. leads_back table i c.method ≡ true) (let z : k ≡ 0 + k = omega arith in z) r.2; is = same }
    by None e h more =
        let r = more h in
        let n : r.at + suc k ≡ suc r.at + k = omega arith in
        record { at = suc r.at; method = r.method; place = r.place; call = r.call; method_at = r.method_at; call_at = r.call_at; back = subst (λ i. leads_back table i r.call.method ≡ true) n r.back; is = r.is }

none : (table : List (List Bool)) (text : List ℕ) (names : List (List ℕ)) (k : ℕ) (ms : List Method) → first_back table text names k ms ≡ None
    → (n : ℕ) (m : Method) (p : ℕ) (c : CallSite) → slice_get ms n ≡ Some m → slice_get (calls_from text names m) p ≡ Some c → leads_back table (n + k) c.method ≡ false
none table text names k [] h n m p c at call = let wrong : None ≡ Some m = at in absurd cc
none table text names k (x ∷ ms) h n m p c at call = by (back_in table k (calls_from text names x)) refl h n at (λ g i at_i. none table text names (suc k) ms g i m p c at_i call)
  where
    by : (o : Option CallSite) → back_in table k (calls_from text names x) ≡ o → option_or (option_map (recursive x.name) o) (first_back table text names (suc k) ms) ≡ None
        → (n : ℕ) → slice_get (x ∷ ms) n ≡ Some m
        → (first_back table text names (suc k) ms ≡ None → (i : ℕ) → slice_get ms i ≡ Some m → leads_back table (i + suc k) c.method ≡ false) → leads_back table (n + k) c.method ≡ false
    by (Some d) e h n at more = let wrong : Some (recursive x.name d) ≡ None = h in absurd cc
    by None e h zero at more =
        let same : x ≡ m = cc in
        subst (λ i. leads_back table i c.method ≡ false) (let z : k ≡ 0 + k = omega arith in z)
        (none_in table k (calls_from text names x) e p c (subst (λ y. slice_get (calls_from text names y) p ≡ Some c) (sym same) call))
    by None e h (suc n) at more =
        let i : n + suc k ≡ suc n + k = omega arith in
        subst (λ i. leads_back table i c.method ≡ false) i (more h n at)

pub is_recursive : (table : List (List Bool)) (text : List ℕ) (names : List (List ℕ)) (parts : List Part) (f : ProfileFault) → names ≡ method_names text parts
    → Table (graph_of text names parts) table → first_back table text names 0 (methods_of parts) ≡ Some f → IsRecursive text parts f
is_recursive table text names parts f are each h =
    let r = found table text names 0 (methods_of parts) f h in
    let n : r.at + 0 ≡ r.at = omega arith in
    let back : LeadsBack (graph_of text names parts) r.at r.call.method =
    (test_means (graph_of text names parts) table r.at r.call.method each (site_inside text names parts are r.method r.place r.call r.call_at)).0
    (subst (λ i. leads_back table i r.call.method ≡ true) n r.back) in
    subst (IsRecursive text parts) r.is
    (calls_back r.at r.place r.method r.call r.method_at
    (subst (λ ns. slice_get (calls_from text ns r.method) r.place ≡ Some r.call) are r.call_at)
    (subst (λ ns. LeadsBack (graph_of text ns parts) r.at r.call.method) are back))

pub none_returns : (table : List (List Bool)) (text : List ℕ) (names : List (List ℕ)) (parts : List Part) → names ≡ method_names text parts
    → Table (graph_of text names parts) table → first_back table text names 0 (methods_of parts) ≡ None → NoReturn (graph_of text names parts)
none_returns table text names parts are each h = decide (graph_of text names parts) (λ i j calls back.
    let r = row_at text names parts i calls.0 in
    let s = site_at text names r.method j (subst (λ row. Has row j) r.row calls.1) in
    let n : i + 0 ≡ i = omega arith in
    let no_back : leads_back table i s.1.method ≡ false =
    subst (λ k. leads_back table k s.1.method ≡ false) n (none table text names 0 (methods_of parts) h i r.method s.0 s.1 r.at s.2) in
    let is_back : leads_back table i s.1.method ≡ true =
    (test_means (graph_of text names parts) table i s.1.method each (site_inside text names parts are r.method s.0 s.1 s.2)).1
    (subst (λ k. LeadsBack (graph_of text names parts) i k) (sym s.3) back) in
    let wrong : false ≡ true = sym no_back ∙ is_back in absurd cc)

-- where no method calls one that leads back, there is no such call
none_among : (table : List (List Bool)) (k : ℕ) (cs : List CallSite) → list_any (leads_back table k) (map (λ c. c.method) cs) ≡ false → back_in table k cs ≡ None
none_among table k [] h = refl
none_among table k (c ∷ cs) h = by (leads_back table k c.method) h (λ so. none_among table k cs so)
  where
    by : (b : Bool) → b || list_any (leads_back table k) (map (λ c. c.method) cs) ≡ false → (list_any (leads_back table k) (map (λ c. c.method) cs) ≡ false → back_in table k cs ≡ None) → cond b (Some c) (back_in table k cs) ≡ None
    by true h more = let wrong : true ≡ false = h in absurd cc
    by false h more = more h

none_called : (table : List (List Bool)) (text : List ℕ) (names : List (List ℕ)) (k : ℕ) (ms : List Method) → is_any_back table k (map (callees_of text names) ms) ≡ false → None ≡ first_back table text names k ms
none_called table text names k [] h = refl
none_called table text names k (m ∷ ms) h = by (list_any (leads_back table k) (callees_of text names m)) refl h (λ so. none_called table text names (suc k) ms so)
  where
    by : (b : Bool) → list_any (leads_back table k) (callees_of text names m) ≡ b → b || is_any_back table (suc k) (map (callees_of text names) ms) ≡ false
        → (is_any_back table (suc k) (map (callees_of text names) ms) ≡ false → None ≡ first_back table text names (suc k) ms)
        → None ≡ option_or (option_map (recursive m.name) (back_in table k (calls_from text names m))) (first_back table text names (suc k) ms)
    by true e h more = let wrong : true ≡ false = h in absurd cc
    by false e h more = more h ∙ sym (ap (λ o. option_or (option_map (recursive m.name) o) (first_back table text names (suc k) ms)) (none_among table k (calls_from text names m) e))

pub none_back : (table : List (List Bool)) (text : List ℕ) (names : List (List ℕ)) (parts : List Part) (graph : List (List ℕ)) → graph ≡ graph_of text names parts → is_any_back table 0 graph ≡ false
    → None ≡ first_back table text names 0 (methods_of parts)
none_back table text names parts graph is h = none_called table text names 0 (methods_of parts) (ap (is_any_back table 0) (sym is) ∙ h)
