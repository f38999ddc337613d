-- A file with a normal form has a top, and no call in it leads back.
use Rattle.std.proofs.Common.{◌≡◌, ◌∙◌, ap, ℕ, ◌<◌, inl, inr, List, Some, None, length, map, sym, subst, arith}
use Rattle.std.specs.Prelude.{slice_get}
use Rattle.std.proofs.lemmas.Option.{slice_get_within, slice_get-map, get_or_from_slice_get}
use Rattle.std.specs.Option.{option_map}
use Rattle.text_tree.specs.declared.tree.Method.{Method}
use Rattle.sem_graph.specs.Calls.{Calls, Has, Reaches, by_call, further}
use Rattle.sem_graph.specs.Order.{IsOrder, Stands, LeadsBack}
use Rattle.text_resolve.specs.declared.calls.CallSite.{CallSite}
use Rattle.text_resolve.specs.Calls.{calls_from, callees_of, graph_of}
use Rattle.text_resolve.specs.Excluded.{NoCauseOfTop, NoCauseOfCalls}
use Rattle.text_resolve.specs.Parts.{methods_of, method_names}
use Rattle.text_resolve.specs.Recursion.{calls_back}
use Rattle.text_resolve.proofs.CallsUsing.{calls_of_method}

pub no_cause_of_top : NoCauseOfTop
no_cause_of_top text parts name p form missing = let wrong : None ≡ Some p.top = sym missing ∙ form.top_is in absurd cc

-- what is reached from a place in an order stands before it
reached_before : (To : ℕ → ℕ → Type 0) (count : ℕ) (order : List ℕ) → IsOrder To count order → (i k : ℕ) → Reaches To i k → (p : ℕ) → slice_get order p ≡ Some i → Stands order p k
reached_before To count order is i k (by_call call) p at = is.callees_first p i k at call
reached_before To count order is i k (further {j = j} way call) p at =
    let between = reached_before To count order is i j way p at in
    let there = is.callees_first between.0 j k between.2 call in
    let first = there.1 in
    let second = between.1 in
    (there.0, omega (arith, first, second), there.2)

never_before : (To : ℕ → ℕ → Type 0) (count : ℕ) (order : List ℕ) → IsOrder To count order → (i p : ℕ) → slice_get order p ≡ Some i → Stands order p i → ⊥
never_before To count order is i p at stands = let less = stands.1 in omega (arith, less, is.once stands.0 p i stands.2 at)

never_back : (graph : List (List ℕ)) (order : List ℕ) (count : ℕ) → IsOrder (Calls graph) count order → (i j : ℕ) → i < count → Calls graph i j → LeadsBack graph i j → ⊥
never_back graph order count is i j lt call (inl same) =
    let here = is.each i lt in
    never_before (Calls graph) count order is i here.0 here.2 (subst (Stands order here.0) same (is.callees_first here.0 i j here.2 call))
never_back graph order count is i j lt call (inr way) =
    let here = is.each i lt in
    let callee = is.callees_first here.0 i j here.2 call in
    let back = reached_before (Calls graph) count order is j i way callee.0 callee.2 in
    let first = back.1 in
    let second = callee.1 in
    never_before (Calls graph) count order is i here.0 here.2 (back.0, omega (arith, first, second), back.2)

has_site : (text : List ℕ) (names : List (List ℕ)) (m : Method) (n : ℕ) (c : CallSite) → slice_get (calls_from text names m) n ≡ Some c → Has (callees_of text names m) c.method
has_site text names m n c at =
    let method = λ (s : CallSite). s.method in
    let here : slice_get (map method (calls_from text names m)) n ≡ Some c.method = slice_get-map method (calls_from text names m) n ∙ ap (option_map method) at in
    (n, slice_get_within (map method (calls_from text names m)) n c.method here, get_or_from_slice_get (map method (calls_from text names m)) n c.method 0 here)

pub no_cause_of_calls : NoCauseOfCalls
no_cause_of_calls text parts name p form f (calls_back k n m c at site back) =
    let names = method_names text parts in
    never_back (graph_of text names parts) form.order (length (methods_of parts)) form.ordered k c.method (slice_get_within (methods_of parts) k m at)
    (calls_of_method text names parts k c.method m at (has_site text names m n c site)) back
