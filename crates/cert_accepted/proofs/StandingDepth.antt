-- Chains of calls: a method that a field calls has shorter ones.
use Rattle.std.proofs.Common.{◌≡◌, ap, ℕ, suc, zero, ◌<◌, ◌≤◌, List, [], ◌∷◌, ◌++◌, refl, sym, subst, map, get_or, arith}
use Rattle.std.specs.Prelude.{slice_get, Option, Some, None}
use Rattle.std.specs.List.{filter_map, flat_map, cons_option}
use Rattle.std.proofs.lemmas.List.{length-map}
use Rattle.sem_expr.specs.declared.expr.Expr.{Expr}
use Rattle.sem_profile.specs.declared.profile.Encoding.TheVariants as encoding
use Rattle.sem_profile.specs.declared.profile.Field.{Field}
use Rattle.sem_profile.specs.declared.profile.Format.{Format}
use Rattle.sem_profile.specs.declared.profile.Method.{Method}
use Rattle.sem_graph.specs.Calls.{Calls, Has}
use Rattle.sem_graph.proofs.OrderPushing.{get_below}
use Rattle.sem_profile.specs.Limits.{Chain, at_top, called}
use Rattle.sem_profile.specs.Uses.{callee_of, callees_of_fields, used_methods, used_graph}
use Rattle.cert_accepted.specs.Standing.{IsShallower, CallsAreShallower}

-- ---- a field's callee is among those of its method

has_there : (x : ℕ) (xs : List ℕ) (j : ℕ) → Has xs j → Has (x ∷ xs) j
has_there x xs j has = let below = has.1 in (suc has.0, omega arith, has.2)

none_has : (j : ℕ) → Has [] j → ⊥
none_has j has = let below = has.1 in omega arith

has_left : (xs ys : List ℕ) (j : ℕ) → Has xs j → Has (xs ++ ys) j
has_left [] ys j has = absurd (none_has j has)
has_left (x ∷ xs) ys j (zero, within, is) = (0, omega arith, is)
has_left (x ∷ xs) ys j (suc n, within, is) = has_there x (xs ++ ys) j (has_left xs ys j (n, omega arith, is))

has_right : (xs ys : List ℕ) (j : ℕ) → Has ys j → Has (xs ++ ys) j
has_right [] ys j has = has
has_right (x ∷ xs) ys j has = has_there x (xs ++ ys) j (has_right xs ys j has)

has_after : (o : Option ℕ) (xs : List ℕ) (j : ℕ) → Has xs j → Has (cons_option o xs) j
has_after (Some x) xs j has = has_there x xs j has
has_after None xs j has = has

found_has : {X : Type 0} (h : X → Option ℕ) (xs : List X) (k : ℕ) (x : X) (j : ℕ) → slice_get xs k ≡ Some x → h x ≡ Some j → Has (filter_map h xs) j
found_has h [] k x j at is = let wrong : None ≡ Some x = at in absurd cc
found_has h (y ∷ ys) zero x j at is =
    let same : y ≡ x = cc in
    let whole : h y ≡ Some j = cc in
    subst (λ o. Has (cons_option o (filter_map h ys)) j) (sym whole) (0, omega arith, refl)
found_has h (y ∷ ys) (suc k) x j at is = has_after (h y) (filter_map h ys) j (found_has h ys k x j at is)

spread_has : {X : Type 0} (f : X → List ℕ) (xs : List X) (k : ℕ) (x : X) (j : ℕ) → slice_get xs k ≡ Some x → Has (f x) j → Has (flat_map f xs) j
spread_has f [] k x j at has = let wrong : None ≡ Some x = at in absurd cc
spread_has f (y ∷ ys) zero x j at has = let same : y ≡ x = cc in has_left (f y) (flat_map f ys) j (subst (λ z. Has (f z) j) (sym same) has)
spread_has f (y ∷ ys) (suc k) x j at has = has_right (f y) (flat_map f ys) j (spread_has f ys k x j at has)

row_made : {X Y : Type 0} (f : X → List Y) (xs : List X) (i : ℕ) (x : X) → slice_get xs i ≡ Some x → get_or (map f xs) i [] ≡ f x
row_made f [] i x at = let wrong : None ≡ Some x = at in absurd cc
row_made f (y ∷ ys) zero x at = let same : y ≡ x = cc in ap f same
row_made f (y ∷ ys) (suc i) x at = row_made f ys i x at

-- a method calls that which a field of one of its formats names
pub calls_of_field : (methods : List Method) (k : ℕ) (method : Method) (f i j : ℕ) (format : Format) (d : Field) (es : List Expr) → slice_get methods k ≡ Some method →
    slice_get method.formats f ≡ Some format → slice_get format.fields i ≡ Some d → d.encoding ≡ encoding.Call j es → Calls (used_graph methods) k j
calls_of_field methods k method f i j format d es method_is format_is field_is encoding_is =
    let fields = found_has (λ (x : Field). callee_of x.encoding) format.fields i d j field_is (ap callee_of encoding_is) in
    let all = spread_has (λ (x : Format). callees_of_fields x.fields) method.formats f format j format_is fields in (
      subst (λ n. k < n) (sym (length-map methods used_methods)) (get_below methods k method method_is),
      subst (λ row. Has row j) (sym (row_made used_methods methods k method method_is)) all,
    )

-- ---- a chain from a method that is called, with the method before it

pub chain_before : (graph : List (List ℕ)) (k j : ℕ) → Calls graph k j → {m i : ℕ} → Chain graph j m i → Chain graph k (suc m) i
chain_before graph k j calls at_top = called at_top calls
chain_before graph k j calls (called chain more) = called (chain_before graph k j calls chain) more

pub shallower : (methods : List Method) (k j n : ℕ) → ((i m : ℕ) → Chain (used_graph methods) k m i → m ≤ n) → Calls (used_graph methods) k j → IsShallower methods j n
shallower methods k j n depth calls = record {
  least = depth j 2 (called at_top calls);
  below = λ i m chain. let longer = depth i (suc m) (chain_before (used_graph methods) k j calls chain) in omega arith;
}

pub calls_are_shallower : CallsAreShallower
calls_are_shallower methods k n depth method f i j format d es method_is format_is field_is encoding_is =
    shallower methods k j n depth (calls_of_field methods k method f i j format d es method_is format_is field_is encoding_is)
