-- The calls in use, and the graphs that are made of them.
use Rattle.std.proofs.Common.{◌≡◌, ◌∙◌, ap, ℕ, suc, zero, ◌<◌, ◌⊎◌, inl, inr, List, [], ◌∷◌, ◌++◌, refl, sym, subst, map, length, get_or, arith}
use Rattle.std.specs.Prelude.{slice_get, Option, Some, None}
use Rattle.std.specs.List.{filter_map, flat_map, cons_option}
use Rattle.std.proofs.lemmas.Bool.{cases_order}
use Rattle.std.proofs.lemmas.List.{length-map}
use Rattle.text_tree.specs.declared.tree.Method.{Method as TreeMethod}
use Rattle.text_tree.specs.declared.tree.Part.{Part}
use Rattle.sem_expr.specs.declared.expr.Expr.{Expr}
use Rattle.sem_profile.specs.declared.profile.Encoding.{Encoding}
use Rattle.sem_profile.specs.declared.profile.Encoding.TheVariants as encoding
use Rattle.sem_profile.specs.declared.profile.Field.{Field}
use Rattle.sem_profile.specs.declared.profile.Format.{Format}
use Rattle.sem_profile.specs.declared.profile.Method.{Method}
use Rattle.sem_graph.specs.Calls.{Calls, Has, Reaches, by_call, further}
use Rattle.sem_graph.specs.Measures.{FieldCalls}
use Rattle.sem_graph.specs.Order.{IsOrder, Stands}
use Rattle.sem_graph.proofs.OrderPushing.{some_is, get_below}
use Rattle.sem_profile.specs.Methods.{CallsMethod}
use Rattle.sem_profile.specs.Methods as bounds
use Rattle.text_resolve.specs.Calls.{callees_of, graph_of}
use Rattle.text_resolve.specs.Parts.{methods_of}
use Rattle.sem_profile.specs.Uses.{Uses, callee_of, format_uses, method_uses, uses_of, callees_of_fields, used_methods, used_graph, IsReached, without_formats, AreReached}

-- the names in lists
has_there : (x : ℕ) (xs : List ℕ) (j : ℕ) → Has xs j → Has (x ∷ xs) j
has_there x xs j has = let below = has.1 in (suc has.0, omega arith, has.2)

has_first_or : (x : ℕ) (xs : List ℕ) (j : ℕ) → Has (x ∷ xs) j → (x ≡ j) ⊎ Has xs j
has_first_or x xs j has = by has.0 has.1 has.2
  where
    by : (n : ℕ) → n < suc (length xs) → get_or (x ∷ xs) n 0 ≡ j → (x ≡ j) ⊎ Has xs j
    by zero lt e = inl e
    by (suc n) lt e = inr (n, omega arith, e)

none_has : (j : ℕ) → Has [] j → ⊥
none_has j has = let below = has.1 in omega arith

pub has_left : (xs ys : List ℕ) (j : ℕ) → Has xs j → Has (xs ++ ys) j
has_left [] ys j has = absurd (none_has j has)
has_left (x ∷ xs) ys j has = elim (has_first_or x xs j has) as (λ _. Has (x ∷ (xs ++ ys)) j) [ inl e ↦ (0, omega arith, e) | inr rest ↦ has_there x (xs ++ ys) j (has_left xs ys j rest) ]

pub has_right : (xs ys : List ℕ) (j : ℕ) → Has ys j → Has (xs ++ ys) j
has_right [] ys j has = has
has_right (x ∷ xs) ys j has = has_there x (xs ++ ys) j (has_right xs ys j has)

has_part : (xs ys : List ℕ) (j : ℕ) → Has (xs ++ ys) j → Has xs j ⊎ Has ys j
has_part [] ys j has = inr has
has_part (x ∷ xs) ys j has = elim (has_first_or x (xs ++ ys) j has) as (λ _. Has (x ∷ xs) j ⊎ Has ys j) [
  | inl e ↦ inl (0, omega arith, e)
  | inr more ↦ elim (has_part xs ys j more) as (λ _. Has (x ∷ xs) j ⊎ Has ys j) [ inl here ↦ inl (has_there x xs j here) | inr rest ↦ inr rest ]
]

-- an element for which a number was found
record Found {X : Type 0} (h : X → Option ℕ) (xs : List X) (j : ℕ) : Type 0 where
  place : ℕ
  element : X
  at : slice_get xs place ≡ Some element
  is : h element ≡ Some j

found_later : {X : Type 0} (h : X → Option ℕ) (x : X) (xs : List X) (j : ℕ) → Found h xs j → Found h (x ∷ xs) j
found_later h x xs j f = record { place = suc f.place; element = f.element; at = f.at; is = f.is }

found_in : {X : Type 0} (h : X → Option ℕ) (xs : List X) (j : ℕ) → Has (filter_map h xs) j → Found h xs j
found_in h [] j has = absurd (none_has j has)
found_in h (x ∷ xs) j has = by (h x) refl has (λ rest. found_in h xs j rest)
  where
    by : (o : Option ℕ) → h x ≡ o → Has (cons_option o (filter_map h xs)) j → (Has (filter_map h xs) j → Found h xs j) → Found h (x ∷ xs) j
    by (Some y) e has more = elim (has_first_or y (filter_map h xs) j has) as (λ _. Found h (x ∷ xs) j) [
      | inl same ↦ record { place = 0; element = x; at = refl; is = e ∙ ap Some same }
      | inr rest ↦ found_later h x xs j (more rest)
    ]
    by None e has more = found_later h x xs j (more has)

has_after : (o : Option ℕ) (xs : List ℕ) (j : ℕ) → Has xs j → Has (cons_option o xs) j
has_after (Some x) xs j has = has_there x xs j has
has_after None xs j has = has

pub found_has : {X : Type 0} (h : X → Option ℕ) (xs : List X) (k : ℕ) (x : X) (j : ℕ) → slice_get xs k ≡ Some x → h x ≡ Some j → Has (filter_map h xs) j
found_has h [] k x j at is = let wrong : None ≡ Some x = at in absurd cc
found_has h (y ∷ ys) zero x j at is =
    let same : y ≡ x = cc in
    subst (λ o. Has (cons_option o (filter_map h ys)) j) (sym (ap h same ∙ is)) (0, omega arith, refl)
found_has h (y ∷ ys) (suc k) x j at is = has_after (h y) (filter_map h ys) j (found_has h ys k x j at is)

-- an element from whose list a number comes
record Spread {X : Type 0} (f : X → List ℕ) (xs : List X) (j : ℕ) : Type 0 where
  place : ℕ
  element : X
  at : slice_get xs place ≡ Some element
  has : Has (f element) j

spread_in : {X : Type 0} (f : X → List ℕ) (xs : List X) (j : ℕ) → Has (flat_map f xs) j → Spread f xs j
spread_in f [] j has = absurd (none_has j has)
spread_in f (x ∷ xs) j has = elim (has_part (f x) (flat_map f xs) j has) as (λ _. Spread f (x ∷ xs) j) [
  | inl here ↦ record { place = 0; element = x; at = refl; has = here }
  | inr rest ↦ let s = spread_in f xs j rest in record { place = suc s.place; element = s.element; at = s.at; has = s.has }
]

pub spread_has : {X : Type 0} (f : X → List ℕ) (xs : List X) (k : ℕ) (x : X) (j : ℕ) → slice_get xs k ≡ Some x → Has (f x) j → Has (flat_map f xs) j
spread_has f [] k x j at has = let wrong : None ≡ Some x = at in absurd cc
spread_has f (y ∷ ys) zero x j at has = let same : y ≡ x = cc in has_left (f y) (flat_map f ys) j (subst (λ z. Has (f z) j) (sym same) has)
spread_has f (y ∷ ys) (suc k) x j at has = has_right (f y) (flat_map f ys) j (spread_has f ys k x j at has)

-- rows of lists made from lists
record Row {X Y : Type 0} (f : X → Y) (xs : List X) (k : ℕ) (y : Y) : Type 0 where
  element : X
  at : slice_get xs k ≡ Some element
  is : f element ≡ y

made_from : {X Y : Type 0} (f : X → Y) (xs : List X) (k : ℕ) (y : Y) → slice_get (map f xs) k ≡ Some y → Row f xs k y
made_from f [] k y at = let wrong : None ≡ Some y = at in absurd cc
made_from f (x ∷ xs) zero y at = record { element = x; at = refl; is = some_is at }
made_from f (x ∷ xs) (suc k) y at = let r = made_from f xs k y at in record { element = r.element; at = r.at; is = r.is }

pub row_made : {X Y : Type 0} (f : X → List Y) (xs : List X) (i : ℕ) (x : X) → slice_get xs i ≡ Some x → get_or (map f xs) i [] ≡ f x
row_made f [] i x at = let wrong : None ≡ Some x = at in absurd cc
row_made f (y ∷ ys) zero x at = let same : y ≡ x = cc in ap f same
row_made f (y ∷ ys) (suc i) x at = row_made f ys i x at

row_from : {X Y : Type 0} (f : X → List Y) (xs : List X) (i p : ℕ) (y : Y) → slice_get (get_or (map f xs) i []) p ≡ Some y → (x : X) × (slice_get xs i ≡ Some x) × (slice_get (f x) p ≡ Some y)
row_from f [] i p y at = let wrong : None ≡ Some y = at in absurd cc
row_from f (x ∷ xs) zero p y at = (x, refl, at)
row_from f (x ∷ xs) (suc i) p y at = row_from f xs i p y at

pub element_at : {X : Type 0} (xs : List X) (i : ℕ) → i < length xs → (x : X) × (slice_get xs i ≡ Some x)
element_at [] i lt = absurd (omega arith)
element_at (x ∷ xs) zero lt = (x, refl)
element_at (x ∷ xs) (suc i) lt = element_at xs i (omega arith)

callee_is : (e : Encoding) (j : ℕ) → callee_of e ≡ Some j → (arguments : List Expr) × (e ≡ encoding.Call j arguments)
callee_is (encoding.Call k arguments) j h = let same : k ≡ j = some_is h in (arguments, ap (λ n. encoding.Call n arguments) same)
callee_is (encoding.Library library) j h = let wrong : None ≡ Some j = h in absurd cc
callee_is encoding.Bare j h = let wrong : None ≡ Some j = h in absurd cc

pub calls_are_uses : (methods : List Method) (i j : ℕ) → Calls (used_graph methods) i j → Uses methods i j
calls_are_uses methods i j calls =
    let within : i < length methods = subst (λ n. i < n) (length-map methods used_methods) calls.0 in
    let m = element_at methods i within in
    let s = spread_in (λ (f : Format). callees_of_fields f.fields) m.0.formats j (subst (λ row. Has row j) (row_made used_methods methods i m.0 m.1) calls.1) in
    let f = found_in (λ (d : Field). callee_of d.encoding) s.element.fields j s.has in
    let called = callee_is f.element.encoding j f.is in
    record {
      method = m.0;
      at = m.1;
      calls = record { format = s.element; format_place = s.place; format_at = s.at; field = f.element; field_place = f.place; field_at = f.at; arguments = called.0; is_call = called.1 };
    }

pub uses_are_calls : (methods : List Method) (i j : ℕ) → Uses methods i j → Calls (used_graph methods) i j
uses_are_calls methods i j uses =
    let c = uses.calls in
    let fields = found_has (λ (d : Field). callee_of d.encoding) c.format.fields c.field_place c.field j c.field_at (ap callee_of c.is_call) in
    let all = spread_has (λ (f : Format). callees_of_fields f.fields) uses.method.formats c.format_place c.format j c.format_at fields in (
      subst (λ n. i < n) (sym (length-map methods used_methods)) (get_below methods i uses.method uses.at),
      subst (λ row. Has row j) (sym (row_made used_methods methods i uses.method uses.at)) all,
    )

pub field_calls_are_uses : (methods : List Method) (i j : ℕ) → FieldCalls (uses_of methods) i j → Uses methods i j
field_calls_are_uses methods i j calls =
    let m = row_from method_uses methods i calls.format calls.fields calls.formats_at in
    let f = made_from format_uses m.0.formats calls.format calls.fields m.2 in
    let d = made_from (λ (d : Field). callee_of d.encoding) f.element.fields calls.field (Some j) (subst (λ fields. slice_get fields calls.field ≡ Some (Some j)) (sym f.is) calls.at) in
    let called = callee_is d.element.encoding j d.is in
    record {
      method = m.0;
      at = m.1;
      calls = record { format = f.element; format_place = calls.format; format_at = f.at; field = d.element; field_place = calls.field; field_at = d.at; arguments = called.0; is_call = called.1 };
    }

-- the same ways by fewer calls
pub reaches_as : {To From : ℕ → ℕ → Type 0} {i k : ℕ} → ((i j : ℕ) → From i j → To i j) → Reaches From i k → Reaches To i k
reaches_as into (by_call c) = by_call (into _ _ c)
reaches_as into (further r c) = further (reaches_as into r) (into _ _ c)

-- what a method of the text calls, in the graph of its file
pub calls_of_method : (text : List ℕ) (names : List (List ℕ)) (parts : List Part) (i j : ℕ) (m : TreeMethod) → slice_get (methods_of parts) i ≡ Some m → Has (callees_of text names m) j → Calls (graph_of text names parts) i j
calls_of_method text names parts i j m at has = (
  subst (λ n. i < n) (sym (length-map (methods_of parts) (callees_of text names))) (get_below (methods_of parts) i m at),
  subst (λ row. Has row j) (sym (row_made (callees_of text names) (methods_of parts) i m at)) has,
)

-- methods in an order are called within their list
pub uses_within : (order : List ℕ) (methods : List Method) → IsOrder (Uses methods) (length methods) order → (i j : ℕ) → Uses methods i j → j < length methods
uses_within order methods ordered i j uses =
    let here = ordered.each i (get_below methods i uses.method uses.at) in
    let there = ordered.callees_first here.0 i j here.2 uses in
    ordered.only there.0 j there.2

-- an order for calls is one for fewer calls
pub order_of_fewer : (To From : ℕ → ℕ → Type 0) (n : ℕ) (order : List ℕ) → IsOrder To n order → ((i j : ℕ) → From i j → To i j) → IsOrder From n order
order_of_fewer To From n order ordered into = record { each = ordered.each; only = ordered.only; once = ordered.once; callees_first = λ p i j at call. ordered.callees_first p i j at (into i j call) }

pub order_of_uses : (To : ℕ → ℕ → Type 0) (n : ℕ) (order : List ℕ) (methods : List Method) → IsOrder To n order → ((i j : ℕ) → Uses methods i j → To i j) → IsOrder (Uses methods) n order
order_of_uses To n order methods ordered into = order_of_fewer To (Uses methods) n order ordered into

pub order_of_graph : (methods : List Method) (order : List ℕ) → IsOrder (Uses methods) (length methods) order → IsOrder (Calls (used_graph methods)) (length (used_graph methods)) order
order_of_graph methods order ordered =
    subst (λ n. IsOrder (Calls (used_graph methods)) n order) (sym (length-map methods used_methods))
    (order_of_fewer (Uses methods) (Calls (used_graph methods)) (length methods) order ordered (calls_are_uses methods))

pub order_of_fields : (methods : List Method) (order : List ℕ) → IsOrder (Uses methods) (length methods) order → IsOrder (FieldCalls (uses_of methods)) (length (uses_of methods)) order
order_of_fields methods order ordered =
    subst (λ n. IsOrder (FieldCalls (uses_of methods)) n order) (sym (length-map methods method_uses))
    (order_of_fewer (Uses methods) (FieldCalls (uses_of methods)) (length methods) order ordered (field_calls_are_uses methods))

-- whether a method stands in the order below a place
stands_or_not : (order : List ℕ) (p j : ℕ) → Stands order p j ⊎ (Stands order p j → ⊥)
stands_or_not [] p j = inr (λ s. let wrong : None ≡ Some j = s.2 in absurd cc)
stands_or_not (x ∷ order) zero j = inr (λ s. let below = s.1 in omega arith)
stands_or_not (x ∷ order) (suc p) j = elim (cases_order x j) as (λ _. Stands (x ∷ order) (suc p) j ⊎ (Stands (x ∷ order) (suc p) j → ⊥)) [
  | inl same ↦ inl (0, omega arith, ap Some same)
  | inr other ↦ rest (λ same. elim other as (λ _. ⊥) [ inl less ↦ omega arith | inr more ↦ omega arith ]) (stands_or_not order p j)
]
  where
    not_here : (x ≡ j → ⊥) → (Stands order p j → ⊥) → (q : ℕ) → q < suc p → slice_get (x ∷ order) q ≡ Some j → ⊥
    not_here other none zero lt at = other (some_is at)
    not_here other none (suc q) lt at = none (q, omega arith, at)

    rest : (x ≡ j → ⊥) → Stands order p j ⊎ (Stands order p j → ⊥) → Stands (x ∷ order) (suc p) j ⊎ (Stands (x ∷ order) (suc p) j → ⊥)
    rest other (inl s) = let below = s.1 in inl (suc s.0, omega arith, s.2)
    rest other (inr none) = inr (λ s. not_here other none s.0 s.1 s.2)

calls_nothing : (m : Method) (j : ℕ) → CallsMethod (without_formats m) j → ⊥
calls_nothing m j calls = let wrong : None ≡ Some calls.format = calls.format_at in absurd cc

-- the order of all is one of the methods that are kept
pub order_of_kept : (n : ℕ) (order : List ℕ) (methods kept : List Method) (top : ℕ) → length methods ≡ n → IsOrder (Uses methods) n order → AreReached methods top kept → bounds.IsOrder kept order
order_of_kept n order methods kept top count ordered are = record {
  each = λ k lt. let s = ordered.each k (omega (arith, lt, are.each, count)) in (s.0, s.2);
  once = λ i j k lt at_i at_j. ordered.once i j k at_i at_j;
  before = λ i k j m at here calls.
      let within : k < length methods = omega (arith, ordered.only i k at, count) in
      let old = element_at methods k within in
      elim (stands_or_not order i j) as (λ _. Stands order i j) [
        | inl s ↦ s
        | inr none ↦
            let unreached : IsReached methods top k → ⊥ = λ way.
            let same : old.0 ≡ m = some_is (sym (are.reached k old.0 old.1 way) ∙ here) in
            none (ordered.callees_first i k j at (record { method = old.0; at = old.1; calls = subst (λ o. CallsMethod o j) (sym same) calls })) in
            let bare : without_formats old.0 ≡ m = some_is (sym (are.unreached k old.0 old.1 unreached) ∙ here) in
            absurd (calls_nothing old.0 j (subst (λ o. CallsMethod o j) (sym bare) calls))
      ];
}
