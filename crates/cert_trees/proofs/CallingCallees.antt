-- The order of a graph of calls is one of the methods.
use Rattle.std.proofs.Common.{◌≡◌, ◌∙◌, refl, sym, ap, subst, ℕ, zero, suc, ◌<◌, List, [], ◌∷◌, ◌++◌, length, map, get_or, arith}
use Rattle.std.specs.Prelude.{Option, Some, None, slice_get, option_map}
use Rattle.std.specs.List.{filter_map, cons_option}
use Rattle.std.proofs.lemmas.List.{length-map}
use Rattle.std.proofs.lemmas.Option.{slice_get-map, slice_get_within, slice_get-get_or, get_or_from_slice_get}
use Rattle.sem_expr.specs.declared.expr.Expr.{Expr}
use Rattle.sem_profile.specs.declared.profile.Encoding.{Encoding}
use Rattle.sem_profile.specs.declared.profile.Encoding.TheVariants as encoding
use Rattle.sem_profile.specs.declared.profile.Field.{Field}
use Rattle.sem_profile.specs.declared.profile.Format.{Format}
use Rattle.sem_profile.specs.declared.profile.Method.{Method}
use Rattle.sem_graph.specs.Calls.{Has, Calls, Reaches, by_call, further, Within}
use Rattle.sem_graph.specs.Order as calls
use Rattle.sem_profile.specs.Methods.{CallsMethod, IsOrder}
use Rattle.cert_rules.specs.Counts.{callee}
use Rattle.cert_trees.specs.Calling.{called, called_in, HasOrder, CallsWithin}

-- ---- elements of lists

has : (xs : List ℕ) (k n : ℕ) → slice_get xs n ≡ Some k → Has xs k
has xs k n at = (n, slice_get_within xs n k at, get_or_from_slice_get xs n k 0 at)

in_front : (xs ys : List ℕ) (n k : ℕ) → slice_get xs n ≡ Some k → (p : ℕ) × (slice_get (xs ++ ys) p ≡ Some k)
in_front [] ys n k at = absurd (cc)
in_front (x ∷ xs) ys zero k at = (zero, at)
in_front (x ∷ xs) ys (suc n) k at = let p = in_front xs ys n k at in (suc p.0, p.1)

behind : (xs ys : List ℕ) (n k : ℕ) → slice_get ys n ≡ Some k → (p : ℕ) × (slice_get (xs ++ ys) p ≡ Some k)
behind [] ys n k at = (n, at)
behind (x ∷ xs) ys n k at = let p = behind xs ys n k at in (suc p.0, p.1)

either : {P : Type 0} (xs ys : List ℕ) (n k : ℕ) → slice_get (xs ++ ys) n ≡ Some k → ((p : ℕ) → slice_get xs p ≡ Some k → P) → ((p : ℕ) → slice_get ys p ≡ Some k → P) → P
either [] ys n k at front back = back n at
either (x ∷ xs) ys zero k at front back = front zero at
either (x ∷ xs) ys (suc n) k at front back = either xs ys n k at (λ p e. front (suc p) e) back

-- ---- calls of fields and formats

field_called : (fields : List Field) (i : ℕ) (d : Field) (j : ℕ) → slice_get fields i ≡ Some d → callee d.encoding ≡ Some j → (p : ℕ) × (slice_get (filter_map (λ d. callee d.encoding) fields) p ≡ Some j)
field_called [] i d j at is = absurd (cc)
field_called (x ∷ fields) zero d j at is =
    let same : x ≡ d = cc in
    let here : callee x.encoding ≡ Some j = ap (λ y. callee y.encoding) same ∙ is in
    (zero, ap (λ o. slice_get (cons_option o (filter_map (λ d. callee d.encoding) fields)) zero) here)
field_called (x ∷ fields) (suc i) d j at is =
    let rest = field_called fields i d j at is in
    by (callee x.encoding) rest
  where
    by : (o : Option ℕ) → (p : ℕ) × (slice_get (filter_map (λ d. callee d.encoding) fields) p ≡ Some j) → (p : ℕ) × (slice_get (cons_option o (filter_map (λ d. callee d.encoding) fields)) p ≡ Some j)
    by None rest = rest
    by (Some y) rest = (suc rest.0, rest.1)

called_field : (fields : List Field) (n j : ℕ) → slice_get (filter_map (λ d. callee d.encoding) fields) n ≡ Some j → (i : ℕ) × (d : Field) × (slice_get fields i ≡ Some d) × (callee d.encoding ≡ Some j)
called_field [] n j at = absurd (cc)
called_field (x ∷ fields) n j at = by (callee x.encoding) refl n at (λ m e. let r = called_field fields m j e in (suc r.0, r.1, r.2, r.3))
  where
    by : (o : Option ℕ) → callee x.encoding ≡ o → (n : ℕ) → slice_get (cons_option o (filter_map (λ d. callee d.encoding) fields)) n ≡ Some j →
        ((m : ℕ) → slice_get (filter_map (λ d. callee d.encoding) fields) m ≡ Some j → (i : ℕ) × (d : Field) × (slice_get (x ∷ fields) i ≡ Some d) × (callee d.encoding ≡ Some j)) →
        (i : ℕ) × (d : Field) × (slice_get (x ∷ fields) i ≡ Some d) × (callee d.encoding ≡ Some j)
    by None e n at on = on n at
    by (Some y) e zero at on = (zero, x, refl, e ∙ at)
    by (Some y) e (suc n) at on = on n at

format_called : (formats : List Format) (i : ℕ) (f : Format) (p j : ℕ) → slice_get formats i ≡ Some f → slice_get (filter_map (λ d. callee d.encoding) f.fields) p ≡ Some j → (n : ℕ) × (slice_get (called_in formats) n ≡ Some j)
format_called [] i f p j at is = absurd (cc)
format_called (x ∷ formats) zero f p j at is =
    let same : x ≡ f = cc in
    in_front (filter_map (λ d. callee d.encoding) x.fields) (called_in formats) p j (ap (λ y. slice_get (filter_map (λ d. callee d.encoding) y.fields) p) same ∙ is)
format_called (x ∷ formats) (suc i) f p j at is =
    let rest = format_called formats i f p j at is in
    behind (filter_map (λ d. callee d.encoding) x.fields) (called_in formats) rest.0 j rest.1

called_format : (formats : List Format) (n j : ℕ) → slice_get (called_in formats) n ≡ Some j → (i : ℕ) × (f : Format) × (p : ℕ) × (slice_get formats i ≡ Some f) × (slice_get (filter_map (λ d. callee d.encoding) f.fields) p ≡ Some j)
called_format [] n j at = absurd (cc)
called_format (x ∷ formats) n j at = either (filter_map (λ d. callee d.encoding) x.fields) (called_in formats) n j at
    (λ p e. (zero, x, p, refl, e))
    (λ m e. let r = called_format formats m j e in (suc r.0, r.1, r.2, r.3, r.4))

callee_of : (e : Encoding) (j : ℕ) → callee e ≡ Some j → (es : List Expr) × (e ≡ encoding.Call j es)
callee_of (encoding.Call k es) j is = let same : k ≡ j = cc in (es, ap (λ n. encoding.Call n es) same)
callee_of encoding.Bare j is = absurd (cc)
callee_of (encoding.Library l) j is = absurd (cc)

-- what a method calls is named in its row, and only that
row_names : (m : Method) (j : ℕ) → CallsMethod m j → (n : ℕ) × (slice_get (called m) n ≡ Some j)
row_names m j c =
    let f = field_called c.format.fields c.field_place c.field j c.field_at (ap callee c.is_call) in
    format_called m.formats c.format_place c.format f.0 j c.format_at f.1

named_calls : (m : Method) (n j : ℕ) → slice_get (called m) n ≡ Some j → CallsMethod m j
named_calls m n j at =
    let f = called_format m.formats n j at in
    let d = called_field f.1.fields f.2 j f.4 in
    let c = callee_of d.1.encoding j d.3 in
    record { format = f.1; format_place = f.0; format_at = f.3; field = d.1; field_place = d.0; field_at = d.2; arguments = c.0; is_call = c.1 }

-- ---- the graph

module _ (methods : List Method) where
  abbrev graph : List (List ℕ)
  graph = map called methods

  row_is : (k : ℕ) (m : Method) → slice_get methods k ≡ Some m → get_or graph k [] ≡ called m
  row_is k m at = get_or_from_slice_get graph k (called m) [] (slice_get-map called methods k ∙ ap (option_map called) at)

  to_graph : (k j : ℕ) (m : Method) → slice_get methods k ≡ Some m → CallsMethod m j → Calls graph k j
  to_graph k j m at c =
      let n = row_names m j c in
      let inside = slice_get_within methods k m at in
      (omega (arith, inside, length-map methods called), subst (λ row. Has row j) (sym (row_is k m at)) (has (called m) j n.0 n.1))

  of_graph : (k j : ℕ) → Calls graph k j → (m : Method) × (slice_get methods k ≡ Some m) × CallsMethod m j
  of_graph k j c = by (slice_get methods k) refl
    where
      by : (o : Option Method) → slice_get methods k ≡ o → (m : Method) × (slice_get methods k ≡ Some m) × CallsMethod m j
      by None e =
          let none : slice_get graph k ≡ None = slice_get-map called methods k ∙ ap (option_map called) e in
          let some = slice_get-get_or graph k [] c.0 in
          absurd (let wrong : None ≡ Some (get_or graph k []) = sym none ∙ some in cc)
      by (Some m) e =
          let row : Has (called m) j = subst (λ row. Has row j) (row_is k m e) c.1 in
          (m, e, named_calls m row.0 j (slice_get-get_or (called m) row.0 0 row.1 ∙ ap Some row.2))

  pub graph_within : CallsWithin methods → Within graph
  graph_within within k j c =
      let m = of_graph k j c in
      let inside = within k j m.0 m.1 m.2 in
      omega (arith, inside, length-map methods called)

  -- in an order each way of calls leads to an earlier place
  module _ (order : List ℕ) (ordered : IsOrder methods order) where
    earlier : {k j : ℕ} → Reaches (Calls graph) k j → (p : ℕ) → slice_get order p ≡ Some k → (q : ℕ) × (q < p) × (slice_get order q ≡ Some j)
    earlier {k = k} {j = j} (by_call c) p at = let m = of_graph k j c in ordered.before p k j m.0 at m.1 m.2
    earlier {k = k} (further {j = j} {k = l} r c) p at =
        let q = earlier r p at in
        let m = of_graph j l c in
        let s = ordered.before q.0 j l m.0 q.2 m.1 m.2 in
        (s.0, omega (arith, q.1, s.1), s.2)

    pub no_return : (k : ℕ) → k < length methods → Reaches (Calls graph) k k → ⊥
    no_return k inside r =
        let p = ordered.each k inside in
        let q = earlier r p.0 p.1 in
        let same = ordered.once q.0 p.0 k inside q.2 p.1 in
        omega (arith, q.1, same)

  starts_inside : {k j : ℕ} → Reaches (Calls graph) k j → k < length methods
  starts_inside (by_call c) = omega (arith, c.0, length-map methods called)
  starts_inside (further r c) = starts_inside r

  pub graph_ends : HasOrder methods → calls.NoReturn graph
  graph_ends some k r = no_return some.0 some.1 k (starts_inside r) r

  pub order_of_graph : (order : List ℕ) → calls.IsOrder (Calls graph) (length graph) order → IsOrder methods order
  order_of_graph order o = record {
    each = λ k inside. let p = o.each k (omega (arith, inside, length-map methods called)) in (p.0, p.2);
    once = λ i j k inside at at'. o.once i j k at at';
    before = λ i k j m at m_at c. o.callees_first i k j at (to_graph k j m m_at c);
  }
