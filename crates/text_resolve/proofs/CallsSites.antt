-- The calls of a file lead to its methods.
use Rattle.std.proofs.Common.{rules, ◌≡◌, ◌∙◌, ap, ℕ, ◌<◌, Bool, true, false, List, [], ◌∷◌, ◌++◌, refl, sym, subst, map, cond, suc, zero, length, get_or, arith, nat_lt}
use Rattle.std.specs.Prelude.{slice_get, Some, None, Option, position}
use Rattle.std.specs.List.{AllByRecursion, filter_map, flat_map, position_or_len, cons_option}
use Rattle.std.specs.Option.{option_map}
use Rattle.std.specs.Str.{bytes_eq}
use Rattle.std.proofs.lemmas.List.{length-map}
use Rattle.text_tree.specs.declared.tree.Encoding.{Encoding}
use Rattle.text_tree.specs.declared.tree.Encoding.TheVariants as encodings
use Rattle.text_tree.specs.declared.tree.Item.{Item}
use Rattle.text_tree.specs.declared.tree.Item.TheVariants as items
use Rattle.text_tree.specs.declared.tree.Section.{Section}
use Rattle.text_tree.specs.declared.tree.Method.{Method}
use Rattle.text_tree.specs.declared.tree.Part.{Part}
use Rattle.sem_graph.specs.Calls.{Has, Within}
use Rattle.sem_profile.specs.Words.{word}
use Rattle.text_tree.specs.Limits.{is_initial_kind}
use Rattle.text_resolve.specs.declared.calls.CallSite.{CallSite}
use Rattle.text_resolve.specs.Parts.{methods_of, method_names}
use Rattle.text_resolve.specs.Calls.{call_by, call_of, calls_in, calls_from, callees_of, graph_of}

pub place_within : {X : Type 0} (p : X → Bool) (xs : List X) (i : ℕ) → position p xs ≡ Some i → i < length xs
place_within p xs i h = by (nat_lt (position_or_len p xs) (length xs)) refl h
  where
    by : (b : Bool) → nat_lt (position_or_len p xs) (length xs) ≡ b → cond b (Some (position_or_len p xs)) None ≡ Some i → i < length xs
    by true e h = let same : position_or_len p xs ≡ i = cc in subst (λ n. n < length xs) same (search (rules, e))
    by false e h = absurd cc

abbrev Below : ℕ → CallSite → Type 0
Below n c = c.method < n

site_by : (text : List ℕ) (names : List (List ℕ)) (name : List ℕ) (c : CallSite) (o : Option ℕ) (f : ℕ → CallSite) → ((k : ℕ) → (f k).method ≡ k)
    → position (bytes_eq name) names ≡ o → option_map f o ≡ Some c → Below (length names) c
site_by text names name c (Some k) f is at h =
    let same : f k ≡ c = cc in
    subst (λ n. n < length names) (sym (is k) ∙ ap (λ d. d.method) same) (place_within (bytes_eq name) names k at)
site_by text names name c None f is at h = let wrong : None ≡ Some c = h in absurd cc

site_within : (text : List ℕ) (names : List (List ℕ)) (item : Item) (c : CallSite) → call_of text names item ≡ Some c → Below (length names) c
site_within text names (items.Bound bound) c h = by bound.encoding h
  where
    by : (e : Encoding) → call_by text names e ≡ Some c → Below (length names) c
    by (encodings.Call name arguments) h = site_by text names (word text name) c _ (λ k. record { method = k; at = name }) (λ k. refl) refl h
    by (encodings.Bits at count number) h = let wrong : None ≡ Some c = h in absurd cc
site_within text names (items.Field name bracket) c h = let wrong : None ≡ Some c = h in absurd cc
site_within text names (items.Enforce at condition) c h = let wrong : None ≡ Some c = h in absurd cc

-- each element of lists made from lists
each_both : {X : Type 0} (P : X → Type 0) (xs ys : List X) → AllByRecursion P xs → AllByRecursion P ys → AllByRecursion P (xs ++ ys)
each_both P [] ys p q = q
each_both P (x ∷ xs) ys p q = (p.0, each_both P xs ys p.1 q)

each_found : {X Y : Type 0} (P : Y → Type 0) (h : X → Option Y) → ((x : X) (y : Y) → h x ≡ Some y → P y) → (xs : List X) → AllByRecursion P (filter_map h xs)
each_found P h found [] = tt
each_found {Y = Y} P h found (x ∷ xs) = by (h x) refl (each_found P h found xs)
  where
    by : (o : Option Y) → h x ≡ o → AllByRecursion P (filter_map h xs) → AllByRecursion P (cons_option o (filter_map h xs))
    by (Some y) e rest = (found x y e, rest)
    by None e rest = rest

each_spread : {X Y : Type 0} (P : Y → Type 0) (f : X → List Y) → ((x : X) → AllByRecursion P (f x)) → (xs : List X) → AllByRecursion P (flat_map f xs)
each_spread P f all [] = tt
each_spread P f all (x ∷ xs) = each_both P (f x) (flat_map f xs) (all x) (each_spread P f all xs)

each_at : {X : Type 0} (P : X → Type 0) (xs : List X) → AllByRecursion P xs → (k : ℕ) (x : X) → slice_get xs k ≡ Some x → P x
each_at P [] all k x h = let wrong : None ≡ Some x = h in absurd cc
each_at P (y ∷ ys) all zero x h = let same : y ≡ x = cc in subst P same all.0
each_at P (y ∷ ys) all (suc k) x h = each_at P ys all.1 k x h

section_within : (text : List ℕ) (names : List (List ℕ)) (s : Section) → AllByRecursion (Below (length names)) (calls_in text names s)
section_within text names s = by (is_initial_kind s.kind)
  where
    by : (b : Bool) → AllByRecursion (Below (length names)) (cond b [] (filter_map (call_of text names) s.items))
    by true = tt
    by false = each_found (Below (length names)) (call_of text names) (site_within text names) s.items

pub sites_within : (text : List ℕ) (names : List (List ℕ)) (m : Method) (k : ℕ) (c : CallSite) → slice_get (calls_from text names m) k ≡ Some c → c.method < length names
sites_within text names m = each_at (Below (length names)) (calls_from text names m) (each_spread (Below (length names)) (calls_in text names) (section_within text names) m.sections)

-- a method of a file, by its row in the graph
pub record Row (text : List ℕ) (names : List (List ℕ)) (parts : List Part) (i : ℕ) : Type 0 where
  pub method : Method
  pub at : slice_get (methods_of parts) i ≡ Some method
  pub row : get_or (graph_of text names parts) i [] ≡ callees_of text names method

row_of : {X Y : Type 0} (f : X → List Y) (xs : List X) (i : ℕ) → i < length (map f xs) → (x : X) × (slice_get xs i ≡ Some x) × (get_or (map f xs) i [] ≡ f x)
row_of f [] i lt = absurd (omega arith)
row_of f (x ∷ xs) zero lt = (x, refl, refl)
row_of f (x ∷ xs) (suc i) lt = row_of f xs i (omega arith)

pub row_at : (text : List ℕ) (names : List (List ℕ)) (parts : List Part) (i : ℕ) → i < length (graph_of text names parts) → Row text names parts i
row_at text names parts i lt = let r = row_of (callees_of text names) (methods_of parts) i lt in record { method = r.0; at = r.1; row = r.2 }

-- the call behind a callee
site_of : (cs : List CallSite) (n j : ℕ) → n < length (map (λ (c : CallSite). c.method) cs) → get_or (map (λ (c : CallSite). c.method) cs) n 0 ≡ j → (c : CallSite) × (slice_get cs n ≡ Some c) × (c.method ≡ j)
site_of [] n j lt e = absurd (omega arith)
site_of (c ∷ cs) zero j lt e = (c, refl, e)
site_of (c ∷ cs) (suc n) j lt e = site_of cs n j (omega arith) e

pub site_at : (text : List ℕ) (names : List (List ℕ)) (m : Method) (j : ℕ) → Has (callees_of text names m) j → (n : ℕ) × (c : CallSite) × (slice_get (calls_from text names m) n ≡ Some c) × (c.method ≡ j)
site_at text names m j has = let s = site_of (calls_from text names m) has.0 j has.1 has.2 in (has.0, s.0, s.1, s.2)

count_methods : (text : List ℕ) (names : List (List ℕ)) (parts : List Part) → names ≡ method_names text parts → length names ≡ length (graph_of text names parts)
count_methods text names parts are = ap length are ∙ length-map (methods_of parts) _ ∙ sym (length-map (methods_of parts) (callees_of text names))

pub calls_within : (text : List ℕ) (names : List (List ℕ)) (parts : List Part) → names ≡ method_names text parts → Within (graph_of text names parts)
calls_within text names parts are i j calls =
    let r = row_at text names parts i calls.0 in
    let s = site_at text names r.method j (subst (λ row. Has row j) r.row calls.1) in
    let lt : s.1.method < length names = sites_within text names r.method s.0 s.1 s.2 in
    subst (λ n. n < length (graph_of text names parts)) s.3 (subst (λ n. s.1.method < n) (count_methods text names parts are) lt)

pub site_inside : (text : List ℕ) (names : List (List ℕ)) (parts : List Part) → names ≡ method_names text parts → (m : Method) (k : ℕ) (c : CallSite) → slice_get (calls_from text names m) k ≡ Some c
    → c.method < length (graph_of text names parts)
site_inside text names parts are m k c at = subst (λ n. c.method < n) (count_methods text names parts are) (sites_within text names m k c at)
