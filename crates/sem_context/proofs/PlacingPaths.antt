-- Where paths are found: after an entry went last, after the last was taken away, and after bits were put.
use Rattle.std.proofs.Common.{◌≡◌, ℕ, zero, suc, ◌<◌, Bool, true, false, cond, List, [], ◌∷◌, ◌++◌, map, length, Option, Some, None, refl, sym, ap, ◌∙◌, ◌+◌, subst, drop, get_or, append_assoc, arith}
use Rattle.std.specs.Prelude.{IsSome, String, is_some, option_map, slice_get, slice_set, string_bytes}
use Rattle.std.specs.List.{IsDistinct, AllByRecursion}
use Rattle.std.specs.Map.{keys_of}
use Rattle.std.specs.Str.{bytes_eq}
use Rattle.std.proofs.lemmas.Bool.{false≢true}
use Rattle.std.proofs.lemmas.List.{drop_more}
use Rattle.std.proofs.lemmas.Slice.Eq.{bytes_eq-Decides}
use Rattle.sem_context.specs.Entries.{Entries, AreDistinct, bits_at, with_bits_at, with_entry}
use Rattle.sem_context.specs.Placing.{ArePlaced, place_of, shown}
use Rattle.sem_context.proofs.EntriesOverrides.{bytes_eq-sym, with_entry-absent, with_entry-distinct, absent_before}
use Rattle.sem_context.proofs.EntriesInOrder.{keys-set}

-- a path that stands at a place is found there
pub placed_at : (es : Entries) (i : ℕ) (path : List ℕ) → AreDistinct es → slice_get (keys_of es) i ≡ Some path → place_of es path ≡ Some i
unfolding IsDistinct
placed_at [] i path distinct there = absurd (cc)
placed_at (e ∷ es) zero path distinct there =
    let same : e.0 ≡ path = cc in
    ap (λ b. cond b (Some 0) (option_map suc (place_of es path))) ((bytes_eq-Decides path e.0).1 (sym same))
placed_at (e ∷ es) (suc i) path distinct there =
    ap (λ b. cond b (Some 0) (option_map suc (place_of es path))) (bytes_eq-sym path e.0 ∙ apart (keys_of es) i distinct.0 there)
    ∙ ap (option_map suc) (placed_at es i path distinct.1 there)
  where
    apart : (ks : List (List ℕ)) (j : ℕ) → AllByRecursion (λ y. bytes_eq e.0 y ≡ false) ks → slice_get ks j ≡ Some path → bytes_eq e.0 path ≡ false
    apart [] j h at = absurd (cc)
    apart (k ∷ ks) zero h at = let same : k ≡ path = cc in subst (λ z. bytes_eq e.0 z ≡ false) same h.0
    apart (k ∷ ks) (suc j) h at = apart ks j h.1 at

-- a path is found where it stands, with its bits
pub found_at : (es : Entries) (path : List ℕ) (i : ℕ) → place_of es path ≡ Some i → (bits : List Bool) × (slice_get es i ≡ Some (path, bits)) × (bits_at es path ≡ Some bits)
found_at [] path i is = absurd (cc)
found_at (e ∷ es) path i is = by (found_at es path) (bytes_eq path e.0) refl is
  where
    Rest : Type 0
    Rest = (j : ℕ) → place_of es path ≡ Some j → (bits : List Bool) × (slice_get es j ≡ Some (path, bits)) × (bits_at es path ≡ Some bits)

    later : Rest → (o : Option ℕ) → place_of es path ≡ o → option_map suc o ≡ Some i → (bits : List Bool) × (slice_get (e ∷ es) i ≡ Some (path, bits)) × (bits_at es path ≡ Some bits)
    later rest None is2 h = absurd (cc)
    later rest (Some j) is2 h =
        let at : suc j ≡ i = cc in
        let f = rest j is2 in (f.0, subst (λ k. slice_get (e ∷ es) k ≡ Some (path, f.0)) at f.1, f.2)

    by : Rest → (b : Bool) → bytes_eq path e.0 ≡ b → cond b (Some 0) (option_map suc (place_of es path)) ≡ Some i
        → (bits : List Bool) × (slice_get (e ∷ es) i ≡ Some (path, bits)) × (cond b (Some e.1) (bits_at es path) ≡ Some bits)
    by rest true same h =
        let at : 0 ≡ i = cc in
        let key : path ≡ e.0 = (bytes_eq-Decides path e.0).0 same in
        (e.1, subst (λ k. slice_get (e ∷ es) k ≡ Some (path, e.1)) at (ap (λ k. Some (k, e.1)) (sym key)), refl)
    by rest false other h = later rest (place_of es path) refl h

-- and one that isn't found has none
pub not_found : (es : Entries) (path : List ℕ) → place_of es path ≡ None → bits_at es path ≡ None
not_found [] path is = refl
not_found (e ∷ es) path is = by (bytes_eq path e.0) (not_found es path) is
  where
    none : (o : Option ℕ) → option_map suc o ≡ None → o ≡ None
    none None h = refl
    none (Some j) h = absurd (cc)

    by : (b : Bool) → (place_of es path ≡ None → bits_at es path ≡ None) → cond b (Some 0) (option_map suc (place_of es path)) ≡ None → cond b (Some e.1) (bits_at es path) ≡ None
    by true rest h = absurd (cc)
    by false rest h = rest (none (place_of es path) h)

pub place_none : (es : Entries) (path : List ℕ) → bits_at es path ≡ None → place_of es path ≡ None
place_none es path h = by (place_of es path) refl
  where
    by : (o : Option ℕ) → place_of es path ≡ o → o ≡ None
    by None is = refl
    by (Some i) is = let f = found_at es path i is in absurd (cc (h, f.2))

-- where paths are found after a new one went last
pub place-push : (es : Entries) (path : List ℕ) (bits : List Bool) (q : List ℕ) → bits_at es path ≡ None → place_of (es ++ (path, bits) ∷ []) q ≡ cond (bytes_eq path q) (Some (length es)) (place_of es q)
place-push [] path bits q h = ap (λ b. cond b (Some 0) None) (bytes_eq-sym q path)
place-push (e ∷ es) path bits q h = by (place-push es path bits q) (bytes_eq path e.0) refl h
  where
    spread : (b : Bool) (o : Option ℕ) → option_map suc (cond b (Some (length es)) o) ≡ cond b (Some (suc (length es))) (option_map suc o)
    spread true o = refl
    spread false o = refl

    other : (b d : Bool) (x y : Option ℕ) → (d ≡ true → b ≡ false) → cond d x (cond b y (option_map suc (place_of es q))) ≡ cond b y (cond d x (option_map suc (place_of es q)))
    other true true x y k = absurd (false≢true (sym (k refl)))
    other true false x y k = refl
    other false d x y k = refl

    by : (bits_at es path ≡ None → place_of (es ++ (path, bits) ∷ []) q ≡ cond (bytes_eq path q) (Some (length es)) (place_of es q)) → (b : Bool) → bytes_eq path e.0 ≡ b → cond b (Some e.1) (bits_at es path) ≡ None
        → cond (bytes_eq q e.0) (Some 0) (option_map suc (place_of (es ++ (path, bits) ∷ []) q)) ≡ cond (bytes_eq path q) (Some (suc (length es))) (cond (bytes_eq q e.0) (Some 0) (option_map suc (place_of es q)))
    by rest true is n = absurd (cc)
    by rest false is n =
        ap (λ o. cond (bytes_eq q e.0) (Some 0) (option_map suc o)) (rest n)
        ∙ ap (cond (bytes_eq q e.0) (Some 0)) (spread (bytes_eq path q) (place_of es q))
        ∙ other (bytes_eq path q) (bytes_eq q e.0) (Some 0) (Some (suc (length es))) (λ d. ap (bytes_eq path) ((bytes_eq-Decides q e.0).0 d) ∙ is)

pub placed_none : (find : List ℕ → Option ℕ) → ((path : List ℕ) → find path ≡ None) → ArePlaced [] find
unfolding IsDistinct
placed_none find none = record { distinct = tt; finds = none }

pub placed_push : (es : Entries) (path : List ℕ) (bits : List Bool) (old new : List ℕ → Option ℕ) → ArePlaced es old → bits_at es path ≡ None
    → ((q : List ℕ) → new q ≡ cond (bytes_eq path q) (Some (length es)) (old q)) → ArePlaced (es ++ (path, bits) ∷ []) new
placed_push es path bits old new p h is = record {
  distinct = subst AreDistinct (with_entry-absent es path bits h) (with_entry-distinct es path bits p.distinct);
  finds = λ q. is q ∙ ap (cond (bytes_eq path q) (Some (length es))) (p.finds q) ∙ sym (place-push es path bits q h);
}

first_distinct : (es others : Entries) → AreDistinct (es ++ others) → AreDistinct es
unfolding IsDistinct
first_distinct [] others h = tt
first_distinct (e ∷ es) others h = (apart es h.0, first_distinct es others h.1)
  where
    apart : (xs : Entries) → AllByRecursion (λ y. bytes_eq e.0 y ≡ false) (keys_of (xs ++ others)) → AllByRecursion (λ y. bytes_eq e.0 y ≡ false) (keys_of xs)
    apart [] k = tt
    apart (x ∷ xs) k = (k.0, apart xs k.1)

-- after the last was taken away
pub placed_pop : (es : Entries) (path : List ℕ) (bits : List Bool) (old new : List ℕ → Option ℕ) → ArePlaced (es ++ (path, bits) ∷ []) old
    → ((q : List ℕ) → new q ≡ cond (bytes_eq path q) None (old q)) → ArePlaced es new
placed_pop es path bits old new p is = record {
  distinct = first_distinct es ((path, bits) ∷ []) p.distinct;
  finds = λ q. is q ∙ ap (cond (bytes_eq path q) None) (p.finds q ∙ place-push es path bits q none) ∙ by q (bytes_eq path q) refl;
}
  where
    none : bits_at es path ≡ None
    none = absent_before es path bits [] p.distinct

    by : (q : List ℕ) (b : Bool) → bytes_eq path q ≡ b → cond b None (cond b (Some (length es)) (place_of es q)) ≡ place_of es q
    by q true is2 = sym (subst (λ z. place_of es z ≡ None) ((bytes_eq-Decides path q).0 is2) (place_none es path none))
    by q false is2 = refl

place-set : (es : Entries) (i : ℕ) (bits : List Bool) (q : List ℕ) → place_of (with_bits_at es i bits) q ≡ place_of es q
place-set [] i bits q = refl
place-set (e ∷ es) zero bits q = refl
place-set (e ∷ es) (suc i) bits q = ap (λ o. cond (bytes_eq q e.0) (Some 0) (option_map suc o)) (place-set es i bits q)

-- after bits were put at a place
pub placed_set : (es : Entries) (i : ℕ) (bits : List Bool) (find : List ℕ → Option ℕ) → ArePlaced es find → ArePlaced (with_bits_at es i bits) find
placed_set es i bits find p = record {
  distinct = subst (IsDistinct bytes_eq) (sym (keys-set es i bits)) p.distinct;
  finds = λ q. p.finds q ∙ sym (place-set es i bits q);
}

-- what is shown then of the entries as they are kept
pub shown-set : {Z : Type 0} (es : List (String Z × List Bool)) (i : ℕ) (e : String Z × List Bool) (bits : List Bool) → slice_get es i ≡ Some e → shown (slice_set es i (e.0, bits)) ≡ with_bits_at (shown es) i bits
shown-set [] i e bits is = absurd (cc)
shown-set (x ∷ xs) zero e bits is = let same : x ≡ e = cc in ap (λ z. (string_bytes z.0, bits) ∷ shown xs) (sym same)
shown-set (x ∷ xs) (suc i) e bits is = ap (λ r. (string_bytes x.0, x.1) ∷ r) (shown-set xs i e bits is)

-- the path of an entry
pub shown-path : {Z : Type 0} (es : List (String Z × List Bool)) (i : ℕ) → slice_get (keys_of (shown es)) i ≡ option_map (λ e. string_bytes e.0) (slice_get es i)
shown-path [] i = refl
shown-path (x ∷ xs) zero = refl
shown-path (x ∷ xs) (suc i) = shown-path xs i

-- its bits
pub shown-bits : {Z : Type 0} (es : List (String Z × List Bool)) (i : ℕ) → option_map (λ e. e.1) (slice_get (shown es) i) ≡ option_map (λ e. e.1) (slice_get es i)
shown-bits [] i = refl
shown-bits (x ∷ xs) zero = refl
shown-bits (x ∷ xs) (suc i) = shown-bits xs i

-- the bits that are found at the place of a path
pub bits_found : {Z : Type 0} (items : List (String Z × List Bool)) (es : Entries) (path : List ℕ) (i : ℕ) → shown items ≡ es → place_of es path ≡ Some i → bits_at es path ≡ option_map (λ e. e.1) (slice_get items i)
bits_found items es path i is place =
    let f = found_at es path i place in
    f.2 ∙ sym (sym (shown-bits items i) ∙ ap (λ xs. option_map (λ e. e.1) (slice_get xs i)) is ∙ ap (option_map (λ e. e.1)) f.1)

-- a path has bits where it is found
pub as_found : (es : Entries) (path : List ℕ) → is_some (bits_at es path) ≡ is_some (place_of es path)
as_found es path = by (place_of es path) refl
  where
    by : (o : Option ℕ) → place_of es path ≡ o → is_some (bits_at es path) ≡ is_some o
    by None is = ap is_some (not_found es path is)
    by (Some i) is = ap is_some (found_at es path i is).2

pub length-shown : {Z : Type 0} (es : List (String Z × List Bool)) → length (shown es) ≡ length es
length-shown [] = refl
length-shown (e ∷ es) = ap suc (length-shown es)

pub none_found : (o : Option ℕ) → ((i : ℕ) → o ≡ Some i → ⊥) → o ≡ None
none_found None h = refl
none_found (Some i) h = absurd (h i refl)

pub found_path : (es : Entries) (path : List ℕ) (i : ℕ) → place_of es path ≡ Some i → slice_get (keys_of es) i ≡ Some path
found_path es path i is = by (found_at es path i is).0 es i (found_at es path i is).1
  where
    by : (bits : List Bool) (xs : Entries) (j : ℕ) → slice_get xs j ≡ Some (path, bits) → slice_get (keys_of xs) j ≡ Some path
    by bits [] j is2 = absurd (cc)
    by bits (x ∷ xs) zero is2 = let same : x ≡ (path, bits) = cc in ap (λ z. Some z.0) same
    by bits (x ∷ xs) (suc j) is2 = by bits xs j is2

-- a path that stands nowhere is not found
pub nowhere : (es : Entries) (path : List ℕ) → ((i : ℕ) → i < length es → slice_get (keys_of es) i ≡ Some path → ⊥) → place_of es path ≡ None
nowhere es path h = none_found (place_of es path) (λ i is. h i (below es i (found_path es path i is)) (found_path es path i is))
  where
    below : (xs : Entries) (j : ℕ) → slice_get (keys_of xs) j ≡ Some path → j < length xs
    below [] j is = absurd (cc)
    below (x ∷ xs) zero is = omega arith
    below (x ∷ xs) (suc j) is = omega (arith, below xs j is)

-- the next entry of a copy: its path isn't there yet
pub next_absent : {Z : Type 0} (items : List (String Z × List Bool)) (i : ℕ) (d : String Z × List Bool) (done all : Entries) → i < length items → AreDistinct all → done ++ shown (drop i items) ≡ all → bits_at done (string_bytes (get_or items i d).0) ≡ None
next_absent items i d done all inside distinct is =
    let e = get_or items i d in
    let cut : done ++ (string_bytes e.0, e.1) ∷ shown (drop (i + 1) items) ≡ all = ap (λ xs. done ++ shown xs) (sym (drop_more items i d inside)) ∙ is in
    absent_before done (string_bytes e.0) e.1 (shown (drop (i + 1) items)) (subst AreDistinct (sym cut) distinct)

pub next_copied : {Z : Type 0} (items : List (String Z × List Bool)) (i : ℕ) (d : String Z × List Bool) (done new all : Entries) → i < length items → done ++ shown (drop i items) ≡ all
    → new ≡ done ++ (string_bytes (get_or items i d).0, (get_or items i d).1) ∷ [] → new ++ shown (drop (i + 1) items) ≡ all
next_copied items i d done new all inside is put =
    let e = get_or items i d in
    ap (λ xs. xs ++ shown (drop (i + 1) items)) put ∙ append_assoc done ((string_bytes e.0, e.1) ∷ []) (shown (drop (i + 1) items))
    ∙ ap (λ xs. done ++ shown xs) (sym (drop_more items i d inside)) ∙ is
