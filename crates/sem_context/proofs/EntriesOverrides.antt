use Rattle.std.proofs.Common.{◌≡◌, ℕ, zero, suc, Bool, true, false, cond, List, [], ◌∷◌, ◌++◌, ◌||◌, map, Option, Some, None, refl, sym, ap, ◌∙◌, subst, append_assoc}
use Rattle.std.specs.Prelude.{IsSome, reverse, is_some}
use Rattle.std.specs.List.{IsDistinct, AllByRecursion, list_any}
use Rattle.std.specs.Map.{lookup, keys_of}
use Rattle.std.specs.Option.{option_or}
use Rattle.std.specs.Str.{bytes_eq}
use Rattle.std.proofs.lemmas.Cmp.{nat_list_eq_equiv}
use Rattle.std.proofs.lemmas.Bool.{false≢true}
use Rattle.std.proofs.lemmas.Bool.Decides.{same_from_decides}
use Rattle.std.proofs.lemmas.List.{map-append, reverse-append}
use Rattle.std.proofs.lemmas.Map.Keys.{IsDistinct-push}
use Rattle.std.proofs.lemmas.Slice.Eq.{bytes_eq-Decides}
use Rattle.sem_context.specs.Entries.{Entries, bits_at, AreDistinct, with_entry, overridden}

pub bytes_eq-sym : (x y : List ℕ) → bytes_eq x y ≡ bytes_eq y x
bytes_eq-sym x y =
    let d = bytes_eq-Decides y x in
    same_from_decides (bytes_eq x y) (bytes_eq y x) (bytes_eq-Decides x y) ((λ t. sym (d.0 t)), (λ e. d.1 (sym e)))

-- a new path goes last
pub with_entry-absent : (es : Entries) (path : List ℕ) (bits : List Bool) → bits_at es path ≡ None → with_entry es path bits ≡ es ++ (path, bits) ∷ []
with_entry-absent [] path bits h = refl
with_entry-absent (e ∷ es) path bits h = by (bytes_eq path e.0) (with_entry-absent es path bits) h
  where
    by : (b : Bool) → (bits_at es path ≡ None → with_entry es path bits ≡ es ++ (path, bits) ∷ []) → cond b (Some e.1) (bits_at es path) ≡ None
        → cond b ((e.0, bits) ∷ es) (e ∷ with_entry es path bits) ≡ e ∷ (es ++ (path, bits) ∷ [])
    by true rest n = absurd (cc)
    by false rest n = ap (λ r. e ∷ r) (rest n)

-- and one that is there keeps its place
pub with_entry-present : (es : Entries) (path : List ℕ) (bits : List Bool) → IsSome (bits_at es path) → keys_of (with_entry es path bits) ≡ keys_of es
with_entry-present [] path bits h = absurd (false≢true h)
with_entry-present (e ∷ es) path bits h = by (bytes_eq path e.0) (with_entry-present es path bits) h
  where
    by : (b : Bool) → (IsSome (bits_at es path) → keys_of (with_entry es path bits) ≡ keys_of es) → IsSome (cond b (Some e.1) (bits_at es path))
        → keys_of (cond b ((e.0, bits) ∷ es) (e ∷ with_entry es path bits)) ≡ e.0 ∷ keys_of es
    by true rest n = refl
    by false rest n = ap (λ r. e.0 ∷ r) (rest n)

-- what there is at each path then
pub bits_at-with_entry : (es : Entries) (path : List ℕ) (bits : List Bool) (q : List ℕ) → bits_at (with_entry es path bits) q ≡ cond (bytes_eq path q) (Some bits) (bits_at es q)
bits_at-with_entry [] path bits q = ap (λ b. cond b (Some bits) None) (bytes_eq-sym q path)
bits_at-with_entry (e ∷ es) path bits q = by (bytes_eq path e.0) refl (bits_at-with_entry es path bits q)
  where
    other : (b d : Bool) → (d ≡ true → b ≡ false) → cond d (Some e.1) (cond b (Some bits) (bits_at es q)) ≡ cond b (Some bits) (cond d (Some e.1) (bits_at es q))
    other true true h = absurd (false≢true (sym (h refl)))
    other true false h = refl
    other false d h = refl

    by : (b : Bool) → bytes_eq path e.0 ≡ b → bits_at (with_entry es path bits) q ≡ cond (bytes_eq path q) (Some bits) (bits_at es q)
        → bits_at (cond b ((e.0, bits) ∷ es) (e ∷ with_entry es path bits)) q ≡ cond (bytes_eq path q) (Some bits) (cond (bytes_eq q e.0) (Some e.1) (bits_at es q))
    by true is rest =
        let same : path ≡ e.0 = (bytes_eq-Decides path e.0).0 is in
        let turned : bytes_eq q e.0 ≡ bytes_eq path q = ap (bytes_eq q) (sym same) ∙ bytes_eq-sym q path in
        ap (λ b. cond b (Some bits) (bits_at es q)) turned ∙ drop_inner (bytes_eq path q) ∙ ap (λ d. cond (bytes_eq path q) (Some bits) (cond d (Some e.1) (bits_at es q))) (sym turned)
      where
        drop_inner : (b : Bool) → cond b (Some bits) (bits_at es q) ≡ cond b (Some bits) (cond b (Some e.1) (bits_at es q))
        drop_inner true = refl
        drop_inner false = refl
    by false is rest =
        ap (λ o. cond (bytes_eq q e.0) (Some e.1) o) rest
        ∙ other (bytes_eq path q) (bytes_eq q e.0) (λ d.
        let same : q ≡ e.0 = (bytes_eq-Decides q e.0).0 d in ap (bytes_eq path) same ∙ is)

absent_any : (es : Entries) (path : List ℕ) → bits_at es path ≡ None → list_any (bytes_eq path) (keys_of es) ≡ false
absent_any [] path h = refl
absent_any (e ∷ es) path h = by (bytes_eq path e.0) (absent_any es path) h
  where
    by : (b : Bool) → (bits_at es path ≡ None → list_any (bytes_eq path) (keys_of es) ≡ false) → cond b (Some e.1) (bits_at es path) ≡ None
        → (b || list_any (bytes_eq path) (keys_of es)) ≡ false
    by true rest n = absurd (cc)
    by false rest n = rest n

-- distinct paths stay so
pub with_entry-distinct : (es : Entries) (path : List ℕ) (bits : List Bool) → AreDistinct es → AreDistinct (with_entry es path bits)
with_entry-distinct es path bits h = by (bits_at es path) refl
  where
    by : (o : Option (List Bool)) → bits_at es path ≡ o → AreDistinct (with_entry es path bits)
    by None n =
        let keys : keys_of (with_entry es path bits) ≡ keys_of es ++ path ∷ [] = ap keys_of (with_entry-absent es path bits n) ∙ map-append (λ e. e.0) es ((path, bits) ∷ []) in
        subst (IsDistinct bytes_eq) (sym keys) (IsDistinct-push nat_list_eq_equiv (keys_of es) path h (absent_any es path n))
    by (Some b) n = subst (IsDistinct bytes_eq) (sym (with_entry-present es path bits (ap is_some n))) h

pub overridden-distinct : (es others : Entries) → AreDistinct es → AreDistinct (overridden es others)
overridden-distinct es [] h = h
overridden-distinct es (o ∷ os) h = overridden-distinct (with_entry es o.0 o.1) os (with_entry-distinct es o.0 o.1 h)

-- the entries before one of distinct paths have another path each
pub absent_before : (old : Entries) (path : List ℕ) (bits : List Bool) (rest : Entries) → AreDistinct (old ++ (path, bits) ∷ rest) → bits_at old path ≡ None
unfolding IsDistinct
absent_before [] path bits rest h = refl
absent_before (e ∷ es) path bits rest h =
    let apart : bytes_eq path e.0 ≡ false = bytes_eq-sym path e.0 ∙ apart_at es h.0 in
    ap (λ b. cond b (Some e.1) (bits_at es path)) apart ∙ absent_before es path bits rest h.1
  where
    apart_at : (xs : Entries) → AllByRecursion (λ y. bytes_eq e.0 y ≡ false) (keys_of (xs ++ (path, bits) ∷ rest)) → bytes_eq e.0 path ≡ false
    apart_at [] k = k.0
    apart_at (x ∷ xs) k = apart_at xs k.1

-- one more entry of a copy
pub copy_more : (old rest all : Entries) (path : List ℕ) (bits : List Bool) → AreDistinct all → old ++ (path, bits) ∷ rest ≡ all → with_entry old path bits ++ rest ≡ all
copy_more old rest all path bits h is =
    let none = absent_before old path bits rest (subst AreDistinct (sym is) h) in
    ap (λ es. es ++ rest) (with_entry-absent old path bits none) ∙ append_assoc old ((path, bits) ∷ []) rest ∙ is

-- of two entries for one path the later counts
bits_at-append : (xs ys : Entries) (q : List ℕ) → bits_at (xs ++ ys) q ≡ option_or (bits_at xs q) (bits_at ys q)
bits_at-append [] ys q = refl
bits_at-append (x ∷ xs) ys q = by (bytes_eq q x.0) (bits_at-append xs ys q)
  where
    by : (b : Bool) → bits_at (xs ++ ys) q ≡ option_or (bits_at xs q) (bits_at ys q) → cond b (Some x.1) (bits_at (xs ++ ys) q) ≡ option_or (cond b (Some x.1) (bits_at xs q)) (bits_at ys q)
    by true rest = refl
    by false rest = rest

pub overridden-value : (es others : Entries) (q : List ℕ) → bits_at (overridden es others) q ≡ option_or (bits_at (reverse others) q) (bits_at es q)
overridden-value es [] q = refl
overridden-value es (o ∷ os) q =
    overridden-value (with_entry es o.0 o.1) os q
    ∙ ap (λ v. option_or (bits_at (reverse os) q) v) (bits_at-with_entry es o.0 o.1 q ∙ ap (λ b. cond b (Some o.1) (bits_at es q)) (bytes_eq-sym o.0 q))
    ∙ last_one (bits_at (reverse os) q) (bytes_eq q o.0)
    ∙ ap (λ v. option_or v (bits_at es q)) (sym (ap (λ l. bits_at l q) (reverse-append (o ∷ []) os) ∙ bits_at-append (reverse os) (o ∷ []) q))
  where
    last_one : (v : Option (List Bool)) (b : Bool) → option_or v (cond b (Some o.1) (bits_at es q)) ≡ option_or (option_or v (cond b (Some o.1) None)) (bits_at es q)
    last_one (Some x) b = refl
    last_one None true = refl
    last_one None false = refl
