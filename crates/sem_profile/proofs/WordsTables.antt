-- A table of names, seen as the list of its names.
use Rattle.std.proofs.Common.{suc, arith, length, ◌<◌, ◌≤◌, ◌≡◌, ◌∙◌, ap, ℕ, ◌+◌, Bool, true, false, List, [], ◌∷◌, ◌++◌, ◌||◌, refl, sym, map, cond, Bor, not, nat_lt, Some, None}
use Rattle.std.specs.Prelude.{position, option_map, is_some}
use Rattle.std.specs.List.{list_any, position_or_len}
use Rattle.std.specs.Str.{bytes_eq}
use Rattle.std.proofs.lemmas.List.{append_assoc, map-append, length-map, length-append}
use Rattle.std.proofs.lemmas.List.Folds.{list_any-append}
use Rattle.std.proofs.lemmas.Bool.{ltb-true, ltb-false, lt-ltb, le-ltb}
use Rattle.sem_profile.specs.Words as spec

-- the names that the keys of a table lend
abbrev pub shown : List (Bor (List ℕ)) → List (List ℕ)
shown ks = map (λ k. k.now) ks

place-shown : (q : List ℕ) (ks : List (Bor (List ℕ))) → position_or_len (λ k. bytes_eq q k.now) ks ≡ position_or_len (bytes_eq q) (shown ks)
place-shown q [] = refl
place-shown q (k ∷ ks) = ap (λ n. cond (not (bytes_eq q k.now)) (1 + n) 0) (place-shown q ks)

pub position-shown : (q : List ℕ) (ks : List (Bor (List ℕ))) → position (λ k. bytes_eq q k.now) ks ≡ position (bytes_eq q) (shown ks)
position-shown q ks = λ i. cond (nat_lt (place-shown q ks i) (sym (length-map ks (λ (k : Bor (List ℕ)). k.now)) i)) (Some (place-shown q ks i)) None

pub any-shown : (q : List ℕ) (ks : List (Bor (List ℕ))) → list_any (λ k. bytes_eq q k.now) ks ≡ list_any (bytes_eq q) (shown ks)
any-shown q [] = refl
any-shown q (k ∷ ks) = ap (λ b. bytes_eq q k.now || b) (any-shown q ks)

pub put-shown : (q : Bor (List ℕ)) (ks : List (Bor (List ℕ))) → shown (cond (list_any (λ k. bytes_eq q.now k.now) ks) ks (ks ++ q ∷ [])) ≡ spec.with_word (shown ks) q.now
put-shown q ks = by (list_any (λ k. bytes_eq q.now k.now) ks) (any-shown q.now ks)
  where
    by : (b : Bool) → b ≡ list_any (bytes_eq q.now) (shown ks) → shown (cond b ks (ks ++ q ∷ [])) ≡ spec.with_word (shown ks) q.now
    by true e = λ i. cond (e i) (shown ks) (shown ks ++ q.now ∷ [])
    by false e = map-append _ ks (q ∷ []) ∙ (λ i. cond (e i) (shown ks) (shown ks ++ q.now ∷ []))

-- ---- two lists, one after the other

before-first : {X : Type 0} (p : X → Bool) (xs ys : List X) → position_or_len p xs < length xs → position_or_len p (xs ++ ys) ≡ position_or_len p xs
before-first p [] ys h = absurd (omega (arith, h))
before-first p (x ∷ xs) ys h = by (before-first p xs ys) (p x) h
  where
    by : (position_or_len p xs < length xs → position_or_len p (xs ++ ys) ≡ position_or_len p xs) → (b : Bool) → cond (not b) (1 + position_or_len p xs) 0 < suc (length xs)
        → cond (not b) (1 + position_or_len p (xs ++ ys)) 0 ≡ cond (not b) (1 + position_or_len p xs) 0
    by rest true k = refl
    by rest false k = ap (λ n. 1 + n) (rest (omega (arith, k)))

before-second : {X : Type 0} (p : X → Bool) (xs ys : List X) → length xs ≤ position_or_len p xs → position_or_len p (xs ++ ys) ≡ length xs + position_or_len p ys
before-second p [] ys h = omega arith
before-second p (x ∷ xs) ys h = by (before-second p xs ys) (p x) h
  where
    by : (length xs ≤ position_or_len p xs → position_or_len p (xs ++ ys) ≡ length xs + position_or_len p ys) → (b : Bool) → suc (length xs) ≤ cond (not b) (1 + position_or_len p xs) 0
        → cond (not b) (1 + position_or_len p (xs ++ ys)) 0 ≡ suc (length xs) + position_or_len p ys
    by rest true k = absurd (omega (arith, k))
    by rest false k = let so = rest (omega (arith, k)) in omega (arith, so)

-- the place of the first that passes, where it stands in the first list
pub position-first : {X : Type 0} (p : X → Bool) (xs ys : List X) (i : ℕ) → position p xs ≡ Some i → position p (xs ++ ys) ≡ Some i
position-first p xs ys i = by (nat_lt (position_or_len p xs) (length xs)) refl
  where
    by : (b : Bool) → nat_lt (position_or_len p xs) (length xs) ≡ b → cond b (Some (position_or_len p xs)) None ≡ Some i → position p (xs ++ ys) ≡ Some i
    by true e h =
        let lt = ltb-true (position_or_len p xs) (length xs) e in
        let same = before-first p xs ys lt in
        let size = length-append xs ys in
        (λ j. cond (nat_lt (same j) (length (xs ++ ys))) (Some (same j)) None) ∙ (ap (λ b. cond b (Some (position_or_len p xs)) None) (lt-ltb (position_or_len p xs) (length (xs ++ ys)) (omega (arith, lt, size))) ∙ h)
    by false e h = absurd cc

-- and where none passes there
pub position-second : {X : Type 0} (p : X → Bool) (xs ys : List X) → position p xs ≡ None → position p (xs ++ ys) ≡ option_map (λ j. length xs + j) (position p ys)
position-second p xs ys = by (nat_lt (position_or_len p xs) (length xs)) refl
  where
    at : (c : Bool) → nat_lt (position_or_len p ys) (length ys) ≡ c
        → cond (nat_lt (length xs + position_or_len p ys) (length (xs ++ ys))) (Some (length xs + position_or_len p ys)) None ≡ option_map (λ j. length xs + j) (cond c (Some (position_or_len p ys)) None)
    at true e =
        let lt = ltb-true (position_or_len p ys) (length ys) e in
        let size = length-append xs ys in
        ap (λ b. cond b (Some (length xs + position_or_len p ys)) None) (lt-ltb (length xs + position_or_len p ys) (length (xs ++ ys)) (omega (arith, lt, size)))
    at false e =
        let ge = ltb-false (position_or_len p ys) (length ys) e in
        let size = length-append xs ys in
        ap (λ b. cond b (Some (length xs + position_or_len p ys)) None) (le-ltb (length xs + position_or_len p ys) (length (xs ++ ys)) (omega (arith, ge, size)))

    by : (b : Bool) → nat_lt (position_or_len p xs) (length xs) ≡ b → cond b (Some (position_or_len p xs)) None ≡ None → position p (xs ++ ys) ≡ option_map (λ j. length xs + j) (position p ys)
    by true e h = absurd cc
    by false e h =
        let same = before-second p xs ys (ltb-false (position_or_len p xs) (length xs) e) in
        (λ j. cond (nat_lt (same j) (length (xs ++ ys))) (Some (same j)) None) ∙ at (nat_lt (position_or_len p ys) (length ys)) refl

any-before : {X : Type 0} (p : X → Bool) (xs : List X) → nat_lt (position_or_len p xs) (length xs) ≡ list_any p xs
any-before p [] = refl
any-before p (x ∷ xs) = by (any-before p xs) (p x)
  where
    next : nat_lt (1 + position_or_len p xs) (suc (length xs)) ≡ nat_lt (position_or_len p xs) (length xs)
    next = at (nat_lt (position_or_len p xs) (length xs)) refl
      where
        at : (c : Bool) → nat_lt (position_or_len p xs) (length xs) ≡ c → nat_lt (1 + position_or_len p xs) (suc (length xs)) ≡ c
        at true e = let lt = ltb-true (position_or_len p xs) (length xs) e in lt-ltb (1 + position_or_len p xs) (suc (length xs)) (omega (arith, lt))
        at false e = let ge = ltb-false (position_or_len p xs) (length xs) e in le-ltb (1 + position_or_len p xs) (suc (length xs)) (omega (arith, ge))

    by : nat_lt (position_or_len p xs) (length xs) ≡ list_any p xs → (b : Bool) → nat_lt (cond (not b) (1 + position_or_len p xs) 0) (suc (length xs)) ≡ (b || list_any p xs)
    by rest true = lt-ltb 0 (suc (length xs)) (omega arith)
    by rest false = next ∙ rest

pub any-position : {X : Type 0} (p : X → Bool) (xs : List X) → is_some (position p xs) ≡ list_any p xs
any-position p xs = by (nat_lt (position_or_len p xs) (length xs)) (any-before p xs)
  where
    by : (b : Bool) → b ≡ list_any p xs → is_some (cond b (Some (position_or_len p xs)) None) ≡ list_any p xs
    by true e = e
    by false e = e

-- a name that the first list has, and one that it hasn't
pub put-known : (q : List ℕ) (xs ys : List (List ℕ)) → true ≡ list_any (bytes_eq q) xs → (xs ++ ys ≡ spec.with_word (xs ++ ys) q) × (false ≡ spec.is_new (xs ++ ys) q)
put-known q xs ys is =
    let any = ap (λ b. b || list_any (bytes_eq q) ys) is ∙ sym (list_any-append (bytes_eq q) xs ys) in
    (ap (λ b. cond b (xs ++ ys) ((xs ++ ys) ++ q ∷ [])) any, ap not any)

pub put-after : (q : List ℕ) (xs ys : List (List ℕ)) → false ≡ list_any (bytes_eq q) xs → (xs ++ spec.with_word ys q ≡ spec.with_word (xs ++ ys) q) × (spec.is_new ys q ≡ spec.is_new (xs ++ ys) q)
put-after q xs ys is =
    let any = ap (λ b. b || list_any (bytes_eq q) ys) is ∙ sym (list_any-append (bytes_eq q) xs ys) in
    (by (list_any (bytes_eq q) ys) ∙ ap (λ b. cond b (xs ++ ys) ((xs ++ ys) ++ q ∷ [])) any, ap not any)
  where
    by : (b : Bool) → xs ++ cond b ys (ys ++ q ∷ []) ≡ cond b (xs ++ ys) ((xs ++ ys) ++ q ∷ [])
    by true = refl
    by false = sym (append_assoc xs ys (q ∷ []))
