-- Mentions by their names, and lists that have each name once.
use Rattle.std.proofs.Common.{◌≡◌, ◌∙◌, ap, ℕ, suc, zero, ◌<◌, ◌⊎◌, inl, inr, Bool, true, false, cond, List, [], ◌∷◌, ◌++◌, ◌||◌, take, fold, length, get_or, refl, sym, subst, arith}
use Rattle.std.specs.Prelude.{Option, Some, None, is_some, filter, slice_get, position, unwrap_or, option_and_then}
use Rattle.std.specs.List.{list_any, IsDistinct}
use Rattle.std.specs.Option.{option_or, option_map}
use Rattle.std.specs.Str.{bytes_eq}
use Rattle.std.proofs.lemmas.Bool.{cases_order}
use Rattle.std.proofs.lemmas.Cmp.{nat_list_eq_equiv}
use Rattle.std.proofs.lemmas.List.{map-append}
use Rattle.std.proofs.lemmas.List.Folds.{find-append}
use Rattle.std.proofs.lemmas.Map.Keys.{IsDistinct-push, apart_from_distinct}
use Rattle.std.proofs.lemmas.Option.{slice_get_within, slice_get-map, get_or_from_slice_get}
use Rattle.std.proofs.lemmas.Slice.Eq.{bytes_eq-Decides}
use Rattle.sem_profile.specs.declared.fault.ProfileFault.{ProfileFault}
use Rattle.sem_profile.specs.Words.{word}
use Rattle.text_sections.specs.declared.mention.Mention.{Mention}
use Rattle.text_sections.specs.Causes.{IsSecond, is_second, second_statement}
use Rattle.text_sections.specs.Fields.{place}
use Rattle.text_sections.specs.Mentions.{first_of, firsts, names_of}
use Rattle.text_sections.proofs.Tabled.{looked_up}
use Rattle.sem_graph.proofs.OrderPushing.{some_is}

-- ---- elements of lists

pub nothing : {X : Type 0} (o : Option X) → o ≡ None → is_some o ≡ true → ⊥
nothing (Some x) e there = let wrong : Some x ≡ None = e in absurd cc
nothing None e there = absurd cc

pub get_split : {X : Type 0} (xs ys : List X) (k : ℕ) (x : X) → slice_get (xs ++ ys) k ≡ Some x → (slice_get xs k ≡ Some x) ⊎ (j : ℕ) × (slice_get ys j ≡ Some x)
get_split [] ys k x at = inr (k, at)
get_split (z ∷ xs) ys zero x at = inl at
get_split (z ∷ xs) ys (suc k) x at = get_split xs ys k x at

pub get_left : {X : Type 0} (xs ys : List X) (k : ℕ) (x : X) → slice_get xs k ≡ Some x → slice_get (xs ++ ys) k ≡ Some x
get_left [] ys k x at = let wrong : None ≡ Some x = at in absurd cc
get_left (z ∷ xs) ys zero x at = at
get_left (z ∷ xs) ys (suc k) x at = get_left xs ys k x at

pub get_right : {X : Type 0} (xs ys : List X) (k : ℕ) (x : X) → slice_get ys k ≡ Some x → (j : ℕ) × (slice_get (xs ++ ys) j ≡ Some x)
get_right [] ys k x at = (k, at)
get_right (z ∷ xs) ys k x at = let there = get_right xs ys k x at in (suc there.0, there.1)

in_take : {X : Type 0} (xs : List X) (n m : ℕ) (x : X) → n < m → slice_get xs n ≡ Some x → slice_get (take m xs) n ≡ Some x
in_take [] n m x lt at = let wrong : None ≡ Some x = at in absurd cc
in_take (y ∷ ys) n zero x lt at = absurd (omega arith)
in_take (y ∷ ys) zero (suc m) x lt at = at
in_take (y ∷ ys) (suc n) (suc m) x lt at = in_take ys n m x (omega arith) at

-- what passes a filter, and what it kept
pub from_filter : {X : Type 0} (p : X → Bool) (xs : List X) (k : ℕ) (x : X) → slice_get (filter p xs) k ≡ Some x → (j : ℕ) × (slice_get xs j ≡ Some x) × (p x ≡ true)
from_filter p [] k x at = let wrong : None ≡ Some x = at in absurd cc
from_filter p (y ∷ ys) k x at = by (p y) refl k at (λ k at. from_filter p ys k x at)
  where
    by : (b : Bool) → p y ≡ b → (k : ℕ) → slice_get (cond b (y ∷ filter p ys) (filter p ys)) k ≡ Some x
        → ((k : ℕ) → slice_get (filter p ys) k ≡ Some x → (j : ℕ) × (slice_get ys j ≡ Some x) × (p x ≡ true)) → (j : ℕ) × (slice_get (y ∷ ys) j ≡ Some x) × (p x ≡ true)
    by true e zero at more = (0, at, ap p (sym (some_is at)) ∙ e)
    by true e (suc k) at more = let rest = more k at in (suc rest.0, rest.1, rest.2)
    by false e k at more = let rest = more k at in (suc rest.0, rest.1, rest.2)

pub into_filter : {X : Type 0} (p : X → Bool) (xs : List X) (k : ℕ) (x : X) → slice_get xs k ≡ Some x → p x ≡ true → (j : ℕ) × (slice_get (filter p xs) j ≡ Some x)
into_filter p [] k x at passes = let wrong : None ≡ Some x = at in absurd cc
into_filter p (y ∷ ys) zero x at passes = by (p y) refl
  where
    by : (b : Bool) → p y ≡ b → (j : ℕ) × (slice_get (cond b (y ∷ filter p ys) (filter p ys)) j ≡ Some x)
    by true e = (0, at)
    by false e = let wrong : false ≡ true = sym e ∙ (ap p (some_is at) ∙ passes) in absurd cc
into_filter p (y ∷ ys) (suc k) x at passes = by (p y) (into_filter p ys k x at passes)
  where
    by : (b : Bool) → (j : ℕ) × (slice_get (filter p ys) j ≡ Some x) → (j : ℕ) × (slice_get (cond b (y ∷ filter p ys) (filter p ys)) j ≡ Some x)
    by true rest = (suc rest.0, rest.1)
    by false rest = rest

-- ---- the first mention of a name

pub record IsFound (text : List ℕ) (mentions : List Mention) (name : List ℕ) (m : Mention) : Type 0 where
  pub place : ℕ
  pub at : slice_get mentions place ≡ Some m
  pub named : name ≡ word text m.name

pub found : (text : List ℕ) (mentions : List Mention) (name : List ℕ) (m : Mention) → first_of text mentions name ≡ Some m → IsFound text mentions name m
found text [] name m e = let wrong : None ≡ Some m = e in absurd cc
found text (x ∷ xs) name m e = by (bytes_eq name (word text x.name)) refl e (λ e. found text xs name m e)
  where
    by : (b : Bool) → bytes_eq name (word text x.name) ≡ b → cond b (Some x) (first_of text xs name) ≡ Some m → (first_of text xs name ≡ Some m → IsFound text xs name m) → IsFound text (x ∷ xs) name m
    by true same e more = record { place = 0; at = e; named = (bytes_eq-Decides name (word text x.name)).0 same ∙ ap (λ (t : Mention). word text t.name) (some_is e) }
    by false other e more = let rest = more e in record { place = suc rest.place; at = rest.at; named = rest.named }

pub is_found : (text : List ℕ) (mentions : List Mention) (k : ℕ) (m : Mention) → slice_get mentions k ≡ Some m → is_some (first_of text mentions (word text m.name)) ≡ true
is_found text [] k m at = let wrong : None ≡ Some m = at in absurd cc
is_found text (x ∷ xs) zero m at =
    ap (λ b. is_some (cond b (Some x) (first_of text xs (word text m.name)))) ((bytes_eq-Decides (word text m.name) (word text x.name)).1 (ap (λ (t : Mention). word text t.name) (sym (some_is at))))
is_found text (x ∷ xs) (suc k) m at = by (bytes_eq (word text m.name) (word text x.name)) (is_found text xs k m at)
  where
    by : (b : Bool) → is_some (first_of text xs (word text m.name)) ≡ true → is_some (cond b (Some x) (first_of text xs (word text m.name))) ≡ true
    by true more = refl
    by false more = more

-- a mention of the name is there
pub is_there : (text : List ℕ) (mentions : List Mention) (name : List ℕ) (k : ℕ) (m : Mention) → slice_get mentions k ≡ Some m → word text m.name ≡ name → is_some (first_of text mentions name) ≡ true
is_there text mentions name k m at named = subst (λ n. is_some (first_of text mentions n) ≡ true) named (is_found text mentions k m at)

pub some_of : {X : Type 0} (o : Option X) → is_some o ≡ true → (x : X) × (o ≡ Some x)
some_of (Some x) e = (x, refl)
some_of None e = absurd cc

-- ---- each name once, where none is a second one

twice : (text : List ℕ) (mentions : List Mention) (n m : ℕ) (s t : Mention) → n < m → slice_get mentions n ≡ Some s → slice_get mentions m ≡ Some t → word text s.name ≡ word text t.name
    → ((f : ProfileFault) → IsSecond text mentions f → ⊥) → ⊥
twice text mentions n m s t lt at_s at_t same none = by (first_of text (take m mentions) (word text t.name)) refl
  where
    by : (o : Option Mention) → first_of text (take m mentions) (word text t.name) ≡ o → ⊥
    by (Some r) e = none (second_statement r t) (is_second m at_t e)
    by None e = nothing _ e (is_there text (take m mentions) (word text t.name) n s (in_take mentions n m s lt at_s) same)

pub each_once : (text : List ℕ) (mentions : List Mention) → ((f : ProfileFault) → IsSecond text mentions f → ⊥) → (n m : ℕ) (s t : Mention) → slice_get mentions n ≡ Some s → slice_get mentions m ≡ Some t
    → word text s.name ≡ word text t.name → n ≡ m
each_once text mentions none n m s t at_s at_t same = elim (cases_order n m) as (λ _. n ≡ m) [
  | inl e ↦ e
  | inr other ↦ elim other as (λ _. n ≡ m) [ inl less ↦ absurd (twice text mentions n m s t less at_s at_t same none) | inr more ↦ absurd (twice text mentions m n t s more at_t at_s (sym same) none) ]
]

-- ---- each name once in a list of distinct ones

differ : (names : List (List ℕ)) (i j : ℕ) (a : List ℕ) → IsDistinct bytes_eq names → i < j → slice_get names i ≡ Some a → slice_get names j ≡ Some a → ⊥
differ names i j a distinct lt at_i at_j =
    let apart = apart_from_distinct bytes_eq names i j [] distinct lt (slice_get_within names j a at_j) in
    let first = get_or_from_slice_get names i a [] at_i in
    let second = get_or_from_slice_get names j a [] at_j in
    let same : bytes_eq (get_or names i []) (get_or names j []) ≡ true = (bytes_eq-Decides (get_or names i []) (get_or names j [])).1 (first ∙ sym second) in
    let wrong : true ≡ false = sym same ∙ apart in
    absurd cc

pub once_distinct : (names : List (List ℕ)) (i j : ℕ) (a : List ℕ) → IsDistinct bytes_eq names → slice_get names i ≡ Some a → slice_get names j ≡ Some a → i ≡ j
once_distinct names i j a distinct at_i at_j = elim (cases_order i j) as (λ _. i ≡ j) [
  | inl e ↦ e
  | inr other ↦ elim other as (λ _. i ≡ j) [ inl less ↦ absurd (differ names i j a distinct less at_i at_j) | inr more ↦ absurd (differ names j i a distinct more at_j at_i) ]
]

-- ---- the first mentions of a list

abbrev pub step : List ℕ → List Mention → Mention → List Mention
step text kept m = cond (is_some (first_of text kept (word text m.name))) kept (kept ++ m ∷ [])

or_none : {X : Type 0} (o : Option X) → option_or o None ≡ o
or_none None = refl
or_none (Some x) = refl

or_some : {X : Type 0} (o p q : Option X) → is_some o ≡ true → option_or o p ≡ option_or o q
or_some (Some x) p q e = refl
or_some None p q e = absurd cc

or_cond : {X : Type 0} (o p : Option X) (x : X) (b : Bool) → option_or (option_or o (cond b (Some x) None)) p ≡ option_or o (cond b (Some x) p)
or_cond (Some y) p x b = refl
or_cond None p x true = refl
or_cond None p x false = refl

step_finds : (text : List ℕ) (kept ms : List Mention) (m : Mention) (name : List ℕ)
    → option_or (first_of text (step text kept m) name) (first_of text ms name) ≡ option_or (first_of text kept name) (first_of text (m ∷ ms) name)
step_finds text kept ms m name = by (is_some (first_of text kept (word text m.name))) refl
  where
    known : (b : Bool) → bytes_eq name (word text m.name) ≡ b → is_some (first_of text kept (word text m.name)) ≡ true
        → option_or (first_of text kept name) (first_of text ms name) ≡ option_or (first_of text kept name) (cond b (Some m) (first_of text ms name))
    known true same e = or_some (first_of text kept name) _ _ (subst (λ n. is_some (first_of text kept n) ≡ true) (sym ((bytes_eq-Decides name (word text m.name)).0 same)) e)
    known false other e = refl

    by : (b : Bool) → is_some (first_of text kept (word text m.name)) ≡ b
        → option_or (first_of text (cond b kept (kept ++ m ∷ [])) name) (first_of text ms name) ≡ option_or (first_of text kept name) (first_of text (m ∷ ms) name)
    by true e = known (bytes_eq name (word text m.name)) refl e
    by false e =
        ap (λ o. option_or o (first_of text ms name)) (find-append (λ (t : Mention). bytes_eq name (word text t.name)) kept (m ∷ []))
        ∙ or_cond (first_of text kept name) (first_of text ms name) m (bytes_eq name (word text m.name))

fold_finds : (text : List ℕ) (kept ms : List Mention) (name : List ℕ) → first_of text (fold (step text) kept ms) name ≡ option_or (first_of text kept name) (first_of text ms name)
fold_finds text kept [] name = sym (or_none (first_of text kept name))
fold_finds text kept (m ∷ ms) name = fold_finds text (step text kept m) ms name ∙ step_finds text kept ms m name

pub firsts_find : (text : List ℕ) (ms : List Mention) (name : List ℕ) → first_of text (firsts text ms) name ≡ first_of text ms name
firsts_find text ms name = fold_finds text [] ms name

any_by : (text : List ℕ) (x : Mention) (xs : List Mention) (name : List ℕ) (b : Bool) → list_any (bytes_eq name) (names_of text xs) ≡ is_some (first_of text xs name)
    → b || list_any (bytes_eq name) (names_of text xs) ≡ is_some (cond b (Some x) (first_of text xs name))
any_by text x xs name true more = refl
any_by text x xs name false more = more

any_is : (text : List ℕ) (xs : List Mention) (name : List ℕ) → list_any (bytes_eq name) (names_of text xs) ≡ is_some (first_of text xs name)
any_is text [] name = refl
any_is text (x ∷ xs) name = any_by text x xs name (bytes_eq name (word text x.name)) (any_is text xs name)

step_distinct : (text : List ℕ) (kept : List Mention) (m : Mention) → IsDistinct bytes_eq (names_of text kept) → IsDistinct bytes_eq (names_of text (step text kept m))
step_distinct text kept m distinct = by (is_some (first_of text kept (word text m.name))) refl
  where
    by : (b : Bool) → is_some (first_of text kept (word text m.name)) ≡ b → IsDistinct bytes_eq (names_of text (cond b kept (kept ++ m ∷ [])))
    by true e = distinct
    by false e =
        subst (IsDistinct bytes_eq) (sym (map-append (λ (t : Mention). word text t.name) kept (m ∷ [])))
        (IsDistinct-push nat_list_eq_equiv (names_of text kept) (word text m.name) distinct (any_is text kept (word text m.name) ∙ e))

fold_distinct : (text : List ℕ) (kept ms : List Mention) → IsDistinct bytes_eq (names_of text kept) → IsDistinct bytes_eq (names_of text (fold (step text) kept ms))
fold_distinct text kept [] distinct = distinct
fold_distinct text kept (m ∷ ms) distinct = fold_distinct text (step text kept m) ms (step_distinct text kept m distinct)

none_distinct : IsDistinct bytes_eq []
unfolding IsDistinct
none_distinct = tt

pub firsts_once : (text : List ℕ) (ms : List Mention) (i j : ℕ) (s t : Mention) → slice_get (firsts text ms) i ≡ Some s → slice_get (firsts text ms) j ≡ Some t → word text s.name ≡ word text t.name → i ≡ j
firsts_once text ms i j s t at_s at_t same =
    let name = λ (m : Mention). word text m.name in
    once_distinct (names_of text (firsts text ms)) i j (word text s.name) (fold_distinct text [] ms none_distinct)
    (slice_get-map name (firsts text ms) i ∙ ap (option_map name) at_s) (slice_get-map name (firsts text ms) j ∙ (ap (option_map name) at_t ∙ ap Some (sym same)))

-- one of the first mentions is the first of its name
pub first_at : (text : List ℕ) (ms : List Mention) (i : ℕ) (m : Mention) → slice_get (firsts text ms) i ≡ Some m → first_of text ms (word text m.name) ≡ Some m
first_at text ms i m at =
    let known = some_of (first_of text (firsts text ms) (word text m.name)) (is_found text (firsts text ms) i m at) in
    let here = found text (firsts text ms) (word text m.name) known.0 known.1 in
    let same : here.place ≡ i = firsts_once text ms here.place i known.0 m here.at at (sym here.named) in
    let one : known.0 ≡ m = some_is (sym here.at ∙ (ap (slice_get (firsts text ms)) same ∙ at)) in
    sym (firsts_find text ms (word text m.name)) ∙ (known.1 ∙ ap Some one)

-- the mention at the place of a name that is found
pub placed : (text : List ℕ) (all : List Mention) (t : Mention) → is_some (first_of text all (word text t.name)) ≡ true
    → (m : Mention) × (slice_get all (place text (names_of text all) t) ≡ Some m) × (first_of text all (word text t.name) ≡ Some m)
placed text all t there = by (position (bytes_eq (word text t.name)) (names_of text all)) (looked_up text (word text t.name) all)
  where
    by : (o : Option ℕ) → option_and_then (slice_get all) o ≡ first_of text all (word text t.name)
        → (m : Mention) × (slice_get all (unwrap_or o (length (names_of text all))) ≡ Some m) × (first_of text all (word text t.name) ≡ Some m)
    by (Some i) e = let known = some_of (first_of text all (word text t.name)) there in (known.0, e ∙ known.1, known.1)
    by None e = absurd (nothing _ (sym e) there)
