-- Lists by index.
use Rattle.std.proofs.Common.{◌≡◌, ◌∙◌, ap, sym, refl, ℕ, ◌+◌, ◌<◌, ◌≤◌, List, [], ◌∷◌, ◌++◌, suc, zero, length, get_or, take, arith, length-take, Bool, true, false, cond, nat_eq, eq-eqb}
use Rattle.std.specs.Prelude.{slice_get, Option, Some, None, option_map}
use Rattle.std.proofs.lemmas.Bool.{eqb-true}
use Rattle.std.proofs.lemmas.List.{take_more, take_all, get_or_default}
use Rattle.sem_profile.specs.Passes.{indexed, changed, folded}

pub indexed-length : {A B : Type 0} → (f : ℕ → A → B) (n : ℕ) (xs : List A) → length (indexed f n xs) ≡ length xs
indexed-length f n [] = refl
indexed-length f n (x ∷ xs) = ap suc (indexed-length f (n + 1) xs)

pub indexed-append : {A B : Type 0} → (f : ℕ → A → B) (n : ℕ) (xs : List A) (y : A) → indexed f n (xs ++ y ∷ []) ≡ indexed f n xs ++ f (n + length xs) y ∷ []
indexed-append f n [] y = ap (λ k. f k y ∷ []) (omega arith)
indexed-append f n (x ∷ xs) y =
    ap (λ ys. f n x ∷ ys) (indexed-append f (n + 1) xs y ∙ ap (λ k. indexed f (n + 1) xs ++ f k y ∷ []) (omega arith))

-- one more element, put at the end of what the earlier ones gave
pub indexed-more : {A B : Type 0} → (f : ℕ → A → B) (xs : List A) (i : ℕ) (x : A) (ys : List B) → i < length xs → x ≡ get_or xs i x
    → ys ≡ indexed f 0 (take i xs) → ys ++ f (length ys) x ∷ [] ≡ indexed f 0 (take (i + 1) xs)
indexed-more {A = A} f xs i x ys lt at so =
    let count : length ys ≡ 0 + length (take i xs) = ap length so ∙ indexed-length f 0 (take i xs) ∙ omega arith in
    let taken : take (i + 1) xs ≡ take i xs ++ x ∷ [] = take_more xs i x lt ∙ ap (λ y. take i xs ++ y ∷ []) (sym at) in
    ap (λ zs. zs ++ f (length ys) x ∷ []) so ∙ ap (λ k. indexed f 0 (take i xs) ++ f k x ∷ []) count ∙ sym (indexed-append f 0 (take i xs) x)
    ∙ ap (indexed f 0) (sym taken)

-- a list by index, looked up
pub indexed-at : {A B : Type 0} → (f : ℕ → A → B) (n : ℕ) (xs : List A) (k : ℕ) → slice_get (indexed f n xs) k ≡ option_map (f (n + k)) (slice_get xs k)
indexed-at f n [] k = refl
indexed-at f n (x ∷ xs) zero = ap (λ j. Some (f j x)) (omega arith)
indexed-at f n (x ∷ xs) (suc k) = indexed-at f (n + 1) xs k ∙ ap (λ j. option_map (f j) (slice_get xs k)) (omega arith)

-- two functions that agree at each index give one list
pub indexed-same : {A B : Type 0} → (f g : ℕ → A → B) (n : ℕ) (xs : List A) → ((k : ℕ) (x : A) → slice_get xs k ≡ Some x → f (n + k) x ≡ g (n + k) x)
    → indexed f n xs ≡ indexed g n xs
indexed-same f g n [] same = refl
indexed-same f g n (x ∷ xs) same =
    let here : f n x ≡ g n x = ap (λ k. f k x) (omega arith) ∙ same 0 x refl ∙ ap (λ k. g k x) (omega arith) in
    let rest = indexed-same f g (n + 1) xs (λ k y at. ap (λ j. f j y) (omega arith) ∙ same (suc k) y at ∙ ap (λ j. g j y) (omega arith)) in
    λ i. here i ∷ rest i

pub changed-next : {A : Type 0} → (h : A → A) (x : A) (xs : List A) (k : ℕ) (o : Option A) → changed h (x ∷ xs) (suc k) o ≡ x ∷ changed h xs k o
changed-next h x xs k None = refl
changed-next h x xs k (Some y) = refl

at-zero : (n : ℕ) → nat_eq (n + 0) n ≡ true
at-zero n = eq-eqb (n + 0) n (omega arith)

never : {A : Type 0} → (n m : ℕ) (x y : A) → n < m → cond (nat_eq n m) x y ≡ y
never n m x y lt = by (nat_eq n m) refl
  where
    by : (b : Bool) → nat_eq n m ≡ b → cond b x y ≡ y
    by true e = let same : n ≡ m = eqb-true n m e in absurd (omega arith)
    by false e = refl

pub indexed-changed : {A B : Type 0} → (h : B → B) (f : ℕ → A → B) (n : ℕ) (xs : List A) (k : ℕ)
    → changed h (indexed f n xs) k (slice_get (indexed f n xs) k) ≡ indexed (λ i x. cond (nat_eq (n + k) i) (h (f i x)) (f i x)) n xs
indexed-changed h f n [] k = refl
indexed-changed h f n (x ∷ xs) zero =
    let rest = indexed-same f (λ i y. cond (nat_eq (n + 0) i) (h (f i y)) (f i y)) (n + 1) xs (λ k y at. sym (never (n + 0) (n + 1 + k) (h (f (n + 1 + k) y)) (f (n + 1 + k) y) (omega arith))) in
    λ i. cond (sym (at-zero n) i) (h (f n x)) (f n x) ∷ rest i
indexed-changed h f n (x ∷ xs) (suc k) =
    changed-next h (f n x) (indexed f (n + 1) xs) k (slice_get (indexed f (n + 1) xs) k)
    ∙ (let rest = indexed-changed h f (n + 1) xs k ∙ ap (λ j. indexed (λ i y. cond (nat_eq j i) (h (f i y)) (f i y)) (n + 1) xs) (let e : n + 1 + k ≡ n + suc k = omega arith in e) in
    let first = past n k (h (f n x)) (f n x) in
    λ i. sym first i ∷ rest i)
  where
    past : {C : Type 0} → (n k : ℕ) (x y : C) → cond (nat_eq (n + suc k) n) x y ≡ y
    past n k x y = by (nat_eq (n + suc k) n) refl
      where
        by : (b : Bool) → nat_eq (n + suc k) n ≡ b → cond b x y ≡ y
        by true e = let same : n + suc k ≡ n = eqb-true (n + suc k) n e in absurd (omega arith)
        by false e = refl

-- the same at a step of a loop over a list that is another's view
pub indexed-pushed : {A B : Type 0} → (f : ℕ → A → B) (items xs : List A) (i : ℕ) (x : A) (before after : List B) (index : ℕ) (made : B) → items ≡ xs
    → i < length items → x ≡ get_or items i x → before ≡ indexed f 0 (take i xs) → index ≡ length before → made ≡ f index x → after ≡ before ++ made ∷ []
    → after ≡ indexed f 0 (take (i + 1) xs)
indexed-pushed f items xs i x before after index made view lt at so len is pushed =
    let more = indexed-more f items i x before lt at (so ∙ ap (λ ys. indexed f 0 (take i ys)) (sym view)) in
    pushed ∙ ap (λ y. before ++ y ∷ []) (is ∙ ap (λ k. f k x) len) ∙ more ∙ ap (λ ys. indexed f 0 (take (i + 1) ys)) view

-- after the last element
pub at-end : {A B : Type 0} → (F : List A → B) (items xs : List A) (i : ℕ) → items ≡ xs → length items ≤ i → F (take i xs) ≡ F xs
at-end F items xs i view past = let long : length xs ≤ i = omega (arith, ap length view) in ap F (take_all i xs long)

-- the same where the elements are copied out
pub indexed-copied : {A B : Type 0} → (f : ℕ → A → B) (xs : List A) (i : ℕ) (d : A) (before after : List B) (index : ℕ) (made : B) → i < length xs
    → before ≡ indexed f 0 (take i xs) → index ≡ length before → made ≡ f index (get_or xs i d) → after ≡ before ++ made ∷ [] → after ≡ indexed f 0 (take (i + 1) xs)
indexed-copied f xs i d before after index made lt so len is pushed =
    let at : get_or xs i d ≡ get_or xs i (get_or xs i d) = get_or_default xs i d (get_or xs i d) lt in
    indexed-pushed f xs xs i (get_or xs i d) before after index made refl lt at so len is pushed

folded-append : {A B : Type 0} → (f : ℕ → B → A → B) (n : ℕ) (b : B) (xs : List A) (y : A) → folded f n b (xs ++ y ∷ []) ≡ f (n + length xs) (folded f n b xs) y
folded-append f n b [] y = ap (λ k. f k b y) (omega arith)
folded-append f n b (x ∷ xs) y = folded-append f (n + 1) (f n b x) xs y ∙ ap (λ k. f k (folded f (n + 1) (f n b x) xs) y) (omega arith)

-- a step of a loop that counts the places
pub folded-step : {A B : Type 0} → (f : ℕ → B → A → B) (items xs : List A) (i place : ℕ) (x : A) (start old new : B) → items ≡ xs → i < length items → x ≡ get_or items i x
    → (place ≡ i) × (old ≡ folded f 0 start (take i xs)) → new ≡ f place old x → (place + 1 ≡ i + 1) × (new ≡ folded f 0 start (take (i + 1) xs))
folded-step {A = A} f items xs i place x start old new view lt at so made =
    let before : old ≡ folded f 0 start (take i items) = so.1 ∙ ap (λ ys. folded f 0 start (take i ys)) (sym view) in
    let count : place ≡ 0 + length (take i items) = so.0 ∙ omega (arith, length-take {A = A}) in
    let taken : take (i + 1) items ≡ take i items ++ x ∷ [] = take_more items i x lt ∙ ap (λ y. take i items ++ y ∷ []) (sym at) in (
      ap (λ k. k + 1) so.0,
      made ∙ ap (λ k. f k old x) count ∙ ap (λ b. f (0 + length (take i items)) b x) before ∙ sym (folded-append f 0 start (take i items) x)
          ∙ ap (folded f 0 start) (sym taken) ∙ ap (λ ys. folded f 0 start (take (i + 1) ys)) view,
    )
