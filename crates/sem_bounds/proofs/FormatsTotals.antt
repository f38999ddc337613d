-- Each part of a sum that is a number of 128 bits is one too.
use Rattle.std.proofs.Common.{◌≡◌, ◌∙◌, ap, sym, refl, subst, ℕ, zero, suc, map, ◌+◌, ◌<◌, ◌≤◌, List, [], ◌∷◌, length, get_or, take, drop, fold, arith}
use Rattle.std.proofs.lemmas.List.{take-append-drop, take-map, get_or-map}
use Rattle.std.proofs.lemmas.List.Sums.{fold-append, fold_more}
use Rattle.sem_profile.specs.declared.profile.Bounds.{Bounds}
use Rattle.sem_profile.specs.Fields.{bounds}
use Rattle.sem_profile.specs.Formats.{plus, total, AreNumbers}
use Rattle.sem_profile.specs.Passes.{indexed}
use Rattle.sem_profile.proofs.PassesPlaces.{indexed-length}

-- neither bound is above that of the other
record IsBelow (b c : Bounds) : Type 0 where
  least : b.least ≤ c.least
  most : b.most ≤ c.most

sum-grows : (b : Bounds) (bs : List Bounds) → IsBelow b (fold plus b bs)
sum-grows b [] = record { least = omega arith; most = omega arith }
sum-grows b (c ∷ bs) = let rest = sum-grows (plus b c) bs in record { least = omega (arith, rest.least); most = omega (arith, rest.most) }

-- where the whole sum is a number, so is that up to the next part
part-is-number : (bs : List Bounds) (i : ℕ) (sum : Bounds) → i < length bs → sum ≡ total (take i bs) → AreNumbers (total bs) → AreNumbers (plus sum (get_or bs i (bounds 0 0)))
part-is-number bs i sum lt so whole =
    let zero = bounds 0 0 in
    let next : total (take (i + 1) bs) ≡ plus sum (get_or bs i zero) = fold_more plus zero bs i zero lt ∙ (λ j. plus (sym so j) (get_or bs i zero)) in
    let parts : total bs ≡ fold plus (total (take (i + 1) bs)) (drop (i + 1) bs) =
    ap total (sym (take-append-drop (i + 1) bs)) ∙ fold-append plus zero (take (i + 1) bs) (drop (i + 1) bs) in
    let grows = sum-grows (total (take (i + 1) bs)) (drop (i + 1) bs) in
    let all = subst AreNumbers parts whole in
    subst AreNumbers next record { least = omega (arith, grows.least, all.least); most = omega (arith, grows.most, all.most) }

-- ---- a sum over what a function makes of a list

taken-indexed : {A B : Type 0} → (f : ℕ → A → B) (n : ℕ) (xs : List A) (i : ℕ) → take i (indexed f n xs) ≡ indexed f n (take i xs)
taken-indexed f n xs zero = refl
taken-indexed f n [] (suc i) = refl
taken-indexed f n (x ∷ xs) (suc i) = ap (λ ys. f n x ∷ ys) (taken-indexed f (n + 1) xs i)

made-at : {A B : Type 0} → (f : ℕ → A → B) (n : ℕ) (xs : List A) (i : ℕ) (d : A) (e : B) → i < length xs → get_or (indexed f n xs) i e ≡ f (n + i) (get_or xs i d)
made-at f n [] i d e lt = absurd (omega arith)
made-at f n (x ∷ xs) zero d e lt = ap (λ k. f k x) (omega arith)
made-at f n (x ∷ xs) (suc i) d e lt = made-at f (n + 1) xs i d e (omega arith) ∙ ap (λ k. f k (get_or xs i d)) (omega arith)

-- where all parts are made of a list, by their places
pub record IsPart (whole so-far made next : Bounds) : Type 0 where
  pub is : plus so-far made ≡ next
  pub fits : AreNumbers whole → AreNumbers (plus so-far made)

part-of : (bs : List Bounds) (i : ℕ) (sum made : Bounds) → i < length bs → sum ≡ total (take i bs) → made ≡ get_or bs i (bounds 0 0) → IsPart (total bs) sum made (total (take (i + 1) bs))
part-of bs i sum made lt so at = record {
  is = (λ j. plus (so j) (at j)) ∙ sym (fold_more plus (bounds 0 0) bs i (bounds 0 0) lt);
  fits = λ whole. subst (λ b. AreNumbers (plus sum b)) (sym at) (part-is-number bs i sum lt so whole);
}

pub indexed-part : {A : Type 0} → (f : ℕ → A → Bounds) (xs : List A) (i place : ℕ) (x : A) (sum made : Bounds) → i < length xs → x ≡ get_or xs i x
    → (place ≡ i) × (sum ≡ total (indexed f 0 (take i xs))) → made ≡ f place x → IsPart (total (indexed f 0 xs)) sum made (total (indexed f 0 (take (i + 1) xs)))
indexed-part f xs i place x sum made lt at so is =
    let long : i < length (indexed f 0 xs) = omega (arith, lt, indexed-length f 0 xs) in
    let before : sum ≡ total (take i (indexed f 0 xs)) = so.1 ∙ ap total (sym (taken-indexed f 0 xs i)) in
    let here : made ≡ get_or (indexed f 0 xs) i (bounds 0 0) = is ∙ (λ j. f (so.0 j) (at j)) ∙ (let first : i ≡ 0 + i = omega arith in ap (λ k. f k (get_or xs i x)) first) ∙ sym (made-at f 0 xs i x (bounds 0 0) lt) in
    subst (λ ys. IsPart (total (indexed f 0 xs)) sum made (total ys)) (taken-indexed f 0 xs (i + 1)) (part-of (indexed f 0 xs) i sum made long before here)

long-map : {A B : Type 0} → (f : A → B) (xs : List A) → length (map f xs) ≡ length xs
long-map f [] = refl
long-map f (x ∷ xs) = ap suc (long-map f xs)

pub mapped-part : {A : Type 0} → (f : A → Bounds) (xs : List A) (i : ℕ) (d : A) (sum made : Bounds) → i < length xs
    → sum ≡ total (map f (take i xs)) → made ≡ f (get_or xs i d) → IsPart (total (map f xs)) sum made (total (map f (take (i + 1) xs)))
mapped-part f xs i d sum made lt so is =
    let long : i < length (map f xs) = omega (arith, lt, long-map f xs) in
    let before : sum ≡ total (take i (map f xs)) = so ∙ ap total (sym (take-map f i xs)) in
    let here : made ≡ get_or (map f xs) i (bounds 0 0) = is ∙ sym (get_or-map f xs i d (bounds 0 0) lt) in
    subst (λ ys. IsPart (total (map f xs)) sum made (total ys)) (take-map f (i + 1) xs) (part-of (map f xs) i sum made long before here)
