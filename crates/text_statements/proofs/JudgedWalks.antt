-- A walk over parts that makes something of each and stops at the first fault.
use Rattle.std.proofs.Common.{◌≡◌, ◌∙◌, ap, subst, sym, refl, ℕ, zero, suc, ◌+◌, ◌<◌, ◌≤◌, List, [], ◌∷◌, ◌++◌, length, take, drop, get_or, Option, Some, None, arith}
use Rattle.std.specs.List.{AllZip}
use Rattle.std.specs.Option.{option_or}
use Rattle.std.proofs.Math.Seq.{drop-cons}
use Rattle.std.proofs.lemmas.List.{take_all, drop_all}
use Rattle.sem_profile.specs.declared.fault.ProfileFault.{ProfileFault}
use Rattle.text_statements.specs.Judged.{first_of}

-- the parts before the place have what was made of them, and no fault
pub record Walked {A B : Type 0} (R : A → B → Type 0) (fault : A → Option ProfileFault) (xs : List A) (i : ℕ) (ys : List B) : Type 0 where
  pub made : AllZip R (take i xs) ys
  pub fine : first_of fault xs ≡ first_of fault (drop i xs)

pub walked_none : {A B : Type 0} → (R : A → B → Type 0) (fault : A → Option ProfileFault) (xs : List A) (ys : List B) → ys ≡ [] → Walked R fault xs 0 ys
walked_none R fault xs ys e = record { made = rw e tt; fine = refl }

zip_more : {A B : Type 0} → (R : A → B → Type 0) (xs : List A) (i : ℕ) (ys : List B) (d : A) (y : B) → i < length xs → AllZip R (take i xs) ys → R (get_or xs i d) y
    → AllZip R (take (suc i) xs) (ys ++ y ∷ [])
zip_more R [] i ys d y lt h r = absurd (omega arith)
zip_more R (x ∷ xs) zero [] d y lt h r = (r, tt)
zip_more R (x ∷ xs) zero (z ∷ ys) d y lt h r = absurd h
zip_more R (x ∷ xs) (suc i) [] d y lt h r = absurd h
zip_more R (x ∷ xs) (suc i) (z ∷ ys) d y lt h r = (h.0, zip_more R xs i ys d y (omega arith) h.1 r)

first_here : {A : Type 0} → (fault : A → Option ProfileFault) (xs : List A) (i : ℕ) (x : A) → i < length xs → x ≡ get_or xs i x
    → first_of fault (drop i xs) ≡ option_or (fault x) (first_of fault (drop (suc i) xs))
first_here fault xs i x lt is = ap (first_of fault) (drop-cons xs i x lt) ∙ ap (λ y. option_or (fault y) (first_of fault (drop (suc i) xs))) (sym is)

pub walked_more : {A B : Type 0} → (R : A → B → Type 0) (fault : A → Option ProfileFault) (xs : List A) (i : ℕ) (ys zs : List B) (x : A) (y : B)
    → Walked R fault xs i ys → i < length xs → x ≡ get_or xs i x → R x y → fault x ≡ None → zs ≡ ys ++ y ∷ [] → Walked R fault xs (i + 1) zs
walked_more R fault xs i ys zs x y w lt is r none more =
    let next : suc i ≡ i + 1 = omega arith in
    subst (λ n. Walked R fault xs n zs) next record {
      made = rw more (zip_more R xs i ys x y lt w.made (subst (λ z. R z y) is r));
      fine = w.fine ∙ first_here fault xs i x lt is ∙ ap (λ o. option_or o (first_of fault (drop (suc i) xs))) none;
    }

pub walked_all : {A B : Type 0} → (R : A → B → Type 0) (fault : A → Option ProfileFault) (xs : List A) (i : ℕ) (ys : List B)
    → Walked R fault xs i ys → length xs ≤ i → AllZip R xs ys × (first_of fault xs ≡ None)
walked_all R fault xs i ys w ends = (subst (λ zs. AllZip R zs ys) (take_all i xs ends) w.made, w.fine ∙ ap (first_of fault) (drop_all i xs ends))

pub walked_stop : {A B : Type 0} → (R : A → B → Type 0) (fault : A → Option ProfileFault) (xs : List A) (i : ℕ) (ys : List B) (x : A) (f : ProfileFault)
    → Walked R fault xs i ys → i < length xs → x ≡ get_or xs i x → fault x ≡ Some f → first_of fault xs ≡ Some f
walked_stop R fault xs i ys x f w lt is some =
    w.fine ∙ first_here fault xs i x lt is ∙ ap (λ o. option_or o (first_of fault (drop (suc i) xs))) some
