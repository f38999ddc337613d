-- The order on codes.
use Rattle.std.proofs.Common.{◌≡◌, refl, sym, ◌∙◌, ap, subst, ℕ, ◌+◌, ◌*◌, ◌<◌, ◌≤◌, List, [], ◌∷◌, ◌++◌, inl, inr, arith}
use Rattle.std.proofs.lemmas.Bool.{cases_lt}
use Rattle.std.proofs.lemmas.List.{append_assoc, append-nil}
use Rattle.std.proofs.Math.Nat.{mul-le-mul_right}
use Rattle.cert_candidates.specs.Best.{IsUpTo, Best}
use Rattle.sem_filling.specs.declared.filling.Filling.{Filling}
use Rattle.sem_filling.specs.declared.filling.Item.{Item}
use Rattle.sem_profile.specs.declared.profile.Method.{Method}
use Rattle.cert_types.specs.Kept.{Entries}
use Rattle.sem_filling.specs.Fits.{Context}
use Rattle.cert_candidates.specs.Codes.{code}

-- of two lists one does not come after the other
pub either : (xs ys : List ℕ) (C : Type 0) → (IsUpTo xs ys → C) → (IsUpTo ys xs → C) → C
either [] ys C h h' = h tt
either (x ∷ xs) [] C h h' = h' tt
either (x ∷ xs) (y ∷ ys) C h h' =
    elim (cases_lt x y) [
      | inl below ↦ h (omega (arith, below), λ e. absurd (omega (arith, below, e)))
      | inr past ↦ elim (cases_lt y x) [
        | inl above ↦ h' (omega (arith, above), λ e. absurd (omega (arith, above, e)))
        | inr under ↦ either xs ys C (λ u. h (under, λ e. u)) (λ u. h' (past, λ e. u))
      ]
    ]

pub best_is_one : (methods : List Method) (cert : Entries) (top : ℕ) (ctx : Context) (it : Item) (f g : Filling) →
    Best methods cert top ctx it f → Best methods cert top ctx it g → f ≡ g
best_is_one methods cert top ctx it f g a b =
    either (code methods cert f top) (code methods cert g top) (f ≡ g) (λ u. b.first f a.fits a.has u) (λ u. sym (a.first g b.fits b.has u))

pub to_itself : (xs : List ℕ) → IsUpTo xs xs
to_itself [] = tt
to_itself (x ∷ xs) = (omega arith, λ e. to_itself xs)

abbrev pub Under : List ℕ → List ℕ → Type 0
Under p q = IsUpTo p q × (IsUpTo q p → ⊥)

under_same : (p p' q q' : List ℕ) → p ≡ p' → q ≡ q' → Under p q → Under p' q'
under_same p p' q q' e e' h = subst (λ z. Under z q') e (subst (λ z. Under p z) e' h)

-- before it, whatever follows
abbrev pub Strictly : List ℕ → List ℕ → Type 0
Strictly x y = (xs ys : List ℕ) → Under (x ++ xs) (y ++ ys)

pub strictly_first : (n m : ℕ) (x y : List ℕ) → n < m → Strictly (n ∷ x) (m ∷ y)
strictly_first n m x y l xs ys = ((omega (arith, l), λ e. absurd (omega (arith, l, e))), λ h. let le = h.0 in omega (arith, l, le))

pub strictly_more : (x y xs ys : List ℕ) → Strictly x y → Strictly (x ++ xs) (y ++ ys)
strictly_more x y xs ys s us vs =
    under_same (x ++ (xs ++ us)) ((x ++ xs) ++ us) (y ++ (ys ++ vs)) ((y ++ ys) ++ vs) (sym (append_assoc x xs us)) (sym (append_assoc y ys vs)) (s (xs ++ us) (ys ++ vs))

behind : (x xs ys : List ℕ) → Under xs ys → Under (x ++ xs) (x ++ ys)
behind [] xs ys h = h
behind (n ∷ x) xs ys h = let more = behind x xs ys h in ((omega arith, λ e. more.0), λ up. more.1 (up.1 refl))

pub strictly_behind : (x y xs ys : List ℕ) → x ≡ y → Strictly xs ys → Strictly (x ++ xs) (y ++ ys)
strictly_behind x y xs ys e s us vs =
    under_same (x ++ (xs ++ us)) ((x ++ xs) ++ us) (x ++ (ys ++ vs)) ((y ++ ys) ++ vs) (sym (append_assoc x xs us)) (sym (append_assoc x ys vs) ∙ ap (λ z. (z ++ ys) ++ vs) e) (behind x (xs ++ us) (ys ++ vs) (s us vs))

-- how two codes, and two numbers, stand to each other: alike
pub data Compared (x y : List ℕ) (a b : ℕ) : Type 0 where
  lower : a < b → Strictly x y → Compared x y a b
  equal : a ≡ b → x ≡ y → Compared x y a b
  higher : b < a → Strictly y x → Compared x y a b

pub compared_same : (x x' y y' : List ℕ) (a a' b b' : ℕ) → x' ≡ x → y' ≡ y → a' ≡ a → b' ≡ b → Compared x y a b → Compared x' y' a' b'
compared_same x x' y y' a a' b b' ex ey ea eb h =
    subst (λ z. Compared z y' a' b') (sym ex) (subst (λ z. Compared x z a' b') (sym ey) (subst (λ z. Compared x y z b') (sym ea) (subst (λ z. Compared x y a z) (sym eb) h)))

pub mixed : (d r p w : ℕ) → d < r → p < w → d * w + p < r * w
mixed d r p w l h =
    let le : (d + 1) * w ≤ r * w = mul-le-mul_right w (omega (arith, l)) in
    let e : (d + 1) * w ≡ d * w + w = omega arith in
    omega (arith, le, e, h)

mixed_past : (d r p q w : ℕ) → d < r → p < w → d * w + p < r * w + q
mixed_past d r p q w l h = let m = mixed d r p w l h in omega (arith, m)

mixed_same : (d r p q w : ℕ) → d ≡ r → p < q → d * w + p < r * w + q
mixed_same d r p q w e l = let same : d * w ≡ r * w = ap (λ z. z * w) e in omega (arith, same, l)

-- a digit, and what follows it
pub joined : (x y xs ys : List ℕ) (a b p q w : ℕ) → Compared x y a b → Compared xs ys p q → p < w → q < w → Compared (x ++ xs) (y ++ ys) (a * w + p) (b * w + q)
joined x y xs ys a b p q w (lower l s) h lp lq = lower (mixed_past a b p q w l lp) (strictly_more x y xs ys s)
joined x y xs ys a b p q w (higher l s) h lp lq = higher (mixed_past b a q p w l lq) (strictly_more y x ys xs s)
joined x y xs ys a b p q w (equal e c) (lower l s) lp lq = lower (mixed_same a b p q w e l) (strictly_behind x y xs ys c s)
joined x y xs ys a b p q w (equal e c) (higher l s) lp lq = higher (mixed_same b a q p w (sym e) l) (strictly_behind y x ys xs (sym c) s)
joined x y xs ys a b p q w (equal e c) (equal e' c') lp lq = equal (λ i. e i * w + e' i) (λ i. c i ++ c' i)

-- behind a format, and the numbers before it
pub headed : (n m : ℕ) (xs ys : List ℕ) (s t p q : ℕ) → n ≡ m → s ≡ t → Compared xs ys p q → Compared (n ∷ xs) (m ∷ ys) (s + p) (t + q)
headed n m xs ys s t p q en es (lower l h) = lower (omega (arith, es, l)) (strictly_behind (n ∷ []) (m ∷ []) xs ys (ap (λ z. z ∷ []) en) h)
headed n m xs ys s t p q en es (higher l h) = higher (omega (arith, es, l)) (strictly_behind (m ∷ []) (n ∷ []) ys xs (ap (λ z. z ∷ []) (sym en)) h)
headed n m xs ys s t p q en es (equal e c) = equal (omega (arith, es, e)) (λ i. en i ∷ c i)

-- two digits
pub chosen : (a b : ℕ) → Compared (a ∷ []) (b ∷ []) a b
chosen a b = elim (cases_lt a b) [
  | inl below ↦ lower below (strictly_first a b [] [] below)
  | inr past ↦ elim (cases_lt b a) [
    | inl above ↦ higher above (strictly_first b a [] [] above)
    | inr under ↦ let e : a ≡ b = omega (arith, past, under) in equal e (ap (λ z. z ∷ []) e)
  ]
]

pub up_to : (x y : List ℕ) (a b : ℕ) → Compared x y a b → a ≤ b → IsUpTo x y
up_to x y a b (lower l s) h = let u = s [] [] in (under_same (x ++ []) x (y ++ []) y (append-nil x) (append-nil y) u).0
up_to x y a b (equal e c) h = subst (λ z. IsUpTo x z) c (to_itself x)
up_to x y a b (higher l s) h = absurd (omega (arith, l, h))

pub up_back : (x y : List ℕ) (a b : ℕ) → Compared x y a b → IsUpTo x y → a ≤ b
up_back x y a b (lower l s) h = omega (arith, l)
up_back x y a b (equal e c) h = omega (arith, e)
up_back x y a b (higher l s) h = let u = s [] [] in absurd ((under_same (y ++ []) y (x ++ []) x (append-nil y) (append-nil x) u).1 h)
