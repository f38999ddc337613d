-- Pairs that are apart, and those that stay held.
use Rattle.std.proofs.Common.{◌≡◌, ◌∙◌, refl, sym, ap, subst, ℕ, zero, suc, ◌<◌, ◌⊎◌, inl, inr, nat_lt, Bool, true, false, cond, List, [], ◌∷◌, ◌++◌, ◌+◌, length, arith}
use Rattle.std.specs.Prelude.{Some, slice_get}
use Rattle.std.proofs.lemmas.Bool.{ltb-true, lt-ltb}
use Rattle.sem_context.specs.Entries.{bits_at}
use Rattle.sem_elsewhere.specs.Held.{Holding}
use Rattle.walk_robust.specs.Sending.{AreApart, IsSamePair, stayed, stays}

-- ---- joined lists

-- the place i of what follows a list
abbrev pub past : {A : Type 0} → List A → ℕ → ℕ
past [] i = i
past (x ∷ xs) i = suc (past xs i)

pub past_is : {A : Type 0} (xs : List A) (i : ℕ) → past xs i ≡ length xs + i
past_is [] i = omega arith
past_is (x ∷ xs) i = let e = past_is xs i in omega (arith, e)

pub at_left : {A : Type 0} (xs ys : List A) (i : ℕ) (x : A) → slice_get xs i ≡ Some x → slice_get (xs ++ ys) i ≡ Some x
at_left [] ys i x at = absurd (cc)
at_left (y ∷ xs) ys zero x at = at
at_left (y ∷ xs) ys (suc i) x at = at_left xs ys i x at

pub at_right : {A : Type 0} (xs ys : List A) (i : ℕ) (x : A) → slice_get ys i ≡ Some x → slice_get (xs ++ ys) (past xs i) ≡ Some x
at_right [] ys i x at = at
at_right (y ∷ xs) ys i x at = at_right xs ys i x at

pub at_either : {A : Type 0} (xs ys : List A) (i : ℕ) (x : A) → slice_get (xs ++ ys) i ≡ Some x → (slice_get xs i ≡ Some x) ⊎ ((j : ℕ) × (i ≡ past xs j) × (slice_get ys j ≡ Some x))
at_either [] ys i x at = inr (i, refl, at)
at_either (y ∷ xs) ys zero x at = inl at
at_either (y ∷ xs) ys (suc i) x at =
    elim (at_either xs ys i x at) [
      | inl first ↦ inl first
      | inr later ↦ inr (later.0, ap suc later.1, later.2)
    ]

-- ---- apart

same_back : (g h : Holding) → IsSamePair g h → IsSamePair h g
same_back g h same = (sym same.0, λ path. sym (same.1 path))

pub alone : (g : Holding) → AreApart (g ∷ [])
alone g zero zero x y at_i at_j same = refl
alone g zero (suc j) x y at_i at_j same = absurd (cc)
alone g (suc i) j x y at_i at_j same = absurd (cc)

pub apart_joined : (xs ys : List Holding) → AreApart xs → AreApart ys → ((i j : ℕ) (g h : Holding) → slice_get xs i ≡ Some g → slice_get ys j ≡ Some h → IsSamePair g h → ⊥) → AreApart (xs ++ ys)
apart_joined xs ys first later apart i j g h at_i at_j same =
    elim (at_either xs ys i g at_i) [
      | inl a ↦ elim (at_either xs ys j h at_j) [
        | inl b ↦ first i j g h a b same
        | inr b ↦ absurd (apart i b.0 g h a b.2 same)
      ]
      | inr a ↦ elim (at_either xs ys j h at_j) [
        | inl b ↦ absurd (apart j a.0 h g b a.2 (same_back g h same))
        | inr b ↦ a.1 ∙ ap (past xs) (later a.0 b.0 g h a.2 b.2 same) ∙ sym b.1
      ]
    ]

-- ---- what stays

abbrev pub lost_once : Holding → Holding
lost_once h = record { gap = suc h.gap; context = h.context }

-- what stays of one is that it was lost
pub record Stays (n : ℕ) (hs : List Holding) (g : Holding) : Type 0 where
  pub place : ℕ
  pub one : Holding
  pub at : slice_get hs place ≡ Some one
  pub under : one.gap < n
  pub pair_is : g ≡ lost_once one

further : (n : ℕ) (h : Holding) (hs : List Holding) (g : Holding) → Stays n hs g → Stays n (h ∷ hs) g
further n h hs g r = record { place = suc r.place; one = r.one; at = r.at; under = r.under; pair_is = r.pair_is }

pub stays_from : (n : ℕ) (hs : List Holding) (i : ℕ) (g : Holding) → slice_get (stayed n hs) i ≡ Some g → Stays n hs g
stays_from n [] i g at = absurd (cc)
stays_from n (h ∷ hs) i g at = by (λ j at_j. stays_from n hs j g at_j) (nat_lt h.gap n) refl i at
  where
    by : ((j : ℕ) → slice_get (stayed n hs) j ≡ Some g → Stays n hs g) → (b : Bool) → nat_lt h.gap n ≡ b → (j : ℕ) → slice_get (cond b (lost_once h ∷ []) [] ++ stayed n hs) j ≡ Some g → Stays n (h ∷ hs) g
    by more true is zero at_j = let same : lost_once h ≡ g = cc in record { place = 0; one = h; at = refl; under = ltb-true h.gap n is; pair_is = sym same }
    by more true is (suc j) at_j = further n h hs g (more j at_j)
    by more false is j at_j = further n h hs g (more j at_j)

stays_first : (n : ℕ) (h : Holding) (rest : List Holding) (b : Bool) → b ≡ true → slice_get (cond b (lost_once h ∷ []) [] ++ rest) 0 ≡ Some (lost_once h)
stays_first n h rest true is = refl
stays_first n h rest false is = absurd (cc)

pub stays_there : (n : ℕ) (hs : List Holding) (i : ℕ) (h : Holding) → slice_get hs i ≡ Some h → h.gap < n → (j : ℕ) × (slice_get (stayed n hs) j ≡ Some (lost_once h))
stays_there n [] i h at under = absurd (cc)
stays_there n (g ∷ hs) zero h at under =
    let same : h ≡ g = cc in
    (0, subst (λ z. slice_get (stays n g ++ stayed n hs) 0 ≡ Some (lost_once z)) (sym same) (stays_first n g (stayed n hs) (nat_lt g.gap n) (lt-ltb g.gap n (subst (λ z. z.gap < n) same under))))
stays_there n (g ∷ hs) (suc i) h at under = let r = stays_there n hs i h at under in (past (stays n g) r.0, at_right (stays n g) (stayed n hs) r.0 (lost_once h) r.1)

module _ (n : ℕ) (x : Holding) (hs : List Holding) (apart : AreApart (x ∷ hs)) where
  rest_apart : AreApart hs
  rest_apart i j g h at_i at_j same = let e : suc i ≡ suc j = apart (suc i) (suc j) g h at_i at_j same in cc

  few : (b : Bool) → AreApart (cond b (lost_once x ∷ []) [])
  few true = alone (lost_once x)
  few false = λ i j g h at_i at_j same. absurd (cc)

  only_lost : (b : Bool) (i : ℕ) (g : Holding) → slice_get (cond b (lost_once x ∷ []) []) i ≡ Some g → g ≡ lost_once x
  only_lost true zero g at = cc
  only_lost true (suc i) g at = absurd (cc)
  only_lost false i g at = absurd (cc)

  across : (i j : ℕ) (g h : Holding) → slice_get (stays n x) i ≡ Some g → slice_get (stayed n hs) j ≡ Some h → IsSamePair g h → ⊥
  across i j g h at_i at_j same =
      let g_is = only_lost (nat_lt x.gap n) i g at_i in
      let s = stays_from n hs j h at_j in
      let gaps : suc x.gap ≡ suc s.one.gap = sym (ap (λ (z : Holding). z.gap) g_is) ∙ same.0 ∙ ap (λ (z : Holding). z.gap) s.pair_is in
      let gap_is : x.gap ≡ s.one.gap = cc (gaps) in
      let never : 0 ≡ suc s.place = apart 0 (suc s.place) x s.one refl s.at (gap_is, λ path. sym (ap (λ (z : Holding). bits_at z.context path) g_is) ∙ same.1 path ∙ ap (λ (z : Holding). bits_at z.context path) s.pair_is) in
      cc

pub apart_stayed : (n : ℕ) (hs : List Holding) → AreApart hs → AreApart (stayed n hs)
apart_stayed n [] apart = λ i j g h at_i at_j same. absurd (cc)
apart_stayed n (x ∷ hs) apart =
    apart_joined (stays n x) (stayed n hs) (few n x hs apart (nat_lt x.gap n)) (apart_stayed n hs (rest_apart n x hs apart)) (across n x hs apart)
