-- Lists of facts as sets.
use Rattle.std.proofs.Common.{◌≡◌, refl, sym, ◌∙◌, ap, subst, Bool, true, false, List, [], ◌∷◌, ◌++◌, ◌⊎◌, inl, inr}
use Rattle.std.specs.Prelude.{not}
use Rattle.std.proofs.lemmas.Bool.{eq-eqb, or_cases, or_left, or_right, and_from, and_parts}
use Rattle.sem_expr.specs.declared.expr.Side.TheVariants.{Uncompressed, Compressed}
use Rattle.cert_types.specs.declared.rule.Fact.{Fact}
use Rattle.cert_types.specs.declared.rule.Fact.TheVariants.{LengthOf, BitsOf, Done}
use Rattle.cert_rules.specs.Facts.{same_fact, has, has_all, has_none}
use Rattle.cert_rules.proofs.ViewsAgree.{same_is}
use Rattle.cert_plans.proofs.KnowingFollowing.{has_both}

same_refl : (x : Fact) → same_fact x x ≡ true
same_refl (LengthOf Uncompressed i) = eq-eqb i i refl
same_refl (LengthOf Compressed i) = eq-eqb i i refl
same_refl (BitsOf Uncompressed i) = eq-eqb i i refl
same_refl (BitsOf Compressed i) = eq-eqb i i refl
same_refl (Done i) = eq-eqb i i refl

pub either : {A B C : Type 0} → (A → C) → (B → C) → A ⊎ B → C
either f g (inl x) = f x
either f g (inr x) = g x

pub has_cases : (xs ys : List Fact) (x : Fact) → has (xs ++ ys) x ≡ true → (has xs x ≡ true) ⊎ (has ys x ≡ true)
has_cases xs ys x e = or_cases (has xs x) (has ys x) (sym (has_both xs ys x) ∙ e)

pub has_left : (xs ys : List Fact) (x : Fact) → has xs x ≡ true → has (xs ++ ys) x ≡ true
has_left xs ys x e = has_both xs ys x ∙ or_left (has xs x) (has ys x) e

pub has_right : (xs ys : List Fact) (x : Fact) → has ys x ≡ true → has (xs ++ ys) x ≡ true
has_right xs ys x e = has_both xs ys x ∙ or_right (has xs x) (has ys x) e

pub all_has : (known xs : List Fact) (x : Fact) → has_all known xs ≡ true → has xs x ≡ true → has known x ≡ true
all_has known [] x e h = absurd (cc)
all_has known (z ∷ xs) x e h =
    let b = and_parts (has known z) (has_all known xs) e in
    either (λ t. subst (λ y. has known y ≡ true) (same_is z x t) b.0) (λ t. all_has known xs x b.1 t) (or_cases (same_fact z x) (has xs x) h)

pub has_all_from : (known xs : List Fact) → ((x : Fact) → has xs x ≡ true → has known x ≡ true) → has_all known xs ≡ true
has_all_from known [] h = refl
has_all_from known (z ∷ xs) h =
    and_from (has known z) (has_all known xs) (h z (or_left (same_fact z z) (has xs z) (same_refl z))) (has_all_from known xs (λ x e. h x (or_right (same_fact z x) (has xs x) e)))

pub has_none_cases : (known xs : List Fact) → (has_none known xs ≡ true) ⊎ ((x : Fact) × (has xs x ≡ true) × (has known x ≡ true))
has_none_cases known [] = inl refl
has_none_cases known (z ∷ xs) = by (has known z) refl (has_none_cases known xs) where
  by : (b : Bool) → has known z ≡ b → (has_none known xs ≡ true) ⊎ ((x : Fact) × (has xs x ≡ true) × (has known x ≡ true)) →
      (has_none known (z ∷ xs) ≡ true) ⊎ ((x : Fact) × (has (z ∷ xs) x ≡ true) × (has known x ≡ true))
  by true e h = inr (z, or_left (same_fact z z) (has xs z) (same_refl z), e)
  by false e (inl h) = inl (and_from (not (has known z)) (has_none known xs) (ap not e) h)
  by false e (inr h) = inr (h.0, or_right (same_fact z h.0) (has xs h.0) h.1, h.2)
