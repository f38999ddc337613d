-- What a knowledge shows with one more fact.
use Rattle.std.proofs.Common.{◌≡◌, refl, sym, ◌∙◌, ap, subst, ℕ, ◌<◌, ◌≤◌, Bool, true, false, List, [], ◌∷◌, zero, suc, length, get_or, inl, inr, arith}
use Rattle.std.specs.Prelude.{Some, None, slice_get, slice_set, nat_eq, nat_lt, ◌&&◌, ◌||◌}
use Rattle.std.proofs.lemmas.Bool.{eq-eqb, eqb-true, ne_eqb, lt-ltb, le-ltb, and_parts, and_left, and_right, cases_eq}
use Rattle.std.proofs.lemmas.List.{get_or-set_same, get_or-set_other, get_or_past}
use Rattle.std.proofs.lemmas.Option.{slice_get_within, get_or_from_slice_get}
use Rattle.sem_expr.specs.declared.expr.Side.TheVariants.{Uncompressed, Compressed}
use Rattle.cert_types.specs.declared.rule.Fact.{Fact}
use Rattle.cert_types.specs.declared.rule.Fact.TheVariants.{LengthOf, BitsOf, Done}
use Rattle.cert_rules.specs.Facts.{same_side, same_fact}
use Rattle.cert_plans.specs.declared.knowledge.FieldKnowledge.{FieldKnowledge}
use Rattle.cert_plans.specs.Knowing.{field_of, shows_of, with_fact, nothing}

-- whether two facts are one, but for their fields
same_kind : Fact → Fact → Bool
same_kind (LengthOf s i) (LengthOf t j) = same_side s t
same_kind (BitsOf s i) (BitsOf t j) = same_side s t
same_kind (Done i) (Done j) = true
same_kind _ _ = false

same_apart : (x y : Fact) → same_fact x y ≡ (same_kind x y && nat_eq (field_of x) (field_of y))
unfolding same_kind
same_apart (LengthOf s i) (LengthOf t j) = refl
same_apart (BitsOf s i) (BitsOf t j) = refl
same_apart (Done i) (Done j) = refl
same_apart _ _ = refl

with_shows : (f : FieldKnowledge) (x y : Fact) → shows_of (with_fact f x) y ≡ (same_kind x y || shows_of f y)
unfolding same_kind
with_shows f (LengthOf Uncompressed i) (LengthOf Uncompressed j) = refl
with_shows f (LengthOf Compressed i) (LengthOf Compressed j) = refl
with_shows f (BitsOf Uncompressed i) (BitsOf Uncompressed j) = refl
with_shows f (BitsOf Compressed i) (BitsOf Compressed j) = refl
with_shows f (Done i) (Done j) = refl
with_shows f (LengthOf Uncompressed i) (LengthOf Compressed j) = refl
with_shows f (LengthOf Compressed i) (LengthOf Uncompressed j) = refl
with_shows f (BitsOf Uncompressed i) (BitsOf Compressed j) = refl
with_shows f (BitsOf Compressed i) (BitsOf Uncompressed j) = refl
with_shows f (LengthOf Uncompressed i) (BitsOf Uncompressed j) = refl
with_shows f (LengthOf Uncompressed i) (BitsOf Compressed j) = refl
with_shows f (LengthOf Uncompressed i) (Done j) = refl
with_shows f (LengthOf Compressed i) (BitsOf Uncompressed j) = refl
with_shows f (LengthOf Compressed i) (BitsOf Compressed j) = refl
with_shows f (LengthOf Compressed i) (Done j) = refl
with_shows f (BitsOf Uncompressed i) (LengthOf Uncompressed j) = refl
with_shows f (BitsOf Uncompressed i) (LengthOf Compressed j) = refl
with_shows f (BitsOf Uncompressed i) (Done j) = refl
with_shows f (BitsOf Compressed i) (LengthOf Uncompressed j) = refl
with_shows f (BitsOf Compressed i) (LengthOf Compressed j) = refl
with_shows f (BitsOf Compressed i) (Done j) = refl
with_shows f (Done i) (LengthOf Uncompressed j) = refl
with_shows f (Done i) (LengthOf Compressed j) = refl
with_shows f (Done i) (BitsOf Uncompressed j) = refl
with_shows f (Done i) (BitsOf Compressed j) = refl

-- of a field that isn't there nothing is shown
nothing_shows : (x : Fact) → shows_of nothing x ≡ false
nothing_shows (LengthOf Uncompressed i) = refl
nothing_shows (LengthOf Compressed i) = refl
nothing_shows (BitsOf Uncompressed i) = refl
nothing_shows (BitsOf Compressed i) = refl
nothing_shows (Done i) = refl

pub shows_past : (fields : List FieldKnowledge) (x : Fact) → length fields ≤ field_of x → shows_of (get_or fields (field_of x) nothing) x ≡ false
shows_past fields x h = ap (λ (f : FieldKnowledge). shows_of f x) (get_or_past fields (field_of x) nothing h) ∙ nothing_shows x

-- an element that isn't there is past the end
pub past : {A : Type 0} (xs : List A) (i : ℕ) → None ≡ slice_get xs i → length xs ≤ i
past [] i e = omega arith
past (x ∷ xs) zero e = absurd (cc)
past (x ∷ xs) (suc i) e = let h = past xs i e in omega (arith, h)

of_one : (k e l s : Bool) → e ≡ true → l ≡ true → (k || s) ≡ (((k && e) && l) || s)
of_one true e l s p q = ap (λ z. z || s) (sym q) ∙ ap (λ z. (z && l) || s) (sym p)
of_one false e l s p q = refl

of_none : (k e l s : Bool) → (e && l) ≡ false → s ≡ (((k && e) && l) || s)
of_none true e l s p = ap (λ z. z || s) (sym p)
of_none false e l s p = refl

-- a fact of a field that is there
learnt_here : (fields : List FieldKnowledge) (fact x : Fact) (d : FieldKnowledge) → field_of fact < length fields → get_or fields (field_of fact) nothing ≡ d →
    shows_of (get_or (slice_set fields (field_of fact) (with_fact d fact)) (field_of x) nothing) x ≡ ((same_fact fact x && nat_lt (field_of x) (length fields)) || shows_of (get_or fields (field_of x) nothing) x)
learnt_here fields fact x d h e = elim (cases_eq (field_of fact) (field_of x)) [
  | inl s ↦ ap (λ j. shows_of (get_or (slice_set fields (field_of fact) (with_fact d fact)) j nothing) x) (sym s)
      ∙ ap (λ (f : FieldKnowledge). shows_of f x) (get_or-set_same fields (field_of fact) (with_fact d fact) nothing h)
      ∙ with_shows d fact x
      ∙ ap (λ (f : FieldKnowledge). same_kind fact x || shows_of f x) (sym e ∙ ap (λ j. get_or fields j nothing) s)
      ∙ of_one (same_kind fact x) (nat_eq (field_of fact) (field_of x)) (nat_lt (field_of x) (length fields)) _ (eq-eqb (field_of fact) (field_of x) s) (lt-ltb (field_of x) (length fields) (subst (λ j. j < length fields) s h))
      ∙ ap (λ z. (z && nat_lt (field_of x) (length fields)) || shows_of (get_or fields (field_of x) nothing) x) (sym (same_apart fact x))
  | inr n ↦ ap (λ (f : FieldKnowledge). shows_of f x) (get_or-set_other fields (field_of fact) (field_of x) (with_fact d fact) nothing (λ s. n (sym s)))
      ∙ of_none (same_kind fact x) (nat_eq (field_of fact) (field_of x)) (nat_lt (field_of x) (length fields)) _ (ap (λ z. z && nat_lt (field_of x) (length fields)) (ne_eqb (field_of fact) (field_of x) n))
      ∙ ap (λ z. (z && nat_lt (field_of x) (length fields)) || shows_of (get_or fields (field_of x) nothing) x) (sym (same_apart fact x))
]

-- what is shown after a fact of a field that is there
pub shown_after : (old new : List FieldKnowledge) (fact x : Fact) (i : ℕ) (d e : FieldKnowledge) → i ≡ field_of fact → Some d ≡ slice_get old i → e ≡ with_fact d fact → new ≡ slice_set old i e →
    shows_of (get_or new (field_of x) nothing) x ≡ ((same_fact fact x && nat_lt (field_of x) (length old)) || shows_of (get_or old (field_of x) nothing) x)
shown_after old new fact x i d e index is added set =
    let at : slice_get old (field_of fact) ≡ Some d = ap (slice_get old) (sym index) ∙ sym is in
    let made : new ≡ slice_set old (field_of fact) (with_fact d fact) = set ∙ ap (λ j. slice_set old j e) index ∙ ap (λ z. slice_set old (field_of fact) z) added in
    ap (λ z. shows_of (get_or z (field_of x) nothing) x) made ∙ learnt_here old fact x d (slice_get_within old (field_of fact) d at) (get_or_from_slice_get old (field_of fact) d nothing at)

-- a fact of a field that isn't there changes nothing
pub shown_still : (fields : List FieldKnowledge) (fact x : Fact) (i : ℕ) (s : Bool) → i ≡ field_of fact → None ≡ slice_get fields i → s ≡ ((same_fact fact x && nat_lt (field_of x) (length fields)) || s)
shown_still fields fact x i s index is =
    let h : length fields ≤ field_of fact = subst (λ j. length fields ≤ j) index (past fields i is) in
    of_none (same_kind fact x) (nat_eq (field_of fact) (field_of x)) (nat_lt (field_of x) (length fields)) s (elim (cases_eq (field_of fact) (field_of x)) [
      | inl e ↦ and_right (nat_eq (field_of fact) (field_of x)) (nat_lt (field_of x) (length fields)) (le-ltb (field_of x) (length fields) (subst (λ j. length fields ≤ j) e h))
      | inr n ↦ and_left (nat_eq (field_of fact) (field_of x)) (nat_lt (field_of x) (length fields)) (ne_eqb (field_of fact) (field_of x) n)
    ])
    ∙ ap (λ z. (z && nat_lt (field_of x) (length fields)) || s) (sym (same_apart fact x))

-- one of several facts is learnt
pub one_learnt : (rest y w s : Bool) → ((rest && w) || ((y && w) || s)) ≡ (((y || rest) && w) || s)
one_learnt true true true s = refl
one_learnt true true false s = refl
one_learnt true false true s = refl
one_learnt true false false s = refl
one_learnt false true true s = refl
one_learnt false true false s = refl
one_learnt false false true s = refl
one_learnt false false false s = refl

-- two facts that are one are of one field
pub same_field : (x y : Fact) → same_fact x y ≡ true → field_of x ≡ field_of y
same_field x y h = eqb-true (field_of x) (field_of y) (and_parts (same_kind x y) (nat_eq (field_of x) (field_of y)) (sym (same_apart x y) ∙ h)).1
