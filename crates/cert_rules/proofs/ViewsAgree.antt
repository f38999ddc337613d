-- What two fillings have in common.
use Rattle.std.proofs.Common.{◌≡◌, refl, ◌∙◌, ap, subst, ℕ, Bool, true, false, List, [], ◌∷◌, ◌++◌}
use Rattle.std.specs.Prelude.{Some, slice_get, option_map, option_and_then, nat_eq, ◌&&◌, ◌||◌, not}
use Rattle.std.proofs.lemmas.Bool.{eqb-true}
use Rattle.std.proofs.lemmas.Option.{slice_get-map}
use Rattle.sem_filling.specs.Fillings.{sides_of, inner_of, fields_of, inner_at}
use Rattle.sem_filling.specs.Fits.{field_side}
use Rattle.sem_expr.specs.declared.expr.Side.{Side}
use Rattle.sem_expr.specs.declared.expr.Side.TheVariants.{Uncompressed, Compressed}
use Rattle.sem_filling.specs.declared.filling.Filling.{Filling}
use Rattle.sem_filling.specs.declared.filling.FilledField.{FilledField}
use Rattle.cert_types.specs.declared.rule.Fact.{Fact}
use Rattle.cert_types.specs.declared.rule.Fact.TheVariants.{LengthOf, BitsOf, Done}
use Rattle.cert_rules.specs.Facts.{same_side, same_fact, has, has_all}
use Rattle.cert_rules.specs.Rules.{when}
use Rattle.cert_rules.specs.Views.{View, view, side_at, Agree, AgreeAll}

pub and_true : (a b : Bool) → (a && b) ≡ true → (a ≡ true) × (b ≡ true)
and_true true b e = (refl, e)
and_true false b e = absurd (cc)

pub not_true : (a : Bool) → not a ≡ true → a ≡ false
not_true true e = absurd (cc)
not_true false e = refl

pub when_some : {A : Type 0} (b : Bool) (x y : A) → when b x ≡ Some y → (b ≡ true) × (x ≡ y)
when_some true x y e = (refl, cc)
when_some false x y e = absurd (cc)

pub side_same : (s t : Side) → same_side s t ≡ true → s ≡ t
side_same Uncompressed Uncompressed e = refl
side_same Compressed Compressed e = refl
side_same _ _ e = absurd (cc)

pub same_is : (x y : Fact) → same_fact x y ≡ true → x ≡ y
same_is (LengthOf s i) (LengthOf t j) e = let b = and_true (same_side s t) (nat_eq i j) e in λ k. LengthOf (side_same s t b.0 k) (eqb-true i j b.1 k)
same_is (BitsOf s i) (BitsOf t j) e = let b = and_true (same_side s t) (nat_eq i j) e in λ k. BitsOf (side_same s t b.0 k) (eqb-true i j b.1 k)
same_is (Done i) (Done j) e = ap Done (eqb-true i j e)
same_is _ _ e = absurd (cc)

module _ (f g : View) where
  first_or_later : (x y : Fact) (rest b : Bool) → same_fact y x ≡ b → (b || rest) ≡ true → Agree f g y → (rest ≡ true → Agree f g x) → Agree f g x
  first_or_later x y rest true s e here there = subst (Agree f g) (same_is y x s) here
  first_or_later x y rest false s e here there = there e

  pub agree_has : (known : List Fact) (x : Fact) → has known x ≡ true → AgreeAll f g known → Agree f g x
  agree_has [] x e h = absurd (cc)
  agree_has (y ∷ ys) x e h = first_or_later x y (has ys x) (same_fact y x) refl e h.0 (λ e. agree_has ys x e h.1)

  pub agree_has_all : (known xs : List Fact) → has_all known xs ≡ true → AgreeAll f g known → AgreeAll f g xs
  agree_has_all known [] e h = tt
  agree_has_all known (x ∷ xs) e h =
      let b = and_true (has known x) (has_all known xs) e in (agree_has known x b.0 h, agree_has_all known xs b.1 h)

  pub agree_left : (xs ys : List Fact) → AgreeAll f g (xs ++ ys) → AgreeAll f g xs
  agree_left [] ys h = tt
  agree_left (x ∷ xs) ys h = (h.0, agree_left xs ys h.1)

  pub agree_right : (xs ys : List Fact) → AgreeAll f g (xs ++ ys) → AgreeAll f g ys
  agree_right [] ys h = h
  agree_right (x ∷ xs) ys h = agree_right xs ys h.1

  pub agree_append : (xs ys : List Fact) → AgreeAll f g xs → AgreeAll f g ys → AgreeAll f g (xs ++ ys)
  agree_append [] ys h k = k
  agree_append (x ∷ xs) ys h k = (h.0, agree_append xs ys h.1 k)

pub side_is : (f : Filling) (i : ℕ) (x : FilledField) (side : Side) → slice_get (fields_of f) i ≡ Some x → side_at (view f) i side ≡ field_side (Some (sides_of x)) side
side_is f i x side e = ap (λ z. field_side z side) (slice_get-map sides_of (fields_of f) i ∙ ap (option_map sides_of) e)

pub inner_is : (f : Filling) (i : ℕ) (x : FilledField) → slice_get (fields_of f) i ≡ Some x → inner_at f i ≡ inner_of x
inner_is f i x e = ap (option_and_then inner_of) e
