-- The steps that follow the order are determined.
use Rattle.std.proofs.Common.{◌≡◌, refl, sym, ◌∙◌, ap, subst, ◌<◌, true, false, List, [], ◌∷◌, ◌++◌, length, arith}
use Rattle.std.specs.Prelude.{Some}
use Rattle.cert_types.specs.declared.certificate.Step.{Step}
use Rattle.cert_types.specs.declared.rule.Fact.{Fact}
use Rattle.cert_rules.specs.Plans.{Way, learnt, known_after, is_complete}
use Rattle.cert_prove.specs.OrderLaws.{OneOrderedPlan, PassingIsAbove}
use Rattle.cert_prove.specs.Ordered.{Follows}

module _ (way : Way) (order : List Step) where
  abbrev known_by : List Fact → Step → List Fact
  known_by known step = learnt (way.rule step) ++ known

  same_step : (known : List Fact) (x y : Step) (xs ys : List Step) → Follows way order known (x ∷ xs) → Follows way order known (y ∷ ys) → x ≡ y
  same_step known x y xs ys f g = let e : Some x ≡ Some y = sym f.1 ∙ g.1 in cc

  one_from : (known : List Fact) (xs ys : List Step) → Follows way order known xs → is_complete way.goals (known_after way.rule known xs) ≡ true → Follows way order known ys → is_complete way.goals (known_after way.rule known ys) ≡ true → xs ≡ ys
  one_from known [] [] f d g e = refl
  one_from known [] (y ∷ ys) f d g e = absurd (let u : true ≡ false = sym d ∙ g.0 in cc)
  one_from known (x ∷ xs) [] f d g e = absurd (let u : true ≡ false = sym e ∙ f.0 in cc)
  one_from known (x ∷ xs) (y ∷ ys) f d g e =
      let same = same_step known x y xs ys f g in
      let g' = subst (λ z. Follows way order (known_by known z) ys) (sym same) g.2 in
      let e' = subst (λ z. is_complete way.goals (known_after way.rule (known_by known z) ys) ≡ true) (sym same) e in
      ap (λ z. z ∷ xs) same ∙ ap (λ zs. y ∷ zs) (one_from (known_by known x) xs ys f.2 d g' e')

  longer : (known : List Fact) (xs ys : List Step) → Follows way order known xs → is_complete way.goals (known_after way.rule known xs) ≡ false → Follows way order known ys → is_complete way.goals (known_after way.rule known ys) ≡ true → length xs < length ys
  longer known [] [] f d g e = absurd (let u : true ≡ false = sym e ∙ d in cc)
  longer known [] (y ∷ ys) f d g e = omega arith
  longer known (x ∷ xs) [] f d g e = absurd (let u : true ≡ false = sym e ∙ f.0 in cc)
  longer known (x ∷ xs) (y ∷ ys) f d g e =
      let same = same_step known x y xs ys f g in
      let g' = subst (λ z. Follows way order (known_by known z) ys) (sym same) g.2 in
      let e' = subst (λ z. is_complete way.goals (known_after way.rule (known_by known z) ys) ≡ true) (sym same) e in
      let more = longer (known_by known x) xs ys f.2 d g' e' in
      omega (arith, more)

pub one_ordered_plan : OneOrderedPlan
one_ordered_plan way order steps others p q = one_from way order way.start steps others p.follows p.complete q.follows q.complete

pub passing_is_above : PassingIsAbove
passing_is_above way order steps p q = subst (λ n. n < length steps) p.many (longer way order way.start p.steps steps p.follows p.incomplete q.follows q.complete)
