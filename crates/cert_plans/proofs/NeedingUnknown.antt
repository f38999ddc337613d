-- The first fact that isn't known, of lists that are joined, and what is sure of THIS.
use Rattle.std.proofs.Common.{◌≡◌, refl, sym, ◌∙◌, ap, Bool, true, false, List, [], ◌∷◌, ◌++◌, cond}
use Rattle.std.specs.Prelude.{Option, Some, None, ◌&&◌, not, is_some}
use Rattle.std.specs.List.{list_all}
use Rattle.sem_expr.specs.declared.expr.Side.{Side}
use Rattle.sem_expr.specs.declared.expr.Side.TheVariants.{Uncompressed, Compressed}
use Rattle.sem_expr.specs.declared.expr.Measure.{Measure}
use Rattle.sem_expr.specs.declared.expr.Measure.TheVariants.{Length, Value}
use Rattle.sem_expr.specs.declared.expr.Subject.TheVariants.{This}
use Rattle.sem_profile.specs.declared.profile.Format.{Format}
use Rattle.cert_types.specs.declared.rule.Fact.{Fact}
use Rattle.cert_rules.specs.Facts.{fact_of, side_facts}
use Rattle.cert_plans.specs.declared.knowledge.FieldKnowledge.{FieldKnowledge}
use Rattle.cert_plans.specs.declared.knowledge.Knowledge.{Knowledge}
use Rattle.cert_plans.specs.Knowing.{shows_of, shows, with_fact, nothing}
use Rattle.cert_plans.specs.Needing.{first_unknown, IsSure}

module _ (k : Knowledge) where
  -- one that stands in the first list
  some_before : (xs ys : List Fact) (x : Fact) → first_unknown k xs ≡ Some x → first_unknown k (xs ++ ys) ≡ Some x
  some_before [] ys x e = absurd (cc)
  some_before (y ∷ xs) ys x e = by (not (shows k y)) e (λ e. some_before xs ys x e) where
    by : (b : Bool) → cond b (Some y) (first_unknown k xs) ≡ Some x → (first_unknown k xs ≡ Some x → first_unknown k (xs ++ ys) ≡ Some x) → cond b (Some y) (first_unknown k (xs ++ ys)) ≡ Some x
    by true e rest = e
    by false e rest = rest e

  -- none does, so it stands in the second
  none_before : (xs ys : List Fact) → first_unknown k xs ≡ None → first_unknown k (xs ++ ys) ≡ first_unknown k ys
  none_before [] ys e = refl
  none_before (y ∷ xs) ys e = by (not (shows k y)) e (λ e. none_before xs ys e) where
    by : (b : Bool) → cond b (Some y) (first_unknown k xs) ≡ None → (first_unknown k xs ≡ None → first_unknown k (xs ++ ys) ≡ first_unknown k ys) → cond b (Some y) (first_unknown k (xs ++ ys)) ≡ first_unknown k ys
    by true e rest = absurd (cc)
    by false e rest = rest e

  -- the same, by what a search of the first list answered
  pub joined_some : (xs ys : List Fact) (o : Option Fact) (x : Fact) → o ≡ first_unknown k xs → o ≡ Some x → Some x ≡ first_unknown k (xs ++ ys)
  joined_some xs ys o x is e = sym (some_before xs ys x (sym is ∙ e))

  pub joined_none : (xs ys : List Fact) (o p : Option Fact) → o ≡ first_unknown k xs → o ≡ None → p ≡ first_unknown k ys → p ≡ first_unknown k (xs ++ ys)
  joined_none xs ys o p is e then = then ∙ sym (none_before xs ys (sym is ∙ e))

  -- both are known, of which the second was looked at first
  pub both_known : (xs ys : List Fact) (left right : Bool) → right ≡ true → (right ≡ true → None ≡ first_unknown k ys) → (left ≡ true → None ≡ first_unknown k xs) → left ≡ true → None ≡ first_unknown k (xs ++ ys)
  both_known xs ys left right e after before h = after e ∙ sym (none_before xs ys (sym (before h)))

  -- there is none just where all are known
  one_more : (y : Fact) (xs : List Fact) (b : Bool) → is_some (first_unknown k xs) ≡ not (list_all (shows k) xs) → is_some (cond (not b) (Some y) (first_unknown k xs)) ≡ not (b && list_all (shows k) xs)
  one_more y xs true e = e
  one_more y xs false e = refl

  none_is : (xs : List Fact) → is_some (first_unknown k xs) ≡ not (list_all (shows k) xs)
  none_is [] = refl
  none_is (y ∷ xs) = one_more y xs (shows k y) (none_is xs)

  same_not : (b c : Bool) → not b ≡ not c → b ≡ c
  same_not true true e = refl
  same_not false false e = refl
  same_not true false e = absurd (cc)
  same_not false true e = absurd (cc)

  pub all_known_is : (xs : List Fact) (b : Bool) → is_some (first_unknown k xs) ≡ not b → b ≡ list_all (shows k) xs
  all_known_is xs b e = same_not b (list_all (shows k) xs) (sym e ∙ none_is xs)

  -- where one that is found isn't known, not all are
  never : (b : Bool) → (b && false) ≡ false
  never true = refl
  never false = refl

  lacks_here : (y x : Fact) (xs : List Fact) (known : Fact → Bool) (b : Bool) → known x ≡ false → cond b (Some y) (first_unknown k xs) ≡ Some x → (first_unknown k xs ≡ Some x → list_all known xs ≡ false) → (known y && list_all known xs) ≡ false
  lacks_here y x xs known true h e rest = let same : y ≡ x = cc in ap (λ b. b && list_all known xs) (ap known same ∙ h)
  lacks_here y x xs known false h e rest = ap (λ b. known y && b) (rest e) ∙ never (known y)

  pub found_lacks : (xs : List Fact) (x : Fact) → first_unknown k xs ≡ Some x → (known : Fact → Bool) → known x ≡ false → list_all known xs ≡ false
  found_lacks [] x e known h = absurd (cc)
  found_lacks (y ∷ xs) x e known h = lacks_here y x xs known (not (shows k y)) h e (λ e. found_lacks xs x e known h)

-- nothing is sure at first
pub none_sure : (k : Knowledge) (format : Format) → IsSure k format nothing
none_sure k format Uncompressed Length h = absurd (cc)
none_sure k format Uncompressed Value h = absurd (cc)
none_sure k format Compressed Length h = absurd (cc)
none_sure k format Compressed Value h = absurd (cc)

-- one mark more
pub more_sure : (k : Knowledge) (format : Format) (sure : FieldKnowledge) (side : Side) (measure : Measure) → IsSure k format sure → first_unknown k (side_facts format This side measure) ≡ None →
    IsSure k format (with_fact sure (fact_of side measure 0))
more_sure k format sure Uncompressed Length so e Uncompressed Length h = e
more_sure k format sure Uncompressed Value so e Uncompressed Value h = e
more_sure k format sure Compressed Length so e Compressed Length h = e
more_sure k format sure Compressed Value so e Compressed Value h = e
more_sure k format sure Uncompressed Length so e Uncompressed Value h = so Uncompressed Value h
more_sure k format sure Uncompressed Length so e Compressed Length h = so Compressed Length h
more_sure k format sure Uncompressed Length so e Compressed Value h = so Compressed Value h
more_sure k format sure Uncompressed Value so e Uncompressed Length h = so Uncompressed Length h
more_sure k format sure Uncompressed Value so e Compressed Length h = so Compressed Length h
more_sure k format sure Uncompressed Value so e Compressed Value h = so Compressed Value h
more_sure k format sure Compressed Length so e Uncompressed Length h = so Uncompressed Length h
more_sure k format sure Compressed Length so e Uncompressed Value h = so Uncompressed Value h
more_sure k format sure Compressed Length so e Compressed Value h = so Compressed Value h
more_sure k format sure Compressed Value so e Uncompressed Length h = so Uncompressed Length h
more_sure k format sure Compressed Value so e Uncompressed Value h = so Uncompressed Value h
more_sure k format sure Compressed Value so e Compressed Length h = so Compressed Length h
