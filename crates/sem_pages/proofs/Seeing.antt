-- What is found from what is seen is so on each level that has it.
use Rattle.std.proofs.Common.{◌≡◌, ◌∙◌, refl, ap, Bool, List, [], ◌∷◌}
use Rattle.std.specs.Prelude.{slice_get, Option, Some, None, option_map, option_and_then, ℤ}
use Rattle.sem_expr.specs.declared.expr.Attribute.{Attribute}
use Rattle.sem_expr.specs.declared.expr.Cond.{Cond}
use Rattle.sem_expr.specs.declared.expr.Cond.TheVariants.{Constant, Compare, Not', And', Or'}
use Rattle.sem_expr.specs.declared.expr.Expr.{Expr}
use Rattle.sem_expr.specs.declared.expr.Expr.TheVariants as expr
use Rattle.sem_expr.specs.declared.expr.Expr.TheVariants.{Number, Parameter, Binary'}
use Rattle.sem_expr.specs.Values.{val, truth, both, apply, compare}
use Rattle.sem_filling.specs.Fits.{measured, vals}
use Rattle.sem_pages.specs.Pages.{Looked, Seen, Bears, seen_side, numbers_seen, numbers_in}

both_more : {A B : Type 0} (f : A → A → Option B) (x y x' y' : Option A) (z : B) → ((v : A) → x ≡ Some v → x' ≡ Some v) → ((v : A) → y ≡ Some v → y' ≡ Some v) → both f x y ≡ Some z → both f x' y' ≡ Some z
both_more f None y x' y' z h k e = absurd (cc)
both_more f (Some v) None x' y' z h k e = absurd (cc)
both_more f (Some v) (Some w) x' y' z h k e = (λ i. both f (h v refl i) (k w refl i)) ∙ e

map_more : {A B : Type 0} (f : A → B) (x x' : Option A) (z : B) → ((v : A) → x ≡ Some v → x' ≡ Some v) → option_map f x ≡ Some z → option_map f x' ≡ Some z
map_more f None x' z h e = absurd (cc)
map_more f (Some v) x' z h e = ap (option_map f) (h v refl) ∙ e

then_more : {A B : Type 0} (f g : A → Option B) (x x' : Option A) (z : B) → ((v : A) → x ≡ Some v → x' ≡ Some v) → ((v : A) → f v ≡ Some z → g v ≡ Some z) → option_and_then f x ≡ Some z → option_and_then g x' ≡ Some z
then_more f g None x' z h k e = absurd (cc)
then_more f g (Some v) x' z h k e = ap (option_and_then g) (h v refl) ∙ k v e

module _ (l : Looked) (v : Seen) (bears : Bears l v) where
  seen_number : (t : Attribute) (o : Option (List Bool)) (n : ℤ) → seen_side v t.subject t.side ≡ o → option_map (measured t.measure) o ≡ Some n → (numbers_in l).attribute t ≡ Some n
  seen_number t None n is e = absurd (cc)
  seen_number t (Some b) n is e = ap (λ z. Some (measured t.measure z)) (bears.sides_are t.subject t.side b is) ∙ e

  pub value_on : (e : Expr) (n : ℤ) → val (numbers_seen v) e ≡ Some n → val (numbers_in l) e ≡ Some n
  value_on (Number s m) n e = e
  value_on (Parameter s i) n e = ap (λ args. slice_get args i) bears.arguments_are ∙ e
  value_on (expr.Attribute s t) n e = seen_number t (seen_side v t.subject t.side) n refl e
  value_on (Binary' s op p x q y) n e = both_more (apply op) (val (numbers_seen v) x) (val (numbers_seen v) y) (val (numbers_in l) x) (val (numbers_in l) y) n (value_on x) (value_on y) e

  pub truth_on : (c : Cond) (b : Bool) → truth (numbers_seen v) c ≡ Some b → truth (numbers_in l) c ≡ Some b
  truth_on (Constant s k) b e = e
  truth_on (Compare s op x y) b e = both_more (λ v w. Some (compare op v w)) (val (numbers_seen v) x) (val (numbers_seen v) y) (val (numbers_in l) x) (val (numbers_in l) y) b (value_on x) (value_on y) e
  truth_on (Not' s p x) b e = map_more _ (truth (numbers_seen v) x) (truth (numbers_in l) x) b (truth_on x) e
  truth_on (And' s p x q y) b e = both_more _ (truth (numbers_seen v) x) (truth (numbers_seen v) y) (truth (numbers_in l) x) (truth (numbers_in l) y) b (truth_on x) (truth_on y) e
  truth_on (Or' s p x q y) b e = both_more _ (truth (numbers_seen v) x) (truth (numbers_seen v) y) (truth (numbers_in l) x) (truth (numbers_in l) y) b (truth_on x) (truth_on y) e

  pub values_on : (es : List Expr) (ns : List ℤ) → vals (numbers_seen v) es ≡ Some ns → vals (numbers_in l) es ≡ Some ns
  values_on [] ns e = e
  values_on (x ∷ xs) ns e = then_more (λ n. option_map (λ ms. n ∷ ms) (vals (numbers_seen v) xs)) (λ n. option_map (λ ms. n ∷ ms) (vals (numbers_in l) xs)) (val (numbers_seen v) x) (val (numbers_in l) x) ns (value_on x)
      (λ n. map_more (λ ms. n ∷ ms) (vals (numbers_seen v) xs) (vals (numbers_in l) xs) ns (values_on xs)) e
