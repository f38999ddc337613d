-- Windows over steps: how many of those that came are in them.
use Rattle.std.proofs.Common.{◌≡◌, refl, sym, ◌∙◌, ap, subst, ℕ, zero, suc, ◌+◌, ◌<◌, ◌≤◌, true, false, List, [], ◌∷◌, length, drop, get_or, arith}
use Rattle.std.specs.Prelude.{ℤ, ◌≤ℤ◌, ◌<ℤ◌, int_lt, if◌then◌else◌}
use Rattle.std.specs.List.{AllByRecursion}
use Rattle.std.specs.List.Sorted.{IsStrictlySortedBy}
use Rattle.std.specs.Map.{keys_of}
use Rattle.std.specs.Ordering.{int_cmp}
use Rattle.std.specs.declared.cmp.Ordering.TheVariants.{Less}
use Rattle.std.specs.Cmp.{int_ranked}
use Rattle.std.proofs.lemmas.Int.{ints}
use Rattle.std.proofs.lemmas.List.{drop_all, drop_more}
use Rattle.tool_items.specs.Nearest.{below, IsSorted, Passes}
use Rattle.tool_items.specs.Steps.{counted}
use Rattle.tool_items.specs.declared.nearest.Front.{Front}

-- what the steps of a list give, as far as they were passed
pub record PassedSoFar (bound : ℤ) (old : ℕ) (es : List (ℤ × ℕ)) (i passed : ℕ) : Type 0 where
  pub counts : (b : ℤ) → bound ≤ℤ b → passed + counted (below b) (drop i es) ≡ old + counted (below b) es

pub passed_start : (bound : ℤ) (old : ℕ) (es : List (ℤ × ℕ)) → PassedSoFar bound old es 0 old
passed_start bound old es = record { counts = λ b le. refl }

is_below : (s bound b : ℤ) → s <ℤ bound → bound ≤ℤ b → int_lt s b ≡ true
is_below s bound b lt le = grind (arith, ints)

isnt_below : (s bound : ℤ) → bound ≤ℤ s → int_lt s bound ≡ false
isnt_below s bound le = grind (arith, ints)

sorted_drop : (i : ℕ) (es : List (ℤ × ℕ)) → IsSorted es → IsSorted (drop i es)
unfolding IsStrictlySortedBy
sorted_drop zero es s = s
sorted_drop (suc i) [] s = s
sorted_drop (suc i) (e ∷ es) s = sorted_drop i es s.1

none_below : (bound x : ℤ) → bound ≤ℤ x → (es : List (ℤ × ℕ)) → AllByRecursion (λ k. int_cmp x k ≡ Less) (keys_of es) → counted (below bound) es ≡ 0
none_below bound x le [] all = refl
none_below bound x le (e ∷ es) all =
    let further : x <ℤ e.0 = int_ranked x e.0 Less (sym all.0) in
    let beyond : bound ≤ℤ e.0 = omega (arith, ints, le, further) in
    ap (λ t. (if t then e.1 else 0) + counted (below bound) es) (isnt_below e.0 bound beyond) ∙ omega (arith, none_below bound x le es all.1)

first_none : (bound : ℤ) (e : ℤ × ℕ) (es : List (ℤ × ℕ)) → IsSorted (e ∷ es) → bound ≤ℤ e.0 → counted (below bound) (e ∷ es) ≡ 0
unfolding IsStrictlySortedBy
first_none bound e es s le = ap (λ t. (if t then e.1 else 0) + counted (below bound) es) (isnt_below e.0 bound le) ∙ omega (arith, none_below bound e.0 le es s.0)

pub passed_more : (bound : ℤ) (old : ℕ) (es : List (ℤ × ℕ)) (i passed next : ℕ) (d : ℤ × ℕ) → i < length es → (get_or es i d).0 <ℤ bound → next ≡ passed + (get_or es i d).1 → PassedSoFar bound old es i passed → PassedSoFar bound old es (i + 1) next
passed_more bound old es i passed next d h lt more so = record { counts = λ b le. further (get_or es i d).1 _ _ _ _ _ more (left b le) (so.counts b le) }
  where
    left : (b : ℤ) → bound ≤ℤ b → counted (below b) (drop i es) ≡ (get_or es i d).1 + counted (below b) (drop (i + 1) es)
    left b le = ap (counted (below b)) (drop_more es i d h) ∙ ap (λ t. (if t then (get_or es i d).1 else 0) + counted (below b) (drop (i + 1) es)) (is_below (get_or es i d).0 bound b lt le)

    further : (n passed next whole here rest : ℕ) → next ≡ passed + n → here ≡ n + rest → passed + here ≡ whole → next + rest ≡ whole
    further n passed next whole here rest e f g = omega (arith, e, f, g)

pub passed_here : (bound : ℤ) (f g : Front) (i passed : ℕ) (d : ℤ × ℕ) → i < length f.left.now → bound ≤ℤ (get_or f.left.now i d).0 → g.left.now ≡ drop i f.left.now → g.passed ≡ passed → PassedSoFar bound f.passed f.left.now i passed → Passes bound f g
passed_here bound f g i passed d h le there same so =
    let here : drop i f.left.now ≡ get_or f.left.now i d ∷ drop (i + 1) f.left.now = drop_more f.left.now i d h in
    record {
      counts = λ b far. (λ j. same j + counted (below b) (there j)) ∙ so.counts b far;
      sorted = λ s. subst IsSorted (sym there) (sorted_drop i f.left.now s);
      reached = λ s. ap (counted (below bound)) (there ∙ here) ∙ first_none bound (get_or f.left.now i d) (drop (i + 1) f.left.now) (subst IsSorted here (sorted_drop i f.left.now s)) le;
    }

pub passed_all : (bound : ℤ) (f g : Front) (i passed : ℕ) → length f.left.now ≤ i → g.left.now ≡ [] → g.passed ≡ passed → PassedSoFar bound f.passed f.left.now i passed → Passes bound f g
unfolding IsStrictlySortedBy
passed_all bound f g i passed le there same so =
    let none : g.left.now ≡ drop i f.left.now = there ∙ sym (drop_all i f.left.now le) in
    record {
      counts = λ b far. (λ j. same j + counted (below b) (none j)) ∙ so.counts b far;
      sorted = λ s. subst IsSorted (sym there) tt;
      reached = λ s. ap (counted (below bound)) there;
    }
