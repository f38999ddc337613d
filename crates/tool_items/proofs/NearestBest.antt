-- That the best window is one that begins with a step that came, and that a walk over these finds it.
use Rattle.std.proofs.Common.{◌≡◌, sym, ◌∙◌, ap, subst, ℕ, ◌+◌, ◌-◌, ◌<◌, ◌≤◌, ◌^◌, Bool, true, false, ◌&&◌, List, [], ◌∷◌, arith}
use Rattle.std.specs.Prelude.{ℤ, pos, ◌+ℤ◌, ◌≤ℤ◌, ◌<ℤ◌, int_le, int_lt, if◌then◌else◌}
use Rattle.std.specs.Int.RustNames.{unsigned_abs}
use Rattle.std.specs.List.{AllByRecursion}
use Rattle.std.specs.List.Sorted.{IsStrictlySortedBy}
use Rattle.std.specs.Map.{keys_of}
use Rattle.std.specs.Ordering.{int_cmp}
use Rattle.std.specs.declared.cmp.Ordering.TheVariants.{Less}
use Rattle.std.specs.Cmp.{int_ranked}
use Rattle.std.proofs.lemmas.Int.{by_lt_z, ints}
use Rattle.tool_items.specs.Nearest.{AreAtMost, below, IsBest, IsFront, IsSorted, IsWalk, Passes, within}
use Rattle.tool_items.specs.Steps.{counted}
use Rattle.tool_items.specs.declared.nearest.Front.{Front}
use Rattle.tool_items.specs.declared.nearest.Walk.{Walk}
use Rattle.tool_items.specs.declared.nearest.Window.{Window}

lt_is : (a b : ℤ) → a <ℤ b → int_lt a b ≡ true
lt_is a b h = grind (arith, ints)

lt_isnt : (a b : ℤ) → b ≤ℤ a → int_lt a b ≡ false
lt_isnt a b h = grind (arith, ints)

le_is : (a b : ℤ) → a ≤ℤ b → int_le a b ≡ true
le_is a b h = grind (arith, ints)

le_isnt : (a b : ℤ) → b <ℤ a → int_le a b ≡ false
le_isnt a b h = grind (arith, ints)

-- ---- a window is what is below its end and not below its first step

abbrev counts : Bool → ℕ → ℕ
counts t n = if t then n else 0

one_part : (n : ℕ) (a s : ℤ) (c : ℕ) → counts (within a n s) c + counts (int_lt s a) c ≡ counts (int_lt s (a +ℤ pos n)) c
one_part n a s c = by_lt_z s a before from_there
  where
    before : s <ℤ a → counts (within a n s) c + counts (int_lt s a) c ≡ counts (int_lt s (a +ℤ pos n)) c
    before h =
        let end : s <ℤ (a +ℤ pos n) = omega (arith, ints, h) in
        (λ i. counts (le_isnt a s h i && int_lt s (a +ℤ pos n)) c + counts (lt_is s a h i) c) ∙ omega arith ∙ ap (λ t. counts t c) (sym (lt_is s (a +ℤ pos n) end))

    from_there : a ≤ℤ s → counts (within a n s) c + counts (int_lt s a) c ≡ counts (int_lt s (a +ℤ pos n)) c
    from_there h = (λ i. counts (le_is a s h i && int_lt s (a +ℤ pos n)) c + counts (lt_isnt s a h i) c) ∙ omega arith

window_parts : (n : ℕ) (a : ℤ) (es : List (ℤ × ℕ)) → counted (within a n) es + counted (below a) es ≡ counted (below (a +ℤ pos n)) es
window_parts n a [] = omega arith
window_parts n a (e ∷ es) = joined _ _ _ _ _ _ (one_part n a e.0 e.1) (window_parts n a es)
  where
    joined : (p q r s t u : ℕ) → p + q ≡ r → s + t ≡ u → (p + s) + (q + t) ≡ r + u
    joined p q r s t u e f = omega (arith, e, f)

-- ---- no window has more than all that begin with a step that came

one_fewer : (n : ℕ) (a x s : ℤ) (c : ℕ) → a ≤ℤ x → x ≤ℤ s → counts (within a n s) c ≤ counts (within x n s) c
one_fewer n a x s c le far = by_lt_z s (a +ℤ pos n) inside outside
  where
    inside : s <ℤ (a +ℤ pos n) → counts (within a n s) c ≤ counts (within x n s) c
    inside h =
        let end : s <ℤ (x +ℤ pos n) = omega (arith, ints, h, le) in
        let start : a ≤ℤ s = omega (arith, ints, le, far) in
        subst (λ t. counts t c ≤ counts (within x n s) c) (sym (λ i. le_is a s start i && lt_is s (a +ℤ pos n) h i))
        (subst (λ t. c ≤ counts t c) (sym (λ i. le_is x s far i && lt_is s (x +ℤ pos n) end i)) (omega arith))

    outside : (a +ℤ pos n) ≤ℤ s → counts (within a n s) c ≤ counts (within x n s) c
    outside h =
        let start : a ≤ℤ s = omega (arith, ints, le, far) in
        subst (λ t. counts t c ≤ counts (within x n s) c) (sym (λ i. le_is a s start i && lt_isnt s (a +ℤ pos n) h i)) (omega arith)

both_fewer : (p q r s : ℕ) → p ≤ q → r ≤ s → p + r ≤ q + s
both_fewer p q r s a b = omega (arith, a, b)

rest_fewer : (n : ℕ) (a x : ℤ) → a ≤ℤ x → (es : List (ℤ × ℕ)) → AllByRecursion (λ k. int_cmp x k ≡ Less) (keys_of es) → counted (within a n) es ≤ counted (within x n) es
rest_fewer n a x le [] all = omega arith
rest_fewer n a x le (e ∷ es) all =
    let further : x <ℤ e.0 = int_ranked x e.0 Less (sym all.0) in
    let far : x ≤ℤ e.0 = omega (arith, ints, further) in
    both_fewer _ _ _ _ (one_fewer n a x e.0 e.1 le far) (rest_fewer n a x le es all.1)

-- what holds of more steps holds of fewer
tail_most : (n m : ℕ) (e : ℤ × ℕ) (es rest : List (ℤ × ℕ)) → AreAtMost n (e ∷ es) m rest → AreAtMost n es m rest
tail_most n m e es [] all = tt
tail_most n m e es (f ∷ fs) all = (fewer _ _ _ all.0, tail_most n m e es fs all.1)
  where
    fewer : (p q r : ℕ) → p + q ≤ r → q ≤ r
    fewer p q r h = omega (arith, h)

pub any_window : (n m : ℕ) (es : List (ℤ × ℕ)) → IsSorted es → AreAtMost n es m es → (a : ℤ) → counted (within a n) es ≤ m
unfolding IsStrictlySortedBy
any_window n m [] sorted all a = omega arith
any_window n m (e ∷ es) sorted all a = by_lt_z e.0 a (before (any_window n m es sorted.1 (tail_most n m e es es all.1) a)) from_there
  where
    before : counted (within a n) es ≤ m → e.0 <ℤ a → counted (within a n) (e ∷ es) ≤ m
    before most h = subst (λ t. counts (t && int_lt e.0 (a +ℤ pos n)) e.1 + counted (within a n) es ≤ m) (sym (le_isnt a e.0 h)) (omega (arith, most))

    chain : (p q r : ℕ) → p ≤ q → q ≤ r → p ≤ r
    chain p q r f g = omega (arith, f, g)

    from_there : a ≤ℤ e.0 → counted (within a n) (e ∷ es) ≤ m
    from_there h =
        let own : e.0 ≤ℤ e.0 = omega (arith, ints) in
        chain _ _ _ (both_fewer _ _ _ _ (one_fewer n a e.0 e.0 e.1 h own) (rest_fewer n a e.0 h es sorted.0)) all.0

-- ---- the walk

at_front : (es : List (ℤ × ℕ)) (n : ℕ) (step : ℤ) (count : ℕ) (rest : List (ℤ × ℕ)) (f g : Front) (bound : ℤ) → bound ≡ step +ℤ pos n → IsFront es n ((step, count) ∷ rest) f → Passes bound f g → g.passed ≡ counted (below bound) es
at_front es n step count rest f g bound is so p =
    let here : bound ≤ℤ bound = omega (arith, ints) in
    let there : (step +ℤ pos n) ≤ℤ bound = omega (arith, ints, is) in
    alone _ _ _ _ _ (p.counts bound here) (p.reached so.sorted) (so.counts bound there)
  where
    alone : (q left f l whole : ℕ) → q + left ≡ f + l → left ≡ 0 → f + l ≡ whole → q ≡ whole
    alone q left f l whole a b c = omega (arith, a, b, c)

front_on : (es : List (ℤ × ℕ)) (n : ℕ) (step : ℤ) (count : ℕ) (rest : List (ℤ × ℕ)) (f g : Front) (bound : ℤ) → bound ≡ step +ℤ pos n → IsSorted ((step, count) ∷ rest) → IsFront es n ((step, count) ∷ rest) f → Passes bound f g → IsFront es n rest g
unfolding IsStrictlySortedBy
front_on es n step count [] f g bound is sorted so p = record { sorted = p.sorted so.sorted; counts = λ b reach. absurd reach }
front_on es n step count (e ∷ rest) f g bound is sorted so p = record {
  sorted = p.sorted so.sorted;
  counts = λ b reach.
      let further : step <ℤ e.0 = int_ranked step e.0 Less (sym sorted.0.0) in
      let far : bound ≤ℤ b = omega (arith, ints, reach, further, is) in
      let from : (step +ℤ pos n) ≤ℤ b = omega (arith, ints, reach, further) in
      p.counts b far ∙ so.counts b from;
}

tail_sorted : (e : ℤ × ℕ) (es : List (ℤ × ℕ)) → IsSorted (e ∷ es) → IsSorted es
unfolding IsStrictlySortedBy
tail_sorted e es sorted = sorted.1

window_taken : (bits : ℕ) (es : List (ℤ × ℕ)) (step end : ℤ) (first last taken : ℕ) → end ≡ step +ℤ pos (2 ^ bits) → first ≡ counted (below step) es → last ≡ counted (below end) es → taken ≡ last - first → taken ≡ counted (within step (2 ^ bits)) es
window_taken bits es step end first last taken is a b e =
    left _ _ _ _ _ _ a (b ∙ ap (λ z. counted (below z) es) is) e (window_parts (2 ^ bits) step es)
  where
    left : (first last taken before all window : ℕ) → first ≡ before → last ≡ all → taken ≡ last - first → window + before ≡ all → taken ≡ window
    left first last taken before all window a b c d = omega (arith, a, b, c, d)

module _ (bits : ℕ) (step end : ℤ) (old new : Walk) (taken : ℕ) where
  -- what a window from a step has, and how the walk goes on by it
  window_is : end ≡ step +ℤ pos (2 ^ bits) → Passes step old.start new.start → Passes end old.end new.end → taken ≡ new.end.passed - new.start.passed → (es : List (ℤ × ℕ)) (count : ℕ) (rest : List (ℤ × ℕ)) → IsWalk bits es ((step, count) ∷ rest) old
      → taken ≡ counted (within step (2 ^ bits)) es
  window_is is p q e es count rest so =
      let from : step ≡ step +ℤ pos 0 = omega (arith, ints) in
      window_taken bits es step end new.start.passed new.end.passed taken is (at_front es 0 step count rest old.start new.start step from so.start_is p) (at_front es (2 ^ bits) step count rest old.end new.end end is so.end_is q) e

  no_more : (m b : ℕ) → b ≤ m → taken ≤ b → taken ≤ m
  no_more m b le more = omega (arith, le, more)

  pub better : end ≡ step +ℤ pos (2 ^ bits) → Passes step old.start new.start → Passes end old.end new.end → taken ≡ new.end.passed - new.start.passed → old.best.taken < taken → new.best.first ≡ step → new.best.taken ≡ taken → unsigned_abs step ≤ 2 ^ 64
      → (es : List (ℤ × ℕ)) (count : ℕ) (rest : List (ℤ × ℕ)) → IsWalk bits es ((step, count) ∷ rest) old → IsWalk bits es rest new
  better is p q e more first_is best_is small es count rest so =
      let from : step ≡ step +ℤ pos 0 = omega (arith, ints) in
      let has = window_is is p q e es count rest so in
      record {
        sorted = tail_sorted (step, count) rest so.sorted;
        start_is = front_on es 0 step count rest old.start new.start step from so.sorted so.start_is p;
        end_is = front_on es (2 ^ bits) step count rest old.end new.end end is so.sorted so.end_is q;
        small = subst (λ z. unsigned_abs z ≤ 2 ^ 64) (sym first_is) small;
        taken_is = best_is ∙ has ∙ ap (λ z. counted (within z (2 ^ bits)) es) (sym first_is);
        most = λ m le all.
            let here : taken ≤ m = omega (arith, le, best_is) in
            so.most m (omega (arith, here, more)) (subst (λ n. n ≤ m) has here, all);
      }

  pub as_good : end ≡ step +ℤ pos (2 ^ bits) → Passes step old.start new.start → Passes end old.end new.end → taken ≡ new.end.passed - new.start.passed → taken ≤ old.best.taken → new.best ≡ old.best
      → (es : List (ℤ × ℕ)) (count : ℕ) (rest : List (ℤ × ℕ)) → IsWalk bits es ((step, count) ∷ rest) old → IsWalk bits es rest new
  as_good is p q e fewer same es count rest so =
      let from : step ≡ step +ℤ pos 0 = omega (arith, ints) in
      let has = window_is is p q e es count rest so in
      record {
        sorted = tail_sorted (step, count) rest so.sorted;
        start_is = front_on es 0 step count rest old.start new.start step from so.sorted so.start_is p;
        end_is = front_on es (2 ^ bits) step count rest old.end new.end end is so.sorted so.end_is q;
        small = subst (λ (w : Window). unsigned_abs w.first ≤ 2 ^ 64) (sym same) so.small;
        taken_is = subst (λ (w : Window). w.taken ≡ counted (within w.first (2 ^ bits)) es) (sym same) so.taken_is;
        most = λ m le all.
            let before : old.best.taken ≤ m = subst (λ (w : Window). w.taken ≤ m) same le in
            so.most m before (subst (λ n. n ≤ m) has (no_more m old.best.taken before fewer), all);
      }

pub walk_end : (bits : ℕ) (es rest : List (ℤ × ℕ)) (w : Walk) → IsSorted es → rest ≡ [] → IsWalk bits es rest w → IsBest bits es w.best
walk_end bits es rest w sorted none so = record {
  small = so.small;
  taken_is = so.taken_is;
  most = any_window (2 ^ bits) w.best.taken es sorted (so.most w.best.taken (omega arith) (subst (λ r. AreAtMost (2 ^ bits) es w.best.taken r) (sym none) tt));
}
