-- Places in a tree, by the sizes of its subtrees.
use Rattle.std.proofs.Common.{◌≡◌, ℕ, zero, suc, ◌+◌, ◌-◌, ◌<◌, ◌≤◌, max, true, List, ◌∷◌, length, drop, get_or, refl, sym, ◌∙◌, ap, arith}
use Rattle.std.specs.Prelude.{Some, None}
use Rattle.std.proofs.lemmas.List.{length-drop, drop-drop, drop_more}
use Rattle.sem_bits.specs.Number.{enc}
use Rattle.cert_types.specs.declared.certificate.Node.{Node}
use Rattle.cert_types.specs.declared.certificate.Node.TheVariants as node
use Rattle.cert_types.specs.Kept.{trees_after}
use Rattle.cert_tables.specs.Tables.{seen, passed, entry, near, cover}
use Rattle.cert_tables.specs.Kept.{past, AreSizesFrom}
use Rattle.cert_tables.proofs.TablesPassing.{past_within, past_join, passed_past, cover_past}

module _ (from : ℕ) (nodes : List Node) (sizes : List ℕ) (sized : AreSizesFrom from nodes sizes) where
  pub first_within : (place : ℕ) → from ≤ place → place ≤ length nodes → place + get_or sizes place 0 ≤ length nodes
  first_within place h within = omega (arith, sized place h, past_within 1 (drop place nodes), length-drop place nodes)

  pub two_are : (place : ℕ) → from ≤ place → get_or sizes place 0 + get_or sizes (place + get_or sizes place 0) 0 ≡ past 2 (drop place nodes)
  two_are place h =
      let first = sized place h in
      let next = sized (place + get_or sizes place 0) (omega arith) in
      let moved : drop (past 1 (drop place nodes)) (drop place nodes) ≡ drop (place + get_or sizes place 0) nodes =
      drop-drop (past 1 (drop place nodes)) place nodes ∙ ap (λ k. drop (place + k) nodes) (sym first) in
      let both = past_join 1 1 2 (drop place nodes) (omega arith) in
      omega (arith, first, next, both, ap (past 1) moved)

  pub two_within : (place : ℕ) → from ≤ place → place ≤ length nodes → place + (get_or sizes place 0 + get_or sizes (place + get_or sizes place 0) 0) ≤ length nodes
  two_within place h within = omega (arith, two_are place h, past_within 2 (drop place nodes), length-drop place nodes)

-- ---- one step through a window

module _ (w o v : ℕ) (nodes : List Node) (place tested : ℕ) (here : drop place nodes ≡ node.Bit tested ∷ drop (place + 1) nodes) where
  pub entry_one : (next : ℕ) → seen (enc w v) o tested ≡ Some true → next ≡ (place + 1) + past 1 (drop (place + 1) nodes) → entry w o next (drop next nodes) v ≡ entry w o place (drop place nodes) v
  entry_one next is e =
      let moved : drop (past 1 (drop (place + 1) nodes)) (drop (place + 1) nodes) ≡ drop next nodes = drop-drop (past 1 (drop (place + 1) nodes)) (place + 1) nodes ∙ ap (λ k. drop k nodes) (sym e) in
      let on = passed_past (enc w v) o 1 (drop (place + 1) nodes) in
      let all : passed (enc w v) o 0 (drop place nodes) ≡ suc (passed (enc w v) o 1 (drop (place + 1) nodes)) =
      rw (here, is) refl in
      omega (arith, e, on, all, ap (passed (enc w v) o 0) moved)

pub at_front : (nodes : List Node) (place : ℕ) (d x : Node) → place < length nodes → get_or nodes place d ≡ x → drop place nodes ≡ x ∷ drop (place + 1) nodes
at_front nodes place d x within is = drop_more nodes place d within ∙ ap (λ y. y ∷ drop (place + 1) nodes) is

-- ---- the width of a window

module _ (o trees at : ℕ) (nodes : List Node) (x : Node) (here : drop at nodes ≡ x ∷ drop (at + 1) nodes) (some : 0 < trees) where
  pub cover_on : (k : ℕ) → near o x ≡ Some k → cover o 0 trees (drop at nodes) ≡ max (suc k) (cover o 0 (trees + 1) (drop (at + 1) nodes))
  cover_on k is = by trees some
    where
      by : (t : ℕ) → 0 < t → cover o 0 t (drop at nodes) ≡ max (suc k) (cover o 0 (t + 1) (drop (at + 1) nodes))
      by zero h = absurd (omega arith)
      by (suc n) h = let more : suc n + 1 ≡ suc (suc n) = omega arith in rw (here, is, more) refl

  pub cover_off : (next : ℕ) → near o x ≡ None → next ≡ at + past 1 (drop at nodes) → cover o 0 trees (drop at nodes) ≡ cover o 0 (trees - 1) (drop next nodes)
  cover_off next is e = by trees some
    where
      by : (t : ℕ) → 0 < t → cover o 0 t (drop at nodes) ≡ cover o 0 (t - 1) (drop next nodes)
      by zero h = absurd (omega arith)
      by (suc n) h =
          let less : suc n - 1 ≡ n = omega arith in
          let p : ℕ = past (trees_after x 0) (drop (at + 1) nodes) in
          let long : past 1 (drop at nodes) ≡ suc p = rw here refl in
          let to : (at + 1) + p ≡ next = omega (arith, e, long) in
          let on : drop p (drop (at + 1) nodes) ≡ drop next nodes = drop-drop p (at + 1) nodes ∙ ap (λ k. drop k nodes) to in
          let off : cover o 0 (suc n) (drop at nodes) ≡ cover o (trees_after x 0) n (drop (at + 1) nodes) = rw (here, is) refl in
          off ∙ (cover_past o (trees_after x 0) n (drop (at + 1) nodes) ∙ (ap (cover o 0 n) on ∙ ap (λ k. cover o 0 k (drop next nodes)) (sym less)))
