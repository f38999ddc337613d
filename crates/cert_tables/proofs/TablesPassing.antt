-- A look-up through a window is the walk through its tests.
use Rattle.std.proofs.Common.{◌≡◌, ℕ, zero, suc, ◌+◌, ◌-◌, ◌<◌, ◌≤◌, Bool, true, false, cond, List, [], ◌∷◌, length, drop, refl, sym, subst, arith, zero-add}
use Rattle.std.specs.Prelude.{◌&&◌, Option, Some, None, slice_get, nat_le, nat_lt, ℤ}
use Rattle.std.proofs.lemmas.Option.{cond_some}
use Rattle.std.proofs.lemmas.Bool.{leb-true, ltb-true, le-leb}
use Rattle.std.proofs.lemmas.Bool.{and_parts}
use Rattle.cert_types.specs.declared.certificate.Node.{Node}
use Rattle.cert_types.specs.declared.certificate.Node.TheVariants as node
use Rattle.cert_types.specs.Kept.{trees_after}
use Rattle.cert_rules.specs.Trees.{way, by_bit}
use Rattle.cert_tables.specs.Tables.{seen, by_seen, passed, near, covering, cover, width}
use Rattle.cert_tables.specs.Kept.{past}
use Rattle.cert_tables.specs.Walking.{Shows}

-- ---- the walk and the window

module _ (bits window : List Bool) (o : ℕ) (shows : Shows bits window o) where
  -- a bit that is seen is there
  is_there : (p : ℕ) (b : Bool) → seen window o p ≡ Some b → slice_get bits p ≡ Some b
  is_there p b e = by (nat_le o p) refl e
    where
      by : (t : Bool) → nat_le o p ≡ t → cond t (slice_get window (p - o)) None ≡ Some b → slice_get bits p ≡ Some b
      by true h s =
          let le : o ≤ p = leb-true o p h in
          let same : o + (p - o) ≡ p = omega arith in
          subst (λ k. slice_get bits k ≡ Some b) same (shows.each (p - o) b s)
      by false h s = absurd cc

  pub by_window : (refs : ℕ → Option ℤ) (args : List ℤ) (n : ℕ) (nodes : List Node) → way refs bits args n nodes ≡ way refs bits args 0 (drop (passed window o n nodes) nodes)
  by_window refs args n [] = refl
  by_window refs args (suc n) (x ∷ nodes) = by_window refs args (trees_after x n) nodes
  by_window refs args zero (node.Leaf k ∷ nodes) = refl
  by_window refs args zero (node.Nowhere ∷ nodes) = refl
  by_window refs args zero (node.Parameter i c ∷ nodes) = refl
  by_window refs args zero (node.Reference i c ∷ nodes) = refl
  by_window refs args zero (node.Bit p ∷ nodes) = at (seen window o p) refl (λ n. by_window refs args n nodes)
    where
      at : (s : Option Bool) → seen window o p ≡ s → ((n : ℕ) → way refs bits args n nodes ≡ way refs bits args 0 (drop (passed window o n nodes) nodes)) →
          by_bit (slice_get bits p) (λ n. way refs bits args n nodes) ≡ way refs bits args 0 (drop (by_seen s (λ n. passed window o n nodes)) (node.Bit p ∷ nodes))
      at None e ih = refl
      at (Some false) e ih = rw (is_there p false e) (ih 0)
      at (Some true) e ih = rw (is_there p true e) (ih 1)

-- ---- trees that are passed

pub way_past : (refs : ℕ → Option ℤ) (bits : List Bool) (args : List ℤ) (n : ℕ) (nodes : List Node) → way refs bits args n nodes ≡ way refs bits args 0 (drop (past n nodes) nodes)
way_past refs bits args zero nodes = refl
way_past refs bits args (suc n) [] = refl
way_past refs bits args (suc n) (x ∷ nodes) = way_past refs bits args (trees_after x n) nodes

pub passed_past : (window : List Bool) (o n : ℕ) (nodes : List Node) → passed window o n nodes ≡ past n nodes + passed window o 0 (drop (past n nodes) nodes)
passed_past window o zero nodes = sym (zero-add (passed window o 0 nodes))
passed_past window o (suc n) [] = refl
passed_past window o (suc n) (x ∷ nodes) = let e = passed_past window o (trees_after x n) nodes in omega (arith, e)

past_nil : (n : ℕ) → past n [] ≡ 0
past_nil zero = refl
past_nil (suc n) = refl

after_more : (x : Node) (a b c : ℕ) → a + b ≡ c → trees_after x a + b ≡ trees_after x c
after_more (node.Bit o) a b c e = omega arith
after_more (node.Parameter i d) a b c e = omega arith
after_more (node.Reference i d) a b c e = omega arith
after_more (node.Leaf k) a b c e = e
after_more node.Nowhere a b c e = e

pub past_join : (a b c : ℕ) (nodes : List Node) → a + b ≡ c → past c nodes ≡ past a nodes + past b (drop (past a nodes) nodes)
past_join zero b c nodes e = let same : b ≡ c = omega arith in subst (λ k. past k nodes ≡ 0 + past b nodes) same (sym (zero-add (past b nodes)))
past_join (suc a) b c [] e = omega (arith, past_nil c, past_nil b)
past_join (suc a) b zero (x ∷ nodes) e = absurd (omega arith)
past_join (suc a) b (suc c) (x ∷ nodes) e =
    let h = past_join (trees_after x a) b (trees_after x c) nodes (after_more x a b c (omega arith)) in omega (arith, h)

pub past_within : (n : ℕ) (nodes : List Node) → past n nodes ≤ length nodes
past_within zero nodes = omega arith
past_within (suc n) [] = omega arith
past_within (suc n) (x ∷ nodes) = omega (arith, past_within (trees_after x n) nodes)

pub passed_within : (window : List Bool) (o n : ℕ) (nodes : List Node) → passed window o n nodes ≤ length nodes
passed_within window o n [] = omega arith
passed_within window o (suc n) (x ∷ nodes) = omega (arith, passed_within window o (trees_after x n) nodes)
passed_within window o zero (node.Leaf k ∷ nodes) = omega arith
passed_within window o zero (node.Nowhere ∷ nodes) = omega arith
passed_within window o zero (node.Parameter i c ∷ nodes) = omega arith
passed_within window o zero (node.Reference i c ∷ nodes) = omega arith
passed_within window o zero (node.Bit p ∷ nodes) = at (seen window o p) (λ n. passed_within window o n nodes)
  where
    at : (s : Option Bool) → ((n : ℕ) → passed window o n nodes ≤ length nodes) → by_seen s (λ n. passed window o n nodes) ≤ suc (length nodes)
    at None ih = omega arith
    at (Some false) ih = omega (arith, ih 0)
    at (Some true) ih = omega (arith, ih 1)

-- the own test of a table is passed
pub goes_on : (b : Bool) (window : List Bool) (o : ℕ) (nodes : List Node) → 1 ≤ passed (b ∷ window) o 0 (node.Bit o ∷ nodes)
goes_on b window o nodes =
    let there = le-leb o o (omega arith) in
    let first : o - o ≡ 0 = omega arith in
    rw (there, first) (by b)
  where
    by : (c : Bool) → 1 ≤ by_seen (Some c) (λ n. passed (b ∷ window) o n nodes)
    by false = omega arith
    by true = omega arith

-- ---- how wide a table is

near_narrow : (o : ℕ) (x : Node) (n : ℕ) → near o x ≡ Some n → n < 8
near_narrow o (node.Bit p) n e =
    let c = cond_some (nat_le o p && nat_lt (p - o) 8) (p - o) n e in
    let few = ltb-true (p - o) 8 (and_parts (nat_le o p) (nat_lt (p - o) 8) c.0).1 in
    omega (arith, few, c.1)
near_narrow o (node.Parameter i c) n e = absurd cc
near_narrow o (node.Reference i c) n e = absurd cc
near_narrow o (node.Leaf k) n e = absurd cc
near_narrow o node.Nowhere n e = absurd cc

pub cover_narrow : (o others trees : ℕ) (nodes : List Node) → cover o others trees nodes ≤ 8
cover_narrow o others trees [] = omega arith
cover_narrow o (suc n) trees (x ∷ nodes) = cover_narrow o (trees_after x n) trees nodes
cover_narrow o zero zero (x ∷ nodes) = omega arith
cover_narrow o zero (suc n) (x ∷ nodes) = at (near o x) refl (cover_narrow o 0 (suc (suc n)) nodes) (cover_narrow o (trees_after x 0) n nodes)
  where
    at : (t : Option ℕ) → near o x ≡ t → cover o 0 (suc (suc n)) nodes ≤ 8 → cover o (trees_after x 0) n nodes ≤ 8 → covering t (cover o 0 (suc (suc n)) nodes) (cover o (trees_after x 0) n nodes) ≤ 8
    at (Some k) e on off = omega (arith, near_narrow o x k e, on)
    at None e on off = off

-- what other trees cover counts for nothing
pub cover_past : (o others trees : ℕ) (nodes : List Node) → cover o others trees nodes ≡ cover o 0 trees (drop (past others nodes) nodes)
cover_past o zero trees nodes = refl
cover_past o (suc n) trees [] = refl
cover_past o (suc n) trees (x ∷ nodes) = cover_past o (trees_after x n) trees nodes

pub width_narrow : (o : ℕ) (nodes : List Node) → width o nodes ≤ 8
width_narrow o nodes = omega (arith, cover_narrow o 0 2 nodes)
