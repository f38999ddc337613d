-- A step that is counted once more, and steps that are counted one after the other.
use Rattle.std.proofs.Common.{◌≡◌, refl, sym, ◌∙◌, ap, subst, ℕ, ◌+◌, ◌<◌, ◌≤◌, Bool, true, false, List, [], ◌∷◌, length, map, drop, get_or, arith}
use Rattle.std.specs.Prelude.{Option, None, Some, if◌then◌else◌, ℤ, ◌<ℤ◌}
use Rattle.std.specs.Option.{unwrap_or}
use Rattle.std.specs.List.{AllByRecursion}
use Rattle.std.specs.List.Sorted.{IsStrictlySortedBy}
use Rattle.std.specs.BTreeMap.{insert_entry, is_at}
use Rattle.std.specs.Map.{lookup, keys_of}
use Rattle.std.specs.Ordering.{int_cmp, is_eq, match_ordering}
use Rattle.std.specs.declared.cmp.Ordering.{Ordering}
use Rattle.std.specs.declared.cmp.Ordering.TheVariants.{Less, Equal, Greater}
use Rattle.std.specs.Cmp.{int_cmp_is, int_ranked}
use Rattle.std.proofs.lemmas.Int.{ints}
use Rattle.std.proofs.lemmas.List.{drop_all, drop_more}
use Rattle.tool_items.specs.Steps.{AddSteps, counted, passing, without}
use Rattle.tool_items.specs.declared.steps.Steps.{Steps}

-- below all keys no entry is found
none_below : (s x : ℤ) → s <ℤ x → (es : List (ℤ × ℕ)) → AllByRecursion (λ k. int_cmp x k ≡ Less) (keys_of es) → lookup (is_at (int_cmp s)) es ≡ None
none_below s x lt [] all = refl
none_below s x lt (e ∷ es) all =
    let further : x <ℤ e.0 = int_ranked x e.0 Less (sym all.0) in
    let less : Less ≡ int_cmp s e.0 = int_cmp_is s e.0 Less (omega (arith, ints, lt, further)) in
    subst (λ o. (if is_eq o then Some e.1 else lookup (is_at (int_cmp s)) es) ≡ None) less (none_below s x lt es all.1)

moved : (a b c d : ℕ) → b ≡ c + d → a + b ≡ c + (a + d)
moved a b c d e = omega (arith, e)

module _ (test : ℤ → Bool) where
  abbrev part : ℤ → ℕ → ℕ
  part k n = if test k then n else 0

  one_more : (b : Bool) (n m : ℕ) → (if b then n + 1 else 0) + m ≡ (if b then 1 else 0) + ((if b then n else 0) + m)
  one_more true n m = omega arith
  one_more false n m = omega arith

  pub once : (s : ℤ) (before : ℕ) (es : List (ℤ × ℕ)) → IsStrictlySortedBy int_cmp (keys_of es) → before ≡ unwrap_or (lookup (is_at (int_cmp s)) es) 0 → counted test (insert_entry int_cmp es s (before + 1)) ≡ part s 1 + counted test es
  unfolding IsStrictlySortedBy
  once s before [] sorted is = ap (λ n. part s (n + 1) + 0) is
  once s before (e ∷ es) sorted is = by (once s before es) (int_cmp s e.0) refl
    where
      by : (IsStrictlySortedBy int_cmp (keys_of es) → before ≡ unwrap_or (lookup (is_at (int_cmp s)) es) 0 → counted test (insert_entry int_cmp es s (before + 1)) ≡ part s 1 + counted test es) → (o : Ordering) → o ≡ int_cmp s e.0 → counted test (match_ordering o ((s, before + 1) ∷ e ∷ es) ((e.0, before + 1) ∷ es) (e ∷ insert_entry int_cmp es s (before + 1))) ≡ part s 1 + counted test (e ∷ es)
      by more Less less =
          let lookup_is = subst (λ o. before ≡ unwrap_or (if is_eq o then Some e.1 else lookup (is_at (int_cmp s)) es) 0) (sym less) is in
          let none : before ≡ 0 = lookup_is ∙ ap (λ o. unwrap_or o 0) (none_below s e.0 (int_ranked s e.0 Less less) es sorted.0) in
          ap (λ n. part s (n + 1) + counted test (e ∷ es)) none
      by more Equal equal =
          let same : s ≡ e.0 = int_ranked s e.0 Equal equal in
          let there : before ≡ e.1 = subst (λ o. before ≡ unwrap_or (if is_eq o then Some e.1 else lookup (is_at (int_cmp s)) es) 0) (sym equal) is in
          ap (λ n. part e.0 (n + 1) + counted test es) there ∙ one_more (test e.0) e.1 (counted test es) ∙ ap (λ k. part k 1 + (part e.0 e.1 + counted test es)) (sym same)
      by more Greater greater =
          let further = subst (λ o. before ≡ unwrap_or (if is_eq o then Some e.1 else lookup (is_at (int_cmp s)) es) 0) (sym greater) is in
          moved (part e.0 e.1) _ (part s 1) (counted test es) (more sorted.1 further)

-- ---- one after the other

first_passes : (test : ℤ → Bool) (m : Option ℤ) (ms : List (Option ℤ)) → passing test (m ∷ ms) ≡ passing test (m ∷ []) + passing test ms
first_passes test None ms = omega arith
first_passes test (Some s) ms = omega arith

first_without : (m : Option ℤ) (ms : List (Option ℤ)) → without (m ∷ ms) ≡ without (m ∷ []) + without ms
first_without None ms = omega arith
first_without (Some s) ms = omega arith

chain : (new mid old a b all : ℕ) → mid ≡ a + old → new ≡ b + mid → all ≡ a + b → new ≡ all + old
chain new mid old a b all e f g = omega (arith, e, f, g)

pub none_added : (s : Steps) → AddSteps [] s s
none_added s = record { counts_add = λ test. omega arith; without_adds = omega arith }

pub add_more : (m : Option ℤ) (ms : List (Option ℤ)) (old mid new : Steps) → AddSteps (m ∷ []) old mid → AddSteps ms mid new → AddSteps (m ∷ ms) old new
add_more m ms old mid new a b = record {
  counts_add = λ test. chain _ _ _ _ _ _ (a.counts_add test) (b.counts_add test) (first_passes test m ms);
  without_adds = chain _ _ _ _ _ _ a.without_adds b.without_adds (first_without m ms);
}

module _ (f : List Bool → Option ℤ) (xs : List (List Bool)) where
  pub from_more : (i : ℕ) (x : List Bool) → i < length xs → x ≡ get_or xs i x → (old mid new : Steps) → AddSteps (f x ∷ []) old mid → AddSteps (map f (drop (i + 1) xs)) mid new → AddSteps (map f (drop i xs)) old new
  from_more i x h e old mid new a b = subst (λ ys. AddSteps (map f ys) old new) (sym (drop_more xs i x h ∙ ap (λ y. y ∷ drop (i + 1) xs) (sym e))) (add_more (f x) (map f (drop (i + 1) xs)) old mid new a b)

  pub from_end : (i : ℕ) → length xs ≤ i → (start now : Steps) → ((new : Steps) → AddSteps (map f (drop i xs)) now new → AddSteps (map f xs) start new) → AddSteps (map f xs) start now
  from_end i le start now so = so now (subst (λ ys. AddSteps (map f ys) now now) (sym (drop_all i xs le)) (none_added now))
