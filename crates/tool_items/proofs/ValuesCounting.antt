-- A value that is counted once more.
use Rattle.std.proofs.Common.{◌≡◌, refl, sym, ◌∙◌, ap, subst, ℕ, zero, suc, ◌+◌, ◌<◌, ◌≤◌, Bool, true, false, List, [], ◌∷◌, ◌++◌, length, map, get_or, set, arith}
use Rattle.std.specs.Prelude.{Some, slice_get, if◌then◌else◌}
use Rattle.std.specs.List.{AllByRecursion, IsDistinct}
use Rattle.std.proofs.lemmas.List.{length-set}
use Rattle.std.proofs.lemmas.Option.{none-some, same_Some}
use Rattle.sem_bits.specs.Number.{same}
use Rattle.tool_items.specs.Values.{any, AreValues, counted, having, IsKeptNowhere}
use Rattle.tool_items.specs.declared.valued.FewValues.{FewValues}
use Rattle.tool_items.specs.declared.valued.ValueCount.{ValueCount}

pub read_at : (kept : List ValueCount) (i : ℕ) (e d : ValueCount) → slice_get kept i ≡ Some e → get_or kept i d ≡ e
read_at [] i e d at = absurd (none-some e at)
read_at (x ∷ xs) zero e d at = same_Some x e at
read_at (x ∷ xs) (suc i) e d at = read_at xs i e d at

module _ (test : List Bool → Bool) where
  abbrev part : List Bool → ℕ → ℕ
  part v n = if test v then n else 0

  one_more : (b : Bool) (n m : ℕ) → (if b then n + 1 else 0) + m ≡ (if b then 1 else 0) + ((if b then n else 0) + m)
  one_more true n m = omega arith
  one_more false n m = omega arith

  moved : (a b c d : ℕ) → b ≡ c + d → a + b ≡ c + (a + d)
  moved a b c d e = omega (arith, e)

  counted_set : (kept : List ValueCount) (i : ℕ) (e n : ValueCount) → slice_get kept i ≡ Some e → n.bits ≡ e.bits → n.count ≡ e.count + 1 → counted test (set kept i n) ≡ part e.bits 1 + counted test kept
  counted_set [] i e n at same_bits more = absurd (none-some e at)
  counted_set (x ∷ xs) zero e n at same_bits more =
      let here : x ≡ e = same_Some x e at in
      ap (λ b. part b n.count + counted test xs) same_bits ∙ ap (λ k. part e.bits k + counted test xs) more ∙ one_more (test e.bits) e.count (counted test xs) ∙ ap (λ (y : ValueCount). part e.bits 1 + (part y.bits y.count + counted test xs)) (sym here)
  counted_set (x ∷ xs) (suc i) e n at same_bits more = moved (part x.bits x.count) _ (part e.bits 1) (counted test xs) (counted_set xs i e n at same_bits more)

  counted_push : (kept : List ValueCount) (e : ValueCount) → counted test (kept ++ e ∷ []) ≡ part e.bits e.count + counted test kept
  counted_push [] e = refl
  counted_push (x ∷ xs) e = moved (part x.bits x.count) _ (part e.bits e.count) (counted test xs) (counted_push xs e)

abbrev bits_of : List ValueCount → List (List Bool)
bits_of kept = map (λ (e : ValueCount). e.bits) kept

bits_set : (kept : List ValueCount) (i : ℕ) (e n : ValueCount) → slice_get kept i ≡ Some e → n.bits ≡ e.bits → bits_of (set kept i n) ≡ bits_of kept
bits_set [] i e n at same_bits = refl
bits_set (x ∷ xs) zero e n at same_bits = ap (λ b. b ∷ bits_of xs) (same_bits ∙ ap (λ (y : ValueCount). y.bits) (sym (same_Some x e at)))
bits_set (x ∷ xs) (suc i) e n at same_bits = ap (λ bs. x.bits ∷ bs) (bits_set xs i e n at same_bits)

bits_push : (kept : List ValueCount) (e : ValueCount) → bits_of (kept ++ e ∷ []) ≡ bits_of kept ++ e.bits ∷ []
bits_push [] e = refl
bits_push (x ∷ xs) e = ap (λ bs. x.bits ∷ bs) (bits_push xs e)

all_push : (P : List Bool → Type 0) (xs : List (List Bool)) (v : List Bool) → AllByRecursion P xs → P v → AllByRecursion P (xs ++ v ∷ [])
all_push P [] v all here = (here, tt)
all_push P (x ∷ xs) v all here = (all.0, all_push P xs v all.1 here)

distinct_push : (kept : List ValueCount) (v : List Bool) → IsDistinct same (bits_of kept) → IsKeptNowhere v kept → IsDistinct same (bits_of kept ++ v ∷ [])
unfolding IsDistinct
distinct_push [] v apart nowhere = (tt, tt)
distinct_push (x ∷ xs) v apart nowhere = (all_push (λ y. same x.bits y ≡ false) (bits_of xs) v apart.0 nowhere.0, distinct_push xs v apart.1 nowhere.1)

-- ---- a value more

pub none_yet : (f : FewValues) → f.kept ≡ [] → f.others ≡ 0 → AreValues [] f
unfolding IsDistinct
none_yet f none zero_is = record {
  counts_are = λ test. subst (λ ks. counted test ks ≤ 0) (sym none) (omega arith);
  all_are = λ i. counted any (none i) + zero_is i;
  apart = subst (λ ks. IsDistinct same (bits_of ks)) (sym none) tt;
  full = λ some. absurd (omega (arith, some, zero_is));
}

below : (a b p : ℕ) → a ≤ b → p + a ≤ p + b
below a b p h = omega (arith, h)

not_more : (a b p : ℕ) → a ≤ b → a ≤ p + b
not_more a b p h = omega (arith, h)

rest_more : (c o n all : ℕ) → c + o ≡ n → all ≡ 1 + c → all + o ≡ suc n
rest_more c o n all e f = omega (arith, e, f)

others_more : (c o n : ℕ) → c + o ≡ n → c + (o + 1) ≡ suc n
others_more c o n e = omega (arith, e)

pub added_at : (v : List Bool) (old new : FewValues) (i : ℕ) (e n : ValueCount) → slice_get old.kept i ≡ Some e → e.bits ≡ v → n.bits ≡ v → n.count ≡ e.count + 1 → new.kept ≡ set old.kept i n → new.others ≡ old.others
    → (vs : List (List Bool)) → AreValues vs old → AreValues (v ∷ vs) new
added_at v old new i e n at here made more grown same_others vs so =
    let grows : (test : List Bool → Bool) → counted test new.kept ≡ (if test v then 1 else 0) + counted test old.kept =
    λ test. ap (counted test) grown ∙ counted_set test old.kept i e n at (made ∙ sym here) more ∙ ap (λ b. (if test b then 1 else 0) + counted test old.kept) here in
    record {
      counts_are = λ test. subst (λ c. c ≤ having test (v ∷ vs)) (sym (grows test)) (below _ _ (if test v then 1 else 0) (so.counts_are test));
      all_are = ap (λ o. counted any new.kept + o) same_others ∙ rest_more _ _ _ _ so.all_are (grows any);
      apart = subst (λ bs. IsDistinct same bs) (sym (ap bits_of grown ∙ bits_set old.kept i e n at (made ∙ sym here))) so.apart;
      full = λ some. ap length grown ∙ length-set old.kept i n ∙ so.full (subst (λ o. 0 < o) same_others some);
    }

pub added_new : (v : List Bool) (old new : FewValues) (n : ValueCount) → IsKeptNowhere v old.kept → (length old.kept ≡ 8 → ⊥) → n.bits ≡ v → n.count ≡ 1 → new.kept ≡ old.kept ++ n ∷ [] → new.others ≡ old.others
    → (vs : List (List Bool)) → AreValues vs old → AreValues (v ∷ vs) new
added_new v old new n nowhere room made one_of grown same_others vs so =
    let grows : (test : List Bool → Bool) → counted test new.kept ≡ (if test v then 1 else 0) + counted test old.kept =
    λ test. ap (counted test) grown ∙ counted_push test old.kept n ∙ (λ i. (if test (made i) then one_of i else 0) + counted test old.kept) in
    record {
      counts_are = λ test. subst (λ c. c ≤ having test (v ∷ vs)) (sym (grows test)) (below _ _ (if test v then 1 else 0) (so.counts_are test));
      all_are = ap (λ o. counted any new.kept + o) same_others ∙ rest_more _ _ _ _ so.all_are (grows any);
      apart = subst (λ bs. IsDistinct same bs) (sym (ap bits_of grown ∙ bits_push old.kept n ∙ ap (λ b. bits_of old.kept ++ b ∷ []) made)) (distinct_push old.kept v so.apart nowhere);
      full = λ some. absurd (room (so.full (subst (λ o. 0 < o) same_others some)));
    }

pub added_other : (v : List Bool) (old new : FewValues) → length old.kept ≡ 8 → new.kept ≡ old.kept → new.others ≡ old.others + 1 → (vs : List (List Bool)) → AreValues vs old → AreValues (v ∷ vs) new
added_other v old new eight same_kept more vs so = record {
  counts_are = λ test. subst (λ c. c ≤ having test (v ∷ vs)) (sym (ap (counted test) same_kept)) (not_more _ _ (if test v then 1 else 0) (so.counts_are test));
  all_are = (λ i. counted any (same_kept i) + more i) ∙ others_more _ _ _ so.all_are;
  apart = subst (λ ks. IsDistinct same (bits_of ks)) (sym same_kept) so.apart;
  full = λ some. ap length same_kept ∙ eight;
}
