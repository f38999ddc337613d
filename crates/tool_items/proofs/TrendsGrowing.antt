-- How trends grow by a filling more.
use Rattle.std.proofs.Common.{◌≡◌, refl, sym, ◌∙◌, ap, subst, ℕ, zero, suc, ◌+◌, ◌<◌, ◌≤◌, ◌⊎◌, inl, inr, Bool, List, [], ◌∷◌, ◌++◌, length, map, take, get_or, set, arith}
use Rattle.std.specs.Prelude.{Option, None, Some, option_map, slice_get, ℤ, if◌then◌else◌}
use Rattle.std.specs.List.{cons_option}
use Rattle.std.proofs.lemmas.List.{get_or-set_same, length-set, take-take}
use Rattle.std.proofs.lemmas.Option.{none-some, same_Some, slice_get-get_or, slice_get-map, slice_get_within}
use Rattle.std.proofs.lemmas.Bool.{cases_eq}
use Rattle.sem_filling.specs.Fillings.{fields_of, sides_of}
use Rattle.sem_filling.specs.declared.filling.FilledField.{FilledField}
use Rattle.sem_filling.specs.declared.filling.Filling.{Filling}
use Rattle.tool_items.specs.Steps.{AreCounted, AddSteps, passing, step, steps, without}
use Rattle.tool_items.specs.Trends.{AddsAt, AddsFields, AddsNext, AddsValue, AreTrended, AreTrends, IsTrend, lengths_with, value_at, values_at}
use Rattle.tool_items.specs.Values as values
use Rattle.tool_items.specs.declared.steps.Steps.{Steps}
use Rattle.tool_items.specs.declared.trends.Trend.{Trend}
use Rattle.tool_items.specs.declared.trends.Trends.{Trends}

-- ---- steps

passing_both : (test : ℤ → Bool) (ms ks : List (Option ℤ)) → passing test (ms ++ ks) ≡ passing test ms + passing test ks
passing_both test [] ks = omega arith
passing_both test (None ∷ ms) ks = passing_both test ms ks
passing_both test (Some s ∷ ms) ks = further (if test s then 1 else 0) _ _ _ (passing_both test ms ks)
  where
    further : (a b c d : ℕ) → b ≡ c + d → a + b ≡ (a + c) + d
    further a b c d e = omega (arith, e)

without_both : (ms ks : List (Option ℤ)) → without (ms ++ ks) ≡ without ms + without ks
without_both [] ks = omega arith
without_both (None ∷ ms) ks = omega (arith, without_both ms ks)
without_both (Some s ∷ ms) ks = without_both ms ks

counted_more : (ms ks : List (Option ℤ)) (old new : Steps) → AddSteps ms old new → AreCounted ks old → AreCounted (ms ++ ks) new
counted_more ms ks old new adds so = record {
  counts_are = λ test. adds.counts_add test ∙ ap (λ n. passing test ms + n) (so.counts_are test) ∙ sym (passing_both test ms ks);
  without_is = adds.without_adds ∙ ap (λ n. without ms + n) so.without_is ∙ sym (without_both ms ks);
}

-- ---- a value

recents : (n k : ℕ) (v : List Bool) (vs : List (List Bool)) → n ≡ suc k → take n (v ∷ take n vs) ≡ take n (v ∷ vs)
recents n k v vs e = subst (λ m. take m (v ∷ take m vs) ≡ take m (v ∷ vs)) (sym e) (ap (λ xs. v ∷ xs) (take-take k (suc k) vs (omega arith)))

pub added_value : (lost : ℕ) (v : List Bool) (old new : Trend) → new.lengths ≡ Some (lengths_with old.lengths (length v)) → values.AddsValue v old.values new.values → AddsNext old.recent.items v old.next new.next
    → AddSteps (map (λ r. step r v) old.recent.items) old.all new.all → new.recent.items ≡ take (lost + 1) (v ∷ old.recent.items) → AddsValue lost v old new
added_value lost v old new lengths_are valued nexts alls kept vs so =
    let latest : take 1 old.recent.items ≡ take 1 vs = ap (take 1) so.recent_are ∙ take-take 1 (lost + 1) vs (omega arith) in
    record {
      lengths_are = lengths_are ∙ ap (λ l. Some (lengths_with l (length v))) so.lengths_are;
      values_are = valued vs so.values_are;
      next_are = counted_more (map (λ r. step r v) (take 1 vs)) (steps 1 vs) old.next new.next (subst (λ rs. AddSteps (map (λ r. step r v) rs) old.next new.next) latest nexts) so.next_are;
      all_are = counted_more (map (λ r. step r v) (take (lost + 1) vs)) (steps (lost + 1) vs) old.all new.all (subst (λ rs. AddSteps (map (λ r. step r v) rs) old.all new.all) so.recent_are alls) so.all_are;
      recent_are = kept ∙ ap (λ rs. take (lost + 1) (v ∷ rs)) so.recent_are ∙ recents (lost + 1) lost v vs (omega arith);
    }

-- ---- the field at a place

value_there : (f : Filling) (i : ℕ) (o : Option FilledField) → o ≡ slice_get (fields_of f) i → value_at i f ≡ option_map (λ g. (sides_of g).uncompressed) o
value_there f i None e = ap (λ z. option_map (λ s. s.uncompressed) z) (slice_get-map sides_of (fields_of f) i ∙ ap (option_map sides_of) (sym e))
value_there f i (Some g) e = ap (λ z. option_map (λ s. s.uncompressed) z) (slice_get-map sides_of (fields_of f) i ∙ ap (option_map sides_of) (sym e))

pub at_some : (lost i : ℕ) (f : Filling) (g : FilledField) (old new : Trend) → Some g ≡ slice_get (fields_of f) i → AddsValue lost (sides_of g).uncompressed old new → AddsAt lost i f old new
at_some lost i f g old new at adds fs so = subst (λ v. IsTrend lost (cons_option v (values_at i fs)) new) (sym (value_there f i (Some g) at)) (adds (values_at i fs) so)

pub at_none : (lost i : ℕ) (f : Filling) (old : Trend) → None ≡ slice_get (fields_of f) i → AddsAt lost i f old old
at_none lost i f old at fs so = subst (λ v. IsTrend lost (cons_option v (values_at i fs)) old) (sym (value_there f i None at)) so

-- ---- all fields

get_set_same : (ts : List Trend) (i : ℕ) (t : Trend) → i < length ts → slice_get (set ts i t) i ≡ Some t
get_set_same ts i t lt = slice_get-get_or (set ts i t) i t (subst (λ n. i < n) (sym (length-set ts i t)) lt) ∙ ap Some (get_or-set_same ts i t t lt)

get_set_other : (ts : List Trend) (i j : ℕ) (t : Trend) → (j ≡ i → ⊥) → slice_get (set ts i t) j ≡ slice_get ts j
get_set_other [] i j t apart = refl
get_set_other (x ∷ xs) zero zero t apart = absurd (apart refl)
get_set_other (x ∷ xs) zero (suc j) t apart = refl
get_set_other (x ∷ xs) (suc i) zero t apart = refl
get_set_other (x ∷ xs) (suc i) (suc j) t apart = get_set_other xs i j t (λ e. apart (ap suc e))

-- the fields before the place i have the filling's values, and the others are as they were
pub record FieldsSoFar (lost : ℕ) (f : Filling) (old : List Trend) (i : ℕ) (now : List Trend) : Type 0 where
  pub same_count : length now ≡ length old
  pub before : (j : ℕ) (x y : Trend) → j < i → slice_get old j ≡ Some x → slice_get now j ≡ Some y → AddsAt lost j f x y
  pub from_there : (j : ℕ) → i ≤ j → slice_get now j ≡ slice_get old j

pub fields_start : (lost : ℕ) (f : Filling) (old : List Trend) → FieldsSoFar lost f old 0 old
fields_start lost f old = record { same_count = refl; before = λ j x y lt. absurd (omega (arith, lt)); from_there = λ j le. refl }

pub fields_more : (lost : ℕ) (f : Filling) (old now next : List Trend) (i : ℕ) (x y : Trend) → i < length now → x ≡ get_or now i x → AddsAt lost i f x y → next ≡ set now i y → FieldsSoFar lost f old i now → FieldsSoFar lost f old (i + 1) next
fields_more lost f old now next i x y lt read adds is so = record {
  same_count = ap length is ∙ length-set now i y ∙ so.same_count;
  before = λ j a b below at_old at_next. by j a b below at_old (sym (ap (λ ts. slice_get ts j) is) ∙ at_next) (cases_eq j i);
  from_there = λ j le. ap (λ ts. slice_get ts j) is ∙ get_set_other now i j y (λ e. absurd (omega (arith, le, e))) ∙ so.from_there j (omega (arith, le));
}
  where
    here : slice_get now i ≡ Some x
    here = slice_get-get_or now i x lt ∙ ap Some (sym read)

    by : (j : ℕ) (a b : Trend) → j < i + 1 → slice_get old j ≡ Some a → slice_get (set now i y) j ≡ Some b → (j ≡ i) ⊎ (j ≡ i → ⊥) → AddsAt lost j f a b
    by j a b below at_old at_next (inl same) =
        let first : x ≡ a = same_Some x a (sym here ∙ so.from_there i (omega arith) ∙ ap (slice_get old) (sym same) ∙ at_old) in
        let second : y ≡ b = same_Some y b (sym (get_set_same now i y lt) ∙ ap (slice_get (set now i y)) (sym same) ∙ at_next) in
        subst (λ k. AddsAt lost k f a b) (sym same) (subst (λ p. AddsAt lost i f p b) first (subst (λ q. AddsAt lost i f x q) second adds))
    by j a b below at_old at_next (inr apart) = so.before j a b (omega (arith, below, apart)) at_old (sym (get_set_other now i j y apart) ∙ at_next)

pub fields_end : (lost : ℕ) (f : Filling) (old now : List Trend) (i : ℕ) → length now ≤ i → FieldsSoFar lost f old i now → AddsFields lost f old now
fields_end lost f old now i le so = record { same_count = so.same_count; add = λ fs trended j y at. by fs trended j y at (slice_get old j) refl }
  where
    by : (fs : List Filling) → AreTrended lost fs old → (j : ℕ) (y : Trend) → slice_get now j ≡ Some y → (o : Option Trend) → o ≡ slice_get old j → IsTrend lost (values_at j (f ∷ fs)) y
    by fs trended j y at None none = absurd (none-some (get_or old j y) (none ∙ slice_get-get_or old j y (omega (arith, slice_get_within now j y at, so.same_count))))
    by fs trended j y at (Some x) some = so.before j x y (omega (arith, slice_get_within now j y at, le)) (sym some) at fs (trended j x (sym some))

pub adds_filling : (f : Filling) (old new : Trends) → new.lost ≡ old.lost → new.items ≡ old.items + 1 → AddsFields old.lost f old.fields.items new.fields.items → (count lost : ℕ) (fs : List Filling) → AreTrends count lost fs old → AreTrends count lost (f ∷ fs) new
adds_filling f old new same_lost more adds count lost fs so =
    let fields = subst (λ n. AddsFields n f old.fields.items new.fields.items) so.lost_is adds in
    record {
      lost_is = same_lost ∙ so.lost_is;
      items_are = more ∙ ap (λ n. n + 1) so.items_are ∙ omega arith;
      count_is = fields.same_count ∙ so.count_is;
      fields_are = fields.add fs so.fields_are;
    }

-- ---- none

pub record Nones (ts : List Trend) (n : ℕ) : Type 0 where
  pub so_many : length ts ≡ n
  pub all_none : (i : ℕ) (x : Trend) → slice_get ts i ≡ Some x → (lost : ℕ) → IsTrend lost [] x

pub nones_start : (ts : List Trend) → ts ≡ [] → Nones ts 0
nones_start ts e = subst (λ xs. Nones xs 0) (sym e) (record { so_many = refl; all_none = λ i x at. absurd (none-some x at) })

push_none : (ts : List Trend) (t : Trend) → ((i : ℕ) (x : Trend) → slice_get ts i ≡ Some x → (lost : ℕ) → IsTrend lost [] x) → ((lost : ℕ) → IsTrend lost [] t) → (i : ℕ) (x : Trend) → slice_get (ts ++ t ∷ []) i ≡ Some x → (lost : ℕ) → IsTrend lost [] x
push_none [] t all here zero x at lost = subst (IsTrend lost []) (same_Some t x at) (here lost)
push_none [] t all here (suc i) x at lost = absurd (none-some x at)
push_none (y ∷ ys) t all here zero x at lost = all 0 x at lost
push_none (y ∷ ys) t all here (suc i) x at lost = push_none ys t (λ j. all (suc j)) here i x at lost

pub nones_more : (ts new : List Trend) (t : Trend) (n : ℕ) → new ≡ ts ++ t ∷ [] → ((lost : ℕ) → IsTrend lost [] t) → Nones ts n → Nones new (n + 1)
nones_more ts new t n e here so = subst (λ xs. Nones xs (n + 1)) (sym e) (record { so_many = counts ts ∙ ap (λ k. k + 1) so.so_many; all_none = push_none ts t so.all_none here })
  where
    counts : (xs : List Trend) → length (xs ++ t ∷ []) ≡ length xs + 1
    counts [] = refl
    counts (x ∷ xs) = omega (arith, counts xs)

pub nones_end : (t : Trends) (count : ℕ) → t.items ≡ 0 → Nones t.fields.items count → AreTrends count t.lost [] t
nones_end t count none so = record { lost_is = refl; items_are = none; count_is = so.so_many; fields_are = λ i x at. so.all_none i x at t.lost }
