-- The formats of a method by their numbers, and what their equations and ranges tell.
use Rattle.std.proofs.Common.{◌≡◌, ◌∙◌, refl, sym, ap, subst, ℕ, zero, suc, ◌+◌, ◌^◌, ◌<◌, ◌≤◌, Bool, true, false, cond, nat_eq, List, [], ◌∷◌, arith}
use Rattle.std.specs.Prelude.{◌&&◌, ◌↔◌, IsTrue, Option, Some, None, slice_get, ℤ, pos, negsuc, int_le}
use Rattle.std.specs.List.{filter_map, items_where_true, list_any, AllByRecursion}
use Rattle.std.specs.Ordering.{int_eq}
use Rattle.std.proofs.lemmas.Bool.{eqb-true, ltb-true, lt-ltb, and_parts, and_from}
use Rattle.sem_expr.specs.declared.interval.Interval.{Interval}
use Rattle.sem_expr.specs.Rules.{IsIn}
use Rattle.sem_expr.proofs.RulesLimits.{le_true, true_le}
use Rattle.sem_profile.specs.declared.profile.Format.{Format}
use Rattle.sem_profile.specs.declared.profile.FormatSizes.{FormatSizes}
use Rattle.sem_profile.specs.declared.profile.MethodSizes.{MethodSizes}
use Rattle.cert_types.specs.declared.certificate.Version.TheVariants.{Two}
use Rattle.cert_rules.specs.Trees.{Reach, IsShort, only_at, never_at, only_refers, never_refers}
use Rattle.cert_rules.proofs.RulesConstraints.{same_numbers}
use Rattle.cert_trees.specs.declared.equations.Equation.{Equation}
use Rattle.cert_trees.specs.Equations.{equation_of, reference_of, fixes}
use Rattle.cert_trees.proofs.EquationsComparing.{all_fixed, all_only}
use Rattle.cert_prove.specs.Tree.{Numbered, numbered, all_of, lies_in, parts_by, equations, is_word, refers_apart, references}
use Rattle.cert_prove.specs.Growing.{those}
use Rattle.cert_prove.proofs.RuleElements.{any_agree, any_flat, each_marked}

-- ---- ranges

pub lies_to : (o : Option Interval) (c : ℤ) → lies_in o c ≡ true → (range : Interval) → o ≡ Some range → IsIn range c
lies_to None c h range e = absurd (cc)
lies_to (Some r) c h range e =
    let same : r ≡ range = cc in
    let p = and_parts (int_le r.from c) (int_le c r.to) h in
    subst (λ q. IsIn q c) same (record { above = le_true r.from c p.0; below = le_true c r.to p.1 })

pub lies_of : (o : Option Interval) (c : ℤ) → ((range : Interval) → o ≡ Some range → IsIn range c) → lies_in o c ≡ true
lies_of None c h = refl
lies_of (Some r) c h = let w = h r refl in and_from (int_le r.from c) (int_le c r.to) (true_le r.from c w.above) (true_le c r.to w.below)

-- ---- equations

-- a format that is only at c has the equation
pub equation_there : (p : ℕ) (c : ℤ) (set : List Numbered) → list_any (λ z. only_at p c z.format) set ≡ true → list_any (fixes p c) (equations set) ≡ true
equation_there p c set h =
    any_flat (fixes p c) (λ z. filter_map equation_of z.format.constraints) set ∙
    (any_agree (λ z. list_any (fixes p c) (filter_map equation_of z.format.constraints)) (λ z. only_at p c z.format) (λ z. all_fixed p c z.format.constraints) set ∙ h)

pub record Fixes (p : ℕ) (c : ℤ) (e : Equation) : Type 0 where
  pub tested : e.tested ≡ p
  pub equal : e.equal ≡ true
  pub constant : c ≡ e.constant

pub fixed_parts : (p : ℕ) (c : ℤ) (e : Equation) → fixes p c e ≡ true → Fixes p c e
fixed_parts p c e h =
    let a = and_parts (nat_eq e.tested p) (e.equal && int_eq c e.constant) h in
    let b = and_parts e.equal (int_eq c e.constant) a.1 in
    record { tested = eqb-true e.tested p a.0; equal = b.0; constant = same_numbers c e.constant b.1 }

pub parts_where_fixed : (ranges : List Interval) (set : List Numbered) (p : ℕ) (c : ℤ) (e : Equation) → lies_in (slice_get ranges p) c ≡ true → list_any (λ z. never_at p c z.format) set ≡ true →
    fixes p c e ≡ true → parts_by ranges set e ≡ true
parts_where_fixed ranges set p c e lies never h =
    let f = fixed_parts p c e h in
    let lies' : lies_in (slice_get ranges e.tested) e.constant ≡ true = (λ i. lies_in (slice_get ranges (f.tested i)) (sym f.constant i)) ∙ lies in
    let never' : list_any (λ z. never_at e.tested e.constant z.format) set ≡ true = (λ i. list_any (λ z. never_at (f.tested i) (sym f.constant i) z.format) set) ∙ never in
    and_from e.equal (lies_in (slice_get ranges e.tested) e.constant && list_any (λ z. never_at e.tested e.constant z.format) set) f.equal
    (and_from (lies_in (slice_get ranges e.tested) e.constant) (list_any (λ z. never_at e.tested e.constant z.format) set) lies' never')

-- ---- references

pub word_to : (c : ℤ) → is_word c ≡ true → IsShort c
word_to (pos n) h = (n, refl, ltb-true n (2 ^ 64) h)
word_to (negsuc n) h = absurd (cc)

pub word_of : (c : ℤ) → IsShort c → is_word c ≡ true
word_of c h = ap is_word h.1 ∙ lt-ltb h.0 (2 ^ 64) h.2

-- a comparison that tells it
pub word_is : (b : Bool) (c : ℤ) → (IsTrue b ↔ IsShort c) → b ≡ is_word c
word_is true c h = sym (word_of c (h.0 refl))
word_is false c h = by (is_word c) refl
  where
    by : (d : Bool) → is_word c ≡ d → false ≡ is_word c
    by false e = sym e
    by true e = let wrong : false ≡ true = h.1 (word_to c e) in absurd (cc)

pub reference_there : (i : ℕ) (c : ℤ) (set : List Numbered) → list_any (λ z. only_refers i c z.format) set ≡ true → list_any (fixes i c) (references Two set) ≡ true
reference_there i c set h =
    any_flat (fixes i c) (λ z. filter_map (reference_of z.format.fields) z.format.constraints) set ∙
    (any_agree (λ z. list_any (fixes i c) (filter_map (reference_of z.format.fields) z.format.constraints)) (λ z. only_refers i c z.format) (λ z. all_only z.format.fields i c z.format.constraints) set ∙ h)

pub apart_where_fixed : (set : List Numbered) (i : ℕ) (c : ℤ) (e : Equation) → is_word c ≡ true → list_any (λ z. never_refers i c z.format) set ≡ true → fixes i c e ≡ true → refers_apart set e ≡ true
apart_where_fixed set i c e word never h =
    let f = fixed_parts i c e h in
    let word' : is_word e.constant ≡ true = ap is_word (sym f.constant) ∙ word in
    let never' : list_any (λ z. never_refers e.tested e.constant z.format) set ≡ true = (λ j. list_any (λ z. never_refers (f.tested j) (sym f.constant j) z.format) set) ∙ never in
    and_from e.equal (is_word e.constant && list_any (λ z. never_refers e.tested e.constant z.format) set) f.equal
    (and_from (is_word e.constant) (list_any (λ z. never_refers e.tested e.constant z.format) set) word' never')

-- ---- formats by their numbers

each_from : (P : Numbered → Type 0) (n : ℕ) (formats : List Format) (sizes : List FormatSizes) →
    ((j : ℕ) (f : Format) (z : FormatSizes) → slice_get formats j ≡ Some f → slice_get sizes j ≡ Some z → P record { number = n + j; format = f; sizes = z }) → AllByRecursion P (numbered n formats sizes)
each_from P n [] sizes h = tt
each_from P n (f ∷ formats) [] h = tt
each_from P n (f ∷ formats) (z ∷ sizes) h =
    let here : n + 0 ≡ n = omega arith in (
      subst (λ m. P record { number = m; format = f; sizes = z }) here (h zero f z refl refl),
      each_from P (n + 1) formats sizes
          (λ j g y at sized. let same : n + suc j ≡ (n + 1) + j = omega arith in subst (λ m. P record { number = m; format = g; sizes = y }) same (h (suc j) g y at sized)),
    )

-- what holds of each format at its number holds of all
pub each_of_all : (P : Numbered → Type 0) (formats : List Format) (s : MethodSizes) →
    ((j : ℕ) (f : Format) (z : FormatSizes) → slice_get formats j ≡ Some f → slice_get s.formats j ≡ Some z → P record { number = j; format = f; sizes = z }) → AllByRecursion P (all_of formats s)
each_of_all P formats s h =
    each_from P 0 formats s.formats (λ j f z at sized. let same : j ≡ 0 + j = omega arith in subst (λ m. P record { number = m; format = f; sizes = z }) same (h j f z at sized))

-- and what holds of all that reach holds of each of them
one_from : (P : Numbered → Type 0) (reach : Reach) (n : ℕ) (formats : List Format) (sizes : List FormatSizes) (j : ℕ) (f : Format) (z : FormatSizes) → AllByRecursion P (those reach (numbered n formats sizes)) →
    slice_get formats j ≡ Some f → slice_get sizes j ≡ Some z → reach f z ≡ true → P record { number = n + j; format = f; sizes = z }
one_from P reach n [] sizes j f z h at sized r = absurd (cc)
one_from P reach n (g ∷ formats) [] j f z h at sized r = absurd (cc)
one_from P reach n (g ∷ formats) (y ∷ sizes) zero f z h at sized r =
    let format : g ≡ f = cc in
    let size : y ≡ z = cc in
    let reaches : reach g y ≡ true = (λ i. reach (format i) (size i)) ∙ r in
    let first : Numbered = record { number = n; format = g; sizes = y } in
    let rest : List Numbered = those reach (numbered (n + 1) formats sizes) in
    let both : AllByRecursion P (first ∷ rest) = subst (λ b. AllByRecursion P (cond b (first ∷ rest) rest)) reaches h in
    let here : n ≡ n + 0 = omega arith in
    subst (λ m. P record { number = m; format = f; sizes = z }) here (subst (λ w. P record { number = n; format = w; sizes = z }) format (subst (λ w. P record { number = n; format = g; sizes = w }) size both.0))
one_from P reach n (g ∷ formats) (y ∷ sizes) (suc j) f z h at sized r =
    let same : (n + 1) + j ≡ n + suc j = omega arith in
    subst (λ m. P record { number = m; format = f; sizes = z }) same (one_from P reach (n + 1) formats sizes j f z (by (reach g y) h) at sized r)
  where
    by : (b : Bool) → AllByRecursion P (cond b (record { number = n; format = g; sizes = y } ∷ those reach (numbered (n + 1) formats sizes)) (those reach (numbered (n + 1) formats sizes))) →
        AllByRecursion P (those reach (numbered (n + 1) formats sizes))
    by true h = h.1
    by false h = h

pub one_of_those : (P : Numbered → Type 0) (reach : Reach) (formats : List Format) (s : MethodSizes) (j : ℕ) (f : Format) (z : FormatSizes) → AllByRecursion P (those reach (all_of formats s)) →
    slice_get formats j ≡ Some f → slice_get s.formats j ≡ Some z → reach f z ≡ true → P record { number = j; format = f; sizes = z }
one_of_those P reach formats s j f z h at sized r =
    let same : 0 + j ≡ j = omega arith in
    subst (λ m. P record { number = m; format = f; sizes = z }) same (one_from P reach 0 formats s.formats j f z h at sized r)

-- it stands at its number, with its bounds
pub record StandsAt (formats : List Format) (s : MethodSizes) (z : Numbered) : Type 0 where
  pub format_at : slice_get formats z.number ≡ Some z.format
  pub sizes_at : slice_get s.formats z.number ≡ Some z.sizes

pub all_stand : (formats : List Format) (s : MethodSizes) → AllByRecursion (StandsAt formats s) (all_of formats s)
all_stand formats s = each_of_all (StandsAt formats s) formats s (λ j f z at sized. record { format_at = at; sizes_at = sized })

-- some of them have rising numbers
above : (n : ℕ) (formats : List Format) (sizes : List FormatSizes) → AllByRecursion (λ z. n ≤ z.number) (numbered n formats sizes)
above n formats sizes = each_from (λ z. n ≤ z.number) n formats sizes (λ j f z at sized. omega arith)

rising_from : (n : ℕ) (formats : List Format) (sizes : List FormatSizes) (marks : List Bool) (first second : Numbered) (others : List Numbered) → items_where_true marks (numbered n formats sizes) ≡ first ∷ second ∷ others → first.number < second.number
rising_from n formats sizes [] first second others e = absurd (cc)
rising_from n [] sizes (m ∷ marks) first second others e = absurd (cc)
rising_from n (f ∷ formats) [] (m ∷ marks) first second others e = absurd (cc)
rising_from n (f ∷ formats) (z ∷ sizes) (true ∷ marks) first second others e =
    let same : record { number = n; format = f; sizes = z } ≡ first = cc in
    let rest : items_where_true marks (numbered (n + 1) formats sizes) ≡ second ∷ others = cc in
    let high = subst (AllByRecursion (λ z. n + 1 ≤ z.number)) rest (each_marked (λ z. n + 1 ≤ z.number) marks (numbered (n + 1) formats sizes) (above (n + 1) formats sizes)) in
    let number : n ≡ first.number = ap (λ z. z.number) same in
    omega (arith, high.0, number)
rising_from n (f ∷ formats) (z ∷ sizes) (false ∷ marks) first second others e = rising_from (n + 1) formats sizes marks first second others e

pub some_rise : (formats : List Format) (s : MethodSizes) (marks : List Bool) (first second : Numbered) (others : List Numbered) → items_where_true marks (all_of formats s) ≡ first ∷ second ∷ others → first.number < second.number
some_rise formats s marks first second others e = rising_from 0 formats s.formats marks first second others e
