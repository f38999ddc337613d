-- What the search for a test finds is what the rule has.
use mir.Syntax.{w128}
use mir.Val.{to_z, sel}
use Rattle.std.proofs.Common.{◌≡◌, ◌∙◌, refl, sym, ap, subst, ℕ, suc, ◌-◌, ◌^◌, ◌<◌, ◌≤◌, min, Bool, true, false, nat_lt, List, [], ◌∷◌, arith}
use Rattle.std.specs.Prelude.{◌&&◌, Some, None, slice_get, ℤ, pos, negsuc}
use Rattle.std.specs.List.{find, flat_map, list_any, list_all, AllByRecursion}
use Rattle.std.proofs.lemmas.Bool.{ltb-true, ltb-false, and_parts}
use Rattle.sem_expr.specs.declared.interval.Interval.{Interval}
use Rattle.sem_profile.specs.declared.profile.Format.{Format}
use Rattle.sem_profile.specs.declared.profile.FormatSizes.{FormatSizes}
use Rattle.sem_profile.specs.declared.profile.MethodSizes.{MethodSizes}
use Rattle.cert_types.specs.declared.certificate.Version.{Version}
use Rattle.cert_types.specs.declared.certificate.Node.{Node}
use Rattle.cert_types.specs.declared.certificate.Node.TheVariants.{Bit, Parameter, Reference}
use Rattle.cert_types.specs.Kept.{IsWide, offset_limit}
use Rattle.cert_rules.specs.Trees.{Reach}
use Rattle.cert_trees.specs.declared.equations.Equation.{Equation}
use Rattle.cert_trees.specs.declared.signatures.Signature.{Signature}
use Rattle.cert_trees.specs.declared.signatures.Test.TheVariants.{Lacks}
use Rattle.cert_prove.specs.declared.tree.Unparted.TheVariants as unparted
use Rattle.cert_prove.specs.Tree.{Numbered, all_of, is_longer, knows, parts_at, parts_by, equations, TreeRule, refers_apart, references, least_offset, first_equation, first_reference, no_test, NodeRule}
use Rattle.cert_prove.specs.Growing.{those}
use Rattle.cert_prove.specs.Known.{numbers, loses, least, are_longer, bit_parts, equation_parts, told_equations, reference_parts, references_by, AreKnown, AreOf, AreFirst, IsNext, HasNoNode}
use Rattle.cert_prove.proofs.RuleElements.{none_at, passing, least_passing}
use Rattle.cert_prove.proofs.KnownTelling.{ToldOf, told_of_those, least_there, bit_same, equation_same, equations_same, reference_same, references_same, far_there}

-- ---- the first two of a set

pub first_two : (set : List Numbered) (first second : ℕ) → slice_get (numbers set) 0 ≡ Some first → slice_get (numbers set) 1 ≡ Some second → AreFirst set first second
first_two [] first second a b = absurd (cc)
first_two (z ∷ []) first second a b = absurd (cc)
first_two (z ∷ w ∷ set) first second a b = record { format = z; other = w; rest = set; is = refl; first_is = cc; second_is = cc }

by_rule : (version : Version) (ranges : List Interval) (set : List Numbered) (first second : ℕ) (x : Node) → AreFirst set first second → TreeRule version ranges set (Some x) → NodeRule version ranges set x
by_rule version ranges [] first second x two rule = let wrong = two.is in absurd (cc)
by_rule version ranges (z ∷ []) first second x two rule = let wrong = two.is in absurd (cc)
by_rule version ranges (z ∷ w ∷ set) first second x two rule = rule

first_passes : (p : ℕ → Bool) (ns : List ℕ) (n : ℕ) → slice_get ns 0 ≡ Some n → list_all p ns ≡ true → p n ≡ true
first_passes p [] n at h = absurd (cc)
first_passes p (m ∷ ns) n at h = let same : m ≡ n = cc in ap p (sym same) ∙ (and_parts (p m) (list_all p ns) h).0

-- a number of 128 bits with a sign
pub is_wide : (n : ℕ) → IsWide (to_z w128 n)
is_wide n = by (nat_lt n (2 ^ 127)) refl
  where
    by : (b : Bool) → nat_lt n (2 ^ 127) ≡ b → IsWide (sel b (pos n) (negsuc (2 ^ 128 - suc n)))
    by true e = ltb-true n (2 ^ 127) e
    by false e = let le = ltb-false n (2 ^ 127) e in omega (arith, le)

-- ---- the search

module _ (version : Version) (formats : List Format) (s : MethodSizes) (tolds : List Signature) (far : List ℕ) (set : List ℕ) (reach : Reach) (first second : ℕ)
    (known : AreKnown formats s tolds far) (of : AreOf formats s reach set) (first_at : slice_get set 0 ≡ Some first) (second_at : slice_get set 1 ≡ Some second)
    (bounds : List FormatSizes) (bounds_are : bounds ≡ s.formats) (shortest : ℕ) (narrow : shortest < 2 ^ 128) (shortest_is : shortest ≡ least (slice_get bounds first))
    (count : ℕ) (count_is : count ≡ min shortest offset_limit) where
  abbrev zs : List Numbered
  zs = those reach (all_of formats s)

  told : AllByRecursion (ToldOf s tolds far) zs
  told = told_of_those formats s tolds far reach known

  two : AreFirst zs first second
  two = first_two zs first second (ap (λ ns. slice_get ns 0) (sym of) ∙ first_at) (ap (λ ns. slice_get ns 1) (sym of) ∙ second_at)

  -- no offset that parts the set is past the first format's length
  below_first : (xs : List Numbered) → AllByRecursion (ToldOf s tolds far) xs → AreFirst xs first second → (o : ℕ) → parts_at xs o ≡ true → o < shortest
  below_first [] h two o e = let wrong = two.is in absurd (cc)
  below_first (z ∷ xs) h two o e =
      let longer = and_parts (list_all (is_longer o) (z ∷ xs)) (list_any (knows false o) (z ∷ xs) && list_any (knows true o) (z ∷ xs)) e in
      let here = ltb-true o z.sizes.whole.compressed.least (and_parts (is_longer o z) (list_all (is_longer o) xs) longer.0).0 in
      let same : two.format ≡ z = let e = two.is in cc in
      let number : first ≡ z.number = two.first_is ∙ ap (λ w. w.number) same in
      let bound : shortest ≡ z.sizes.whole.compressed.least = shortest_is ∙ ((λ i. least (slice_get (bounds_are i) (number i))) ∙ least_there s tolds far z h.0) in
      omega (arith, here, bound)

  below : (o : ℕ) → parts_at zs o ≡ true → o < shortest
  below o e = below_first zs told two o e

  bit_is : (o : ℕ) → o < 2 ^ 128 → bit_parts tolds bounds set o ≡ parts_at zs o
  bit_is o small = (λ i. bit_parts tolds (bounds_are i) (of i) o) ∙ bit_same s tolds far o small zs told

  -- nor one that the code finds to part it
  is_small : (o : ℕ) → bit_parts tolds bounds set o ≡ true → o < 2 ^ 128
  is_small o e =
      let longer = (and_parts (are_longer bounds set o) (loses tolds set (Lacks o false) && loses tolds set (Lacks o true)) e).0 in
      let here = ltb-true o (least (slice_get bounds first)) (first_passes (λ n. nat_lt o (least (slice_get bounds n))) set first first_at longer) in
      omega (arith, here, shortest_is, narrow)

  pub near_found : (o : ℕ) → o < count → bit_parts tolds bounds set o ≡ true → ((q : ℕ) → q < o → bit_parts tolds bounds set q ≡ false) → IsNext version s.parameters zs (Bit o)
  near_found o lt parts before =
      let rule : TreeRule version s.parameters zs (Some (Bit o)) =
      least_offset (sym (bit_is o (omega (arith, lt, count_is))) ∙ parts) (λ q less. sym (bit_is q (omega (arith, lt, less, count_is))) ∙ before q less) in
      record { rule = by_rule version s.parameters zs first second (Bit o) two rule; kept = omega (arith, lt, count_is) }

  module _ (none_near : (o : ℕ) → o < count → bit_parts tolds bounds set o ≡ false) where
    not_near : (o : ℕ) → o < offset_limit → parts_at zs o ≡ false
    not_near o lt = by (parts_at zs o) refl
      where
        by : (b : Bool) → parts_at zs o ≡ b → parts_at zs o ≡ false
        by false e = e
        by true e =
            let short = below o e in
            let none = none_near o (omega (arith, short, lt, count_is)) in
            let wrong : true ≡ false = sym e ∙ (sym (bit_is o (omega (arith, short, narrow))) ∙ none) in absurd (cc)

    is_past : (o : ℕ) → parts_at zs o ≡ true → offset_limit ≤ o
    is_past o e = by (nat_lt o offset_limit) refl
      where
        by : (b : Bool) → nat_lt o offset_limit ≡ b → offset_limit ≤ o
        by true lt = let wrong : true ≡ false = sym e ∙ not_near o (ltb-true o offset_limit lt) in absurd (cc)
        by false le = ltb-false o offset_limit le

    pub far_found : list_any (bit_parts tolds bounds set) far ≡ true → HasNoNode version s.parameters zs unparted.Limit
    far_found found =
        let some = passing (bit_parts tolds bounds set) far found in
        let first_one = least_passing (parts_at zs) some.0 (sym (bit_is some.0 (is_small some.0 some.1)) ∙ some.1) in
        let rule : TreeRule version s.parameters zs (Some (Bit first_one.at)) = least_offset first_one.passes first_one.before in
        (first_one.at, by_rule version s.parameters zs first second (Bit first_one.at) two rule, is_past first_one.at first_one.passes)

    module _ (none_far : list_any (bit_parts tolds bounds set) far ≡ false) where
      nowhere : (o : ℕ) → parts_at zs o ≡ false
      nowhere o = by (parts_at zs o) refl
        where
          by : (b : Bool) → parts_at zs o ≡ b → parts_at zs o ≡ false
          by false e = e
          by true e =
              let short : o < 2 ^ 128 = (let lt = below o e in omega (arith, lt, narrow)) in
              let known' = (and_parts (list_any (knows false o) zs) (list_any (knows true o) zs) (and_parts (list_all (is_longer o) zs) (list_any (knows false o) zs && list_any (knows true o) zs) e).1).0 in
              let at = far_there s tolds far o short (is_past o e) false zs told known' in
              let none = none_at (bit_parts tolds bounds set) o far at none_far in
              let wrong : true ≡ false = sym e ∙ (sym (bit_is o short) ∙ none) in absurd (cc)

      module _ (ranges : List Interval) (ranges_are : ranges ≡ s.parameters) where
        found_is : find (equation_parts tolds ranges set) (flat_map (λ n. told_equations (slice_get tolds n)) set) ≡ find (parts_by s.parameters zs) (equations zs)
        found_is =
            (λ i. find (equation_parts tolds (ranges_are i) (of i)) (flat_map (λ n. told_equations (slice_get tolds n)) (of i))) ∙
            (λ i. find (λ e. equation_same s tolds far s.parameters zs told e i) (equations_same s tolds far zs told i))

        pub equation_found : (e : Equation) → find (equation_parts tolds ranges set) (flat_map (λ n. told_equations (slice_get tolds n)) set) ≡ Some e → (c : ℤ) → c ≡ e.constant → IsWide c →
            IsNext version s.parameters zs (Parameter e.tested c)
        equation_found e found c same wide =
            let rule : TreeRule version s.parameters zs (Some (Parameter e.tested e.constant)) = first_equation {e = e} nowhere (sym found_is ∙ found) in
            let turned : TreeRule version s.parameters zs (Some (Parameter e.tested c)) = subst (λ d. TreeRule version s.parameters zs (Some (Parameter e.tested d))) (sym same) rule in
            record { rule = by_rule version s.parameters zs first second (Parameter e.tested c) two turned; kept = wide }

        module _ (no_equation : find (equation_parts tolds ranges set) (flat_map (λ n. told_equations (slice_get tolds n)) set) ≡ None) where
          referred_is : find (reference_parts tolds set) (references_by version tolds set) ≡ find (refers_apart zs) (references version zs)
          referred_is =
              (λ i. find (reference_parts tolds (of i)) (references_by version tolds (of i))) ∙
              (λ i. find (λ e. reference_same s tolds far zs told e i) (references_same s tolds far version zs told i))

          pub reference_found : (e : Equation) → find (reference_parts tolds set) (references_by version tolds set) ≡ Some e → (c : ℤ) → c ≡ e.constant → IsWide c → IsNext version s.parameters zs (Reference e.tested c)
          reference_found e found c same wide =
              let rule : TreeRule version s.parameters zs (Some (Reference e.tested e.constant)) = first_reference {e = e} nowhere (sym found_is ∙ no_equation) (sym referred_is ∙ found) in
              let turned : TreeRule version s.parameters zs (Some (Reference e.tested c)) = subst (λ d. TreeRule version s.parameters zs (Some (Reference e.tested d))) (sym same) rule in
              record { rule = by_rule version s.parameters zs first second (Reference e.tested c) two turned; kept = wide }

          pub nothing_found : find (reference_parts tolds set) (references_by version tolds set) ≡ None → HasNoNode version s.parameters zs (unparted.Stuck first second)
          nothing_found none = (two, no_test nowhere (sym found_is ∙ no_equation) (sym referred_is ∙ none))
