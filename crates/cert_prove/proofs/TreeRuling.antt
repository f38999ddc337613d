-- The rule gives one test, and an ordered tree is right at each node.
use Rattle.std.proofs.Common.{◌≡◌, ◌∙◌, refl, sym, ap, subst, ℕ, ◌<◌, Bool, true, false, nat_lt, List, [], ◌∷◌, le_antisymm, arith}
use Rattle.std.specs.Prelude.{◌&&◌, Option, Some, None, slice_get}
use Rattle.std.specs.List.{find, list_any, list_all, AllByRecursion}
use Rattle.std.proofs.lemmas.Bool.{ltb-true, ltb-false, and_parts}
use Rattle.sem_expr.specs.declared.interval.Interval.{Interval}
use Rattle.sem_profile.specs.declared.profile.Format.{Format}
use Rattle.sem_profile.specs.declared.profile.MethodSizes.{MethodSizes}
use Rattle.cert_types.specs.declared.certificate.Version.{Version}
use Rattle.cert_types.specs.declared.certificate.Node.{Node}
use Rattle.cert_types.specs.declared.certificate.Node.TheVariants.{Bit, Parameter, Reference, Leaf, Nowhere}
use Rattle.cert_rules.specs.Trees.{Reach, Reaches, IsRight, PartsFormats, never_at, never_refers}
use Rattle.cert_trees.specs.declared.fault.TreeFault.{TreeFault}
use Rattle.cert_trees.specs.Faults.{IsTreeFault, leaf_reached, nowhere_reached, bit_past, constant_outside, reference_beyond}
use Rattle.cert_trees.specs.declared.equations.Equation.{Equation}
use Rattle.cert_prove.specs.Tree.{Numbered, all_of, is_longer, knows, parts_at, parts_by, lies_in, equations, is_word, refers_apart, references, TreeRule, least_offset, first_equation, first_reference, no_test, NodeRule}
use Rattle.cert_prove.specs.Growing.{those}
use Rattle.cert_prove.specs.TreeLaws.{RuleIsOne, OrderedParts, OrderedIsFaultless}
use Rattle.cert_prove.proofs.RuleElements.{found_passes, each_passes}
use Rattle.cert_prove.proofs.TreeTesting.{lies_to, word_to, one_of_those}

-- ---- one test

module _ (version : Version) (ranges : List Interval) (set : List Numbered) where
  clash : {A : Type 0} (o : ℕ) → parts_at set o ≡ true → ((q : ℕ) → parts_at set q ≡ false) → A
  clash o e h = absurd (let u : true ≡ false = sym e ∙ h o in cc)

  same_offset : (o q : ℕ) → parts_at set o ≡ true → parts_at set q ≡ true → ((n : ℕ) → n < o → parts_at set n ≡ false) → ((n : ℕ) → n < q → parts_at set n ≡ false) →
      (b c : Bool) → nat_lt o q ≡ b → nat_lt q o ≡ c → o ≡ q
  same_offset o q e f h g true c x y = absurd (let u : true ≡ false = sym e ∙ g o (ltb-true o q x) in cc)
  same_offset o q e f h g false true x y = absurd (let u : true ≡ false = sym f ∙ h q (ltb-true q o y) in cc)
  same_offset o q e f h g false false x y = le_antisymm (ltb-false q o y) (ltb-false o q x)

  rule_same : (t u : Option Node) → TreeRule version ranges set t → TreeRule version ranges set u → t ≡ u
  rule_same _ _ (least_offset {o = o} e h) (least_offset {o = q} f g) = ap (λ z. Some (Bit z)) (same_offset o q e f h g (nat_lt o q) (nat_lt q o) refl refl)
  rule_same _ _ (least_offset {o = o} e h) (first_equation none found) = clash o e none
  rule_same _ _ (least_offset {o = o} e h) (first_reference none no_equation found) = clash o e none
  rule_same _ _ (least_offset {o = o} e h) (no_test none found no_reference) = clash o e none
  rule_same _ _ (first_equation none found) (least_offset {o = o} e h) = clash o e none
  rule_same _ _ (first_equation {e = e} none found) (first_equation {e = f} none' found') =
      let same : e ≡ f = let u : Some e ≡ Some f = sym found ∙ found' in cc in ap (λ (z : Equation). Some (Parameter z.tested z.constant)) same
  rule_same _ _ (first_equation {e = e} none found) (first_reference none' no_equation found') = absurd (let u : Some e ≡ None = sym found ∙ no_equation in cc)
  rule_same _ _ (first_equation {e = e} none found) (no_test none' found' no_reference) = absurd (let u : Some e ≡ None = sym found ∙ found' in cc)
  rule_same _ _ (first_reference none no_equation found) (least_offset {o = o} e h) = clash o e none
  rule_same _ _ (first_reference none no_equation found) (first_equation {e = e} none' found') = absurd (let u : Some e ≡ None = sym found' ∙ no_equation in cc)
  rule_same _ _ (first_reference {e = e} none no_equation found) (first_reference {e = f} none' no_equation' found') =
      let same : e ≡ f = let u : Some e ≡ Some f = sym found ∙ found' in cc in ap (λ (z : Equation). Some (Reference z.tested z.constant)) same
  rule_same _ _ (first_reference {e = e} none no_equation found) (no_test none' found' no_reference) = absurd (let u : Some e ≡ None = sym found ∙ no_reference in cc)
  rule_same _ _ (no_test none found no_reference) (least_offset {o = o} e h) = clash o e none
  rule_same _ _ (no_test none found no_reference) (first_equation {e = e} none' found') = absurd (let u : Some e ≡ None = sym found' ∙ found in cc)
  rule_same _ _ (no_test none found no_reference) (first_reference {e = e} none' no_equation found') = absurd (let u : Some e ≡ None = sym found' ∙ no_reference in cc)
  rule_same _ _ (no_test none found no_reference) (no_test none' found' no_reference') = refl

pub rule_is_one : RuleIsOne
rule_is_one version ranges set t u a b = rule_same version ranges set t u a b

-- where there is no test
pub nothing_parts : (version : Version) (ranges : List Interval) (set : List Numbered) (t : Option Node) → TreeRule version ranges set t → t ≡ None → ((o : ℕ) → parts_at set o ≡ false) × (find (parts_by ranges set) (equations set) ≡ None) × (find (refers_apart set) (references version set) ≡ None)
nothing_parts version ranges set _ (least_offset found before) e = absurd (cc)
nothing_parts version ranges set _ (first_equation none found) e = absurd (cc)
nothing_parts version ranges set _ (first_reference none no_equation found) e = absurd (cc)
nothing_parts version ranges set _ (no_test none found no_reference) e = (none, found, no_reference)

-- ---- an ordered tree is right

module _ (version : Version) (formats : List Format) (s : MethodSizes) (reach : Reach) where
  abbrev All : (Numbered → Type 0) → List Numbered → Type 0
  All P set = AllByRecursion P set

  holds_of : (P : Numbered → Type 0) (n : ℕ) (r : Reaches formats s reach n) → All P (those reach (all_of formats s)) → P record { number = n; format = r.format; sizes = r.sizes }
  holds_of P n r h = one_of_those P reach formats s n r.format r.sizes h r.format_at r.sizes_at r.reaches

  test_right : (set : List Numbered) → those reach (all_of formats s) ≡ set → (t : Option Node) (x : Node) → t ≡ Some x → TreeRule version s.parameters set t → IsRight formats s reach x
  test_right set is _ x e (least_offset {o = o} parts before) =
      let node : Bit o ≡ x = cc in
      let below = (and_parts (list_all (is_longer o) set) (list_any (knows false o) set && list_any (knows true o) set) parts).0 in
      let each = each_passes (λ z. o < z.sizes.whole.compressed.least) (is_longer o) (λ z h. ltb-true o z.sizes.whole.compressed.least h) set below in
      subst (IsRight formats s reach) node (λ n r. holds_of (λ z. o < z.sizes.whole.compressed.least) n r (subst (All (λ z. o < z.sizes.whole.compressed.least)) (sym is) each))
  test_right set is _ x e (first_equation {e = q} none found) =
      let node : Parameter q.tested q.constant ≡ x = cc in
      let passes = found_passes (parts_by s.parameters set) q (equations set) found in
      let lies = (and_parts (lies_in (slice_get s.parameters q.tested) q.constant) (list_any (λ z. never_at q.tested q.constant z.format) set)
      (and_parts q.equal (lies_in (slice_get s.parameters q.tested) q.constant && list_any (λ z. never_at q.tested q.constant z.format) set) passes).1).0 in
      subst (IsRight formats s reach) node (λ range at. lies_to (slice_get s.parameters q.tested) q.constant lies range at)
  test_right set is _ x e (first_reference {e = q} none no_equation found) =
      let node : Reference q.tested q.constant ≡ x = cc in
      let passes = found_passes (refers_apart set) q (references version set) found in
      let word = (and_parts (is_word q.constant) (list_any (λ z. never_refers q.tested q.constant z.format) set)
      (and_parts q.equal (is_word q.constant && list_any (λ z. never_refers q.tested q.constant z.format) set) passes).1).0 in
      subst (IsRight formats s reach) node (word_to q.constant word)
  test_right set is _ x e (no_test none found no_reference) = absurd (cc)

  node_right : (set : List Numbered) → those reach (all_of formats s) ≡ set → (x : Node) → NodeRule version s.parameters set x → IsRight formats s reach x
  node_right [] is x rule = subst (IsRight formats s reach) (sym rule) (λ n r. holds_of (λ z. ⊥) n r (subst (All (λ z. ⊥)) (sym is) tt))
  node_right (z ∷ []) is x rule =
      subst (IsRight formats s reach) (sym rule) (λ n r. holds_of (λ w. w.number ≡ z.number) n r (subst (All (λ w. w.number ≡ z.number)) (sym is) (refl, tt)))
  node_right (z ∷ w ∷ set) is x rule = test_right (z ∷ w ∷ set) is (Some x) x refl rule

pub ordered_parts : OrderedParts
ordered_parts version formats s nodes o = record {
  whole = o.whole;
  each = λ n x reach at is. node_right version formats s reach (those reach (all_of formats s)) refl x (o.each n x reach at is);
}

no_fault : (formats : List Format) (s : MethodSizes) (nodes : List Node) (fault : TreeFault) → PartsFormats formats s nodes → IsTreeFault formats s nodes fault → ⊥
no_fault formats s nodes _ p (leaf_reached {place = place} {n = n} j reach stands r other before) = other (p.each place (Leaf j) reach stands.node_at stands.reach_is n r)
no_fault formats s nodes _ p (nowhere_reached {place = place} {n = n} reach stands r before) = p.each place Nowhere reach stands.node_at stands.reach_is n r
no_fault formats s nodes _ p (bit_past {place = place} {n = n} o reach stands r past before) =
    let below = p.each place (Bit o) reach stands.node_at stands.reach_is n r in omega (arith, below, past)
no_fault formats s nodes _ p (constant_outside {place = place} j c range reach stands at outside) = outside (p.each place (Parameter j c) reach stands.node_at stands.reach_is range at)
no_fault formats s nodes _ p (reference_beyond {place = place} i c reach stands beyond) = beyond (p.each place (Reference i c) reach stands.node_at stands.reach_is)

pub ordered_is_faultless : OrderedIsFaultless
ordered_is_faultless version formats s nodes fault o f = no_fault formats s nodes fault (ordered_parts version formats s nodes o) f
