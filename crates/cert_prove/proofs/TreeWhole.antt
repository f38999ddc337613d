-- A stuck set of formats stays whole in one subtree of each test.
use Rattle.std.proofs.Common.{◌≡◌, ◌∙◌, refl, sym, ap, subst, ℕ, zero, suc, ◌<◌, Bool, true, false, List, [], ◌∷◌, ◌++◌, length, arith}
use Rattle.std.specs.Prelude.{◌&&◌, not, Some, None, slice_get, ℤ}
use Rattle.std.specs.List.{find, list_any, list_all, AllByRecursion}
use Rattle.std.proofs.lemmas.Bool.{lt-ltb, and_parts, and_from}
use Rattle.sem_profile.specs.declared.profile.Format.{Format}
use Rattle.sem_profile.specs.declared.profile.MethodSizes.{MethodSizes}
use Rattle.cert_types.specs.declared.certificate.Version.{Version}
use Rattle.cert_types.specs.declared.certificate.Version.TheVariants.{One, Two}
use Rattle.cert_types.specs.declared.certificate.Node.{Node}
use Rattle.cert_types.specs.declared.certificate.Node.TheVariants.{Bit, Parameter, Reference, Leaf, Nowhere}
use Rattle.cert_types.specs.Kept.{are_trees, trees_after, IsNodeIn}
use Rattle.cert_rules.specs.Trees.{Reach, Reaches, IsRight, onward, reach_at, everything, lacks_bit, never_at, only_at, never_refers, only_refers}
use Rattle.cert_rules.proofs.Numbers.{in_left}
use Rattle.cert_trees.specs.Equations.{fixes}
use Rattle.cert_prove.specs.Tree.{Numbered, all_of, is_longer, knows, parts_by, lies_in, equations, is_word, refers_apart, references}
use Rattle.cert_prove.specs.Growing.{Stuck}
use Rattle.cert_prove.specs.TreeLaws.{StuckHasNoTree}
use Rattle.cert_prove.proofs.RuleElements.{any_weaker, none_passes, none_found, both_pass, each_marked, all_pass_by}
use Rattle.cert_prove.proofs.TreeTesting.{lies_of, word_of, reference_there, apart_where_fixed, equation_there, parts_where_fixed, StandsAt, all_stand, some_rise}
use Rattle.cert_prove.proofs.TreeRuling.{nothing_parts}

pub counted : (r : Reach) (x : Node) (rs : List Reach) → length (onward r x ++ rs) ≡ trees_after x (length rs)
counted r (Bit o) rs = refl
counted r (Parameter p c) rs = refl
counted r (Reference i c) rs = refl
counted r (Leaf n) rs = refl
counted r Nowhere rs = refl

passed : (r : Reach) (x : Node) (rs : List Reach) (j : ℕ) → slice_get (onward r x ++ rs) (trees_after x j) ≡ slice_get rs j
passed r (Bit o) rs j = refl
passed r (Parameter p c) rs j = refl
passed r (Reference i c) rs j = refl
passed r (Leaf n) rs j = refl
passed r Nowhere rs j = refl

module _ (version : Version) (formats : List Format) (s : MethodSizes) (set : List Numbered) (st : Stuck version formats s set) where
  -- each of them reaches
  abbrev Whole : Reach → Type 0
  Whole reach = list_all (λ z. reach z.format z.sizes) set ≡ true

  stands : AllByRecursion (StandsAt formats s) set
  stands = subst (AllByRecursion (StandsAt formats s)) (sym st.some) (each_marked (StandsAt formats s) st.marks (all_of formats s) (all_stand formats s))

  rises : st.first.number < st.second.number
  rises = some_rise formats s st.marks st.first st.second st.others (sym st.some ∙ st.is)

  first_stands : StandsAt formats s st.first
  first_stands = (subst (AllByRecursion (StandsAt formats s)) st.is stands).0

  second_stands : StandsAt formats s st.second
  second_stands = (subst (AllByRecursion (StandsAt formats s)) st.is stands).1.0

  abbrev Arrives : Reach → Numbered → Type 0
  Arrives reach z = Reaches formats s reach z.number

  arrives : (reach : Reach) (z : Numbered) → StandsAt formats s z → reach z.format z.sizes ≡ true → Arrives reach z
  arrives reach z at r = record { format = z.format; sizes = z.sizes; format_at = at.format_at; sizes_at = at.sizes_at; reaches = r }

  all_arrive : (reach : Reach) (xs : List Numbered) → AllByRecursion (StandsAt formats s) xs → list_all (λ z. reach z.format z.sizes) xs ≡ true → AllByRecursion (λ z. reach z.format z.sizes ≡ true) xs
  all_arrive reach [] at w = tt
  all_arrive reach (z ∷ xs) at w =
      let p = and_parts (reach z.format z.sizes) (list_all (λ z. reach z.format z.sizes) xs) w in
      (p.0, all_arrive reach xs at.1 p.1)

  first_arrives : (reach : Reach) → Whole reach → Arrives reach st.first
  first_arrives reach w = arrives reach st.first first_stands (subst (AllByRecursion (λ z. reach z.format z.sizes ≡ true)) st.is (all_arrive reach set stands w)).0

  second_arrives : (reach : Reach) → Whole reach → Arrives reach st.second
  second_arrives reach w = arrives reach st.second second_stands (subst (AllByRecursion (λ z. reach z.format z.sizes ≡ true)) st.is (all_arrive reach set stands w)).1.0

  -- a bit below the least of each is not known 0 of one and 1 of another
  at_bit : (o : ℕ) → list_all (is_longer o) set ≡ true → (b c : Bool) → list_any (knows true o) set ≡ b → list_any (knows false o) set ≡ c →
      (Whole (lacks_bit true o) → ⊥) → (Whole (lacks_bit false o) → ⊥) → ⊥
  at_bit o below false c e f zero_side one_side = zero_side (none_passes (knows true o) set e)
  at_bit o below true false e f zero_side one_side = one_side (none_passes (knows false o) set f)
  at_bit o below true true e f zero_side one_side =
      let parts = and_from (list_all (is_longer o) set) (list_any (knows false o) set && list_any (knows true o) set) below (and_from (list_any (knows false o) set) (list_any (knows true o) set) f e) in
      let u : true ≡ false = sym parts ∙ (nothing_parts version s.parameters set None st.no_test refl).0 o in absurd (cc)

  -- a constant in its range is not lost by one and alone to another
  at_parameter : (p : ℕ) (c : ℤ) → lies_in (slice_get s.parameters p) c ≡ true → (a b : Bool) → list_any (λ z. never_at p c z.format) set ≡ a → list_any (λ z. only_at p c z.format) set ≡ b →
      (Whole (λ f z. not (never_at p c f)) → ⊥) → (Whole (λ f z. not (only_at p c f)) → ⊥) → ⊥
  at_parameter p c lies false b e f equal_side other_side = equal_side (none_passes (λ z. never_at p c z.format) set e)
  at_parameter p c lies true false e f equal_side other_side = other_side (none_passes (λ z. only_at p c z.format) set f)
  at_parameter p c lies true true e f equal_side other_side =
      let found = any_weaker (fixes p c) (parts_by s.parameters set) (λ q h. parts_where_fixed s.parameters set p c q lies e h) (equations set) (equation_there p c set f) in
      let none = none_found (parts_by s.parameters set) (equations set) (nothing_parts version s.parameters set None st.no_test refl).1 in
      let u : true ≡ false = sym found ∙ none in absurd (cc)

  -- nor, in version two, a constant of a reference
  at_reference : version ≡ Two → (i : ℕ) (c : ℤ) → is_word c ≡ true → (a b : Bool) → list_any (λ z. never_refers i c z.format) set ≡ a → list_any (λ z. only_refers i c z.format) set ≡ b →
      (Whole (λ f z. not (never_refers i c f)) → ⊥) → (Whole (λ f z. not (only_refers i c f)) → ⊥) → ⊥
  at_reference two i c word false b e f equal_side other_side = equal_side (none_passes (λ z. never_refers i c z.format) set e)
  at_reference two i c word true false e f equal_side other_side = other_side (none_passes (λ z. only_refers i c z.format) set f)
  at_reference two i c word true true e f equal_side other_side =
      let found = any_weaker (fixes i c) (refers_apart set) (λ q h. apart_where_fixed set i c q word e h) (references Two set) (reference_there i c set f) in
      let none = none_found (refers_apart set) (references Two set) (subst (λ v. find (refers_apart set) (references v set) ≡ None) two (nothing_parts version s.parameters set None st.no_test refl).2) in
      let u : true ≡ false = sym found ∙ none in absurd (cc)

  -- a version that tests references is the second
  is_two : (v : Version) (i : ℕ) (c : ℤ) → IsNodeIn v (Reference i c) → v ≡ Two
  is_two Two i c h = refl
  is_two One i c h = absurd h

  both : (a b : Reach) → Whole a → Whole b → Whole (λ f z. a f z && b f z)
  both a b h g = both_pass (λ z. a z.format z.sizes) (λ z. b z.format z.sizes) set h g

  -- the set goes on whole to one subtree of a node, unless the node is wrong
  at_node : (reach : Reach) (x : Node) → IsNodeIn version x → Whole reach → IsRight formats s reach x → ((j : ℕ) (on : Reach) → slice_get (onward reach x) j ≡ Some on → Whole on → ⊥) → ⊥
  at_node reach (Leaf n) has w right on =
      let a = right st.first.number (first_arrives reach w) in
      let b = right st.second.number (second_arrives reach w) in
      let lt = rises in omega (arith, a, b, lt)
  at_node reach Nowhere has w right on = right st.first.number (first_arrives reach w)
  at_node reach (Bit o) has w right on =
      let longer : (z : Numbered) → StandsAt formats s z → reach z.format z.sizes ≡ true → o < z.sizes.whole.compressed.least = λ z at r.
      right z.number (record { format = z.format; sizes = z.sizes; format_at = at.format_at; sizes_at = at.sizes_at; reaches = r }) in
      let below = all_pass_by (StandsAt formats s) (λ z. reach z.format z.sizes) (is_longer o) (λ z at r. lt-ltb o z.sizes.whole.compressed.least (longer z at r)) set stands w in
      at_bit o below (list_any (knows true o) set) (list_any (knows false o) set) refl refl
      (λ h. on 0 (λ f z. reach f z && lacks_bit true o f z) refl (both reach (lacks_bit true o) w h))
      (λ h. on 1 (λ f z. reach f z && lacks_bit false o f z) refl (both reach (lacks_bit false o) w h))
  at_node reach (Parameter p c) has w right on =
      at_parameter p c (lies_of (slice_get s.parameters p) c right) (list_any (λ z. never_at p c z.format) set) (list_any (λ z. only_at p c z.format) set) refl refl
      (λ h. on 0 (λ f z. reach f z && not (never_at p c f)) refl (both reach (λ f z. not (never_at p c f)) w h))
      (λ h. on 1 (λ f z. reach f z && not (only_at p c f)) refl (both reach (λ f z. not (only_at p c f)) w h))
  at_node reach (Reference i c) has w right on =
      at_reference (is_two version i c has) i c (word_of c right) (list_any (λ z. never_refers i c z.format) set) (list_any (λ z. only_refers i c z.format) set) refl refl
      (λ h. on 0 (λ f z. reach f z && not (never_refers i c f)) refl (both reach (λ f z. not (never_refers i c f)) w h))
      (λ h. on 1 (λ f z. reach f z && not (only_refers i c f)) refl (both reach (λ f z. not (only_refers i c f)) w h))

  falls : (nodes : List Node) (rs : List Reach) (j : ℕ) (reach : Reach) → slice_get rs j ≡ Some reach → Whole reach → AllByRecursion (IsNodeIn version) nodes → are_trees (length rs) nodes ≡ true →
      ((n : ℕ) (x : Node) (r : Reach) → slice_get nodes n ≡ Some x → reach_at rs nodes n ≡ Some r → IsRight formats s r x) → ⊥
  falls nodes [] j reach at w has whole right = absurd (cc)
  falls [] (r ∷ rs) j reach at w has whole right = absurd (cc)
  falls (x ∷ nodes) (r ∷ rs) (suc j) reach at w has whole right =
      falls nodes (onward r x ++ rs) (trees_after x j) reach (passed r x rs j ∙ at) w has.1 (ap (λ n. are_trees n nodes) (counted r x rs) ∙ whole) (λ n. right (suc n))
  falls (x ∷ nodes) (r ∷ rs) zero reach at w has whole right =
      let same : r ≡ reach = cc in
      at_node r x has.0 (subst Whole (sym same) w) (right zero x r refl refl)
      (λ j on e h. falls nodes (onward r x ++ rs) j on (in_left (onward r x) rs j on e) h has.1 (ap (λ n. are_trees n nodes) (counted r x rs) ∙ whole) (λ n. right (suc n)))

  everywhere : (xs : List Numbered) → list_all (λ z. everything z.format z.sizes) xs ≡ true
  everywhere [] = refl
  everywhere (x ∷ xs) = everywhere xs

pub stuck_has_no_tree : StuckHasNoTree
stuck_has_no_tree version formats s set st nodes versed p = falls version formats s set st nodes (everything ∷ []) 0 everything refl (everywhere version formats s set st set) versed p.whole p.each
