-- What has grown to the end is an ordered tree; how far a tree has grown.
use Rattle.std.proofs.Common.{◌≡◌, ◌∙◌, refl, sym, ap, subst, ℕ, zero, suc, true, false, List, [], ◌∷◌, ◌++◌, map, length, append_assoc}
use Rattle.std.specs.Prelude.{not, Some, slice_get}
use Rattle.std.specs.List.{AllByRecursion}
use Rattle.std.proofs.lemmas.List.{append-nil}
use Rattle.sem_expr.specs.declared.interval.Interval.{Interval}
use Rattle.sem_profile.specs.declared.profile.Format.{Format}
use Rattle.sem_profile.specs.declared.profile.MethodSizes.{MethodSizes}
use Rattle.cert_types.specs.declared.certificate.Version.{Version}
use Rattle.cert_types.specs.declared.certificate.Node.{Node}
use Rattle.cert_types.specs.declared.certificate.Node.TheVariants.{Bit, Parameter, Reference, Leaf, Nowhere}
use Rattle.cert_types.specs.Kept.{are_trees, IsNodeKept}
use Rattle.cert_rules.specs.Trees.{Reach, onward, reach_at, everything, lacks_bit, never_at, only_at, never_refers, only_refers}
use Rattle.cert_prove.specs.Tree.{Numbered, all_of, NodeRule}
use Rattle.cert_prove.specs.Growing.{those, subsets, Grows, stops, goes_on, GrowsFromAll}
use Rattle.cert_prove.specs.Known.{numbers}
use Rattle.cert_prove.specs.TreeLaws.{GrownIsOrdered}
use Rattle.cert_prove.proofs.RuleElements.{filter_twice, filter_all, each_pushed}
use Rattle.cert_prove.proofs.TreeWhole.{counted}

module _ (all : List Numbered) where
  abbrev sets_of : List Reach → List (List Numbered)
  sets_of rs = map (λ r. those r all) rs

  -- what goes on to the subtrees are those that reach on
  pub go_on : (r : Reach) (x : Node) (rs : List Reach) → subsets (those r all) x ++ sets_of rs ≡ sets_of (onward r x ++ rs)
  go_on r (Bit o) rs = λ i.
      filter_twice (λ z. lacks_bit true o z.format z.sizes) (λ z. r z.format z.sizes) all i ∷ filter_twice (λ z. lacks_bit false o z.format z.sizes) (λ z. r z.format z.sizes) all i ∷ sets_of rs
  go_on r (Parameter p c) rs = λ i.
      filter_twice (λ z. not (never_at p c z.format)) (λ z. r z.format z.sizes) all i ∷ filter_twice (λ z. not (only_at p c z.format)) (λ z. r z.format z.sizes) all i ∷ sets_of rs
  go_on r (Reference i c) rs = λ j.
      filter_twice (λ z. not (never_refers i c z.format)) (λ z. r z.format z.sizes) all j ∷ filter_twice (λ z. not (only_refers i c z.format)) (λ z. r z.format z.sizes) all j ∷ sets_of rs
  go_on r (Leaf n) rs = refl
  go_on r Nowhere rs = refl

-- ---- the whole growth

module _ (version : Version) (ranges : List Interval) (all : List Numbered) where
  record Ruled (rs : List Reach) (nodes : List Node) : Type 0 where
    whole : are_trees (length rs) nodes ≡ true
    each : (n : ℕ) (x : Node) (reach : Reach) → slice_get nodes n ≡ Some x → reach_at rs nodes n ≡ Some reach → NodeRule version ranges (those reach all) x

  ruled : (sets left' : List (List Numbered)) (nodes : List Node) → Grows version ranges sets nodes left' → left' ≡ [] → (rs : List Reach) → sets ≡ sets_of all rs → Ruled rs nodes
  ruled _ _ _ stops end [] is = record { whole = refl; each = λ n x reach at r. absurd (cc) }
  ruled _ _ _ stops end (r ∷ rs) is = let wrong : [] ≡ those r all ∷ sets_of all rs = sym end ∙ is in absurd (cc)
  ruled _ _ _ (goes_on set x rule g) end [] is = absurd (cc)
  ruled _ _ _ (goes_on {sets = sets} {left = left'} {nodes = nodes} set x rule g) end (r ∷ rs) is =
      let here : set ≡ those r all = cc in
      let rest : sets ≡ sets_of all rs = cc in
      let on = ruled (subsets set x ++ sets) left' nodes g end (onward r x ++ rs) ((λ i. subsets (here i) x ++ rest i) ∙ go_on all r x rs) in
      let whole : are_trees (length (r ∷ rs)) (x ∷ nodes) ≡ true = ap (λ n. are_trees n nodes) (sym (counted r x rs)) ∙ on.whole in
      record { whole = whole; each = λ n y reach at is. by n y reach at is (subst (λ z. NodeRule version ranges z x) here rule) on.each }
    where
      by : (n : ℕ) (y : Node) (reach : Reach) → slice_get (x ∷ nodes) n ≡ Some y → reach_at (r ∷ rs) (x ∷ nodes) n ≡ Some reach → NodeRule version ranges (those r all) x →
          ((n : ℕ) (y : Node) (reach : Reach) → slice_get nodes n ≡ Some y → reach_at (onward r x ++ rs) nodes n ≡ Some reach → NodeRule version ranges (those reach all) y) → NodeRule version ranges (those reach all) y
      by zero y reach at is rule on =
          let node : x ≡ y = cc in
          let reached : r ≡ reach = cc in
          subst (λ z. NodeRule version ranges (those z all) y) reached (subst (NodeRule version ranges (those r all)) node rule)
      by (suc n) y reach at is rule on = on n y reach at is

pub grown_is_ordered : GrownIsOrdered
grown_is_ordered version formats s nodes g =
    let all = all_of formats s in
    let t = ruled version s.parameters all (all ∷ []) [] nodes g refl (everything ∷ []) (ap (λ set. set ∷ []) (sym (filter_all all))) in
    record { whole = t.whole; each = t.each }

-- ---- how far it has grown

-- the numbers of the sets that are still to be parted, the next one first
abbrev pub waiting : List Format → MethodSizes → List Reach → List (List ℕ)
waiting formats s rs = map (λ r. numbers (those r (all_of formats s))) rs

-- the nodes are those of the rule, and these sets are to come
pub record GrownTo (version : Version) (formats : List Format) (s : MethodSizes) (nodes : List Node) (sets : List (List ℕ)) : Type 0 where
  pub reaches : List Reach
  pub sets_are : sets ≡ waiting formats s reaches
  pub goes : (rest : List Node) (after : List (List Numbered)) → Grows version s.parameters (sets_of (all_of formats s) reaches) rest after → GrowsFromAll version formats s (nodes ++ rest) after
  pub each : AllByRecursion IsNodeKept nodes

module _ (version : Version) (formats : List Format) (s : MethodSizes) where
  pub nothing_grown : (sets : List (List ℕ)) → sets ≡ numbers (all_of formats s) ∷ [] → GrownTo version formats s [] sets
  nothing_grown sets is = record {
    reaches = everything ∷ [];
    sets_are = is ∙ ap (λ set. numbers set ∷ []) (sym (filter_all (all_of formats s)));
    goes = λ rest after g. subst (λ set. Grows version s.parameters (set ∷ []) rest after) (filter_all (all_of formats s)) g;
    each = tt;
  }

  pub all_grown : (nodes : List Node) (sets : List (List ℕ)) → sets ≡ [] → GrownTo version formats s nodes sets → GrowsFromAll version formats s nodes []
  all_grown nodes sets none so = by so.reaches (sym none ∙ so.sets_are) so.goes
    where
      by : (rs : List Reach) → [] ≡ waiting formats s rs → ((rest : List Node) (after : List (List Numbered)) → Grows version s.parameters (sets_of (all_of formats s) rs) rest after → GrowsFromAll version formats s (nodes ++ rest) after) →
          GrowsFromAll version formats s nodes []
      by [] e goes = subst (λ ns. GrowsFromAll version formats s ns []) (append-nil nodes) (goes [] [] stops)
      by (r ∷ rs) e goes = absurd (cc)

  -- the next set, and those that come after it
  pub record Next (nodes : List Node) (set : List ℕ) (others : List (List ℕ)) : Type 0 where
    pub reach : Reach
    pub more : List Reach
    pub set_is : set ≡ numbers (those reach (all_of formats s))
    pub others_are : others ≡ waiting formats s more
    pub goes : (rest : List Node) (after : List (List Numbered)) → Grows version s.parameters (those reach (all_of formats s) ∷ sets_of (all_of formats s) more) rest after → GrowsFromAll version formats s (nodes ++ rest) after

  pub next_set : (nodes : List Node) (sets others : List (List ℕ)) (set : List ℕ) → sets ≡ set ∷ others → GrownTo version formats s nodes sets → Next nodes set others
  next_set nodes sets others set is so = by so.reaches (sym is ∙ so.sets_are) so.goes
    where
      by : (rs : List Reach) → set ∷ others ≡ waiting formats s rs → ((rest : List Node) (after : List (List Numbered)) → Grows version s.parameters (sets_of (all_of formats s) rs) rest after → GrowsFromAll version formats s (nodes ++ rest) after) →
          Next nodes set others
      by [] e goes = absurd (cc)
      by (r ∷ rs) e goes = record { reach = r; more = rs; set_is = cc; others_are = cc; goes = goes }

  -- the growth comes to the next set
  pub comes_to : (nodes : List Node) (set : List ℕ) (others : List (List ℕ)) (n : Next nodes set others) → GrowsFromAll version formats s nodes (those n.reach (all_of formats s) ∷ sets_of (all_of formats s) n.more)
  comes_to nodes set others n = subst (λ ns. GrowsFromAll version formats s ns (those n.reach (all_of formats s) ∷ sets_of (all_of formats s) n.more)) (append-nil nodes) (n.goes [] _ stops)

  pub one_more : (nodes newer : List Node) (set : List ℕ) (others sets : List (List ℕ)) (x : Node) (n : Next nodes set others) → AllByRecursion IsNodeKept nodes → NodeRule version s.parameters (those n.reach (all_of formats s)) x → IsNodeKept x →
      newer ≡ nodes ++ x ∷ [] → sets ≡ waiting formats s (onward n.reach x ++ n.more) → GrownTo version formats s newer sets
  one_more nodes newer set others sets x n each rule kept pushed are =
      let all = all_of formats s in
      record {
        reaches = onward n.reach x ++ n.more;
        sets_are = are;
        goes = λ rest after g.
            let longer : nodes ++ (x ∷ rest) ≡ newer ++ rest = sym (append_assoc nodes (x ∷ []) rest) ∙ ap (λ ns. ns ++ rest) (sym pushed) in
            subst (λ ns. GrowsFromAll version formats s ns after) longer
            (n.goes (x ∷ rest) after (goes_on (those n.reach all) x rule (subst (λ sets. Grows version s.parameters sets rest after) (sym (go_on all n.reach x n.more)) g)));
        each = subst (AllByRecursion IsNodeKept) (sym pushed) (each_pushed IsNodeKept nodes x each kept);
      }
