-- What each end of the growth says of the method.
use Rattle.std.proofs.Common.{◌≡◌, ◌∙◌, refl, sym, ap, subst, ℕ, ◌<◌, ◌≤◌, List, [], ◌∷◌, ◌++◌, map, length}
use Rattle.std.specs.List.{AllByRecursion, filter, flat_map, range_with_len}
use Rattle.std.specs.HashMap.{keys}
use Rattle.sem_profile.specs.declared.profile.Format.{Format}
use Rattle.sem_profile.specs.declared.profile.FormatSizes.{FormatSizes}
use Rattle.sem_profile.specs.declared.profile.MethodSizes.{MethodSizes}
use Rattle.cert_types.specs.declared.certificate.Version.{Version}
use Rattle.cert_types.specs.declared.certificate.Node.{Node}
use Rattle.cert_types.specs.Kept.{IsNodeKept, IsTreeKept, node_limit}
use Rattle.cert_rules.specs.Trees.{Reach}
use Rattle.cert_trees.specs.declared.signatures.Signature.{Signature}
use Rattle.cert_trees.specs.Signature.{AreSignatures}
use Rattle.cert_prove.specs.declared.tree.Unparted.{Unparted}
use Rattle.cert_prove.specs.declared.tree.Unparted.TheVariants.{Stuck, Limit, OutOfMemory}
use Rattle.cert_prove.specs.Tree.{Numbered, all_of}
use Rattle.cert_prove.specs.Growing.{those, OrderedTree, GrowsFromAll, IsShallow, PassesLimit, too_many, too_far, too_deep, IsUnparted}
use Rattle.cert_prove.specs.Known.{numbers, subsets_by, is_far, AreFar, AreKnown, IsNext, HasNoNode, IsGrown}
use Rattle.cert_prove.proofs.RuleElements.{where_marked}
use Rattle.cert_prove.proofs.TreeGrowth.{GrownTo, Next, nothing_grown, all_grown, next_set, comes_to, one_more, grown_is_ordered}
use Rattle.cert_prove.proofs.KnownTelling.{all_numbered, subsets_wait, far_found}

module _ (version : Version) (formats : List Format) (s : MethodSizes) where
  pub known_of : (tolds shown : List Signature) (far : List ℕ) (sizes : List FormatSizes) → sizes ≡ s.formats → AreSignatures tolds formats sizes → shown ≡ tolds → far ≡ flat_map (λ t. filter is_far (keys t.bits)) shown → AreKnown formats s tolds far
  known_of tolds shown far sizes bounds told same is = record {
    told = subst (AreSignatures tolds formats) bounds told;
    far_are = subst (AreFar tolds) (sym (is ∙ ap (flat_map (λ t. filter is_far (keys t.bits))) same)) (far_found tolds);
  }

  pub known_as : (tolds shown : List Signature) (far seen : List ℕ) → AreKnown formats s tolds far → shown ≡ tolds → seen ≡ far → AreKnown formats s shown seen
  known_as tolds shown far seen known same alike = subst (λ ts. AreKnown formats s ts seen) (sym same) (subst (AreKnown formats s tolds) (sym alike) known)

  pub begun : (tolds : List Signature) (far : List ℕ) (nodes : List Node) (set : List ℕ) (others sets : List (List ℕ)) (count : ℕ) → AreKnown formats s tolds far → nodes ≡ [] → count ≡ length tolds → set ≡ range_with_len 0 count → others ≡ [] →
      sets ≡ set ∷ others → GrownTo version formats s nodes sets
  begun tolds far nodes set others sets count known none long is no_others stacked =
      let all : set ≡ numbers (all_of formats s) = is ∙ (ap (range_with_len 0) long ∙ all_numbered formats s tolds known.told) in
      subst (λ ns. GrownTo version formats s ns sets) (sym none) (nothing_grown version formats s sets (stacked ∙ (λ i. all i ∷ no_others i)))

  pub whole : (nodes : List Node) (sets : List (List ℕ)) → sets ≡ [] → length nodes ≤ node_limit → GrownTo version formats s nodes sets → IsGrown version formats s nodes
  whole nodes sets none few so = record { grows = all_grown version formats s nodes sets none so; few = few; each = so.each }

  pub not_whole : (nodes : List Node) (sets : List (List ℕ)) → (sets ≡ [] → ⊥) → length nodes ≡ node_limit → GrownTo version formats s nodes sets → PassesLimit version formats s
  not_whole nodes sets some many so = by sets refl some so
    where
      by : (ss : List (List ℕ)) → sets ≡ ss → (ss ≡ [] → ⊥) → GrownTo version formats s nodes ss → PassesLimit version formats s
      by [] e some so = absurd (some refl)
      by (set ∷ others) e some so = let n = next_set version formats s nodes (set ∷ others) others set refl so in too_many nodes _ _ (comes_to version formats s nodes set others n) many

  refused : (reach : Reach) (nodes : List Node) (left' : List (List Numbered)) (e : Unparted) → GrowsFromAll version formats s nodes (those reach (all_of formats s) ∷ left') → HasNoNode version s.parameters (those reach (all_of formats s)) e →
      length nodes < node_limit → AllByRecursion IsNodeKept nodes → IsUnparted version formats s e
  refused reach nodes left' (Stuck first second) grown h few near = record {
    set = those reach (all_of formats s);
    stuck = record {
      marks = map (λ z. reach z.format z.sizes) (all_of formats s);
      some = where_marked (λ z. reach z.format z.sizes) (all_of formats s);
      first = h.0.format;
      second = h.0.other;
      others = h.0.rest;
      is = h.0.is;
      no_test = h.1;
    };
    first_is = h.0.first_is;
    second_is = h.0.second_is;
    nodes = nodes;
    left = left';
    grown = grown;
    few = few;
    near = near;
  }
  refused reach nodes left' Limit grown h few near = too_far nodes (those reach (all_of formats s)) left' h.0 grown h.1 h.2
  refused reach nodes left' OutOfMemory grown h few near = absurd h

  -- the next set, by the slices that the code reads
  module _ (nodes : List Node) (sets others : List (List ℕ)) (set shown : List ℕ) (stacked : sets ≡ set ∷ others) (same : shown ≡ set) (so : GrownTo version formats s nodes sets) where
    pub next : Next version formats s nodes set others
    next = next_set version formats s nodes sets others set stacked so

    pub shown_is : shown ≡ numbers (those next.reach (all_of formats s))
    shown_is = same ∙ next.set_is

    pub has_no_node : (e : Unparted) → length nodes < node_limit → HasNoNode version s.parameters (those next.reach (all_of formats s)) e → IsUnparted version formats s e
    has_no_node e few h = refused next.reach nodes _ e (comes_to version formats s nodes set others next) h few so.each

    pub has_node : (tolds : List Signature) (far : List ℕ) (newer : List Node) (x : Node) (after : List (List ℕ)) → AreKnown formats s tolds far → IsNext version s.parameters (those next.reach (all_of formats s)) x → newer ≡ nodes ++ x ∷ [] →
        after ≡ subsets_by tolds set x ++ others → GrownTo version formats s newer after
    has_node tolds far newer x after known is pushed are =
        one_more version formats s nodes newer set others after x next so.each is.rule is.kept pushed
        (are ∙ ((λ i. subsets_by tolds (next.set_is i) x ++ next.others_are i) ∙ subsets_wait formats s tolds far known next.reach x next.more is.kept))

  -- ---- the whole tree

  pub ordered : (nodes : List Node) → IsGrown version formats s nodes → OrderedTree version formats s nodes
  ordered nodes g = grown_is_ordered version formats s nodes g.grows

  pub kept : (nodes : List Node) → IsGrown version formats s nodes → IsShallow nodes → IsTreeKept nodes
  kept nodes g shallow = record { whole = (ordered nodes g).whole; few = g.few; shallow = shallow; each = g.each }

  pub deep : (nodes : List Node) → IsGrown version formats s nodes → (IsShallow nodes → ⊥) → PassesLimit version formats s
  deep nodes g h = too_deep nodes g.grows h
