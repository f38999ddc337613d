-- The sets on the stack are what reaches the trees still to be judged.
use Rattle.std.proofs.Common.{◌≡◌, ◌≢◌, ◌∙◌, refl, sym, ap, subst, ℕ, zero, suc, ◌+◌, ◌^◌, ◌<◌, ◌≤◌, Bool, true, false, not, nat_eq, nat_lt, List, [], ◌∷◌, ◌++◌, length, drop, replicate, append_assoc, arith}
use Rattle.std.specs.Prelude.{slice_get, Option, Some, None, ℤ}
use Rattle.std.proofs.lemmas.Bool.{eqb-true, eqb-false, leb-true, leb-false, ltb-true, ltb-false}
use Rattle.std.proofs.lemmas.List.{drop_more, same_from_push}
use Rattle.std.proofs.lemmas.Option.{get_or_from_slice_get, slice_get_within}
use Rattle.sem_expr.specs.declared.interval.Interval.{Interval}
use Rattle.sem_expr.specs.Rules.{IsIn}
use Rattle.sem_profile.specs.declared.profile.FormatSizes.{FormatSizes}
use Rattle.sem_profile.specs.declared.profile.MethodSizes.{MethodSizes}
use Rattle.sem_profile.specs.declared.profile.Format.{Format}
use Rattle.cert_types.specs.declared.certificate.Node.{Node}
use Rattle.cert_types.specs.declared.certificate.Node.TheVariants.{Bit, Parameter, Reference, Leaf, Nowhere}
use Rattle.cert_types.specs.Kept.{are_trees, trees_after}
use Rattle.cert_rules.specs.Trees.{Reach, onward, reach_at, Reaches, IsRight, PartsFormats, everything}
use Rattle.cert_trees.specs.declared.fault.TreeFault.TheVariants.{WrongLeaf, ShortFormat}
use Rattle.cert_trees.specs.declared.signatures.Signature.{Signature}
use Rattle.cert_trees.specs.declared.signatures.Test.TheVariants.{Lacks, MayBe, MayDiffer, MayHold, MayLack}
use Rattle.cert_trees.specs.Faults.{Stands, IsTreeFault}
use Rattle.cert_trees.specs.Signature.{AreSignatures, IsNode, branches}
use Rattle.cert_trees.specs.Judged.{Has, is_wrong, is_short, IsFirstWrong, reaching, stacked, JudgedTo}
use Rattle.cert_trees.proofs.SignaturesPassing.{kept_is}

-- ---- a set's members are the formats that reach

-- the format of that place and its bounds
record Member (formats : List Format) (sizes : List FormatSizes) (reach : Reach) (n : ℕ) : Type 0 where
  format : Format
  z : FormatSizes
  format_at : slice_get formats n ≡ Some format
  z_at : slice_get sizes n ≡ Some z
  reaches : reach format z ≡ true

member : (reach : Reach) (formats : List Format) (sizes : List FormatSizes) (n : ℕ) → Has (reaching reach formats sizes) n → Member formats sizes reach n
member reach [] sizes n has = absurd (cc)
member reach (f ∷ formats) [] n has = absurd (cc)
member reach (f ∷ formats) (z ∷ sizes) zero has = record { format = f; z = z; format_at = refl; z_at = refl; reaches = cc }
member reach (f ∷ formats) (z ∷ sizes) (suc n) has =
    let m = member reach formats sizes n has in
    record { format = m.format; z = m.z; format_at = m.format_at; z_at = m.z_at; reaches = m.reaches }

has_member : (reach : Reach) (formats : List Format) (sizes : List FormatSizes) (n : ℕ) (f : Format) (z : FormatSizes) →
    slice_get formats n ≡ Some f → slice_get sizes n ≡ Some z → reach f z ≡ true → Has (reaching reach formats sizes) n
has_member reach [] sizes n f z at z_at is = absurd (cc)
has_member reach (g ∷ formats) [] n f z at z_at is = absurd (cc)
has_member reach (g ∷ formats) (y ∷ sizes) zero f z at z_at is =
    let same : g ≡ f = cc in
    let one : y ≡ z = cc in
    (λ i. Some (reach (same i) (one i))) ∙ ap Some is
has_member reach (g ∷ formats) (y ∷ sizes) (suc n) f z at z_at is = has_member reach formats sizes n f z at z_at is

-- ---- a node is right, or the first wrong format

false_is : (a b : ℕ) → not (nat_eq a b) ≡ false → a ≡ b
false_is a b e = by (nat_eq a b) refl
  where
    by : (t : Bool) → nat_eq a b ≡ t → a ≡ b
    by true h = eqb-true a b h
    by false h = let wrong : true ≡ false = sym (ap not h) ∙ e in absurd (cc)

true_is : (a b : ℕ) → not (nat_eq a b) ≡ true → a ≢ b
true_is a b e = by (nat_eq a b) refl
  where
    by : (t : Bool) → nat_eq a b ≡ t → a ≢ b
    by true h = let wrong : false ≡ true = sym (ap not h) ∙ e in absurd (cc)
    by false h = eqb-false a b h

pub outside : (o : Option Interval) (c d : ℤ) → d ≡ c → (((r : Interval) → o ≡ Some r → IsIn r d) → false ≡ true) → (r : Interval) × (o ≡ Some r) × (IsIn r c → ⊥)
outside None c d same h = let wrong = h (λ r e. absurd (cc)) in absurd (cc)
outside (Some r) c d same h =
    (r, refl, λ is. let wrong = h (λ q e. let one : r ≡ q = cc in subst (λ v. IsIn q v) (sym same) (subst (λ x. IsIn x c) one is)) in cc)

pub at_variant : (formats : List Format) (s : MethodSizes) (nodes : List Node) (place : ℕ) (node x : Node) (reach : Reach) → node ≡ x → Stands formats s nodes place node reach → Stands formats s nodes place x reach
at_variant formats s nodes place node x reach is stands = subst (λ y. Stands formats s nodes place y reach) is stands

module _ (formats : List Format) (s : MethodSizes) (nodes : List Node) (place : ℕ) (set : List Bool) (reach : Reach) (is : set ≡ reaching reach formats s.formats) where
  reaches_of : (n : ℕ) → Has set n → Reaches formats s reach n
  reaches_of n has =
      let m = member reach formats s.formats n (ap (λ x. slice_get x n) (sym is) ∙ has) in
      record { format = m.format; sizes = m.z; format_at = m.format_at; sizes_at = m.z_at; reaches = m.reaches }

  has_of : (n : ℕ) → Reaches formats s reach n → Has set n
  has_of n r = ap (λ x. slice_get x n) is ∙ has_member reach formats s.formats n r.format r.sizes r.format_at r.sizes_at r.reaches

  long_enough : (o n : ℕ) (r : Reaches formats s reach n) → is_short o (slice_get s.formats n) ≡ false → o < r.sizes.whole.compressed.least
  long_enough o n r e = leb-false r.sizes.whole.compressed.least o (ap (is_short o) (sym r.sizes_at) ∙ e)

  leaf_right : (k : ℕ) → ((n : ℕ) → Has set n → is_wrong s.formats (Leaf k) n ≡ false) → IsRight formats s reach (Leaf k)
  leaf_right k none = λ n r. false_is n k (none n (has_of n r))

  nowhere_right : ((n : ℕ) → Has set n → is_wrong s.formats Nowhere n ≡ false) → IsRight formats s reach Nowhere
  nowhere_right none = λ n r. let e = none n (has_of n r) in absurd (cc)

  bit_right : (o : ℕ) → ((n : ℕ) → Has set n → is_wrong s.formats (Bit o) n ≡ false) → IsRight formats s reach (Bit o)
  bit_right o none = λ n r. long_enough o n r (none n (has_of n r))

  leaf_fault : (k n : ℕ) → Stands formats s nodes place (Leaf k) reach → IsFirstWrong s.formats set (Leaf k) n → IsTreeFault formats s nodes (WrongLeaf place n)
  leaf_fault k n stands first = IsTreeFault.leaf_reached k reach stands (reaches_of n first.member) (true_is n k first.wrong) (λ j lt r. false_is j k (first.earlier j lt (has_of j r)))

  nowhere_fault : (n : ℕ) → Stands formats s nodes place Nowhere reach → IsFirstWrong s.formats set Nowhere n → IsTreeFault formats s nodes (WrongLeaf place n)
  nowhere_fault n stands first = IsTreeFault.nowhere_reached reach stands (reaches_of n first.member) (λ j lt r. let e = first.earlier j lt (has_of j r) in absurd (cc))

  bit_fault : (o n : ℕ) → Stands formats s nodes place (Bit o) reach → IsFirstWrong s.formats set (Bit o) n → IsTreeFault formats s nodes (ShortFormat place n)
  bit_fault o n stands first =
      let r = reaches_of n first.member in
      IsTreeFault.bit_past o reach stands r (leb-true r.sizes.whole.compressed.least o (ap (is_short o) (sym r.sizes_at) ∙ first.wrong)) (λ j lt q. long_enough o j q (first.earlier j lt (has_of j q)))

  module _ (zs : List FormatSizes) (zs_is : zs ≡ s.formats) (node : Node) where
    pub node_right : ((i : ℕ) (c : ℤ) → node ≡ Parameter i c → ⊥) → ((i : ℕ) (c : ℤ) → node ≡ Reference i c → ⊥) → ((n : ℕ) → Has set n → is_wrong zs node n ≡ false) → IsRight formats s reach node
    node_right other unlike none = by node other unlike (λ n has. ap (λ ys. is_wrong ys node n) (sym zs_is) ∙ none n has)
      where
        by : (x : Node) → ((i : ℕ) (c : ℤ) → x ≡ Parameter i c → ⊥) → ((i : ℕ) (c : ℤ) → x ≡ Reference i c → ⊥) → ((n : ℕ) → Has set n → is_wrong s.formats x n ≡ false) → IsRight formats s reach x
        by (Bit o) other unlike none = bit_right o none
        by (Parameter i c) other unlike none = absurd (other i c refl)
        by (Reference i c) other unlike none = absurd (unlike i c refl)
        by (Leaf k) other unlike none = leaf_right k none
        by Nowhere other unlike none = nowhere_right none

    first_at : (x : Node) (n : ℕ) → node ≡ x → IsFirstWrong zs set node n → IsFirstWrong s.formats set x n
    first_at x n is first = subst (λ y. IsFirstWrong s.formats set y n) is (subst (λ ys. IsFirstWrong ys set node n) zs_is first)

    pub short_found : (o n : ℕ) → node ≡ Bit o → Stands formats s nodes place node reach → IsFirstWrong zs set node n → IsTreeFault formats s nodes (ShortFormat place n)
    short_found o n is stands first = bit_fault o n (at_variant formats s nodes place node (Bit o) reach is stands) (first_at (Bit o) n is first)

    pub leaf_found : (k n : ℕ) → node ≡ Leaf k → Stands formats s nodes place node reach → IsFirstWrong zs set node n → IsTreeFault formats s nodes (WrongLeaf place n)
    leaf_found k n is stands first = leaf_fault k n (at_variant formats s nodes place node (Leaf k) reach is stands) (first_at (Leaf k) n is first)

    pub nowhere_found : (n : ℕ) → node ≡ Nowhere → Stands formats s nodes place node reach → IsFirstWrong zs set node n → IsTreeFault formats s nodes (WrongLeaf place n)
    nowhere_found n is stands first = nowhere_fault n (at_variant formats s nodes place node Nowhere reach is stands) (first_at Nowhere n is first)

-- ---- the loop

-- the node at the place, with the set that is taken from the stack and those below it
pub record Taken (formats : List Format) (s : MethodSizes) (nodes : List Node) (place : ℕ) (x : Node) (rest : List (List Bool)) (set : List Bool) : Type 0 where
  pub reach : Reach
  pub more : List Reach
  pub set_is : set ≡ reaching reach formats s.formats
  pub rest_is : rest ≡ stacked formats s.formats more
  pub whole : are_trees (trees_after x (length more)) (drop (place + 1) nodes) ≡ true
  pub at : (k : ℕ) → reach_at (everything ∷ []) nodes (place + suc k) ≡ reach_at (onward reach x ++ more) (drop (place + 1) nodes) k
  pub stands : Stands formats s nodes place x reach

all_reach : (tolds : List Signature) (formats : List Format) (sizes : List FormatSizes) → AreSignatures tolds formats sizes → replicate (length tolds) true ≡ reaching everything formats sizes
all_reach [] [] sizes told = refl
all_reach [] (f ∷ formats) [] told = refl
all_reach [] (f ∷ formats) (z ∷ sizes) told = absurd (omega (arith, told.count))
all_reach (t ∷ tolds) [] sizes told = absurd (omega (arith, told.count))
all_reach (t ∷ tolds) (f ∷ formats) [] told = absurd (omega (arith, told.count))
all_reach (t ∷ tolds) (f ∷ formats) (z ∷ sizes) told =
    let rest : AreSignatures tolds formats sizes = record { count = omega (arith, told.count); each = λ n. told.each (suc n) } in
    ap (λ set. true ∷ set) (all_reach tolds formats sizes rest)

pub begun : (tolds : List Signature) (formats : List Format) (s : MethodSizes) (nodes : List Node) (sets : List (List Bool)) → AreSignatures tolds formats s.formats → are_trees 1 nodes ≡ true →
    sets ≡ replicate (length tolds) true ∷ [] → JudgedTo formats s nodes 0 sets
begun tolds formats s nodes sets told whole is = record {
  reaches = everything ∷ [];
  are = is ∙ ap (λ set. set ∷ []) (all_reach tolds formats s.formats told);
  whole = whole;
  at = λ k. ap (reach_at (everything ∷ []) nodes) (omega arith);
  before = λ k y r lt. absurd (omega (arith, lt));
}

not_pushed : {A : Type 0} (xs : List A) (y : A) → [] ≡ xs ++ y ∷ [] → ⊥
not_pushed [] y e = cc
not_pushed (x ∷ xs) y e = cc

at_node : (nodes : List Node) (place : ℕ) (x : Node) → slice_get nodes place ≡ Some x → drop place nodes ≡ x ∷ drop (place + 1) nodes
at_node nodes place x at = drop_more nodes place x (slice_get_within nodes place x at) ∙ ap (λ y. y ∷ drop (place + 1) nodes) (get_or_from_slice_get nodes place x x at)

module _ (formats : List Format) (s : MethodSizes) (nodes : List Node) where
  pub never_empty : (place : ℕ) (x : Node) (sets : List (List Bool)) → slice_get nodes place ≡ Some x → sets ≡ [] → JudgedTo formats s nodes place sets → ⊥
  never_empty place x sets at none so = by so.reaches (sym none ∙ so.are) (ap (are_trees (length so.reaches)) (sym (at_node nodes place x at)) ∙ so.whole)
    where
      by : (rs : List Reach) → [] ≡ stacked formats s.formats rs → are_trees (length rs) (x ∷ drop (place + 1) nodes) ≡ true → ⊥
      by [] e whole = cc
      by (r ∷ rs) e whole = not_pushed (stacked formats s.formats rs) (reaching r formats s.formats) e

  pub taken : (place : ℕ) (x : Node) (sets rest : List (List Bool)) (set : List Bool) → slice_get nodes place ≡ Some x → sets ≡ rest ++ set ∷ [] → JudgedTo formats s nodes place sets →
      Taken formats s nodes place x rest set
  taken place x sets rest set at is so =
      by so.reaches (sym is ∙ so.are) (ap (are_trees (length so.reaches)) (sym (at_node nodes place x at)) ∙ so.whole) (λ k. so.at k ∙ ap (λ ys. reach_at so.reaches ys k) (at_node nodes place x at))
    where
      by : (rs : List Reach) → rest ++ set ∷ [] ≡ stacked formats s.formats rs → are_trees (length rs) (x ∷ drop (place + 1) nodes) ≡ true →
          ((k : ℕ) → reach_at (everything ∷ []) nodes (place + k) ≡ reach_at rs (x ∷ drop (place + 1) nodes) k) → Taken formats s nodes place x rest set
      by [] e whole on = absurd (not_pushed rest set (sym e))
      by (r ∷ rs) e whole on =
          let parts = same_from_push rest (stacked formats s.formats rs) set (reaching r formats s.formats) e in
          record {
            reach = r;
            more = rs;
            set_is = parts.1;
            rest_is = parts.0;
            whole = whole;
            at = λ k. on (suc k);
            stands = record { node_at = at; reach_is = ap (reach_at (everything ∷ []) nodes) (omega arith) ∙ on zero; before = so.before };
          }

  counted : (r : Reach) (x : Node) (rs : List Reach) → length (onward r x ++ rs) ≡ trees_after x (length rs)
  counted r (Bit o) rs = refl
  counted r (Parameter i c) rs = refl
  counted r (Reference i c) rs = refl
  counted r (Leaf k) rs = refl
  counted r Nowhere rs = refl

  two_more : (rest : List (List Bool)) (y z : List Bool) → rest ++ (y ∷ z ∷ []) ≡ (rest ++ y ∷ []) ++ z ∷ []
  two_more rest y z = sym (append_assoc rest (y ∷ []) (z ∷ []))

  none_more : (rest : List (List Bool)) → rest ++ [] ≡ rest
  none_more [] = refl
  none_more (x ∷ rest) = ap (λ ys. x ∷ ys) (none_more rest)

  branches_are : (tolds : List Signature) (reach : Reach) (more : List Reach) (x : Node) → AreSignatures tolds formats s.formats → IsNode x →
      stacked formats s.formats more ++ branches tolds (reaching reach formats s.formats) x ≡ stacked formats s.formats (onward reach x ++ more)
  branches_are tolds reach more (Bit o) told is =
      let small : o < 2 ^ 128 = omega (arith, is) in
      (λ i. stacked formats s.formats more ++ (kept_is (Lacks o false) reach tolds formats s.formats small told i ∷ kept_is (Lacks o true) reach tolds formats s.formats small told i ∷ [])) ∙
      two_more (stacked formats s.formats more) _ _
  branches_are tolds reach more (Parameter p c) told is =
      (λ i. stacked formats s.formats more ++ (kept_is (MayDiffer p c) reach tolds formats s.formats tt told i ∷ kept_is (MayBe p c) reach tolds formats s.formats tt told i ∷ [])) ∙
      two_more (stacked formats s.formats more) _ _
  branches_are tolds reach more (Reference p c) told is =
      (λ i. stacked formats s.formats more ++ (kept_is (MayLack p c) reach tolds formats s.formats tt told i ∷ kept_is (MayHold p c) reach tolds formats s.formats tt told i ∷ [])) ∙
      two_more (stacked formats s.formats more) _ _
  branches_are tolds reach more (Leaf k) told is = none_more (stacked formats s.formats more)
  branches_are tolds reach more Nowhere told is = none_more (stacked formats s.formats more)

  pub next : (tolds : List Signature) (place : ℕ) (x : Node) (rest sets : List (List Bool)) (set : List Bool) (t : Taken formats s nodes place x rest set) → IsRight formats s t.reach x →
      AreSignatures tolds formats s.formats → IsNode x → sets ≡ rest ++ branches tolds set x → JudgedTo formats s nodes (place + 1) sets
  next tolds place x rest sets set t right told is made = record {
    reaches = onward t.reach x ++ t.more;
    are = made ∙ ((λ i. t.rest_is i ++ branches tolds (t.set_is i) x) ∙ branches_are tolds t.reach t.more x told is);
    whole = ap (λ n. are_trees n (drop (place + 1) nodes)) (counted t.reach x t.more) ∙ t.whole;
    at = λ k. ap (reach_at (everything ∷ []) nodes) (omega arith) ∙ t.at k;
    before = λ k y r lt at reach. by k y r lt at reach (nat_lt k place) refl;
  }
    where
      by : (k : ℕ) (y : Node) (r : Reach) → k < place + 1 → slice_get nodes k ≡ Some y → reach_at (everything ∷ []) nodes k ≡ Some r → (b : Bool) → nat_lt k place ≡ b → IsRight formats s r y
      by k y r lt at reach true e = t.stands.before k y r (ltb-true k place e) at reach
      by k y r lt at reach false e =
          let same : place ≡ k = omega (arith, lt, ltb-false k place e) in
          let here : slice_get nodes place ≡ Some y = ap (slice_get nodes) same ∙ at in
          let node : Some x ≡ Some y = sym t.stands.node_at ∙ here in
          let node_is : x ≡ y = cc in
          let arrives : reach_at (everything ∷ []) nodes place ≡ Some r = ap (reach_at (everything ∷ []) nodes) same ∙ reach in
          let reached : Some t.reach ≡ Some r = sym t.stands.reach_is ∙ arrives in
          let reach_is : t.reach ≡ r = cc in
          subst (λ z. IsRight formats s z y) reach_is (subst (λ z. IsRight formats s t.reach z) node_is right)

  pub all_judged : (place : ℕ) (sets : List (List Bool)) → length nodes ≤ place → are_trees 1 nodes ≡ true → JudgedTo formats s nodes place sets → PartsFormats formats s nodes
  all_judged place sets end whole so = record {
    whole = whole;
    each = λ n x reach at is. so.before n x reach (omega (arith, slice_get_within nodes n x at, end)) at is;
  }
