-- Nodes of one tree that are without a fault part the formats.
use Rattle.std.proofs.Common.{◌≡◌, ◌∙◌, refl, sym, ap, subst, ℕ, zero, suc, ◌<◌, Bool, true, false, nat_lt, List, [], ◌∷◌, arith}
use Rattle.std.specs.Prelude.{◌&&◌, Some, slice_get}
use Rattle.std.proofs.lemmas.Bool.{ltb-true, ltb-false, and_parts, and_from}
use Rattle.sem_expr.specs.declared.interval.Interval.{Interval}
use Rattle.sem_expr.specs.Rules.{IsIn}
use Rattle.sem_profile.specs.declared.profile.Format.{Format}
use Rattle.sem_profile.specs.declared.profile.MethodSizes.{MethodSizes}
use Rattle.cert_types.specs.declared.certificate.Node.{Node}
use Rattle.cert_types.specs.declared.certificate.Node.TheVariants.{Bit, Parameter, Reference, Leaf, Nowhere}
use Rattle.cert_types.specs.Kept.{are_trees}
use Rattle.cert_rules.specs.Trees.{Reach, reach_at, everything, IsRight, IsShort, PartsFormats}
use Rattle.cert_trees.specs.declared.fault.TreeFault.{TreeFault}
use Rattle.cert_trees.specs.declared.fault.TreeFault.TheVariants.{WrongLeaf, ShortFormat, OutOfRange, BeyondWord}
use Rattle.cert_rules.specs.Refusals.{RightBefore}
use Rattle.cert_trees.specs.Faults.{Stands, IsTreeFault, constant_outside, reference_beyond}
use Rattle.cert_trees.specs.Judged.{is_wrong, Has, IsFirstWrong, reaching}
use Rattle.cert_trees.proofs.JudgedStacks.{node_right, short_found, leaf_found, nowhere_found}
use Rattle.cert_prove.specs.Tree.{lies_in, is_word}
use Rattle.cert_prove.specs.TreeLaws.{StuckHasFault}
use Rattle.cert_prove.proofs.RuleElements.{least_passing}
use Rattle.cert_prove.proofs.TreeTesting.{lies_to, lies_of, word_to, word_of}
use Rattle.cert_prove.proofs.TreeWhole.{stuck_has_no_tree}

-- the mark of a format
mark : List Bool → ℕ → Bool
mark [] n = false
mark (b ∷ bs) zero = b
mark (b ∷ bs) (suc n) = mark bs n

marked : (set : List Bool) (n : ℕ) → mark set n ≡ true → Has set n
unfolding mark
marked [] n h = absurd (cc)
marked (b ∷ bs) zero h = ap Some h
marked (b ∷ bs) (suc n) h = marked bs n h

has_mark : (set : List Bool) (n : ℕ) → Has set n → mark set n ≡ true
unfolding mark
has_mark [] n h = absurd (cc)
has_mark (b ∷ bs) zero h = cc
has_mark (b ∷ bs) (suc n) h = has_mark bs n h

module _ (formats : List Format) (s : MethodSizes) (nodes : List Node) (none : (fault : TreeFault) → IsTreeFault formats s nodes fault → ⊥) where
  -- where no format is the first wrong one, none is
  all_fine : (set : List Bool) (x : Node) → ((n : ℕ) → IsFirstWrong s.formats set x n → ⊥) → (n : ℕ) → Has set n → is_wrong s.formats x n ≡ false
  all_fine set x no_first n has = by (is_wrong s.formats x n) refl
    where
      earlier : (k : ℕ) → (mark set k && is_wrong s.formats x k) ≡ false → Has set k → is_wrong s.formats x k ≡ false
      earlier k e h = ap (λ b. b && is_wrong s.formats x k) (sym (has_mark set k h)) ∙ e

      by : (b : Bool) → is_wrong s.formats x n ≡ b → is_wrong s.formats x n ≡ false
      by false e = e
      by true e =
          let first = least_passing (λ k. mark set k && is_wrong s.formats x k) n (and_from (mark set n) (is_wrong s.formats x n) (has_mark set n has) e) in
          let both = and_parts (mark set first.at) (is_wrong s.formats x first.at) first.passes in
          absurd (no_first first.at record { member = marked set first.at both.0; wrong = both.1; earlier = λ k lt h. earlier k (first.before k lt) h })

  right_at : (place : ℕ) (x : Node) (reach : Reach) → Stands formats s nodes place x reach → IsRight formats s reach x
  right_at place (Parameter p c) reach st = λ range at. by (lies_in (slice_get s.parameters p) c) refl range at
    where
      by : (b : Bool) → lies_in (slice_get s.parameters p) c ≡ b → (range : Interval) → slice_get s.parameters p ≡ Some range → IsIn range c
      by true e range at = lies_to (slice_get s.parameters p) c e range at
      by false e range at =
          let outside : IsIn range c → ⊥ = λ is.
          let lies = lies_of (slice_get s.parameters p) c (λ r e. let same : range ≡ r = let u : Some range ≡ Some r = sym at ∙ e in cc in subst (λ q. IsIn q c) same is) in
          let wrong : true ≡ false = sym lies ∙ e in cc in
          absurd (none (OutOfRange place) (constant_outside p c range reach st at outside))
  right_at place (Reference i c) reach st = by (is_word c) refl
    where
      by : (b : Bool) → is_word c ≡ b → IsShort c
      by true e = word_to c e
      by false e = absurd (none (BeyondWord place) (reference_beyond i c reach st (λ short. let wrong : true ≡ false = sym (word_of c short) ∙ e in absurd (cc))))
  right_at place (Bit o) reach st =
      let set = reaching reach formats s.formats in
      node_right formats s nodes place set reach refl s.formats refl (Bit o) (λ p c e. absurd (cc)) (λ i c e. absurd (cc))
      (all_fine set (Bit o) (λ n first. none (ShortFormat place n) (short_found formats s nodes place set reach refl s.formats refl (Bit o) o n refl st first)))
  right_at place (Leaf j) reach st =
      let set = reaching reach formats s.formats in
      node_right formats s nodes place set reach refl s.formats refl (Leaf j) (λ p c e. absurd (cc)) (λ i c e. absurd (cc))
      (all_fine set (Leaf j) (λ n first. none (WrongLeaf place n) (leaf_found formats s nodes place set reach refl s.formats refl (Leaf j) j n refl st first)))
  right_at place Nowhere reach st =
      let set = reaching reach formats s.formats in
      node_right formats s nodes place set reach refl s.formats refl Nowhere (λ p c e. absurd (cc)) (λ i c e. absurd (cc))
      (all_fine set Nowhere (λ n first. none (WrongLeaf place n) (nowhere_found formats s nodes place set reach refl s.formats refl Nowhere n refl st first)))

  right_before : (place : ℕ) → RightBefore formats s nodes place
  right_before zero = λ k y r lt. absurd (omega (arith, lt))
  right_before (suc place) = λ k y r lt at is. by k y r lt at is (nat_lt k place) refl (right_before place)
    where
      by : (k : ℕ) (y : Node) (r : Reach) → k < suc place → slice_get nodes k ≡ Some y → reach_at (everything ∷ []) nodes k ≡ Some r → (b : Bool) → nat_lt k place ≡ b → RightBefore formats s nodes place → IsRight formats s r y
      by k y r lt at is true e before = before k y r (ltb-true k place e) at is
      by k y r lt at is false e before =
          let past = ltb-false k place e in
          let same : k ≡ place = omega (arith, lt, past) in
          right_at k y r record { node_at = at; reach_is = is; before = subst (RightBefore formats s nodes) (sym same) before }

  faultless_parts : are_trees 1 nodes ≡ true → PartsFormats formats s nodes
  faultless_parts whole = record { whole = whole; each = λ n x reach at is. right_before (suc n) n x reach (omega arith) at is }

pub stuck_has_fault : StuckHasFault
stuck_has_fault version formats s set st nodes versed whole none = stuck_has_no_tree version formats s set st nodes versed (faultless_parts formats s nodes none whole)
