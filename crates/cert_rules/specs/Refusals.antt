-- Why a certificate is not valid, fault by fault (docs/DEFINITIONS.md, Certificates).
use Rattle.std.specs.Prelude.{◌≡◌, ◌≢◌, ℕ, ◌<◌, ◌≤◌, true, false, List, [], ◌∷◌, ◌++◌, length, slice_get, Some, None, ℤ}
use Rattle.sem_expr.specs.declared.interval.Interval.{Interval}
use Rattle.sem_expr.specs.Rules.{IsIn}
use Rattle.sem_profile.specs.declared.profile.Format.{Format}
use Rattle.sem_profile.specs.declared.profile.Method.{Method}
use Rattle.sem_profile.specs.declared.profile.FormatSizes.{FormatSizes}
use Rattle.sem_profile.specs.declared.profile.MethodSizes.{MethodSizes}
use Rattle.cert_types.specs.declared.certificate.Direction.{Direction}
use Rattle.cert_types.specs.declared.certificate.Direction.TheVariants.{Read, Write}
use Rattle.cert_types.specs.declared.certificate.Step.{Step}
use Rattle.cert_types.specs.declared.certificate.Node.{Node}
use Rattle.cert_types.specs.declared.certificate.Node.TheVariants as node
use Rattle.cert_types.specs.declared.certificate.Plans.{Plans}
use Rattle.cert_types.specs.declared.certificate.MethodPlans.{MethodPlans}
use Rattle.cert_types.specs.Kept.{Certified, Entries, candidate_limit, packed_limit}
use Rattle.cert_rules.specs.declared.fault.CheckFault.{CheckFault}
use Rattle.cert_rules.specs.declared.fault.CheckFault.TheVariants.{NoMethod, NoFormat, NotEnabled, NeverLearnt, WrongLeaf, ShortFormat, OutOfRange, BeyondWord, TooMany, TooLong}
use Rattle.cert_rules.specs.Plans.{Goal, way_of, enabled, known_after, all_enabled}
use Rattle.cert_rules.specs.Facts.{has_all}
use Rattle.cert_rules.specs.Trees.{Reach, reach_at, Reaches, IsRight, IsShort, everything}
use Rattle.cert_rules.specs.Counts.{entry_at, AreCounts}
use Rattle.sem_profile.specs.Methods.{IsOrder}
use Rattle.sem_profile.specs.Outcome.{AreSizes}
use Rattle.cert_rules.specs.Valid.{plans_at, Valid}

-- the plan of a direction
abbrev pub steps_of : Direction → Plans → List Step
steps_of Read p = p.read
steps_of Write p = p.write

-- the method k has formats, and an entry
pub record At (methods : List Method) (table : List MethodSizes) (cert : Entries) (k : ℕ) (m : Method) (s : MethodSizes) (entry : MethodPlans) : Type 0 where
  pub method_at : slice_get methods k ≡ Some m
  pub sizes_at : slice_get table k ≡ Some s
  pub first : Format
  pub has_format : slice_get m.formats 0 ≡ Some first
  pub entry_is : entry_at cert k ≡ Some entry

-- the nodes before the place are right, each by what reaches it
abbrev pub RightBefore : List Format → MethodSizes → List Node → ℕ → Type 0
RightBefore formats s nodes place = (k : ℕ) (y : Node) (r : Reach) → k < place → slice_get nodes k ≡ Some y → reach_at (everything ∷ []) nodes k ≡ Some r → IsRight formats s r y

-- Each fault, with what shows it: of the sides that a plan never learns it is the first in field order; of a tree's nodes the first that is wrong, and of the formats for which it is the first.
pub data IsRefused (methods : List Method) (table : List MethodSizes) (top : ℕ) (cert : Certified) : CheckFault → Type 0 where
  lacks_method : {k : ℕ} (m : Method) (first : Format) → slice_get methods k ≡ Some m → slice_get m.formats 0 ≡ Some first → entry_at cert.methods k ≡ None → IsRefused methods table top cert (NoMethod k)
  lacks_format : {k n : ℕ} {m : Method} {s : MethodSizes} {entry : MethodPlans} (format : Format) → At methods table cert.methods k m s entry → slice_get m.formats n ≡ Some format → plans_at entry n ≡ None →
      IsRefused methods table top cert (NoFormat k n)
  step_refused : {k n : ℕ} {m : Method} {s : MethodSizes} {entry : MethodPlans} (format : Format) (sizes : FormatSizes) (plans : Plans) (direction : Direction) (before after : List Step) (step : Step) → At methods table cert.methods k m s entry →
      slice_get m.formats n ≡ Some format → slice_get s.formats n ≡ Some sizes → plans_at entry n ≡ Some plans → steps_of direction plans ≡ before ++ step ∷ after →
      all_enabled (way_of cert.version direction table sizes format).rule (way_of cert.version direction table sizes format).start before ≡ true →
      enabled (known_after (way_of cert.version direction table sizes format).rule (way_of cert.version direction table sizes format).start before) ((way_of cert.version direction table sizes format).rule step) ≡ false →
      IsRefused methods table top cert (NotEnabled k n direction (length before))
  side_unknown : {k n : ℕ} {m : Method} {s : MethodSizes} {entry : MethodPlans} (format : Format) (sizes : FormatSizes) (plans : Plans) (direction : Direction) (place : ℕ) (goal : Goal) → At methods table cert.methods k m s entry →
      slice_get m.formats n ≡ Some format → slice_get s.formats n ≡ Some sizes → plans_at entry n ≡ Some plans → all_enabled (way_of cert.version direction table sizes format).rule (way_of cert.version direction table sizes format).start (steps_of direction plans) ≡ true →
      slice_get (way_of cert.version direction table sizes format).goals place ≡ Some goal → has_all (known_after (way_of cert.version direction table sizes format).rule (way_of cert.version direction table sizes format).start (steps_of direction plans)) goal.facts ≡ false →
      ((j : ℕ) (g : Goal) → j < place → slice_get (way_of cert.version direction table sizes format).goals j ≡ Some g → has_all (known_after (way_of cert.version direction table sizes format).rule (way_of cert.version direction table sizes format).start (steps_of direction plans)) g.facts ≡ true) →
      IsRefused methods table top cert (NeverLearnt k n direction goal.field goal.side)
  leaf_reached : {k place n : ℕ} {m : Method} {s : MethodSizes} {entry : MethodPlans} (j : ℕ) (reach : Reach) → At methods table cert.methods k m s entry → slice_get entry.tree place ≡ Some (node.Leaf j) →
      reach_at (everything ∷ []) entry.tree place ≡ Some reach → Reaches m.formats s reach n → n ≢ j → RightBefore m.formats s entry.tree place →
      ((q : ℕ) → q < n → Reaches m.formats s reach q → q ≡ j) → IsRefused methods table top cert (WrongLeaf k place n)
  nowhere_reached : {k place n : ℕ} {m : Method} {s : MethodSizes} {entry : MethodPlans} (reach : Reach) → At methods table cert.methods k m s entry → slice_get entry.tree place ≡ Some node.Nowhere →
      reach_at (everything ∷ []) entry.tree place ≡ Some reach → Reaches m.formats s reach n → RightBefore m.formats s entry.tree place →
      ((q : ℕ) → q < n → Reaches m.formats s reach q → ⊥) → IsRefused methods table top cert (WrongLeaf k place n)
  bit_past : {k place n : ℕ} {m : Method} {s : MethodSizes} {entry : MethodPlans} (o : ℕ) (reach : Reach) → At methods table cert.methods k m s entry → slice_get entry.tree place ≡ Some (node.Bit o) →
      reach_at (everything ∷ []) entry.tree place ≡ Some reach → (r : Reaches m.formats s reach n) → r.sizes.whole.compressed.least ≤ o → RightBefore m.formats s entry.tree place →
      ((q : ℕ) → q < n → (w : Reaches m.formats s reach q) → o < w.sizes.whole.compressed.least) → IsRefused methods table top cert (ShortFormat k place n)
  constant_outside : {k place : ℕ} {m : Method} {s : MethodSizes} {entry : MethodPlans} (i : ℕ) (c : ℤ) (r : Interval) → At methods table cert.methods k m s entry → slice_get entry.tree place ≡ Some (node.Parameter i c) → (reach : Reach) → reach_at (everything ∷ []) entry.tree place ≡ Some reach →
      slice_get s.parameters i ≡ Some r → (IsIn r c → ⊥) → RightBefore m.formats s entry.tree place → IsRefused methods table top cert (OutOfRange k place)
  reference_beyond : {k place : ℕ} {m : Method} {s : MethodSizes} {entry : MethodPlans} (i : ℕ) (c : ℤ) → At methods table cert.methods k m s entry → slice_get entry.tree place ≡ Some (node.Reference i c) → (reach : Reach) → reach_at (everything ∷ []) entry.tree place ≡ Some reach →
      (IsShort c → ⊥) → RightBefore m.formats s entry.tree place → IsRefused methods table top cert (BeyondWord k place)
  counts_above : (counts : List ℕ) (n : ℕ) → AreCounts methods cert.methods counts → slice_get counts top ≡ Some n → candidate_limit < n → IsRefused methods table top cert TooMany
  bits_above : (s : MethodSizes) → slice_get table top ≡ Some s → packed_limit < s.whole.compressed.most → IsRefused methods table top cert TooLong

-- A fault is there only where the certificate is not valid, where the methods stand in an order, callees first.
abbrev pub FaultsExclude : Type 0
FaultsExclude = (methods : List Method) (table : List MethodSizes) (top : ℕ) (cert : Certified) (order : List ℕ) → IsOrder methods order → AreSizes methods table → Valid methods table top cert →
    (r : CheckFault) → IsRefused methods table top cert r → ⊥
