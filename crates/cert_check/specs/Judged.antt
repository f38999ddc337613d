-- What the parts of a certificate's check answer: that a part is right, or the first fault of every certificate that has it, after parts that are right.
use Rattle.std.specs.Prelude.{◌≡◌, ℕ, ◌≤◌, Bool, true, false, List, Option, Some, None, slice_get, option_map, nat_lt}
use Rattle.sem_profile.specs.declared.profile.Format.{Format}
use Rattle.sem_profile.specs.declared.profile.Method.{Method}
use Rattle.sem_profile.specs.declared.profile.FormatSizes.{FormatSizes}
use Rattle.sem_profile.specs.declared.profile.MethodSizes.{MethodSizes}
use Rattle.cert_types.specs.declared.certificate.Version.{Version}
use Rattle.cert_types.specs.declared.certificate.Plans.{Plans}
use Rattle.cert_types.specs.declared.certificate.MethodPlans.{MethodPlans}
use Rattle.cert_types.specs.Kept.{Certified, Entries, candidate_limit, packed_limit}
use Rattle.cert_rules.specs.declared.fault.CheckFault.{CheckFault}
use Rattle.cert_rules.specs.declared.fault.CheckFault.TheVariants as check
use Rattle.cert_rules.specs.Trees.{PartsFormats}
use Rattle.cert_rules.specs.Refusals.{At}
use Rattle.cert_rules.specs.Valid.{plans_at, Valid}
use Rattle.cert_rules.specs.Capped.{AreCapped}
use Rattle.cert_trees.specs.declared.fault.TreeFault.{TreeFault}
use Rattle.cert_trees.specs.declared.fault.TreeFault.TheVariants as tree
use Rattle.cert_check.specs.Blaming.{AreRightBefore, FormatsRightBefore, IsFirstFault}
use Rattle.cert_check.specs.Right.{AreEntriesRight}
use Rattle.cert_check.specs.declared.validity.Verdict.{Verdict}
use Rattle.cert_check.specs.declared.validity.Verdict.TheVariants as verdict

-- ---- what is at fault

-- the fault is the first of the certificate, whatever the top is
abbrev pub RefusesIn : List Method → List MethodSizes → Certified → CheckFault → Type 0
RefusesIn methods table cert fault = (top : ℕ) → IsFirstFault methods table top cert fault

-- of each certificate of the version that has this entry for the method k, after methods that are right
abbrev pub RefusesEntry : Version → List MethodSizes → ℕ → Method → MethodSizes → MethodPlans → CheckFault → Type 0
RefusesEntry version table k m s entry fault =
    (methods : List Method) (cert : Entries) → At methods table cert k m s entry → AreRightBefore methods table (record { version = version; methods = cert }) k → RefusesIn methods table (record { version = version; methods = cert }) fault

-- of a method with these formats and bounds, whose tree is right
abbrev pub RefusesFormats : Version → List MethodSizes → ℕ → List FormatSizes → List Format → MethodPlans → CheckFault → Type 0
RefusesFormats version table k bounds formats entry fault = (m : Method) (s : MethodSizes) → m.formats ≡ formats → s.formats ≡ bounds → PartsFormats m.formats s entry.tree → RefusesEntry version table k m s entry fault

-- of such a method whose format n is this one, after formats that are right
abbrev pub RefusesFormat : Version → List MethodSizes → ℕ → ℕ → List FormatSizes → Format → MethodPlans → CheckFault → Type 0
RefusesFormat version table k n bounds format entry fault =
    (m : Method) (s : MethodSizes) → slice_get m.formats n ≡ Some format → s.formats ≡ bounds → PartsFormats m.formats s entry.tree → FormatsRightBefore version table m s entry n → RefusesEntry version table k m s entry fault

-- where that format has these bounds and plans
abbrev pub RefusesPlans : Version → List MethodSizes → ℕ → ℕ → FormatSizes → Format → Plans → CheckFault → Type 0
RefusesPlans version table k n sizes format plans fault =
    (entry : MethodPlans) → plans_at entry n ≡ Some plans → (m : Method) (s : MethodSizes) → slice_get m.formats n ≡ Some format → slice_get s.formats n ≡ Some sizes →
    PartsFormats m.formats s entry.tree → FormatsRightBefore version table m s entry n → RefusesEntry version table k m s entry fault

-- the fault of a method's tree, as one of the certificate
abbrev pub of_tree : ℕ → TreeFault → CheckFault
of_tree k (tree.WrongLeaf node format) = check.WrongLeaf k node format
of_tree k (tree.ShortFormat node format) = check.ShortFormat k node format
of_tree k (tree.OutOfRange node) = check.OutOfRange k node
of_tree k (tree.BeyondWord node) = check.BeyondWord k node

-- ---- the top

-- the number at the place is above the limit
abbrev pub is_above : ℕ → Option ℕ → Bool
is_above limit None = false
is_above limit (Some n) = nat_lt limit n

abbrev pub is_many : List ℕ → ℕ → Bool
is_many counts top = is_above candidate_limit (slice_get counts top)

abbrev pub is_long : List MethodSizes → ℕ → Bool
is_long table top = is_above packed_limit (option_map (λ (s : MethodSizes). s.whole.compressed.most) (slice_get table top))

-- the first fault of a top with more candidates, or with more packed bits
abbrev pub top_fault : Bool → Bool → Option CheckFault
top_fault true long = Some check.TooMany
top_fault false true = Some check.TooLong
top_fault false false = None

-- the top has no more candidates and packed bits than it may
pub record IsTopRight (methods : List Method) (table : List MethodSizes) (top : ℕ) (cert : Entries) (told : List ℕ) : Type 0 where
  pub counted : AreCapped methods cert told
  pub few : (n : ℕ) → slice_get counted.counts top ≡ Some n → n ≤ candidate_limit
  pub short : (s : MethodSizes) → slice_get table top ≡ Some s → s.whole.compressed.most ≤ packed_limit

-- ---- verdicts

-- what is said of the top, or of the whole certificate where its entries are right
abbrev pub IsTopVerdict : List Method → List MethodSizes → ℕ → Certified → Verdict → Type 0
IsTopVerdict methods table top cert (verdict.Right counts) = IsTopRight methods table top cert.methods counts
IsTopVerdict methods table top cert (verdict.Wrong fault) = AreEntriesRight methods table cert → IsFirstFault methods table top cert fault

abbrev pub IsVerdict : List Method → List MethodSizes → ℕ → Certified → Verdict → Type 0
IsVerdict methods table top cert (verdict.Right counts) = Valid methods table top cert × AreCapped methods cert.methods counts
IsVerdict methods table top cert (verdict.Wrong fault) = IsFirstFault methods table top cert fault
