-- What the code knows of the formats by their numbers, and what that says of sets.
use Rattle.std.specs.Prelude.{◌≡◌, ℕ, ◌≤◌, Bool, true, false, nat_eq, nat_le, nat_lt, not, ◌&&◌, List, [], ◌∷◌, map, length, Option, Some, None, slice_get}
use Rattle.std.specs.List.{filter, flat_map, list_any, list_all, AllByRecursion}
use Rattle.std.specs.HashMap.{get}
use Rattle.sem_expr.specs.declared.interval.Interval.{Interval}
use Rattle.sem_profile.specs.declared.profile.FormatSizes.{FormatSizes}
use Rattle.sem_profile.specs.declared.profile.MethodSizes.{MethodSizes}
use Rattle.sem_profile.specs.declared.profile.Format.{Format}
use Rattle.cert_types.specs.declared.certificate.Version.{Version}
use Rattle.cert_types.specs.declared.certificate.Version.TheVariants.{One, Two}
use Rattle.cert_types.specs.declared.certificate.Node.{Node}
use Rattle.cert_types.specs.declared.certificate.Node.TheVariants.{Bit, Parameter, Reference, Leaf, Nowhere}
use Rattle.cert_types.specs.Kept.{IsNodeKept, node_limit, offset_limit}
use Rattle.cert_rules.specs.Trees.{Reach}
use Rattle.cert_trees.specs.declared.equations.Equation.{Equation}
use Rattle.cert_trees.specs.declared.signatures.Signature.{Signature}
use Rattle.cert_trees.specs.declared.signatures.Test.{Test}
use Rattle.cert_trees.specs.declared.signatures.Test.TheVariants.{Lacks, MayBe, MayDiffer, MayHold, MayLack}
use Rattle.cert_trees.specs.Signature.{AreSignatures, passes}
use Rattle.cert_prove.specs.declared.tree.Unparted.{Unparted}
use Rattle.cert_prove.specs.declared.tree.Unparted.TheVariants as unparted
use Rattle.cert_prove.specs.Tree.{Numbered, all_of, lies_in, is_word, TreeRule, NodeRule}
use Rattle.cert_prove.specs.Growing.{those, GrowsFromAll}

-- ---- by numbers

-- the formats of a set by their numbers
abbrev pub numbers : List Numbered → List ℕ
numbers set = map (λ z. z.number) set

-- the format passes the test, by what is told of it
abbrev pub told_passes : Test → Option Signature → Bool
told_passes test None = false
told_passes test (Some told) = passes test told

abbrev pub stays : List Signature → Test → ℕ → Bool
stays tolds test n = told_passes test (slice_get tolds n)

-- the test loses a format of the set
abbrev pub loses : List Signature → List ℕ → Test → Bool
loses tolds set test = list_any (λ n. not (stays tolds test n)) set

-- the least length of the packed bits
abbrev pub least : Option FormatSizes → ℕ
least None = 0
least (Some z) = z.whole.compressed.least

abbrev pub are_longer : List FormatSizes → List ℕ → ℕ → Bool
are_longer sizes set o = list_all (λ n. nat_lt o (least (slice_get sizes n))) set

-- a test of the bit at the offset parts the set
abbrev pub bit_parts : List Signature → List FormatSizes → List ℕ → ℕ → Bool
bit_parts tolds sizes set o = are_longer sizes set o && (loses tolds set (Lacks o false) && loses tolds set (Lacks o true))

-- a test of the equation does
abbrev pub equation_parts : List Signature → List Interval → List ℕ → Equation → Bool
equation_parts tolds ranges set e = e.equal && (lies_in (slice_get ranges e.tested) e.constant && loses tolds set (MayBe e.tested e.constant))

-- a test of the reference does
abbrev pub reference_parts : List Signature → List ℕ → Equation → Bool
reference_parts tolds set e = e.equal && (is_word e.constant && loses tolds set (MayHold e.tested e.constant))

abbrev pub told_references : Option Signature → List Equation
told_references None = []
told_references (Some told) = told.references

-- of several formats, in certificates of version two
abbrev pub references_by : Version → List Signature → List ℕ → List Equation
references_by One tolds set = []
references_by Two tolds set = flat_map (λ n. told_references (slice_get tolds n)) set

abbrev pub told_equations : Option Signature → List Equation
told_equations None = []
told_equations (Some told) = told.equations

-- the sets that go on to a node's subtrees
abbrev pub subsets_by : List Signature → List ℕ → Node → List (List ℕ)
subsets_by tolds set (Bit o) = filter (stays tolds (Lacks o true)) set ∷ filter (stays tolds (Lacks o false)) set ∷ []
subsets_by tolds set (Parameter p c) = filter (stays tolds (MayBe p c)) set ∷ filter (stays tolds (MayDiffer p c)) set ∷ []
subsets_by tolds set (Reference i c) = filter (stays tolds (MayHold i c)) set ∷ filter (stays tolds (MayLack i c)) set ∷ []
subsets_by tolds set (Leaf n) = []
subsets_by tolds set Nowhere = []

-- ---- offsets past the limit

abbrev pub is_far : ℕ → Bool
is_far o = nat_le offset_limit o

-- each bit that is told past the limit of offsets is at one of these
abbrev pub AreFar : List Signature → List ℕ → Type 0
AreFar tolds far = (n o : ℕ) (told : Signature) (b : Bool) → slice_get tolds n ≡ Some told → get nat_eq told.bits o ≡ Some b → offset_limit ≤ o → list_any (nat_eq o) far ≡ true

-- ---- what is found

-- what is told of each format that has bounds, and the offsets past the limit
pub record AreKnown (formats : List Format) (s : MethodSizes) (tolds : List Signature) (far : List ℕ) : Type 0 where
  pub told : AreSignatures tolds formats s.formats
  pub far_are : AreFar tolds far

-- the numbers are those of a set of formats of the method
abbrev pub AreOf : List Format → MethodSizes → Reach → List ℕ → Type 0
AreOf formats s reach set = set ≡ numbers (those reach (all_of formats s))

-- the node of the set, within the limits
pub record IsNext (version : Version) (ranges : List Interval) (set : List Numbered) (x : Node) : Type 0 where
  pub rule : NodeRule version ranges set x
  pub kept : IsNodeKept x

-- two formats are the first of a set
pub record AreFirst (set : List Numbered) (first second : ℕ) : Type 0 where
  pub format : Numbered
  pub other : Numbered
  pub rest : List Numbered
  pub is : set ≡ format ∷ other ∷ rest
  pub first_is : first ≡ format.number
  pub second_is : second ≡ other.number

-- why the set has no node within the limits
abbrev pub HasNoNode : Version → List Interval → List Numbered → Unparted → Type 0
HasNoNode version ranges set (unparted.Stuck first second) = AreFirst set first second × TreeRule version ranges set None
HasNoNode version ranges set unparted.Limit = (o : ℕ) × NodeRule version ranges set (Bit o) × (offset_limit ≤ o)
HasNoNode version ranges set unparted.OutOfMemory = ⊥

-- the nodes are those of the whole growth, no more than may be, and each within the limits
pub record IsGrown (version : Version) (formats : List Format) (s : MethodSizes) (nodes : List Node) : Type 0 where
  pub grows : GrowsFromAll version formats s nodes []
  pub few : length nodes ≤ node_limit
  pub each : AllByRecursion IsNodeKept nodes
