-- What a format tells of its packed bits, of parameters and of references, and which formats pass a test.
use Rattle.std.specs.Prelude.{◌≡◌, ℕ, ◌^◌, ◌<◌, Bool, true, false, nat_eq, not, ◌&&◌, List, [], ◌∷◌, length, min, slice_get, Some}
use Rattle.std.specs.List.{list_any, filter_map}
use Rattle.std.specs.HashMap.{get}
use Rattle.sem_profile.specs.declared.profile.FormatSizes.{FormatSizes}
use Rattle.sem_profile.specs.declared.profile.Format.{Format}
use Rattle.cert_types.specs.declared.certificate.Node.{Node}
use Rattle.cert_types.specs.declared.certificate.Node.TheVariants.{Bit, Parameter, Reference, Leaf, Nowhere}
use Rattle.cert_rules.specs.Trees.{known_bit, is_bit, lacks_bit, never_at, only_at, never_refers, only_refers, Reach}
use Rattle.cert_trees.specs.declared.signatures.Signature.{Signature}
use Rattle.cert_trees.specs.declared.signatures.Test.{Test}
use Rattle.cert_trees.specs.declared.signatures.Test.TheVariants.{Lacks, MayBe, MayDiffer, MayHold, MayLack}
use Rattle.cert_trees.specs.Equations.{equation_of, reference_of, excludes, fixes}

-- what is told of the format: its known bits, and its equations
pub record IsSignature (told : Signature) (format : Format) (sizes : FormatSizes) : Type 0 where
  pub bits : (o : ℕ) → o < 2 ^ 128 → get nat_eq told.bits o ≡ known_bit format.fields sizes.fields format.listing o
  pub equations : told.equations ≡ filter_map equation_of format.constraints
  pub references : told.references ≡ filter_map (reference_of format.fields) format.constraints

-- of each format that has bounds
pub record AreSignatures (tolds : List Signature) (formats : List Format) (sizes : List FormatSizes) : Type 0 where
  pub count : length tolds ≡ min (length formats) (length sizes)
  pub each : (n : ℕ) (told : Signature) (format : Format) (z : FormatSizes) → slice_get tolds n ≡ Some told → slice_get formats n ≡ Some format → slice_get sizes n ≡ Some z → IsSignature told format z

-- the offset is one that the code can name
abbrev pub IsTest : Test → Type 0
IsTest (Lacks o b) = o < 2 ^ 128
IsTest (MayBe p c) = Unit {0}
IsTest (MayDiffer p c) = Unit {0}
IsTest (MayHold i c) = Unit {0}
IsTest (MayLack i c) = Unit {0}

abbrev pub IsNode : Node → Type 0
IsNode (Bit o) = o < 2 ^ 64
IsNode (Parameter i c) = Unit {0}
IsNode (Reference i c) = Unit {0}
IsNode (Leaf k) = Unit {0}
IsNode Nowhere = Unit {0}

-- which formats go on at a test
abbrev pub survives : Test → Reach
survives (Lacks o b) format sizes = lacks_bit b o format sizes
survives (MayBe p c) format sizes = not (never_at p c format)
survives (MayDiffer p c) format sizes = not (only_at p c format)
survives (MayHold i c) format sizes = not (never_refers i c format)
survives (MayLack i c) format sizes = not (only_refers i c format)

-- the same by what is told
abbrev pub passes : Test → Signature → Bool
passes (Lacks o b) told = not (is_bit b (get nat_eq told.bits o))
passes (MayBe p c) told = not (list_any (excludes p c) told.equations)
passes (MayDiffer p c) told = not (list_any (fixes p c) told.equations)
passes (MayHold i c) told = not (list_any (excludes i c) told.references)
passes (MayLack i c) told = not (list_any (fixes i c) told.references)

-- of a set of formats, a mark for each, those that pass
abbrev pub kept : Test → List Signature → List Bool → List Bool
kept test [] set = []
kept test (told ∷ tolds) [] = []
kept test (told ∷ tolds) (mark ∷ set) = (mark && passes test told) ∷ kept test tolds set

-- the sets of a node's subtrees, the last one first
abbrev pub branches : List Signature → List Bool → Node → List (List Bool)
branches tolds set (Bit o) = kept (Lacks o false) tolds set ∷ kept (Lacks o true) tolds set ∷ []
branches tolds set (Parameter p c) = kept (MayDiffer p c) tolds set ∷ kept (MayBe p c) tolds set ∷ []
branches tolds set (Reference i c) = kept (MayLack i c) tolds set ∷ kept (MayHold i c) tolds set ∷ []
branches tolds set (Leaf k) = []
branches tolds set Nowhere = []
