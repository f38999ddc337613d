-- What follows from the rule of trees.
use Rattle.std.specs.Prelude.{◌≡◌, ℕ, true, List, [], Option, Some, slice_get}
use Rattle.std.specs.List.{AllByRecursion}
use Rattle.sem_expr.specs.declared.interval.Interval.{Interval}
use Rattle.sem_profile.specs.declared.profile.Format.{Format}
use Rattle.sem_profile.specs.declared.profile.Method.{Method}
use Rattle.sem_profile.specs.declared.profile.MethodSizes.{MethodSizes}
use Rattle.sem_profile.specs.WellFormed.{AreWellFormed}
use Rattle.cert_types.specs.declared.certificate.Version.{Version}
use Rattle.cert_types.specs.declared.certificate.Node.{Node}
use Rattle.cert_types.specs.Kept.{are_trees, IsNodeIn}
use Rattle.cert_types.specs.Of.{IsNodeOf}
use Rattle.sem_profile.specs.Alike.{AreAlike}
use Rattle.cert_rules.specs.Trees.{PartsFormats}
use Rattle.cert_trees.specs.declared.fault.TreeFault.{TreeFault}
use Rattle.cert_trees.specs.Faults.{IsTreeFault}
use Rattle.cert_prove.specs.Tree.{Numbered, TreeRule}
use Rattle.cert_prove.specs.Growing.{OrderedTree, GrowsFromAll, Stuck}

-- The rule gives one test, or none.
abbrev pub RuleIsOne : Type 0
RuleIsOne = (version : Version) (ranges : List Interval) (set : List Numbered) (t u : Option Node) → TreeRule version ranges set t → TreeRule version ranges set u → t ≡ u

-- What has grown to the end is the ordered tree.
abbrev pub GrownIsOrdered : Type 0
GrownIsOrdered = (version : Version) (formats : List Format) (s : MethodSizes) (nodes : List Node) → GrowsFromAll version formats s nodes [] → OrderedTree version formats s nodes

-- An ordered tree parts the formats, so no node of it is at fault.
abbrev pub OrderedParts : Type 0
OrderedParts = (version : Version) (formats : List Format) (s : MethodSizes) (nodes : List Node) → OrderedTree version formats s nodes → PartsFormats formats s nodes

abbrev pub OrderedIsFaultless : Type 0
OrderedIsFaultless = (version : Version) (formats : List Format) (s : MethodSizes) (nodes : List Node) (fault : TreeFault) → OrderedTree version formats s nodes → IsTreeFault formats s nodes fault → ⊥

-- A stuck set stays whole in one subtree of each test that a valid tree of the version may have, so where there is one no nodes of the version part the formats,
abbrev pub StuckHasNoTree : Type 0
StuckHasNoTree = (version : Version) (formats : List Format) (s : MethodSizes) (set : List Numbered) → Stuck version formats s set → (nodes : List Node) → AllByRecursion (IsNodeIn version) nodes → PartsFormats formats s nodes → ⊥

-- and none of one tree are without a fault.
abbrev pub StuckHasFault : Type 0
StuckHasFault = (version : Version) (formats : List Format) (s : MethodSizes) (set : List Numbered) → Stuck version formats s set → (nodes : List Node) → AllByRecursion (IsNodeIn version) nodes → are_trees 1 nodes ≡ true → ((fault : TreeFault) → IsTreeFault formats s nodes fault → ⊥) → ⊥

-- Where the methods are well formed, and the formats of each have its header and control fields, the ordered tree of one of them names formats, parameters and fields that it has.
abbrev pub OrderedNames : Type 0
OrderedNames = (version : Version) (methods : List Method) (k : ℕ) (m : Method) (s : MethodSizes) (nodes : List Node) → AreWellFormed methods → AreAlike methods → slice_get methods k ≡ Some m → OrderedTree version m.formats s nodes → AllByRecursion (IsNodeOf m) nodes

-- An ordered tree of a version has nodes that the version has.
abbrev pub OrderedIsVersed : Type 0
OrderedIsVersed = (version : Version) (formats : List Format) (s : MethodSizes) (nodes : List Node) → OrderedTree version formats s nodes → AllByRecursion (IsNodeIn version) nodes
