-- What is due after lines: which lines of a certificate of the methods may come next, as those that stand show it (docs/DEFINITIONS.md, Certificates).
use Rattle.std.specs.Prelude.{◌≡◌, ℕ, ◌<◌, ◌≤◌, true, List, [], ◌∷◌, ◌++◌, map, length, take, Option, Some, None, slice_get, codes, flat_map}
use Rattle.std.specs.List.{AllByRecursion, AllZip}
use Rattle.sem_profile.specs.declared.profile.Format.{Format}
use Rattle.sem_profile.specs.declared.profile.Method.{Method}
use Rattle.cert_types.specs.declared.certificate.Version.{Version}
use Rattle.cert_types.specs.declared.certificate.Version.TheVariants.{One}
use Rattle.cert_types.specs.declared.certificate.Step.{Step}
use Rattle.cert_types.specs.declared.certificate.Node.{Node}
use Rattle.cert_types.specs.declared.certificate.FormatPlans.{FormatPlans}
use Rattle.cert_types.specs.declared.certificate.MethodPlans.{MethodPlans}
use Rattle.cert_types.specs.Kept.{Entries, IsNodeKept, IsNodeIn, IsPlanKept, AreFormatsKept, AreKept, are_trees, depths, node_limit, depth_limit}
use Rattle.cert_types.specs.Of.{field_names, of_format, of_method, IsNodeOf, IsStepOf, IsFormatOf, IsOf}
use Rattle.cert_text.specs.Text.{name_of, version_word, node_line, step_line, format_lines, method_lines}

-- ---- what is due

-- the list that is begun, to which a line more may be added: none, the nodes of a tree, the steps of a plan
pub data Begun : Type 0 where
  no_list : Begun
  a_tree : List Node → Begun
  a_plan : List Step → Begun

-- the version, the method and the format whose lines are being read, where there is one, and what is begun of it
pub record Due : Type 0 where
  pub version : Version
  pub method : Option Method
  pub format : Option Format
  pub begun : Begun

-- ---- the lines that stand

-- the first line, and those of what is said of the first methods
abbrev pub front : Version → Entries → List (List ℕ)
front v es = (codes "rohcfn-certificate " ++ version_word v) ∷ flat_map method_lines es

-- a method by its names
abbrev pub shown : Method → MethodPlans
shown m = of_method m [] (map (λ f. of_format f None) m.formats)

-- then a method with so many nodes
abbrev pub tree_lines : Version → Entries → Method → List Node → List (List ℕ)
tree_lines v es m tree = front v es ++ ((codes "method " ++ m.name) ∷ map (node_line (shown m)) tree)

-- then what is said of its first formats
abbrev pub formats_lines : Version → Entries → Method → List Node → List FormatPlans → List (List ℕ)
formats_lines v es m tree fs = tree_lines v es m tree ++ flat_map format_lines fs

-- a format's name, and steps on its fields
abbrev pub format_head : Format → List ℕ
format_head f = codes "format " ++ name_of f.name

abbrev pub step_lines : Format → List Step → List (List ℕ)
step_lines f steps = map (step_line (field_names f)) steps

-- ---- what is said by them

-- this is said of the first methods, and the method comes after them
pub record Opens (v : Version) (methods : List Method) (es : Entries) (m : Method) : Type 0 where
  pub of : IsOf (take (length es) methods) es
  pub kept : AreKept (record { version = v; methods = es })
  pub there : slice_get methods (length es) ≡ Some m
  pub used : 0 < length m.formats

-- nodes that begin a tree of the method, within the limits
pub record BeginTree (v : Version) (m : Method) (tree : List Node) : Type 0 where
  pub of : AllByRecursion (IsNodeOf m) tree
  pub kept : AllByRecursion IsNodeKept tree
  pub versed : AllByRecursion (IsNodeIn v) tree
  pub few : length tree ≤ node_limit
  pub shallow : AllByRecursion (λ d. d ≤ depth_limit) (depths (1 ∷ []) tree)

-- other nodes, one at least, make them a tree
pub record Unfinished (tree : List Node) : Type 0 where
  pub next : Node
  pub more : List Node
  pub whole : are_trees 1 (tree ++ next ∷ more) ≡ true

-- the tree is whole, this is said of the first formats, and the format comes after them
pub record OpensFormat (v : Version) (methods : List Method) (es : Entries) (m : Method) (tree : List Node) (fs : List FormatPlans) (f : Format) : Type 0 where
  pub method : Opens v methods es m
  pub tree_begun : BeginTree v m tree
  pub whole : are_trees 1 tree ≡ true
  pub of : AllZip IsFormatOf (take (length fs) m.formats) fs
  pub kept : AreFormatsKept fs
  pub there : slice_get m.formats (length fs) ≡ Some f

-- steps of the format, within the limits
pub record BeginPlan (f : Format) (steps : List Step) : Type 0 where
  pub of : AllByRecursion (IsStepOf f) steps
  pub kept : IsPlanKept steps

-- What is due after the lines, by what the last of them belongs to.
pub data IsDue (methods : List Method) : List (List ℕ) → Due → Type 0 where
  -- none is there; the next one is looked at as one of the first version
  before_first : IsDue methods [] (record { version = One; method = None; format = None; begun = no_list })
  -- the first one
  after_first : (v : Version) → IsDue methods (front v []) (record { version = v; method = None; format = None; begun = no_list })
  -- the heading of a method, or a node of its tree, which isn't whole
  in_tree : {v : Version} {es : Entries} {m : Method} {tree : List Node} → Opens v methods es m → BeginTree v m tree → Unfinished tree →
      IsDue methods (tree_lines v es m tree) (record { version = v; method = Some m; format = None; begun = a_tree tree })
  -- the last node of a tree
  after_tree : {v : Version} {es : Entries} {m : Method} {tree : List Node} → Opens v methods es m → BeginTree v m tree → are_trees 1 tree ≡ true →
      IsDue methods (tree_lines v es m tree) (record { version = v; method = Some m; format = None; begun = no_list })
  -- the heading of a format
  at_format : {v : Version} {es : Entries} {m : Method} {tree : List Node} {fs : List FormatPlans} {f : Format} → OpensFormat v methods es m tree fs f →
      IsDue methods (formats_lines v es m tree fs ++ format_head f ∷ []) (record { version = v; method = Some m; format = Some f; begun = no_list })
  -- `read`, or a step below it
  in_read : {v : Version} {es : Entries} {m : Method} {tree : List Node} {fs : List FormatPlans} {f : Format} (read : List Step) → OpensFormat v methods es m tree fs f → BeginPlan f read →
      IsDue methods (formats_lines v es m tree fs ++ (format_head f ∷ codes "read" ∷ step_lines f read)) (record { version = v; method = Some m; format = Some f; begun = a_plan read })
  -- `write`, or a step below it
  in_write : {v : Version} {es : Entries} {m : Method} {tree : List Node} {fs : List FormatPlans} {f : Format} (read write : List Step) → OpensFormat v methods es m tree fs f → BeginPlan f read → BeginPlan f write →
      IsDue methods (formats_lines v es m tree fs ++ (format_head f ∷ codes "read" ∷ (step_lines f read ++ (codes "write" ∷ step_lines f write)))) (record { version = v; method = Some m; format = Some f; begun = a_plan write })
  -- `end`
  after_last : {v : Version} {es : Entries} → IsOf methods es → AreKept (record { version = v; methods = es }) →
      IsDue methods (front v es ++ codes "end" ∷ []) (record { version = v; method = None; format = None; begun = no_list })
