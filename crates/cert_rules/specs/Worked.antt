-- Certificates of version two, worked by hand: of a method whose formats a reference parts, and of one whose value an equation of a remainder gives.
use Rattle.std.specs.Prelude.{◌≡◌, ℕ, false, [], ◌∷◌, List, None, Some, ℤ, pos, negsuc, codes, Box}
use Rattle.std.specs.Global.{Global}
use Rattle.text_source.specs.declared.span.Span.{Span}
use Rattle.sem_expr.specs.declared.expr.Comparison.TheVariants.{Equal}
use Rattle.sem_expr.specs.declared.expr.Operator.TheVariants.{Add, Remainder}
use Rattle.sem_expr.specs.declared.expr.Side.{Side}
use Rattle.sem_expr.specs.declared.expr.Side.TheVariants.{Uncompressed, Compressed}
use Rattle.sem_expr.specs.declared.expr.Measure.TheVariants as measure
use Rattle.sem_expr.specs.declared.expr.Subject.TheVariants as subject
use Rattle.sem_expr.specs.declared.expr.Expr.{Expr}
use Rattle.sem_expr.specs.declared.expr.Expr.TheVariants as expr
use Rattle.sem_expr.specs.declared.expr.Expr.TheVariants.{Number, Binary'}
use Rattle.sem_expr.specs.declared.expr.Cond.TheVariants.{Compare}
use Rattle.sem_profile.specs.declared.profile.Part.{Part}
use Rattle.sem_profile.specs.declared.profile.Part.TheVariants.{Header, Control}
use Rattle.sem_profile.specs.declared.profile.Library.TheVariants as library
use Rattle.sem_profile.specs.declared.profile.Encoding.{Encoding}
use Rattle.sem_profile.specs.declared.profile.Encoding.TheVariants as encoding
use Rattle.sem_profile.specs.declared.profile.Bounds.{Bounds}
use Rattle.sem_profile.specs.declared.profile.Sizes.{Sizes}
use Rattle.sem_profile.specs.declared.profile.Field.{Field}
use Rattle.sem_profile.specs.declared.profile.Constraint.{Constraint}
use Rattle.sem_profile.specs.declared.profile.Constraint.TheVariants.{Bracket, Enforce}
use Rattle.sem_profile.specs.declared.profile.Format.{Format}
use Rattle.sem_profile.specs.declared.profile.FormatSizes.{FormatSizes}
use Rattle.sem_profile.specs.declared.profile.Method.{Method}
use Rattle.sem_profile.specs.declared.profile.MethodSizes.{MethodSizes}
use Rattle.cert_types.specs.declared.certificate.Version.{Version}
use Rattle.cert_types.specs.declared.certificate.Version.TheVariants.{One, Two}
use Rattle.cert_types.specs.declared.certificate.Step.{Step}
use Rattle.cert_types.specs.declared.certificate.Step.TheVariants.{Take, LibraryUp, LibraryDown, MethodLength, ConstraintLength, Solve}
use Rattle.cert_types.specs.declared.certificate.Node.{Node}
use Rattle.cert_types.specs.declared.certificate.Node.TheVariants.{Reference, Leaf}
use Rattle.cert_types.specs.declared.certificate.Direction.TheVariants.{Read, Write}
use Rattle.cert_rules.specs.Trees.{PartsFormats}
use Rattle.cert_rules.specs.Plans.{way_of, enabled, known_after, IsPlan}

-- ---- parts of formats

-- the place of everything
abbrev pub at : Span
at = record { from = 0; to = 0 }

abbrev pub number : ℤ → Expr
number n = Number at n

-- the value of the uncompressed side of a field
abbrev pub value : ℕ → Expr
value i = expr.Attribute at record { subject = subject.Field i; side = Uncompressed; measure = measure.Value }

abbrev pub field : List ℕ → Part → Encoding → Field
field name part e = record { declared = record { name = name; part = part; asked = false }; encoding = e; initial = None }

-- a bracket of a number of bits
abbrev pub bracket : ℕ → Side → ℤ → Constraint
bracket i side n = Bracket i side (number n ∷ []) at

-- an equation of whole numbers
abbrev pub equal : Expr → Expr → Constraint
equal x y = Enforce (Compare at Equal x y) at

abbrev pub just : ℕ → Bounds
just n = record { least = n; most = n }

-- the lengths of a field's two sides, of so many bits each
abbrev pub lengths : ℕ → ℕ → Sizes
lengths u c = record { uncompressed = just u; compressed = just c }

-- ---- mode: a control field that is static tells two formats apart

abbrev pub static_mode : Field
static_mode = record { declared = record { name = codes "m"; part = Control; asked = false }; encoding = encoding.Library library.Static; initial = Some (false ∷ []) }

-- m == 0, and x is sent as it is
abbrev pub whole : Format
whole = record {
  name = Some (codes "a");
  fields = field (codes "x") Header (encoding.Library (library.Irregular (number (pos 8)))) ∷ static_mode ∷ [];
  listing = 0 ∷ [];
  constraints = bracket 0 Uncompressed (pos 8) ∷ bracket 1 Uncompressed (pos 1) ∷ equal (value 1) (number (pos 0)) ∷ bracket 0 Compressed (pos 8) ∷ [];
}

-- m == 1, and x is sent by its last bits
abbrev pub part : Format
part = record {
  name = Some (codes "b");
  fields = field (codes "x") Header (encoding.Library (library.Lsb (number (pos 4)) (number (pos 0)))) ∷ static_mode ∷ [];
  listing = 0 ∷ [];
  constraints = bracket 0 Uncompressed (pos 8) ∷ bracket 1 Uncompressed (pos 1) ∷ equal (value 1) (number (pos 1)) ∷ bracket 0 Compressed (pos 4) ∷ [];
}

abbrev pub whole_sizes : FormatSizes
whole_sizes = record { fields = lengths 8 8 ∷ lengths 1 0 ∷ []; whole = lengths 8 8 }

abbrev pub part_sizes : FormatSizes
part_sizes = record { fields = lengths 8 4 ∷ lengths 1 0 ∷ []; whole = lengths 8 4 }

abbrev pub mode_sizes : MethodSizes
mode_sizes = record { formats = whole_sizes ∷ part_sizes ∷ []; whole = record { uncompressed = just 8; compressed = record { least = 4; most = 8 } }; parameters = [] }

-- ref m 0, leaf a, leaf b; with a constant that no number of 64 bits is, the tree is at fault
abbrev pub mode_tree : ℤ → List Node
mode_tree c = Reference 1 c ∷ Leaf 0 ∷ Leaf 1 ∷ []

abbrev pub reads : List Step
reads = LibraryUp 1 ∷ MethodLength 0 Compressed ∷ Take 0 ∷ LibraryUp 0 ∷ []

abbrev pub writes : List Step
writes = LibraryUp 1 ∷ MethodLength 0 Uncompressed ∷ Take 0 ∷ LibraryDown 0 ∷ []

-- The reference of m parts the formats, and each has its plans.
pub record ModeIsRight : Type 0 where
  pub tree : PartsFormats (whole ∷ part ∷ []) mode_sizes (mode_tree (pos 0))
  pub whole_read : IsPlan (way_of Two Read (mode_sizes ∷ []) whole_sizes whole) reads
  pub whole_written : IsPlan (way_of Two Write (mode_sizes ∷ []) whole_sizes whole) writes
  pub part_read : IsPlan (way_of Two Read (mode_sizes ∷ []) part_sizes part) reads
  pub part_written : IsPlan (way_of Two Write (mode_sizes ∷ []) part_sizes part) writes
  -- a constant below zero is none of a reference
  pub beyond : PartsFormats (whole ∷ part ∷ []) mode_sizes (mode_tree (negsuc 0)) → ⊥

-- ---- turn: x is solved of (x + 5) % 16 == s, whose four bits are sent

-- with this divisor; expressions hold their operands in boxes
abbrev pub turned : ℤ → Box (Unit {0}) Global → Format
turned by b = record {
  name = None;
  fields = field (codes "x") Header encoding.Bare ∷ field (codes "s") Control (encoding.Library (library.Irregular (number (pos 4)))) ∷ [];
  listing = 1 ∷ [];
  constraints = bracket 0 Uncompressed (pos 4) ∷ bracket 1 Uncompressed (pos 4) ∷ equal (Binary' at Remainder b (Binary' at Add b (value 0) b (number (pos 5))) b (number by)) (value 1) ∷ [];
}

abbrev pub turned_sizes : FormatSizes
turned_sizes = record { fields = lengths 4 0 ∷ lengths 4 4 ∷ []; whole = lengths 4 4 }

abbrev pub turn_sizes : MethodSizes
turn_sizes = record { formats = turned_sizes ∷ []; whole = lengths 4 4; parameters = [] }

abbrev pub turn_reads : List Step
turn_reads = MethodLength 1 Compressed ∷ Take 1 ∷ LibraryUp 1 ∷ ConstraintLength 0 Uncompressed 0 ∷ Solve 0 2 ∷ []

-- s is solved of the same equation, which equates it with the remainder
abbrev pub turn_writes : List Step
turn_writes = ConstraintLength 0 Uncompressed 0 ∷ Take 0 ∷ MethodLength 1 Uncompressed ∷ Solve 1 2 ∷ LibraryDown 1 ∷ []

-- x is solved by a divisor of 16 in version two, and neither in version one nor by 15, which is below 2^4.
pub record TurnIsRight (b : Box (Unit {0}) Global) : Type 0 where
  pub read : IsPlan (way_of Two Read (turn_sizes ∷ []) turned_sizes (turned (pos 16) b)) turn_reads
  pub written : IsPlan (way_of Two Write (turn_sizes ∷ []) turned_sizes (turned (pos 16) b)) turn_writes
  pub only_two : (way_of One Read (turn_sizes ∷ []) turned_sizes (turned (pos 16) b)).rule (Solve 0 2) ≡ None
  pub too_few : (way_of Two Read (turn_sizes ∷ []) turned_sizes (turned (pos 15) b)).rule (Solve 0 2) ≡ None
