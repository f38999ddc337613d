-- What a walk knows of one level of a filling (docs/DEFINITIONS.md, What a walk knows of a level).
use Rattle.std.specs.Prelude.{◌≡◌, ◌<◌, ℕ, ℤ, false, List, length, map, slice_get, slice_set, Some, pos, option_map}
use Rattle.sem_expr.specs.declared.known.Known.{Known}
use Rattle.sem_expr.specs.declared.known.Numbers.{Numbers}
use Rattle.sem_expr.specs.declared.known.SideNumbers.{SideNumbers}
use Rattle.sem_expr.specs.declared.expr.Expr.{Expr}
use Rattle.sem_expr.specs.declared.expr.Side.{Side}
use Rattle.sem_expr.specs.declared.expr.Side.TheVariants.{Uncompressed, Compressed}
use Rattle.sem_profile.specs.declared.profile.Bounds.{Bounds}
use Rattle.sem_profile.specs.declared.profile.Sizes.{Sizes}
use Rattle.sem_profile.specs.declared.profile.FormatSizes.{FormatSizes}
use Rattle.sem_profile.specs.declared.profile.MethodSizes.{MethodSizes}
use Rattle.sem_profile.specs.declared.profile.Constraint.{Constraint}
use Rattle.sem_profile.specs.declared.profile.Format.{Format}
use Rattle.sem_profile.specs.declared.profile.Method.{Method}
use Rattle.sem_profile.specs.Fields.{lists}
use Rattle.sem_profile.specs.Formats.{sizes_at}
use Rattle.sem_profile.specs.BoundsFaults.{side_bounds}
use Rattle.sem_profile.specs.BoundsLaws.{StandsIn}
use Rattle.sem_profile.specs.Outcome.{AreSizes, FormatAt}
use Rattle.sem_filling.specs.Bounded.{ArgumentsLie}
use Rattle.cert_rules.specs.declared.slots.Learnt.{Learnt}
use Rattle.cert_rules.specs.declared.slots.Slot.{Slot}
use Rattle.cert_rules.specs.Slots.{has_bits, learnt_at}
use Rattle.sem_filling.specs.declared.filling.Filling.{Filling}
use Rattle.sem_expr.specs.declared.expr.Measure.TheVariants as measure
use Rattle.cert_rules.specs.Rules.{Congruence, attribute_of, congruent, length_given, value_given}
use Rattle.cert_rules.specs.Numbers.{AreWithin, slot_numbers}
use Rattle.walk_steps.specs.Sides.{LearnsAt}
use Rattle.walk_steps.specs.Joined.{header_places, joined_length, joined_value}

-- ---- where a level stands

-- the format is one of a profile with its bounds, and the arguments lie in the ranges of its method's parameters
pub record IsPlaced (format : Format) (sizes : FormatSizes) (args : List ℤ) : Type 0 where
  pub methods : List Method
  pub table : List MethodSizes
  pub are_sizes : AreSizes methods table
  pub method : Method
  pub whole : MethodSizes
  pub at : FormatAt methods table method format whole sizes
  pub lie : ArgumentsLie whole.parameters args

-- what a walk has reached: the format with its bounds, the values of the parameters, and what is known of each field
pub record Reached : Type 0 where
  pub format : Format
  pub sizes : FormatSizes
  pub args : List ℤ
  pub slots : List Slot

-- what each level keeps: all that is known lies in the fields' bounds
pub record IsKept (l : Reached) : Type 0 where
  pub placed : IsPlaced l.format l.sizes l.args
  pub count : length l.slots ≡ length l.format.fields
  pub within : AreWithin l.sizes l.slots

-- ---- the start

-- each field that is not listed may have no packed bits
abbrev pub AreUnsent : Format → FormatSizes → Type 0
AreUnsent format sizes = (i : ℕ) (b : Sizes) → slice_get sizes.fields i ≡ Some b → lists format.listing i ≡ false → b.compressed.least ≡ 0

-- ---- what is learnt

-- the bounds of a side of a field
abbrev pub bounds_at : FormatSizes → ℕ → Side → Bounds
bounds_at sizes i side = side_bounds side (sizes_at sizes.fields i)

-- what was found of a side of a field is known too, and the rest is as it was
pub record Learns (old : Reached) (i : ℕ) (side : Side) (found : Learnt) (new : Reached) : Type 0 where
  pub format_is : new.format ≡ old.format
  pub sizes_are : new.sizes ≡ old.sizes
  pub args_are : new.args ≡ old.args
  pub slots_are : LearnsAt (bounds_at old.sizes i side) i side found old.slots new.slots

-- the filling inside a field is kept, and the rest is as it was
pub record Keeps (old : Reached) (i : ℕ) (inner : Filling) (new : Reached) : Type 0 where
  pub format_is : new.format ≡ old.format
  pub sizes_are : new.sizes ≡ old.sizes
  pub args_are : new.args ≡ old.args
  pub slot : Slot
  pub slot_is : slice_get old.slots i ≡ Some slot
  pub slots_are : new.slots ≡ slice_set old.slots i (record { uncompressed = slot.uncompressed; compressed = slot.compressed; inner = Some inner })

-- the bits of a side of a field are not known
pub record Lacks (slots : List Slot) : Type 0 where
  pub field : ℕ
  pub side : Side
  pub within : field < length slots
  pub unknown : has_bits (learnt_at slots field side) ≡ false

-- ---- numbers

-- the fields whose sides are joined to that of the whole
abbrev pub parts_of : Format → Side → List ℕ
parts_of format Uncompressed = header_places 0 format.fields
parts_of format Compressed = format.listing

-- those of sides that are joined
abbrev pub joined_numbers : List Slot → Side → List ℕ → Numbers
joined_numbers slots side fields = record { value = option_map pos (joined_value slots side fields); length = option_map pos (joined_length slots side fields) }

abbrev pub whole_numbers : List Slot → List ℕ → List ℕ → SideNumbers
whole_numbers slots headers listing = record { uncompressed = joined_numbers slots Uncompressed headers; compressed = joined_numbers slots Compressed listing }

-- those of the slots, with those of the whole and the arguments
abbrev pub known_by : List Slot → SideNumbers → List ℤ → Known
known_by slots whole args = record { fields = map slot_numbers slots; whole = whole; parameters = args }

-- the expression is one that a step evaluates: an argument or one of a bracket, or what a constraint gives for a length or a value, or for a remainder of one
pub data IsAsked (format : Format) (e : Expr) : Type 0 where
  stands : StandsIn format e → IsAsked format e
  gives_length : (i j : ℕ) (side : Side) (k : Constraint) → slice_get format.constraints j ≡ Some k → length_given i side k ≡ Some e → IsAsked format e
  gives_value : (i j : ℕ) (k : Constraint) → slice_get format.constraints j ≡ Some k → value_given i k ≡ Some e → IsAsked format e
  gives_addend : (i j : ℕ) (k : Constraint) (c : Congruence) → slice_get format.constraints j ≡ Some k → congruent (attribute_of i Uncompressed measure.Value) k ≡ Some c → c.more ≡ e → IsAsked format e
  gives_left : (i j : ℕ) (k : Constraint) (c : Congruence) → slice_get format.constraints j ≡ Some k → congruent (attribute_of i Uncompressed measure.Value) k ≡ Some c → c.left ≡ e → IsAsked format e
