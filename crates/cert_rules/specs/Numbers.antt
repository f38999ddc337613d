-- The numbers that slots know, as expressions take them (docs/DEFINITIONS.md, The steps of a reading walk).
use Rattle.std.specs.Prelude.{◌≡◌, ℕ, ◌+◌, ◌^◌, ◌≤◌, true, false, List, map, length, slice_get, Some, None, ℤ, pos, if◌then◌else◌}
use Rattle.sem_expr.specs.declared.known.Numbers.{Numbers}
use Rattle.sem_expr.specs.declared.known.SideNumbers.{SideNumbers}
use Rattle.sem_expr.specs.declared.known.Known.{Known}
use Rattle.sem_expr.specs.declared.inputs.Input.TheVariants as input
use Rattle.sem_expr.specs.declared.expr.Attribute.{Attribute}
use Rattle.sem_expr.specs.declared.expr.Subject.TheVariants as subject
use Rattle.sem_expr.specs.declared.expr.Side.{Side}
use Rattle.sem_expr.specs.declared.expr.Side.TheVariants.{Uncompressed, Compressed}
use Rattle.sem_expr.specs.declared.expr.Measure.TheVariants as measure
use Rattle.sem_expr.specs.declared.expr.Expr.{Expr}
use Rattle.sem_expr.specs.Inputs.{inputs_of}
use Rattle.sem_expr.specs.Known.{assignment_of, no_numbers}
use Rattle.sem_expr.specs.Values.{val}
use Rattle.sem_profile.specs.declared.profile.Sizes.{Sizes}
use Rattle.sem_profile.specs.declared.profile.FormatSizes.{FormatSizes}
use Rattle.sem_profile.specs.declared.profile.MethodSizes.{MethodSizes}
use Rattle.sem_profile.specs.declared.profile.Format.{Format}
use Rattle.sem_profile.specs.declared.profile.Method.{Method}
use Rattle.sem_profile.specs.Fields.{lists}
use Rattle.sem_profile.specs.BoundsFaults.{side_bounds, is_wide}
use Rattle.sem_profile.specs.Outcome.{AreSizes, FormatAt}
use Rattle.sem_profile.specs.Calling.{ranges_in}
use Rattle.sem_profile.specs.BoundsLaws.{IsSound, AllSound}
use Rattle.sem_expr.specs.declared.ranges.Ranges.{Ranges}
use Rattle.sem_profile.specs.declared.profile.Constraint.{Constraint}
use Rattle.cert_rules.specs.Rules.{length_given, value_given, Congruence, remainder_given}
use Rattle.sem_expr.specs.Spread.{LieIn}
use Rattle.sem_filling.specs.Bounded.{LiesBetween, ArgumentsLie}
use Rattle.sem_filling.specs.Numbers.{numbers}
use Rattle.sem_profile.specs.declared.profile.Bounds.{Bounds}
use Rattle.cert_rules.specs.declared.slots.Learnt.{Learnt}
use Rattle.cert_rules.specs.declared.slots.Learnt.TheVariants.{Nothing, Length, Whole}
use Rattle.cert_rules.specs.declared.slots.Slot.{Slot}
use Rattle.cert_rules.specs.Facts.{side_facts, inputs}
use Rattle.cert_rules.specs.Slots.{side_of_slot, learnt_at, knows_all, bits_of}
use Rattle.cert_rules.specs.Reading.{known_sides, known_numbers, offset_of}

-- the numbers that are known of a side
abbrev pub learnt_numbers : Learnt → Numbers
learnt_numbers Nothing = no_numbers
learnt_numbers (Length n) = record { value = None; length = Some (pos n) }
learnt_numbers (Whole bits) = numbers bits

-- those of both sides of a field
abbrev pub slot_numbers : Slot → SideNumbers
slot_numbers s = record { uncompressed = learnt_numbers s.uncompressed; compressed = learnt_numbers s.compressed }

-- those of a side of the whole, where each part is known
abbrev pub whole_numbers : Format → List Slot → Side → Numbers
whole_numbers format slots side = record {
  value = if knows_all format slots (side_facts format subject.This side measure.Value) then (numbers (known_sides format slots subject.This side)).value else None;
  length = if knows_all format slots (side_facts format subject.This side measure.Length) then (numbers (known_sides format slots subject.This side)).length else None;
}

-- the numbers that the slots know, with those of the whole and the arguments
abbrev pub known_of : Format → List Slot → List ℤ → Known
known_of format slots args = record {
  fields = map slot_numbers slots;
  whole = record { uncompressed = whole_numbers format slots Uncompressed; compressed = whole_numbers format slots Compressed };
  parameters = args;
}

-- the values that the expression asks for are those of at most 64 bits
abbrev pub IsNarrow : Format → List Slot → Expr → Type 0
IsNarrow format slots e = (k : ℕ) (t : Attribute) → slice_get (inputs_of e) k ≡ Some (input.Attribute t) → t.measure ≡ measure.Value → length (known_sides format slots t.subject t.side) ≤ 64

-- An expression whose inputs are known has one value by what the slots know and by the sides that they show.
abbrev pub ValuesKnown : Type 0
ValuesKnown = (format : Format) (slots : List Slot) (args : List ℤ) (e : Expr) → length slots ≡ length format.fields → knows_all format slots (inputs format e) ≡ true → IsNarrow format slots e →
    val (assignment_of (known_of format slots args)) e ≡ val (known_numbers format slots args) e

-- a length that is known lies between the bounds
abbrev pub LearntLies : Bounds → Learnt → Type 0
LearntLies b Nothing = Unit {0}
LearntLies b (Length n) = LiesBetween b n
LearntLies b (Whole bits) = LiesBetween b (length bits)

-- all that is known lies in the fields' bounds
abbrev pub AreWithin : FormatSizes → List Slot → Type 0
AreWithin sizes slots = (i : ℕ) (s : Slot) (b : Sizes) (side : Side) → slice_get slots i ≡ Some s → slice_get sizes.fields i ≡ Some b → LearntLies (side_bounds side b) (side_of_slot side s)

-- then the expressions of the format ask for no wide value, and no field ends past the greatest length of the format, which is at most 2^18
abbrev pub WithinIsNarrow : Type 0
WithinIsNarrow = (methods : List Method) (table : List MethodSizes) → AreSizes methods table → (m : Method) (format : Format) (s : MethodSizes) (sizes : FormatSizes) → FormatAt methods table m format s sizes →
    (slots : List Slot) → length slots ≡ length format.fields → AreWithin sizes slots → (e : Expr) →
    ((k : ℕ) (t : Attribute) → slice_get (inputs_of e) k ≡ Some (input.Attribute t) → is_wide sizes t ≡ false) → IsNarrow format slots e

-- A listed field ends within the packed bits of the format.
abbrev pub EndsWithin : Type 0
EndsWithin = (methods : List Method) (table : List MethodSizes) → AreSizes methods table → (m : Method) (format : Format) (s : MethodSizes) (sizes : FormatSizes) → FormatAt methods table m format s sizes →
    (slots : List Slot) → length slots ≡ length format.fields → AreWithin sizes slots → (i : ℕ) → lists format.listing i ≡ true →
    (offset_of format slots i + length (bits_of (learnt_at slots i Compressed)) ≤ sizes.whole.compressed.most) × (sizes.whole.compressed.most ≤ 2 ^ 18)

-- then all numbers lie in the ranges of the format, so its expressions may be evaluated
abbrev pub SlotsLie : Type 0
SlotsLie = (methods : List Method) (table : List MethodSizes) → AreSizes methods table → (m : Method) (format : Format) (s : MethodSizes) (sizes : FormatSizes) → FormatAt methods table m format s sizes →
    (slots : List Slot) (args : List ℤ) → length slots ≡ length format.fields → AreWithin sizes slots → ArgumentsLie s.parameters args → LieIn (assignment_of (known_of format slots args)) (ranges_in sizes s)

-- An expression that a constraint gives for a length or a value has a range and asks for no wide value, where those of the format do.
pub record GivenAreSound (format : Format) (sizes : FormatSizes) (r : Ranges) : Type 0 where
  pub lengths : (i j : ℕ) (side : Side) (k : Constraint) (e : Expr) → slice_get format.constraints j ≡ Some k → length_given i side k ≡ Some e → IsSound sizes r e
  pub values : (i j : ℕ) (k : Constraint) (e : Expr) → slice_get format.constraints j ≡ Some k → value_given i k ≡ Some e → IsSound sizes r e
  pub addends : (i j : ℕ) (k : Constraint) (c : Congruence) → slice_get format.constraints j ≡ Some k → remainder_given sizes i k ≡ Some c → IsSound sizes r c.more
  pub lefts : (i j : ℕ) (k : Constraint) (c : Congruence) → slice_get format.constraints j ≡ Some k → remainder_given sizes i k ≡ Some c → IsSound sizes r c.left

-- So it is where no expression of the format has a fault.
abbrev pub GivenIsSound : Type 0
GivenIsSound = (format : Format) (sizes : FormatSizes) (r : Ranges) → AllSound format sizes r → GivenAreSound format sizes r
