-- What is learnt of a side of a field (docs/DEFINITIONS.md, What a walk knows of a level).
use Rattle.std.specs.Prelude.{◌≡◌, ◌↔◌, ℕ, Bool, List, length, slice_get, slice_set, Option, Some, None}
use Rattle.sem_expr.specs.declared.expr.Side.{Side}
use Rattle.sem_expr.specs.declared.expr.Side.TheVariants.{Uncompressed, Compressed}
use Rattle.sem_profile.specs.declared.profile.Bounds.{Bounds}
use Rattle.cert_rules.specs.declared.slots.Learnt.{Learnt}
use Rattle.cert_rules.specs.declared.slots.Learnt.TheVariants.{Nothing, Length, Whole}
use Rattle.cert_rules.specs.declared.slots.Slot.{Slot}
use Rattle.cert_rules.specs.Slots.{HasSide, SideGrows, side_of_slot}
use Rattle.cert_rules.specs.Numbers.{LearntLies}

-- how many bits it has, where that is known
abbrev pub length_of : Learnt → Option ℕ
length_of Nothing = None
length_of (Length n) = Some n
length_of (Whole bits) = Some (length bits)

-- its bits, where they are known
abbrev pub whole_of : Learnt → Option (List Bool)
whole_of Nothing = None
whole_of (Length n) = None
whole_of (Whole bits) = Some bits

-- what is known now is just what was known and what was found, and lies in the bounds if that did which was known
pub record IsJoint (bounds : Bounds) (old found now : Learnt) : Type 0 where
  pub both : (bits : List Bool) → HasSide bits now ↔ (HasSide bits old × HasSide bits found)
  pub kept : SideGrows old now
  pub gained : SideGrows found now
  pub lies : LearntLies bounds old → LearntLies bounds now

-- the slot with another side
abbrev pub with_side : Side → Learnt → Slot → Slot
with_side Uncompressed l s = record { uncompressed = l; compressed = s.compressed; inner = s.inner }
with_side Compressed l s = record { uncompressed = s.uncompressed; compressed = l; inner = s.inner }

-- what was found of a side of the slot at an index is known too, and the rest is as it was
pub record LearnsAt (bounds : Bounds) (i : ℕ) (side : Side) (found : Learnt) (old new : List Slot) : Type 0 where
  pub slot : Slot
  pub slot_is : slice_get old i ≡ Some slot
  pub now : Learnt
  pub joint : IsJoint bounds (side_of_slot side slot) found now
  pub slots_are : new ≡ slice_set old i (with_side side now slot)
