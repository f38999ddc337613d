-- A field that is made of what is known of it.
use Rattle.std.specs.Prelude.{◌≡◌, false}
use Rattle.sem_expr.specs.declared.expr.Side.{Side}
use Rattle.sem_profile.specs.declared.profile.Declared.{Declared}
use Rattle.sem_filling.specs.declared.filling.FilledField.{FilledField}
use Rattle.sem_filling.specs.Fillings.{sides_of, inner_of}
use Rattle.cert_rules.specs.declared.slots.Slot.{Slot}
use Rattle.cert_rules.specs.Slots.{has_bits, bits_of, side_of_slot}

-- its two sides and the filling inside are those that the slot knows
pub record IsFilledWith (declared : Declared) (s : Slot) (x : FilledField) : Type 0 where
  pub sides_are : sides_of x ≡ record { declared = declared; uncompressed = bits_of s.uncompressed; compressed = bits_of s.compressed }
  pub inner_is : inner_of x ≡ s.inner

-- the bits of a side are not known
abbrev pub LacksSide : Slot → Type 0
LacksSide s = (side : Side) × (has_bits (side_of_slot side s) ≡ false)
