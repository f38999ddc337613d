-- What a walk has learnt of the fields of a format, and when a filling has it (docs/DEFINITIONS.md, The steps of a reading walk).
use Rattle.std.specs.Prelude.{◌≡◌, ℕ, Bool, true, false, List, [], ◌∷◌, ◌&&◌, ◌||◌, not, length, replicate, slice_get, Option, Some, None, IfSome}
use Rattle.sem_expr.specs.declared.expr.Side.{Side}
use Rattle.sem_expr.specs.declared.expr.Side.TheVariants.{Uncompressed, Compressed}
use Rattle.sem_profile.specs.declared.profile.Field.{Field}
use Rattle.sem_profile.specs.declared.profile.Format.{Format}
use Rattle.sem_filling.specs.declared.filling.Filling.{Filling}
use Rattle.sem_filling.specs.Fillings.{Sides, inner_at}
use Rattle.cert_rules.specs.declared.slots.Learnt.{Learnt}
use Rattle.cert_rules.specs.declared.slots.Learnt.TheVariants.{Nothing, Length, Whole}
use Rattle.cert_rules.specs.declared.slots.Slot.{Slot}
use Rattle.cert_types.specs.declared.rule.Fact.{Fact}
use Rattle.cert_types.specs.declared.rule.Fact.TheVariants.{LengthOf, BitsOf, Done}
use Rattle.cert_rules.specs.Rules.{is_call}
use Rattle.cert_rules.specs.Views.{View, view, side_at}

-- ---- what the slots know

-- its length is known
abbrev pub has_length : Learnt → Bool
has_length Nothing = false
has_length (Length n) = true
has_length (Whole bits) = true

-- its bits are known
abbrev pub has_bits : Learnt → Bool
has_bits Nothing = false
has_bits (Length n) = false
has_bits (Whole bits) = true

-- a side of a slot
abbrev pub side_of_slot : Side → Slot → Learnt
side_of_slot Uncompressed s = s.uncompressed
side_of_slot Compressed s = s.compressed

-- the side of the field at an index; nothing past the end
abbrev pub learnt_of : Side → Option Slot → Learnt
learnt_of side None = Nothing
learnt_of side (Some s) = side_of_slot side s

-- what the slots know of a side of the field at an index
abbrev pub learnt_at : List Slot → ℕ → Side → Learnt
learnt_at slots i side = learnt_of side (slice_get slots i)

-- whether there is one
abbrev pub is_there : {A : Type 0} → Option A → Bool
is_there None = false
is_there (Some x) = true

-- the filling inside
abbrev pub slot_inner : Option Slot → Option Filling
slot_inner None = None
slot_inner (Some s) = s.inner

-- whether the field calls a method
abbrev pub calls_at : Option Field → Bool
calls_at None = false
calls_at (Some d) = is_call d.encoding

-- the fact is among what they know; a field is done where its compressed side is known, and the filling inside it if it calls
abbrev pub knows : Format → List Slot → Fact → Bool
knows format slots (LengthOf side i) = has_length (learnt_at slots i side)
knows format slots (BitsOf side i) = has_bits (learnt_at slots i side)
knows format slots (Done i) = has_bits (learnt_at slots i Compressed) && (not (calls_at (slice_get format.fields i)) || is_there (slot_inner (slice_get slots i)))

-- all are among what they know
abbrev pub knows_all : Format → List Slot → List Fact → Bool
knows_all format slots [] = true
knows_all format slots (x ∷ xs) = knows format slots x && knows_all format slots xs

-- ---- when a filling has what they know

-- the bits are as is known
abbrev pub HasSide : List Bool → Learnt → Type 0
HasSide bits Nothing = Unit {0}
HasSide bits (Length n) = length bits ≡ n
HasSide bits (Whole known) = bits ≡ known

-- the field at an index is as its slot knows
pub record HasSlot (f : Filling) (i : ℕ) (s : Slot) : Type 0 where
  pub uncompressed : HasSide (side_at (view f) i Uncompressed) s.uncompressed
  pub compressed : HasSide (side_at (view f) i Compressed) s.compressed
  pub inner : IfSome s.inner (λ g. inner_at f i ≡ Some g)

-- each field is
abbrev pub HasSlots : Filling → List Slot → Type 0
HasSlots f slots = (i : ℕ) (s : Slot) → slice_get slots i ≡ Some s → HasSlot f i s

-- ---- when slots know more than others

-- what was known of a side is known still
abbrev pub SideGrows : Learnt → Learnt → Type 0
SideGrows Nothing new = Unit {0}
SideGrows (Length n) new = has_length new ≡ true
SideGrows (Whole bits) new = new ≡ Whole bits

-- of both sides, and the filling inside
pub record SlotGrows (old new : Slot) : Type 0 where
  pub uncompressed : SideGrows old.uncompressed new.uncompressed
  pub compressed : SideGrows old.compressed new.compressed
  pub inner : IfSome old.inner (λ g. new.inner ≡ Some g)

-- of each field
abbrev pub Grows : List Slot → List Slot → Type 0
Grows old new = (i : ℕ) (s : Slot) → slice_get old i ≡ Some s → (t : Slot) × (slice_get new i ≡ Some t) × SlotGrows s t

-- ---- the slots as a view: unknown bits are zeros, unknown lengths 0

-- the bits of a side
abbrev pub bits_of : Learnt → List Bool
bits_of Nothing = []
bits_of (Length n) = replicate n false
bits_of (Whole bits) = bits

-- the level that they make
abbrev pub slot_sides : List Field → List Slot → List Sides
slot_sides [] slots = []
slot_sides (d ∷ ds) [] = []
slot_sides (d ∷ ds) (s ∷ slots) = record { declared = d.declared; uncompressed = bits_of s.uncompressed; compressed = bits_of s.compressed } ∷ slot_sides ds slots

-- the view that they make
abbrev pub slots_view : Format → List Slot → View
slots_view format slots = record { sides = slot_sides format.fields slots; inner = λ i. slot_inner (slice_get slots i) }
