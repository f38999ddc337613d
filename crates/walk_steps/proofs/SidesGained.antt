-- What is known of the slots after something was learnt of one.
use Rattle.std.proofs.Common.{◌≡◌, refl, sym, ◌∙◌, ap, subst, ℕ, true, ◌⊎◌, inl, inr, List}
use Rattle.std.specs.Prelude.{Option, Some, None, IfSome, slice_get, slice_set}
use Rattle.std.proofs.lemmas.Option.{same_Some, none-some}
use Rattle.sem_expr.specs.declared.expr.Side.{Side}
use Rattle.sem_expr.specs.declared.expr.Side.TheVariants.{Uncompressed, Compressed}
use Rattle.sem_profile.specs.declared.profile.Bounds.{Bounds}
use Rattle.sem_filling.specs.declared.filling.Filling.{Filling}
use Rattle.cert_rules.specs.declared.slots.Learnt.{Learnt}
use Rattle.cert_rules.specs.declared.slots.Learnt.TheVariants.{Nothing, Length, Whole}
use Rattle.cert_rules.specs.declared.slots.Slot.{Slot}
use Rattle.cert_rules.specs.Views.{view, side_at}
use Rattle.cert_rules.specs.Slots.{has_length, has_bits, side_of_slot, learnt_of, learnt_at, slot_inner, HasSide, HasSlot, HasSlots, SideGrows, SlotGrows, Grows}
use Rattle.walk_steps.specs.Sides.{with_side, LearnsAt}
use Rattle.walk_steps.proofs.FrontsChanged.{set_here, set_cases, set_still}

pub side_grows : (l : Learnt) → SideGrows l l
side_grows Nothing = tt
side_grows (Length n) = refl
side_grows (Whole bits) = refl

pub inner_grows : (o : Option Filling) → IfSome o (λ g. o ≡ Some g)
inner_grows None = tt
inner_grows (Some g) = refl

pub side_put : (side : Side) (l : Learnt) (s : Slot) → side_of_slot side (with_side side l s) ≡ l
side_put Uncompressed l s = refl
side_put Compressed l s = refl

slot_grows : (side : Side) (now : Learnt) (s : Slot) → SideGrows (side_of_slot side s) now → SlotGrows s (with_side side now s)
slot_grows Uncompressed now s h = record { uncompressed = h; compressed = side_grows s.compressed; inner = inner_grows s.inner }
slot_grows Compressed now s h = record { uncompressed = side_grows s.uncompressed; compressed = h; inner = inner_grows s.inner }

has_side : (f : Filling) (i : ℕ) (side : Side) (s : Slot) → HasSlot f i s → HasSide (side_at (view f) i side) (side_of_slot side s)
has_side f i Uncompressed s h = h.uncompressed
has_side f i Compressed s h = h.compressed

has_put : (f : Filling) (i : ℕ) (side : Side) (now : Learnt) (s : Slot) → HasSlot f i s → HasSide (side_at (view f) i side) now → HasSlot f i (with_side side now s)
has_put f i Uncompressed now s h n = record { uncompressed = n; compressed = h.compressed; inner = h.inner }
has_put f i Compressed now s h n = record { uncompressed = h.uncompressed; compressed = n; inner = h.inner }

length_gained : (found now : Learnt) → SideGrows found now → has_length found ≡ true → has_length now ≡ true
length_gained Nothing now h e = absurd (cc)
length_gained (Length n) now h e = h
length_gained (Whole bits) now h e = ap has_length h

bits_gained : (found now : Learnt) → SideGrows found now → has_bits found ≡ true → has_bits now ≡ true
bits_gained Nothing now h e = absurd (cc)
bits_gained (Length n) now h e = absurd (cc)
bits_gained (Whole bits) now h e = ap has_bits h

module _ (bounds : Bounds) (i : ℕ) (side : Side) (found : Learnt) (old new : List Slot) (l : LearnsAt bounds i side found old new) where
  abbrev slot_now : Slot
  slot_now = with_side side l.now l.slot

  -- slots that know more
  pub grown : Grows old new
  grown j s at = by (set_still old i slot_now j s at)
    where
      by : (j ≡ i) ⊎ (slice_get (slice_set old i slot_now) j ≡ Some s) → (t : Slot) × (slice_get new j ≡ Some t) × SlotGrows s t
      by (inr still) = (s, ap (λ xs. slice_get xs j) l.slots_are ∙ still, record { uncompressed = side_grows s.uncompressed; compressed = side_grows s.compressed; inner = inner_grows s.inner })
      by (inl here) =
          let same : l.slot ≡ s = same_Some l.slot s (sym l.slot_is ∙ (ap (slice_get old) (sym here) ∙ at)) in
          (slot_now, ap (λ xs. slice_get xs j) l.slots_are ∙ (ap (slice_get (slice_set old i slot_now)) here ∙ set_here old i slot_now l.slot l.slot_is), subst (λ z. SlotGrows z slot_now) same (slot_grows side l.now l.slot l.joint.kept))

  -- the fillings inside are those that were known
  pub inners : (j : ℕ) → slot_inner (slice_get new j) ≡ slot_inner (slice_get old j)
  inners j = by (slice_get old j) refl
    where
      slot_put : (side : Side) (now : Learnt) (s : Slot) → (with_side side now s).inner ≡ s.inner
      slot_put Uncompressed now s = refl
      slot_put Compressed now s = refl

      by : (o : Option Slot) → slice_get old j ≡ o → slot_inner (slice_get new j) ≡ slot_inner o
      by (Some s) at = here (set_still old i slot_now j s at)
        where
          here : (j ≡ i) ⊎ (slice_get (slice_set old i slot_now) j ≡ Some s) → slot_inner (slice_get new j) ≡ s.inner
          here (inr still) = ap slot_inner (ap (λ xs. slice_get xs j) l.slots_are ∙ still)
          here (inl same) =
              let is : l.slot ≡ s = same_Some l.slot s (sym l.slot_is ∙ (ap (slice_get old) (sym same) ∙ at)) in
              ap slot_inner (ap (λ xs. slice_get xs j) l.slots_are ∙ (ap (slice_get (slice_set old i slot_now)) same ∙ set_here old i slot_now l.slot l.slot_is)) ∙ (slot_put side l.now l.slot ∙ ap (λ z. z.inner) is)
      by None at = ap slot_inner (none (slice_get new j) refl)
        where
          none : (o : Option Slot) → slice_get new j ≡ o → slice_get new j ≡ None
          none None e = e
          none (Some t) e = absurd (past (set_cases old i slot_now j t (ap (λ xs. slice_get xs j) (sym l.slots_are) ∙ e)))
            where
              past : ((j ≡ i) × (slot_now ≡ t)) ⊎ (slice_get old j ≡ Some t) → ⊥
              past (inr before) = none-some t (sym at ∙ before)
              past (inl h) = none-some l.slot (sym at ∙ (ap (slice_get old) h.0 ∙ l.slot_is))

  -- what a filling has that has what was known, and what was found
  pub still_had : (f : Filling) → HasSlots f old → HasSide (side_at (view f) i side) found → HasSlots f new
  still_had f has is j s at = by (set_cases old i slot_now j s (ap (λ xs. slice_get xs j) (sym l.slots_are) ∙ at))
    where
      by : ((j ≡ i) × (slot_now ≡ s)) ⊎ (slice_get old j ≡ Some s) → HasSlot f j s
      by (inr before) = has j s before
      by (inl h) =
          let slot = has i l.slot l.slot_is in
          let now = (l.joint.both (side_at (view f) i side)).1 (has_side f i side l.slot slot, is) in
          subst (λ k. HasSlot f k s) (sym h.0) (subst (HasSlot f i) h.1 (has_put f i side l.now l.slot slot now))

  pub known_now : learnt_at new i side ≡ l.now
  known_now = ap (λ xs. learnt_of side (slice_get xs i)) l.slots_are ∙ (ap (learnt_of side) (set_here old i slot_now l.slot l.slot_is) ∙ side_put side l.now l.slot)

  -- what was found is known
  pub length_known : has_length found ≡ true → has_length (learnt_at new i side) ≡ true
  length_known e = ap has_length known_now ∙ length_gained found l.now l.joint.gained e

  pub bits_known : has_bits found ≡ true → has_bits (learnt_at new i side) ≡ true
  bits_known e = ap has_bits known_now ∙ bits_gained found l.now l.joint.gained e
