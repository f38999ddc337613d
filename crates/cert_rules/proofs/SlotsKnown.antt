-- The slots of a walk as a view that agrees with a filling that has what they know.
use Rattle.std.proofs.Common.{◌≡◌, refl, sym, ◌∙◌, ap, ℕ, zero, suc, Bool, true, false, List, [], ◌∷◌, length, arith}
use Rattle.std.specs.Prelude.{Option, Some, None, slice_get, IfSome, ◌||◌, not}
use Rattle.std.proofs.lemmas.List.{length-replicate}
use Rattle.sem_expr.specs.declared.expr.Side.{Side}
use Rattle.sem_expr.specs.declared.expr.Side.TheVariants.{Uncompressed, Compressed}
use Rattle.sem_profile.specs.declared.profile.Field.{Field}
use Rattle.sem_profile.specs.declared.profile.Format.{Format}
use Rattle.sem_filling.specs.declared.filling.Filling.{Filling}
use Rattle.sem_filling.specs.Fillings.{inner_at}
use Rattle.sem_filling.specs.Fits.{field_side}
use Rattle.cert_rules.specs.declared.slots.Learnt.{Learnt}
use Rattle.cert_rules.specs.declared.slots.Learnt.TheVariants.{Nothing, Length, Whole}
use Rattle.cert_rules.specs.declared.slots.Slot.{Slot}
use Rattle.cert_types.specs.declared.rule.Fact.{Fact}
use Rattle.cert_types.specs.declared.rule.Fact.TheVariants.{LengthOf, BitsOf, Done}
use Rattle.cert_rules.specs.Views.{view, side_at, Agree, AgreeAll}
use Rattle.cert_rules.specs.Slots.{has_length, has_bits, learnt_of, learnt_at, is_there, slot_inner, calls_at, knows, knows_all, HasSide, HasSlots, bits_of, slot_sides, slots_view}
use Rattle.cert_rules.proofs.ViewsAgree.{and_true}
use Rattle.cert_rules.proofs.ViewsInputs.{declared_of, declared_in}

pub slot_side : (ds : List Field) (slots : List Slot) → length slots ≡ length ds → (i : ℕ) (side : Side) → field_side (slice_get (slot_sides ds slots) i) side ≡ bits_of (learnt_of side (slice_get slots i))
slot_side [] [] e i side = refl
slot_side [] (s ∷ slots) e i side = absurd (omega (arith, e))
slot_side (d ∷ ds) [] e i side = absurd (omega (arith, e))
slot_side (d ∷ ds) (s ∷ slots) e zero Uncompressed = refl
slot_side (d ∷ ds) (s ∷ slots) e zero Compressed = refl
slot_side (d ∷ ds) (s ∷ slots) e (suc i) side = slot_side ds slots (omega (arith, e)) i side

pub slots_declared : (ds : List Field) (slots : List Slot) → length slots ≡ length ds → declared_of (slot_sides ds slots) ≡ declared_in ds
slots_declared [] slots e = refl
slots_declared (d ∷ ds) [] e = absurd (omega (arith, e))
slots_declared (d ∷ ds) (s ∷ slots) e = λ i. d.declared ∷ slots_declared ds slots (omega (arith, e)) i

known_length : (l : Learnt) (bits : List Bool) → HasSide bits l → has_length l ≡ true → length (bits_of l) ≡ length bits
known_length Nothing bits h e = absurd (cc)
known_length (Length n) bits h e = length-replicate n false ∙ sym h
known_length (Whole known) bits h e = ap length (sym h)

pub known_bits : (l : Learnt) (bits : List Bool) → HasSide bits l → has_bits l ≡ true → bits_of l ≡ bits
known_bits Nothing bits h e = absurd (cc)
known_bits (Length n) bits h e = absurd (cc)
known_bits (Whole known) bits h e = sym h

module _ (format : Format) (slots : List Slot) (f : Filling) (count : length slots ≡ length format.fields) (has : HasSlots f slots)
    (plain : (i : ℕ) → calls_at (slice_get format.fields i) ≡ false → inner_at f i ≡ None) where
  has_side : (i : ℕ) (side : Side) (o : Option Slot) → slice_get slots i ≡ o → HasSide (side_at (view f) i side) (learnt_of side o)
  has_side i side None e = tt
  has_side i Uncompressed (Some s) e = (has i s e).uncompressed
  has_side i Compressed (Some s) e = (has i s e).compressed

  side_here : (i : ℕ) (side : Side) → side_at (slots_view format slots) i side ≡ bits_of (learnt_at slots i side)
  side_here i side = slot_side format.fields slots count i side

  length_agrees : (i : ℕ) (side : Side) → has_length (learnt_at slots i side) ≡ true → length (side_at (slots_view format slots) i side) ≡ length (side_at (view f) i side)
  length_agrees i side e = ap length (side_here i side) ∙ known_length (learnt_at slots i side) (side_at (view f) i side) (has_side i side (slice_get slots i) refl) e

  bits_agree : (i : ℕ) (side : Side) → has_bits (learnt_at slots i side) ≡ true → side_at (slots_view format slots) i side ≡ side_at (view f) i side
  bits_agree i side e = side_here i side ∙ known_bits (learnt_at slots i side) (side_at (view f) i side) (has_side i side (slice_get slots i) refl) e

  pub has_inner : (i : ℕ) (o : Option Slot) → slice_get slots i ≡ o → IfSome (slot_inner o) (λ g. inner_at f i ≡ Some g)
  has_inner i None e = tt
  has_inner i (Some s) e = (has i s e).inner

  inner_agrees : (i : ℕ) (o : Option Filling) (calls : Bool) → calls_at (slice_get format.fields i) ≡ calls → IfSome o (λ g. inner_at f i ≡ Some g) → (not calls || is_there o) ≡ true → o ≡ inner_at f i
  inner_agrees i (Some g) calls is h e = sym h
  inner_agrees i None true is h e = absurd (cc)
  inner_agrees i None false is h e = sym (plain i is)

  pub agree : (x : Fact) → knows format slots x ≡ true → Agree (slots_view format slots) (view f) x
  agree (LengthOf side i) e = length_agrees i side e
  agree (BitsOf side i) e = bits_agree i side e
  agree (Done i) e =
      let b = and_true (has_bits (learnt_at slots i Compressed)) (not (calls_at (slice_get format.fields i)) || is_there (slot_inner (slice_get slots i))) e in
      (bits_agree i Compressed b.0, inner_agrees i (slot_inner (slice_get slots i)) (calls_at (slice_get format.fields i)) refl (has_inner i (slice_get slots i) refl) b.1)

  pub agree_known : (xs : List Fact) → knows_all format slots xs ≡ true → AgreeAll (slots_view format slots) (view f) xs
  agree_known [] e = tt
  agree_known (x ∷ xs) e = let b = and_true (knows format slots x) (knows_all format slots xs) e in (agree x b.0, agree_known xs b.1)
