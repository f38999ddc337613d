-- A side that is as it was.
use Rattle.std.proofs.Common.{◌≡◌, refl, ◌∙◌, ap, ℕ, zero, suc, List, [], ◌∷◌}
use Rattle.std.specs.Prelude.{Some, slice_get, slice_set}
use Rattle.std.proofs.lemmas.Option.{same_Some}
use Rattle.sem_expr.specs.declared.expr.Side.{Side}
use Rattle.cert_rules.specs.declared.slots.Slot.{Slot}
use Rattle.cert_rules.specs.Slots.{side_of_slot, learnt_at}

-- a side that is as it was in the slot that is set
pub side_kept : (slots : List Slot) (i : ℕ) (s t : Slot) (z : Side) → side_of_slot z s ≡ side_of_slot z t → slice_get slots i ≡ Some s → (j : ℕ) → learnt_at slots j z ≡ learnt_at (slice_set slots i t) j z
side_kept [] i s t z same e j = absurd (cc)
side_kept (x ∷ xs) zero s t z same e zero = ap (side_of_slot z) (same_Some x s e) ∙ same
side_kept (x ∷ xs) zero s t z same e (suc j) = refl
side_kept (x ∷ xs) (suc i) s t z same e zero = refl
side_kept (x ∷ xs) (suc i) s t z same e (suc j) = side_kept xs i s t z same e j
