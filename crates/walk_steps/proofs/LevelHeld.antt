-- A filling is kept inside a field.
use Rattle.std.proofs.Common.{◌≡◌, refl, sym, ◌∙◌, ap, subst, ℕ, ◌⊎◌, inl, inr, List}
use Rattle.std.specs.Prelude.{Some, slice_get, slice_set, ℤ}
use Rattle.sem_expr.specs.declared.expr.Side.{Side}
use Rattle.sem_expr.specs.declared.expr.Side.TheVariants.{Uncompressed, Compressed}
use Rattle.sem_profile.specs.declared.profile.Sizes.{Sizes}
use Rattle.sem_profile.specs.declared.profile.FormatSizes.{FormatSizes}
use Rattle.sem_profile.specs.declared.profile.Format.{Format}
use Rattle.sem_profile.specs.BoundsFaults.{side_bounds}
use Rattle.sem_filling.specs.declared.filling.Filling.{Filling}
use Rattle.cert_rules.specs.declared.slots.Slot.{Slot}
use Rattle.cert_rules.specs.Numbers.{LearntLies}
use Rattle.cert_rules.specs.Slots.{side_of_slot, learnt_at}
use Rattle.walk_steps.specs.Partial.{IsKept}
use Rattle.walk_steps.proofs.FrontsChanged.{set_length, set_cases}
use Rattle.walk_steps.proofs.LevelOthers.{side_kept}

abbrev pub with_inner : Filling → Slot → Slot
with_inner g s = record { uncompressed = s.uncompressed; compressed = s.compressed; inner = Some g }

module _ (g : Filling) where
  -- both sides of each field are as they were
  pub sides_same : (slots : List Slot) (i : ℕ) (s : Slot) → slice_get slots i ≡ Some s → (j : ℕ) (side : Side) → learnt_at slots j side ≡ learnt_at (slice_set slots i (with_inner g s)) j side
  sides_same slots i s e j Uncompressed = side_kept slots i s (with_inner g s) Uncompressed refl e j
  sides_same slots i s e j Compressed = side_kept slots i s (with_inner g s) Compressed refl e j

  module _ (format : Format) (sizes : FormatSizes) (slots : List Slot) (i : ℕ) (s : Slot) (at : slice_get slots i ≡ Some s) where
    abbrev slots_now : List Slot
    slots_now = slice_set slots i (with_inner g s)

    pub kept_held : (args : List ℤ) → IsKept (record { format = format; sizes = sizes; args = args; slots = slots }) → IsKept (record { format = format; sizes = sizes; args = args; slots = slots_now })
    kept_held args kept = record {
      placed = kept.placed;
      count = set_length slots i (with_inner g s) ∙ kept.count;
      within = λ j x b side at_x at_b. by j x b side at_b (set_cases slots i (with_inner g s) j x at_x);
    }
      where
        same_side : (side : Side) → side_of_slot side s ≡ side_of_slot side (with_inner g s)
        same_side Uncompressed = refl
        same_side Compressed = refl

        by : (j : ℕ) (x : Slot) (b : Sizes) (side : Side) → slice_get sizes.fields j ≡ Some b → ((j ≡ i) × (with_inner g s ≡ x)) ⊎ (slice_get slots j ≡ Some x) → LearntLies (side_bounds side b) (side_of_slot side x)
        by j x b side at_b (inr there) = kept.within j x b side there at_b
        by j x b side at_b (inl h) =
            subst (LearntLies (side_bounds side b)) (same_side side ∙ ap (side_of_slot side) h.1) (kept.within i s b side at (ap (slice_get sizes.fields) (sym h.0) ∙ at_b))
