-- What is packed so that it may be read after losses survives them.
use Rattle.std.proofs.Common.{◌≡◌, ◌∙◌, refl, subst, ℕ, suc, ◌≤◌, List, [], ◌∷◌, arith}
use Rattle.std.specs.Prelude.{Some, slice_get}
use Rattle.sem_context.specs.Entries.{Entries, bits_at}
use Rattle.sem_profile.specs.declared.profile.Method.{Method}
use Rattle.sem_filling.specs.declared.filling.Filling.{Filling}
use Rattle.sem_filling.specs.Entries.{Path, next}
use Rattle.sem_filling.specs.Fronts.{FitsTop}
use Rattle.sem_elsewhere.specs.Runs.{Survives, all_survive, survives}
use Rattle.sem_elsewhere.specs.Robust.{Sends, all_sent, sends, ComesThrough, all_over, comes, is_lost, LossProof, LossFits}
use Rattle.sem_elsewhere.proofs.Agreeing.{repaired}
use Rattle.sem_elsewhere.proofs.Running.{right_where_survives}

module _ (methods : List Method) (top n : ℕ) where
  through : (ctx : Entries) (before : List Entries) (gap : ℕ) (old other : Entries) {fs got : List Filling} → Sends methods top n ctx before fs → ComesThrough n gap fs got
      → gap ≤ n → slice_get (ctx ∷ before) gap ≡ Some old → ((path : Path) → bits_at old path ≡ bits_at other path) → Survives methods top other got
  through ctx before gap old other all_sent all_over within at same = all_survive
  through ctx before gap old other (sends {f = f} robust later) (comes on) within at same =
      survives (subst (λ c. FitsTop methods top c f) (λ i path. same path i) (robust.fits_each gap old within at))
      (through (next ctx f) (ctx ∷ before) 0 (next ctx f) (next other f) later on (omega arith) refl
      (repaired ctx other f (λ path none. robust.covers gap old within at path none ∙ same path)))
  through ctx before gap old other (sends {f = f} robust later) (is_lost fewer on) within at same =
      through (next ctx f) (ctx ∷ before) (suc gap) old other later on (omega (arith, fewer)) at same

pub loss_fits : LossFits
loss_fits methods top n ctx other same fs got s c = through methods top n ctx [] 0 ctx other s c (omega arith) refl same

pub loss_proof : LossProof
loss_proof methods top n det ctx other same fs got gs bits s c come read =
    (right_where_survives methods top det other got gs bits come read).1 (loss_fits methods top n ctx other same fs got s c)
