-- What is packed for all contexts that a receiver may hold is read right.
use Rattle.std.proofs.Common.{◌≡◌, ◌∙◌, refl, sym, ap, subst, ℕ, suc, ◌<◌, List}
use Rattle.sem_context.specs.Entries.{Entries, bits_at}
use Rattle.sem_profile.specs.declared.profile.Method.{Method}
use Rattle.sem_filling.specs.declared.filling.Filling.{Filling}
use Rattle.sem_filling.specs.Entries.{Path, next}
use Rattle.sem_filling.specs.Fronts.{FitsTop}
use Rattle.sem_elsewhere.specs.Runs.{Survives, all_survive, survives}
use Rattle.sem_elsewhere.specs.Robust.{ComesThrough, all_over, comes, is_lost}
use Rattle.sem_elsewhere.specs.Held.{Holding, IsHeld, SendsHeld, no_more, sends_held, LossProofHeld}
use Rattle.sem_elsewhere.proofs.Agreeing.{repaired}
use Rattle.sem_elsewhere.proofs.Running.{right_where_survives}

-- one that is held is held of what is the same map
pub held_as : (held : List Holding) (gap gap' : ℕ) (ctx other : Entries) → IsHeld held gap ctx → gap ≡ gap' → ((path : Path) → bits_at ctx path ≡ bits_at other path) → IsHeld held gap' other
held_as held gap gap' ctx other h e same = record { place = h.place; one = h.one; at = h.at; gap_is = h.gap_is ∙ e; same = λ path. h.same path ∙ same path }

module _ (methods : List Method) (top n : ℕ) where
  through : (held : List Holding) (gap : ℕ) (other : Entries) {fs got : List Filling} → SendsHeld methods top n held fs → ComesThrough n gap fs got → IsHeld held gap other → Survives methods top other got
  through held gap other no_more all_over h = all_survive
  through held gap other (sends_held {f = f} after each on later) (comes got_on) h =
      survives (subst (λ c. FitsTop methods top c f) (λ i path. h.same path i) (each h.place h.one h.at))
      (through after 0 (next other f) later got_on (held_as after 0 0 (next h.one.context f) (next other f) (on.came h.place h.one h.at) refl (repaired h.one.context other f (λ path none. h.same path))))
  through held gap other (sends_held {f = f} after each on later) (is_lost fewer got_on) h =
      through after (suc gap) other later got_on
      (held_as after (suc h.one.gap) (suc gap) h.one.context other (on.lost h.place h.one h.at (subst (λ g. g < n) (sym h.gap_is) fewer)) (ap suc h.gap_is) h.same)

pub loss_proof_held : LossProofHeld
loss_proof_held methods top n det held other h fs got gs bits s c come read = (right_where_survives methods top det other got gs bits come read).1 (through methods top n held 0 other s c h)
