-- What is held after a reset.
use Rattle.std.proofs.Common.{◌≡◌, ◌∙◌, refl, sym, ap, subst, ℕ, suc, ◌+◌, ◌<◌, ◌≤◌, List, [], ◌∷◌, ◌++◌, length, arith}
use Rattle.std.specs.Prelude.{Some, slice_get}
use Rattle.sem_context.specs.Entries.{Entries}
use Rattle.sem_elsewhere.specs.Held.{Holding, IsHeld}
use Rattle.walk_robust.specs.Sending.{Sending, held, stayed}
use Rattle.walk_robust.specs.Answers.{IsEmptied, emptied, pair_limit}
use Rattle.walk_robust.specs.Laws.{ResetsAreHeld}
use Rattle.walk_robust.proofs.Staying.{stays_there}

pub resets_are_held : ResetsAreHeld
resets_are_held s = record {
  came = record { place = 0; one = record { gap = 0; context = [] }; at = refl; gap_is = refl; same = λ path. refl };
  lost = λ i h at under.
      let r = stays_there s.lost (held s) i h at under in
      record { place = suc r.0; one = record { gap = suc h.gap; context = h.context }; at = r.1; gap_is = refl; same = λ path. refl };
}

-- the code's own terms
pub emptied_is : (s new : Sending) (empty : Entries) (came : List Holding) (kept : ℕ) → empty ≡ [] → came ≡ [] → kept ≡ length (stayed s.lost (held s)) → (pair_limit < 1 + (0 + kept) → ⊥) →
    new ≡ record { own = empty; others = came ++ stayed s.lost (held s); lost = s.lost } → IsEmptied s new
emptied_is s new empty came kept none nothing kept_is few is =
    let new_is : new ≡ emptied s = is ∙ ap (λ own. record { own = own; others = came ++ stayed s.lost (held s); lost = s.lost }) none
    ∙ ap (λ xs. record { own = []; others = xs ++ stayed s.lost (held s); lost = s.lost }) nothing in
    record { new_is = new_is; few = subst (λ (z : Sending). length (held z) ≤ pair_limit) (sym new_is) (omega (arith, few, kept_is)) }
