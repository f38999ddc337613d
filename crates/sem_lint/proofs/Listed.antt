-- Dead formats, listed one after the other.
use Rattle.std.proofs.Common.{◌≡◌, sym, subst, ℕ, ◌+◌, ◌<◌, ◌≤◌, List, [], ◌∷◌, ◌++◌, length, append_assoc}
use Rattle.std.specs.Prelude.{Some, slice_get}
use Rattle.std.proofs.lemmas.List.{append-nil}
use Rattle.sem_profile.specs.declared.profile.Method.{Method}
use Rattle.sem_profile.specs.Resolved.{Resolved}
use Rattle.sem_filling.specs.declared.obstacle.DeadFormat.{DeadFormat}
use Rattle.sem_filling.specs.declared.obstacle.Obstacle.{Obstacle}
use Rattle.sem_lint.specs.Obstacles.{Hinders}
use Rattle.sem_lint.specs.Listing.{AreDead, ends as dead_ends, next_method as dead_next, finds as dead_finds, passes as dead_passes, SoFar, IsNoted, added as noted_added, unchanged as noted_unchanged}

module _ (p : Resolved) (k : ℕ) (m : Method) (at : slice_get p.methods k ≡ Some m) where
  -- one more format
  pub next_format : (n : ℕ) (old new : List DeadFormat) → n < length m.formats → IsNoted p k n old new → SoFar p k n old → SoFar p k (n + 1) new
  next_format n old new lt (noted_added o hinders) so = λ more are.
      let x : DeadFormat = record { method = k; format = n; obstacle = o } in
      subst (λ xs. AreDead p 0 0 xs) (sym (append_assoc old (x ∷ []) more)) (so (x ∷ more) (dead_finds m o at lt hinders are))
  next_format n old new lt (noted_unchanged none) so = λ more are. so more (dead_passes m at lt none are)

  -- no more in this method
  pub next_method : (n : ℕ) (found : List DeadFormat) → length m.formats ≤ n → SoFar p k n found → SoFar p (k + 1) 0 found
  next_method n found le so = λ more are. so more (dead_next m at le are)

pub all_listed : (p : Resolved) (k : ℕ) (found : List DeadFormat) → length p.methods ≤ k → SoFar p k 0 found → AreDead p 0 0 found
all_listed p k found le so = subst (λ xs. AreDead p 0 0 xs) (append-nil found) (so [] (dead_ends le))

pub start : (p : Resolved) → SoFar p 0 0 []
start p = λ more are. are

-- what was pushed
pub pushed : (p : Resolved) (k n : ℕ) (old new : List DeadFormat) (o : Obstacle) → new ≡ old ++ record { method = k; format = n; obstacle = o } ∷ [] → Hinders p k n o → IsNoted p k n old new
pushed p k n old new o is hinders = subst (λ xs. IsNoted p k n old xs) (sym is) (noted_added o hinders)
