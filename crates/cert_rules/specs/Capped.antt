-- Numbers of candidates up to a cap: they may be astronomically large (docs/DEFINITIONS.md, Certificates).
use Rattle.std.specs.Prelude.{◌≡◌, ℕ, ◌-◌, ◌<◌, ◌≤◌, ◌^◌, min, List, length, map, slice_get, Some}
use Rattle.sem_profile.specs.declared.profile.Method.{Method}
use Rattle.cert_types.specs.Kept.{Entries, candidate_limit}
use Rattle.cert_rules.specs.Counts.{entry_ways, entry_at, AreCounts}

-- the number, or the greatest number of 64 bits where it is above that
abbrev pub capped : ℕ → ℕ
capped n = min n (2 ^ 64 - 1)

-- the numbers are the certificate's counts, up to the cap
pub record AreCapped (methods : List Method) (cert : Entries) (found : List ℕ) : Type 0 where
  pub counts : List ℕ
  pub are_counts : AreCounts methods cert counts
  pub each : found ≡ map capped counts

-- the same of the methods that stand before the place in the order
pub record CappedBefore (methods : List Method) (cert : Entries) (order : List ℕ) (place : ℕ) (found : List ℕ) : Type 0 where
  pub counts : List ℕ
  pub count : length counts ≡ length methods
  pub each : found ≡ map capped counts
  pub right : (i k n : ℕ) (m : Method) → i < place → slice_get order i ≡ Some k → slice_get methods k ≡ Some m → slice_get counts k ≡ Some n → n ≡ entry_ways counts m.formats (entry_at cert k)

-- Numbers up to the cap tell whether the top has too many candidates.
abbrev pub CappedTells : Type 0
CappedTells = (methods : List Method) (cert : Entries) (found : List ℕ) (are : AreCapped methods cert found) (top k n : ℕ) → slice_get found top ≡ Some k → slice_get are.counts top ≡ Some n → (k ≤ candidate_limit → n ≤ candidate_limit) × (candidate_limit < k → candidate_limit < n)

-- There is a number for each method.
abbrev pub EachIsCounted : Type 0
EachIsCounted = (methods : List Method) (cert : Entries) (found : List ℕ) → AreCapped methods cert found → length found ≡ length methods
