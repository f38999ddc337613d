-- The numbers of candidates format by format (docs/DEFINITIONS.md, Candidates).
use Rattle.std.specs.Prelude.{◌≡◌, ℕ, ◌≤◌, List, [], ◌∷◌, map, slice_get, Option, Some, None}
use Rattle.sem_profile.specs.declared.profile.Format.{Format}
use Rattle.sem_profile.specs.declared.profile.Method.{Method}
use Rattle.sem_profile.specs.Passes.{indexed}
use Rattle.cert_types.specs.declared.certificate.FormatPlans.{FormatPlans}
use Rattle.cert_types.specs.declared.certificate.MethodPlans.{MethodPlans}
use Rattle.cert_types.specs.Kept.{Entries, candidate_limit}
use Rattle.cert_rules.specs.Counts.{format_ways, entry_at}
use Rattle.cert_rules.specs.Capped.{capped}

-- none of the numbers is above the limit of candidates
abbrev pub AreFew : List ℕ → Type 0
AreFew counts = (k n : ℕ) → slice_get counts k ≡ Some n → n ≤ candidate_limit

-- the numbers of candidates of formats, each by its write plan
abbrev pub spans_of : List ℕ → List Format → List FormatPlans → List ℕ
spans_of counts [] entries = []
spans_of counts (format ∷ formats) [] = []
spans_of counts (format ∷ formats) (entry ∷ entries) = format_ways counts format entry.plans ∷ spans_of counts formats entries

-- those of a method's formats, by its entry
abbrev pub entry_spans : List ℕ → List Format → Option MethodPlans → List ℕ
entry_spans counts formats None = []
entry_spans counts formats (Some entry) = spans_of counts formats entry.formats

-- those of each method
abbrev pub method_spans : List ℕ → List Method → Entries → List (List ℕ)
method_spans counts methods cert = indexed (λ k m. entry_spans counts m.formats (entry_at cert k)) 0 methods

-- The table has them up to the cap, where the numbers of the methods are told up to it.
abbrev pub AreSpans : List Method → Entries → List ℕ → List (List ℕ) → Type 0
AreSpans methods cert told table = (counts : List ℕ) → told ≡ map capped counts → table ≡ map (map capped) (method_spans counts methods cert)
