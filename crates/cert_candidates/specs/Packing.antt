-- What a search through the numbers of candidates has found so far (docs/DEFINITIONS.md, Candidates).
use Rattle.std.specs.Prelude.{◌≡◌, ℕ, ◌+◌, ◌≤◌, ◌<◌, List}
use Rattle.sem_profile.specs.declared.profile.Method.{Method}
use Rattle.sem_filling.specs.declared.filling.Filling.{Filling}
use Rattle.sem_filling.specs.declared.filling.Item.{Item}
use Rattle.sem_filling.specs.Fillings.{item}
use Rattle.sem_filling.specs.Fits.{Context}
use Rattle.sem_filling.specs.Fronts.{FitsTop}
use Rattle.cert_types.specs.Kept.{Entries}
use Rattle.cert_candidates.specs.Codes.{number}

-- what fits and has the item has no number below c
abbrev pub NoneBelow : List Method → Entries → List ℕ → ℕ → Context → Item → ℕ → Type 0
NoneBelow methods cert counts top ctx it c = (g : Filling) → FitsTop methods top ctx g → item g ≡ it → c ≤ number methods cert counts g top

-- nor one of the next numbers from c on
abbrev pub NoneAmong : List Method → Entries → List ℕ → ℕ → Context → Item → ℕ → ℕ → Type 0
NoneAmong methods cert counts top ctx it c skipped =
    (g : Filling) → FitsTop methods top ctx g → item g ≡ it → c ≤ number methods cert counts g top → number methods cert counts g top < c + skipped → ⊥
