-- The verdicts on the formats of a method, one after the other.
pub use Rattle.sem_reasons.specs.Looks.{IsLook}
use Rattle.std.specs.Prelude.{◌≡◌, ℕ, List, ◌++◌}
use Rattle.sem_reasons.specs.Settings.{Setting}
use Rattle.sem_reasons.specs.Reasons.{IsVerdict, Verdicts}
use Rattle.sem_filling.specs.declared.reason.Line.{Line}

-- whatever is told from this format on, it and what was told so far are told of all
abbrev pub SoFar : Setting → ℕ → List Line → Type 0
SoFar s n lines = (more : List Line) → Verdicts s n more → Verdicts s 0 (lines ++ more)

-- the verdict on this format is added
abbrev pub AddsVerdict : Setting → ℕ → List Line → List Line → Type 0
AddsVerdict s n old new = (more : List Line) × IsVerdict s n more × (new ≡ old ++ more)
