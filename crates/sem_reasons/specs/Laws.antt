-- What lines of reasons say.
use Rattle.std.specs.Prelude.{ℕ, List}
use Rattle.sem_profile.specs.Resolved.{IsSound}
use Rattle.sem_reasons.specs.Settings.{Setting, IsOut}
use Rattle.sem_reasons.specs.Reasons.{Tells}
use Rattle.sem_filling.specs.declared.reason.Line.{Line}

-- what lines tell of a format is so: no filling of it is asked for
abbrev pub ReasonsAreTrue : Type 0
ReasonsAreTrue = (s : Setting) → IsSound s.profile → (depth n : ℕ) (lines : List Line) → Tells s depth n lines → IsOut s n
