-- What is told of a format before a level of it is read or written.
use Rattle.std.specs.Prelude.{◌≡◌, ℕ, List, Some}
use Rattle.sem_profile.specs.declared.profile.Format.{Format}
use Rattle.sem_profile.specs.declared.profile.Method.{Method}
use Rattle.sem_filling.specs.Fits.{format_at}
use Rattle.sem_pages.specs.Prepared.{IsPrepared}
use Rattle.cert_accepted.specs.Accepted.{Accepting}
use Rattle.walk_pages.specs.declared.draft.Told.{Told}
use Rattle.walk_pages.specs.declared.picks.FormatPlan.{FormatPlan}
use Rattle.walk_pages.specs.declared.writing.Start.{Start}

-- what is prepared is of the format of the method k, both by their indices, of what is accepted
abbrev pub IsToldOf : Accepting → ℕ → ℕ → Told → Type 0
IsToldOf a k n t = (format : Format) → format_at a.profile.methods k n ≡ Some format → IsPrepared format t.prepared.now

-- the format is that of the method k of these, and what is told is of it in what is accepted
pub record IsFormatPlan (a : Accepting) (methods : List Method) (k : ℕ) (p : FormatPlan) : Type 0 where
  pub format_is : format_at methods k p.index ≡ Some p.format.now
  pub told : IsToldOf a k p.index p.told

pub record IsStart (a : Accepting) (methods : List Method) (k : ℕ) (s : Start) : Type 0 where
  pub format_is : format_at methods k s.index ≡ Some s.format.now
  pub told : IsToldOf a k s.index s.told
