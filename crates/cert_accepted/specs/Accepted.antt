-- What is accepted (docs/DEFINITIONS.md, Certificates): a profile with a certificate that is valid for it.
use Rattle.std.specs.Prelude.{ℕ, ℤ, List}
use Rattle.sem_filling.specs.Entries.{Path}
use Rattle.sem_filling.specs.Fronts.{Det, DetAt}
use Rattle.sem_profile.specs.Resolved.{Resolved}
use Rattle.cert_types.specs.Kept.{Certified}
use Rattle.cert_rules.specs.Valid.{Valid}
use Rattle.cert_rules.specs.Capped.{AreCapped}
use Rattle.cert_rules.specs.Spans.{AreSpans}

-- a profile and a certificate, and for each method the number of its candidates, and those of its formats, as far as 64 bits go
pub record Accepting : Type 0 where
  pub profile : Resolved
  pub certificate : Certified
  pub counts : List ℕ
  pub spans : List (List ℕ)

-- the certificate is valid for the profile, and the numbers are those of its candidates
pub record IsAccepted (a : Accepting) : Type 0 where
  pub valid : Valid a.profile.methods a.profile.sizes a.profile.top a.certificate
  pub counted : AreCapped a.profile.methods a.certificate.methods a.counts
  pub spanned : AreSpans a.profile.methods a.certificate.methods a.counts a.spans

-- In every context and for all bits at most one filling has its packed bits at their front: of the top, and of each method under arguments and at a path.
pub record IsDeterminate (a : Accepting) : Type 0 where
  pub top : Det a.profile.methods a.profile.top
  pub each : (k : ℕ) (args : List ℤ) (path : Path) → DetAt a.profile.methods k args path
