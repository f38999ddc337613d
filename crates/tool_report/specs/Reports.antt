-- What is answered to `show`, `check` and `prove` (docs/FORMATS.md).
use Rattle.std.specs.Prelude.{ℕ, ◌+◌, List, [], ◌∷◌, ◌++◌, codes}
use Rattle.sem_profile.specs.Resolved.{Resolved}
use Rattle.text_resolve.specs.Passes.{Reads}
use Rattle.text_listing.specs.Shown as listing
use Rattle.cert_accepted.specs.Accepted.{Accepting}
use Rattle.cert_types.specs.declared.certificate.Version.{Version}
use Rattle.tool_report.specs.declared.profile_and_certificate.Origin.{Origin}
use Rattle.tool_input.specs.declared.status.Answer.{Answer}
use Rattle.tool_input.specs.declared.status.Status.{Status}
use Rattle.tool_input.specs.declared.status.Status.TheVariants as status
use Rattle.tool_report.specs.Accepting.{AcceptsProfile, RefusesProfile}
use Rattle.tool_report.specs.ProfileLines.{IsFaultLine}
use Rattle.tool_report.specs.Prove.{ProvedBy}
use Rattle.tool_input.specs.Refusals.{Holds}

-- ---- by the octets of a profile

-- What is answered to `show`.
pub data ShownBy (top octets : List ℕ) : Status → List ℕ → Type 0 where
  -- the profile is at fault
  no_listing : (text : List ℕ) → IsFaultLine top octets text → ShownBy top octets status.Refused (text ++ 10 ∷ [])
  -- the methods, bounds and constraints of the normal form
  listed : (p : Resolved) → Reads octets top p → ShownBy top octets status.Done (listing.shown octets p.methods p.sizes)

-- What is answered to `check`, by the octets of a profile, and by where its certificate comes from.
pub data CheckedOctets (top profile : List ℕ) (origin : Origin) : Status → List ℕ → Type 0 where
  -- something is wrong with one of them
  refused : (text : List ℕ) → RefusesProfile top profile origin text → CheckedOctets top profile origin status.Refused (text ++ 10 ∷ [])
  -- the certificate is valid for the profile that the octets stand for
  accepted : (a : Accepting) → AcceptsProfile top profile origin a → CheckedOctets top profile origin status.Done (codes "accepted" ++ 10 ∷ [])

-- What is answered to `prove` for that version.
pub data ProvedOctets (version : Version) (top octets : List ℕ) : Status → List ℕ → Type 0 where
  -- the profile is at fault
  none_proved : (text : List ℕ) → IsFaultLine top octets text → ProvedOctets version top octets status.Refused (text ++ 10 ∷ [])
  -- by the profile that the octets stand for
  proved_by : {s : Status} {output : List ℕ} (p : Resolved) → Reads octets top p → ProvedBy version p s output → ProvedOctets version top octets s output

-- ---- the steps

abbrev pub ChecksOctets : List ℕ → List ℕ → Origin → Answer → Type 0
ChecksOctets top profile origin = Holds (CheckedOctets top profile origin)

abbrev pub ProvesOctets : Version → List ℕ → List ℕ → Answer → Type 0
ProvesOctets version top octets = Holds (ProvedOctets version top octets)

abbrev pub Shows : List ℕ → List ℕ → Answer → Type 0
Shows top octets = Holds (ShownBy top octets)
