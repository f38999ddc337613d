-- A profile and its certificate: what is accepted, and the line of what is wrong with them (docs/FORMATS.md).
use Rattle.std.specs.Prelude.{◌≡◌, ℕ, ◌≤◌, List, length, Option, Some, None, codes, string_bytes}
use Rattle.std.specs.Borrow.{Bor}
use Rattle.std.specs.Str.{IsUtf8}
use Rattle.sem_bits.specs.Lines.{numbered_lines, broken_line}
use Rattle.text_resolve.specs.Passes.{Reads}
use Rattle.sem_profile.specs.Resolved.{Resolved}
use Rattle.cert_text.specs.declared.reader.CertificateError.{CertificateError}
use Rattle.cert_types.specs.declared.certificate.Version.{Version}
use Rattle.cert_types.specs.Kept.{Certified, AreKept}
use Rattle.cert_text.specs.Faults.{IsReading, Blames, text_limit}
use Rattle.cert_rules.specs.declared.fault.CheckFault.{CheckFault}
use Rattle.cert_rules.specs.Valid.{Valid}
use Rattle.cert_check.specs.Right.{AreEntriesRight}
use Rattle.cert_check.specs.Blaming.{IsFirstFault}
use Rattle.cert_accepted.specs.Accepted.{Accepting}
use Rattle.cert_prove.specs.Proved.{IsProved, IsUnproved}
use Rattle.cert_prove.specs.declared.unproved.Unproved.{Unproved}
use Rattle.tool_report.specs.declared.profile_and_certificate.Found.{Found}
use Rattle.tool_report.specs.declared.profile_and_certificate.Found.TheVariants as found
use Rattle.tool_report.specs.declared.profile_and_certificate.Judged.{Judged}
use Rattle.tool_report.specs.declared.profile_and_certificate.Judged.TheVariants as judged
use Rattle.tool_report.specs.declared.profile_and_certificate.Origin.{Origin}
use Rattle.tool_report.specs.declared.profile_and_certificate.Origin.TheVariants.{Given, Made}
use Rattle.tool_input.specs.OneLine.{IsLine}
use Rattle.tool_report.specs.ProfileLines.{IsFaultLine}
use Rattle.tool_report.specs.Prove.{IsUnprovedLine}
use Rattle.tool_names.specs.CheckFaults.{IsErrorLine, line_of_certificate, verdict_line}

-- where a certificate comes from: the part, or the prover, which makes one of that version
abbrev pub origin_of : Version → Option (Bor (List ℕ)) → Origin
origin_of version (Some octets) = Given octets
origin_of version None = Made version

-- The certificate of a profile, within the limits of certificates: octets that are given, no more than a text may have, are read, and where none are given one of the version is made.
pub data IsCertificate (p : Resolved) (origin : Origin) (cert : Certified) : Type 0 where
  read : (octets : Bor (List ℕ)) → origin ≡ Given octets → IsUtf8 octets.now → length octets.now ≤ text_limit → IsReading p.methods (numbered_lines octets.now) cert → AreKept cert → IsCertificate p origin cert
  made : (version : Version) → origin ≡ Made version → IsProved version p cert → AreKept cert → IsCertificate p origin cert

-- the line of octets that are no UTF-8
abbrev pub broken_text : List ℕ → List ℕ
broken_text octets = line_of_certificate (broken_line octets) (codes "K1 bad word")

-- The line of why there is none.
pub data LacksCertificate (p : Resolved) (origin : Origin) (text : List ℕ) : Type 0 where
  -- the octets are no UTF-8
  broken : (octets : Bor (List ℕ)) → origin ≡ Given octets → (IsUtf8 octets.now → ⊥) → text ≡ broken_text octets.now → LacksCertificate p origin text
  -- they are no certificate of the profile
  unread : (octets : Bor (List ℕ)) (e : CertificateError) → origin ≡ Given octets → IsUtf8 octets.now → Blames p.methods e octets.now → IsErrorLine e text → LacksCertificate p origin text
  -- none of the version is made
  unmade : (version : Version) (why : Unproved) → origin ≡ Made version → IsUnproved version p why → IsUnprovedLine p.methods why text → LacksCertificate p origin text

-- The line of what is wrong with the certificate of a profile.
pub data RefusesCertificate (p : Resolved) (origin : Origin) (text : List ℕ) : Type 0 where
  lacking : LacksCertificate p origin text → RefusesCertificate p origin text
  -- it is not valid, and this is its first fault
  invalid : (cert : Certified) (fault : CheckFault) → IsCertificate p origin cert → IsFirstFault p.methods p.sizes p.top cert fault → text ≡ verdict_line p.methods fault → RefusesCertificate p origin text

-- a profile with its certificate, which is valid for it
pub record IsAcceptedOf (p : Resolved) (origin : Origin) (a : Accepting) : Type 0 where
  pub profile_is : a.profile ≡ p
  pub certificate_is : IsCertificate p origin a.certificate
  pub valid : Valid p.methods p.sizes p.top a.certificate

-- ---- by the octets of a profile

-- The line of the first fault of a profile or of its certificate. It is one line.
pub data RefusesProfile (top profile : List ℕ) (origin : Origin) (text : List ℕ) : Type 0 where
  -- the octets have no normal form
  at_fault : IsFaultLine top profile text → RefusesProfile top profile origin text
  -- something is wrong with the certificate of their normal form
  unaccepted : (p : Resolved) → Reads profile top p → RefusesCertificate p origin text → IsLine text → RefusesProfile top profile origin text

-- the normal form of the octets, with a certificate that is valid for it
pub record AcceptsProfile (top profile : List ℕ) (origin : Origin) (a : Accepting) : Type 0 where
  pub p : Resolved
  pub reads : Reads profile top p
  pub accepted : IsAcceptedOf p origin a

-- ---- the steps

abbrev pub IsFound : Resolved → Origin → Found → Type 0
IsFound p origin (found.Certificate cert) = IsCertificate p origin cert
IsFound p origin (found.Proved cert) = IsCertificate p origin cert × AreEntriesRight p.methods p.sizes cert
IsFound p origin (found.Line text) = LacksCertificate p origin (string_bytes text) × IsLine (string_bytes text)

-- what is found of octets that are given, and where one is to be made
abbrev pub IsGiven : Resolved → List ℕ → Found → Type 0
IsGiven p octets f = (given : Bor (List ℕ)) → given.now ≡ octets → IsFound p (Given given) f

abbrev pub IsMade : Resolved → Version → Found → Type 0
IsMade p version = IsFound p (Made version)

-- what is found of a profile with this certificate
abbrev pub IsVerdict : Resolved → Certified → Judged → Type 0
IsVerdict p cert (judged.Accepted a) = (a.profile ≡ p) × (a.certificate ≡ cert) × Valid p.methods p.sizes p.top cert
IsVerdict p cert (judged.Refused text) = (fault : CheckFault) × IsFirstFault p.methods p.sizes p.top cert fault × (string_bytes text ≡ verdict_line p.methods fault) × IsLine (string_bytes text)

abbrev pub IsJudged : Resolved → Origin → Judged → Type 0
IsJudged p origin (judged.Accepted a) = IsAcceptedOf p origin a
IsJudged p origin (judged.Refused text) = RefusesCertificate p origin (string_bytes text) × IsLine (string_bytes text)

abbrev pub JudgesOctets : List ℕ → List ℕ → Origin → Judged → Type 0
JudgesOctets top profile origin (judged.Accepted a) = AcceptsProfile top profile origin a
JudgesOctets top profile origin (judged.Refused text) = RefusesProfile top profile origin (string_bytes text)
