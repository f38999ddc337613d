-- What `prove --explain` and `check --explain` print (docs/FORMATS.md).
use Rattle.std.specs.Prelude.{ℕ, List, [], ◌++◌}
use Rattle.cert_types.specs.declared.certificate.Version.{Version}
use Rattle.tool_input.specs.declared.status.Answer.{Answer}
use Rattle.tool_input.specs.declared.status.Status.{Status}
use Rattle.tool_input.specs.declared.status.Status.TheVariants as status
use Rattle.tool_input.specs.Refusals.{Holds}
use Rattle.tool_report.specs.declared.profile_and_certificate.Origin.{Origin}
use Rattle.tool_report.specs.Reports.{CheckedOctets, ProvedOctets}

-- lines that stand below a refusal alone
abbrev pub more_of : Status → List ℕ → List ℕ
more_of status.Refused notes = notes
more_of _ notes = []

-- What is answered with the option, where this is what is answered without it: the same status, and the same text; below that of a refusal some lines more.
pub data Explained (Plain : Status → List ℕ → Type 0) : Status → List ℕ → Type 0 where
  explained : {s : Status} {output : List ℕ} (notes : List ℕ) → Plain s output → Explained Plain s (output ++ more_of s notes)

abbrev pub ExplainsProve : Version → List ℕ → List ℕ → Answer → Type 0
ExplainsProve version top octets = Holds (Explained (ProvedOctets version top octets))

abbrev pub ExplainsCheck : List ℕ → List ℕ → Origin → Answer → Type 0
ExplainsCheck top octets origin = Holds (Explained (CheckedOctets top octets origin))
