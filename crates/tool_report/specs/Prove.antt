-- What is answered to `prove` (docs/FORMATS.md).
use Rattle.std.specs.Prelude.{◌≡◌, ℕ, List, [], ◌∷◌, ◌++◌, codes, flat_map, string_bytes}
use Rattle.sem_profile.specs.declared.profile.Method.{Method}
use Rattle.cert_types.specs.declared.certificate.Direction.{Direction}
use Rattle.cert_types.specs.declared.certificate.Version.{Version}
use Rattle.cert_types.specs.Kept.{Certified, AreKept}
use Rattle.cert_text.specs.Text.{certificate_text, side_word}
use Rattle.sem_profile.specs.Resolved.{Resolved}
use Rattle.cert_prove.specs.declared.fault.FieldSide.{FieldSide}
use Rattle.cert_prove.specs.Proved.{IsProved, IsUnproved}
use Rattle.cert_prove.specs.declared.unproved.Unproved.{Unproved}
use Rattle.cert_prove.specs.declared.unproved.Unproved.TheVariants.{NoPlan, NoTree, Limit, OutOfMemory}
use Rattle.tool_input.specs.declared.status.Answer.{Answer}
use Rattle.tool_input.specs.declared.status.Status.{Status}
use Rattle.tool_input.specs.declared.status.Status.TheVariants as status
use Rattle.tool_input.specs.OneLine.{IsLine}
use Rattle.tool_names.specs.Names.{names, method_name, format_name, field_name}
use Rattle.tool_names.specs.CheckFaults.{direction_word}

-- a side of a field of a format, after a blank
abbrev pub side_words : List Method → ℕ → ℕ → FieldSide → List ℕ
side_words methods k n side = codes " " ++ field_name methods k n side.field ++ codes " " ++ side_word side.side

-- those that no plan of a format learns
abbrev pub plan_line : List Method → ℕ → ℕ → Direction → List FieldSide → List ℕ
plan_line methods k n direction sides = codes "prove: P1 NoPlan " ++ names methods k n ++ codes " " ++ direction_word direction ++ flat_map (side_words methods k n) sides

-- two formats that no tree parts
abbrev pub tree_line : List Method → ℕ → ℕ → ℕ → List ℕ
tree_line methods k first second = codes "prove: P2 NoTree " ++ method_name methods k ++ codes " " ++ format_name methods k first ++ codes " " ++ format_name methods k second

-- the line of why there is no certificate
abbrev pub IsUnprovedLine : List Method → Unproved → List ℕ → Type 0
IsUnprovedLine methods (NoPlan k n direction sides) text = text ≡ plan_line methods k n direction sides
IsUnprovedLine methods (NoTree k first second) text = text ≡ tree_line methods k first second
IsUnprovedLine methods Limit text = text ≡ codes "prove: P3 Limit"
IsUnprovedLine methods OutOfMemory text = ⊥

-- What is answered to `prove` for that version, by the profile.
pub data ProvedBy (version : Version) (p : Resolved) : Status → List ℕ → Type 0 where
  -- no certificate is made, and one line says why
  unproved : (why : Unproved) (text : List ℕ) → IsUnproved version p why → IsUnprovedLine p.methods why text → IsLine text → ProvedBy version p status.Refused (text ++ 10 ∷ [])
  -- the text of the one that is, which is within the limits of certificates
  printed : (cert : Certified) → IsProved version p cert → AreKept cert → ProvedBy version p status.Done (certificate_text cert)

abbrev pub Proves : Version → Resolved → Answer → Type 0
Proves version p a = ProvedBy version p a.status (string_bytes a.output)
