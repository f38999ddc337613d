-- The lines of what is wrong with a certificate (docs/FORMATS.md).
use Rattle.std.specs.Prelude.{◌≡◌, ℕ, List, [], ◌++◌, Option, None, Some, codes, decimal}
use Rattle.sem_profile.specs.declared.profile.Method.{Method}
use Rattle.cert_types.specs.declared.certificate.Direction.{Direction}
use Rattle.cert_types.specs.declared.certificate.Direction.TheVariants.{Read, Write}
use Rattle.cert_text.specs.declared.reader.CertificateError.{CertificateError}
use Rattle.cert_text.specs.declared.reader.CertificateError.TheVariants.{BadWord, UnknownName, AboveLimits, OutOfMemory}
use Rattle.cert_text.specs.Text.{side_word}
use Rattle.tool_names.specs.Names.{method_name, format_name, field_name, names}
use Rattle.cert_rules.specs.declared.fault.CheckFault.{CheckFault}
use Rattle.cert_rules.specs.declared.fault.CheckFault.TheVariants.{NoMethod, NoFormat, NotEnabled, NeverLearnt, WrongLeaf, ShortFormat, OutOfRange, BeyondWord, TooMany, TooLong}

-- the format after a point, where there is one
abbrev pub format_words : List Method → ℕ → Option ℕ → List ℕ
format_words methods k None = []
format_words methods k (Some n) = codes "." ++ format_name methods k n

-- the plan of a direction
abbrev pub direction_word : Direction → List ℕ
direction_word Read = codes "read"
direction_word Write = codes "write"

-- a node of a method's tree
abbrev pub node_words : List Method → ℕ → ℕ → List ℕ
node_words methods k node = method_name methods k ++ codes " node " ++ decimal node

-- the fault: its code, then where it is
abbrev pub verdict_line : List Method → CheckFault → List ℕ
verdict_line methods (NoMethod k) = codes "check: V1 " ++ method_name methods k
verdict_line methods (NoFormat k n) = codes "check: V1 " ++ names methods k n
verdict_line methods (NotEnabled k n direction step) = codes "check: V2 " ++ names methods k n ++ codes " " ++ direction_word direction ++ codes " step " ++ decimal step
verdict_line methods (NeverLearnt k n direction i side) = codes "check: V3 " ++ names methods k n ++ codes " " ++ direction_word direction ++ codes " " ++ field_name methods k n i ++ codes " " ++ side_word side
verdict_line methods (WrongLeaf k node n) = codes "check: V4 " ++ node_words methods k node ++ codes " " ++ format_name methods k n
verdict_line methods (ShortFormat k node n) = codes "check: V5 " ++ node_words methods k node ++ codes " " ++ format_name methods k n
verdict_line methods TooMany = codes "check: V6 candidates"
verdict_line methods (OutOfRange k node) = codes "check: V7 " ++ node_words methods k node
verdict_line methods TooLong = codes "check: V8 length"
verdict_line methods (BeyondWord k node) = codes "check: V9 " ++ node_words methods k node

-- ---- the text of a certificate

-- a fault of the text, at its line
abbrev pub line_of_certificate : ℕ → List ℕ → List ℕ
line_of_certificate n words = codes "certificate:" ++ decimal n ++ codes ": " ++ words

-- the line of what is wrong with it
abbrev pub IsErrorLine : CertificateError → List ℕ → Type 0
IsErrorLine (BadWord n) text = text ≡ line_of_certificate n (codes "K1 bad word")
IsErrorLine (UnknownName n) text = text ≡ line_of_certificate n (codes "K2 unknown name")
IsErrorLine (AboveLimits n) text = text ≡ line_of_certificate n (codes "K3 above limits")
IsErrorLine OutOfMemory text = ⊥
