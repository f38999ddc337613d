-- What is printed for a line of flows (docs/FORMATS.md).
use Rattle.std.specs.Prelude.{◌≡◌, ℕ, ◌+◌, Bool, if◌then◌else◌, List, [], ◌∷◌, ◌++◌, map, codes, decimal, Option, Some, None, string_bytes}
use Rattle.std.specs.Borrow.{Bor}
use Rattle.hex.specs.Hex.{encode_lower}
use Rattle.sem_filling.specs.declared.filling.Item.{Item}
use Rattle.cert_accepted.specs.Accepted.{Accepting}
use Rattle.walk_engine.specs.declared.writer.PackFault.{PackFault}
use Rattle.walk_engine.specs.declared.writer.PackFault.TheVariants.{HeaderLength, Asked, NoFormat, Flow}
use Rattle.walk_engine.specs.declared.writer.PackFault.TheVariants as writer
use Rattle.walk_line.specs.Lines.{no_entries}
use Rattle.walk_line.specs.Hearing.{Found}
use Rattle.walk_line.specs.States as states
use Rattle.walk_line.specs.Runs.{IsReceived, IsRun, IsStopped, event_of}
use Rattle.walk_line.specs.declared.fault.LineFault.{LineFault}
use Rattle.walk_line.specs.declared.flow.LineVersion.{LineVersion}
use Rattle.walk_line.specs.declared.flow.LineVersion.TheVariants.{One, Two}
use Rattle.walk_line.specs.declared.fault.LineFault.TheVariants.{FlowOctet, RefusedPacket, Padding, Ended}
use Rattle.walk_line.specs.declared.fault.LineFault.TheVariants as fault
use Rattle.walk_line.specs.declared.runs.Event.{Event}
use Rattle.tool_report.specs.declared.profile_and_certificate.Origin.{Origin}
use Rattle.tool_input.specs.declared.bundle.Parts.{Parts}
use Rattle.tool_input.specs.declared.status.Answer.{Answer}
use Rattle.tool_input.specs.declared.status.Status.{Status}
use Rattle.tool_input.specs.declared.status.Status.TheVariants as status
use Rattle.tool_words.specs.declared.words.End.{End}
use Rattle.tool_words.specs.declared.words.End.TheVariants.{Sending, Receiving}
use Rattle.tool_words.specs.declared.words.Order.{Order}
use Rattle.tool_report.specs.Accepting.{AcceptsProfile, RefusesProfile, origin_of}
use Rattle.tool_input.specs.Octets.{AreOctets}
use Rattle.tool_run.specs.Events.{IsEvent}
use Rattle.tool_input.specs.Inputs.{HasLines, IsBadLine}
use Rattle.tool_input.specs.ItemTexts.{IsItemText}
use Rattle.tool_input.specs.OneLine.{IsLine}

-- a line for each item: its flow, a blank and its text
abbrev pub AreItemLines : Found → List ℕ → Type 0
AreItemLines [] text = text ≡ []
AreItemLines (x ∷ xs) text = (words : List ℕ) × (rest : List ℕ) × IsItemText x.1 words × AreItemLines xs rest × (text ≡ decimal x.0 ++ codes " " ++ words ++ 10 ∷ rest)

-- ---- what is sent

-- the line of a refused event, by its number from 1
abbrev pub IsEventFault : PackFault → ℕ → List ℕ → Type 0
IsEventFault HeaderLength n text = text ≡ codes "event " ++ decimal n ++ codes ": F1 HeaderLength"
IsEventFault (Asked name) n text = text ≡ codes "event " ++ decimal n ++ codes ": F2 Asked " ++ name
IsEventFault NoFormat n text = text ≡ codes "event " ++ decimal n ++ codes ": F3 NoFormat"
IsEventFault Flow n text = text ≡ codes "event " ++ decimal n ++ codes ": F4 Flow"
IsEventFault writer.OutOfMemory n text = ⊥

-- What is printed for events, sent on a new line of a version.
pub data PrintsSent (version : LineVersion) (a : Accepting) (events : List Event) : Status → List ℕ → Type 0 where
  -- their octets in hex, then the items that a receiver gives, which are those that are sent
  all_sent : (octets : List ℕ) (found : Found) (items : List ℕ) → IsRun a version (map event_of events) octets found → AreItemLines found items
      → PrintsSent version a events status.Done (encode_lower octets ++ 10 ∷ items)
  -- the line of the first event that is refused, which is one line
  one_refused : (n : ℕ) (e : PackFault) (text : List ℕ) → IsStopped a (no_entries version) (map event_of events) n e → IsEventFault e (n + 1) text → IsLine text
      → PrintsSent version a events status.Refused (text ++ 10 ∷ [])

-- ---- what is received

-- the line of a fault
abbrev pub IsLineFault : LineFault → List ℕ → Type 0
IsLineFault FlowOctet text = text ≡ codes "line: L1 bad flow octet"
IsLineFault RefusedPacket text = text ≡ codes "line: L2 refused packet"
IsLineFault Padding text = text ≡ codes "line: L3 padding not zero"
IsLineFault Ended text = text ≡ codes "line: L4 ended inside a packet"
IsLineFault fault.OutOfMemory text = ⊥

-- What is printed for octets, received from a new line of a version: the items, and then the line of the fault, if one comes.
pub data PrintsReceived (version : LineVersion) (a : Accepting) (octets : List ℕ) : Status → List ℕ → Type 0 where
  all_received : (found : Found) (items : List ℕ) → IsReceived a version octets found None → AreItemLines found items → PrintsReceived version a octets status.Done items
  up_to_fault : (found : Found) (items : List ℕ) (e : LineFault) (text : List ℕ) → IsReceived a version octets found (Some e) → AreItemLines found items → IsLineFault e text
      → PrintsReceived version a octets status.Refused (items ++ text ++ 10 ∷ [])

-- ---- by an accepted profile

-- the version of a line: the second, where the wide line is asked for
abbrev pub line_version : Bool → LineVersion
line_version wide = if wide then Two else One

-- the part that an end reads, and its name
abbrev pub line_part : End → Parts → Option (Bor (List ℕ))
line_part Sending parts = parts.events
line_part Receiving parts = parts.octets

abbrev pub line_part_name : End → List ℕ
line_part_name Sending = codes "events"
line_part_name Receiving = codes "octets"

abbrev pub bad_event_text : ℕ → List ℕ
bad_event_text n = codes "events:" ++ decimal n ++ codes ": I3 bad event"

abbrev pub bad_hex_text : List ℕ
bad_hex_text = codes "octets: I5 bad hex"

-- What is answered at the sending end, by the octets of events.
pub data AnsweredEvents (version : LineVersion) (a : Accepting) (input : List ℕ) : Status → List ℕ → Type 0 where
  -- a line is no event
  bad_event : (n : ℕ) → IsBadLine IsEvent input n → AnsweredEvents version a input status.Refused (bad_event_text n ++ 10 ∷ [])
  sent_events : {s : Status} {output : List ℕ} (events : List Event) → HasLines IsEvent input events → PrintsSent version a events s output → AnsweredEvents version a input s output

-- What is answered at the receiving end, by the octets of hex digits.
pub data AnsweredHex (version : LineVersion) (a : Accepting) (input : List ℕ) : Status → List ℕ → Type 0 where
  -- they are no octets
  bad_hex : ((octets : List ℕ) → AreOctets input octets → ⊥) → AnsweredHex version a input status.Refused (bad_hex_text ++ 10 ∷ [])
  received_octets : {s : Status} {output : List ℕ} (octets : List ℕ) → AreOctets input octets → PrintsReceived version a octets s output → AnsweredHex version a input s output

abbrev pub AnsweredEnd : End → LineVersion → Accepting → List ℕ → Status → List ℕ → Type 0
AnsweredEnd Sending version a input s output = AnsweredEvents version a input s output
AnsweredEnd Receiving version a input s output = AnsweredHex version a input s output

-- ---- by the octets of a profile

-- What is answered at an end of a line of a version, by the octets of a profile, by where its certificate comes from, and by the octets of the end's part.
pub data LinedBy (end : End) (version : LineVersion) (top profile : List ℕ) (origin : Origin) (input : List ℕ) : Status → List ℕ → Type 0 where
  -- something is wrong with the profile or its certificate
  not_accepted : (text : List ℕ) → RefusesProfile top profile origin text → LinedBy end version top profile origin input status.Refused (text ++ 10 ∷ [])
  -- by the profile that the octets stand for, with a certificate that is valid for it
  with_profile : {s : Status} {output : List ℕ} (a : Accepting) → AcceptsProfile top profile origin a → AnsweredEnd end version a input s output → LinedBy end version top profile origin input s output

-- What is answered to `line`, by the octets of a profile and the parts.
pub data Lined (end : End) (order : Order) (profile : List ℕ) (parts : Parts) : Status → List ℕ → Type 0 where
  no_part : line_part end parts ≡ None → Lined end order profile parts status.Refused ((codes "bundle: I4 bad part " ++ line_part_name end) ++ 10 ∷ [])
  by_part : {s : Status} {output : List ℕ} (input : Bor (List ℕ)) → line_part end parts ≡ Some input → LinedBy end (line_version order.is_wide) order.top.now profile (origin_of order.version parts.certificate) input.now s output → Lined end order profile parts s output

-- ---- the steps

abbrev pub AnswersLine : End → Order → List ℕ → Parts → Answer → Type 0
AnswersLine end order profile parts answer = Lined end order profile parts answer.status (string_bytes answer.output)

abbrev pub AnswersEnd : End → LineVersion → Accepting → List ℕ → Answer → Type 0
AnswersEnd end version a input answer = AnsweredEnd end version a input answer.status (string_bytes answer.output)

abbrev pub AnswersSent : LineVersion → Accepting → List Event → Answer → Type 0
AnswersSent version a events answer = PrintsSent version a events answer.status (string_bytes answer.output)

-- one item's line more
pub record IsItemPushed (flow : ℕ) (it : Item) (before after : List ℕ) : Type 0 where
  pub words : List ℕ
  pub spelled : IsItemText it words
  pub after_is : after ≡ before ++ decimal flow ++ codes " " ++ words ++ 10 ∷ []

-- a line more for each item
pub record IsPushed (found : Found) (before after : List ℕ) : Type 0 where
  pub lines : List ℕ
  pub spelled : AreItemLines found lines
  pub after_is : after ≡ before ++ lines

-- what was received of octets on a new line, and a line more for each of its items
pub record IsHeardOut (version : LineVersion) (a : Accepting) (octets before after : List ℕ) (fault : Option LineFault) : Type 0 where
  pub found : Found
  pub received : IsReceived a version octets found fault
  pub pushed : IsPushed found before after

-- a piece was heard, and a line more for each of its items; or so up to a fault, which is not out of memory
abbrev pub HearsPiece : states.Receiving → states.Receiving → List ℕ → List ℕ → List ℕ → Option LineFault → Type 0
HearsPiece old new piece before after None = (found : Found) × IsPushed found before after × states.Hears old new piece found
HearsPiece old new piece before after (Some e) = (found : Found) × IsPushed found before after × states.Fails old new piece found e × (e ≡ fault.OutOfMemory → ⊥)

-- octets in hex, and a line for each item
pub record IsSentPrinted (octets : List ℕ) (found : Found) (answer : Answer) : Type 0 where
  pub status_is : answer.status ≡ status.Done
  pub pushed : IsPushed found (encode_lower octets ++ 10 ∷ []) (string_bytes answer.output)

-- these lines, and that of the fault
pub record IsRefusedBy (lines : List ℕ) (e : LineFault) (answer : Answer) : Type 0 where
  pub status_is : answer.status ≡ status.Refused
  pub line : List ℕ
  pub spelled : IsLineFault e line
  pub output_is : string_bytes answer.output ≡ lines ++ line ++ 10 ∷ []

abbrev pub AnswersReceived : LineVersion → Accepting → List ℕ → Answer → Type 0
AnswersReceived version a octets answer = PrintsReceived version a octets answer.status (string_bytes answer.output)
