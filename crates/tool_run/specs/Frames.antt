-- What is printed for a line of frames (docs/FORMATS.md).
use Rattle.std.specs.Prelude.{◌≡◌, ℕ, ◌+◌, List, [], ◌∷◌, ◌++◌, map, codes, decimal, Option, Some, None, string_bytes}
use Rattle.std.specs.Borrow.{Bor}
use Rattle.hex.specs.Hex.{encode_lower}
use Rattle.sem_profile.specs.declared.profile.Method.{Method}
use Rattle.cert_accepted.specs.Accepted.{Accepting}
use Rattle.walk_read.specs.declared.fault.Blamed.{Blamed}
use Rattle.walk_robust.specs.declared.sender.RobustFault.{RobustFault}
use Rattle.walk_robust.specs.declared.sender.RobustFault.TheVariants as robust
use Rattle.walk_line.specs.Laws.{items_sent}
use Rattle.walk_line.specs.Runs.{event_of}
use Rattle.walk_line.specs.declared.runs.Event.{Event}
use Rattle.walk_frames.specs.Receiving.{Found}
use Rattle.walk_frames.specs.Sending.{new_senders}
use Rattle.walk_frames.specs.States as states
use Rattle.walk_frames.specs.Runs.{IsReceived, IsRun, IsStopped}
use Rattle.walk_frames.specs.declared.fault.FrameFault.{FrameFault}
use Rattle.walk_frames.specs.declared.fault.FrameFault.TheVariants as fault
use Rattle.walk_frames.specs.declared.given.Given.{Given}
use Rattle.walk_frames.specs.declared.given.Given.TheVariants as given
use Rattle.walk_frames.specs.declared.given.PacketRefusal.{PacketRefusal}
use Rattle.walk_frames.specs.declared.given.PacketRefusal.TheVariants as refusal
use Rattle.tool_report.specs.declared.profile_and_certificate.Origin.{Origin}
use Rattle.tool_input.specs.declared.bundle.Parts.{Parts}
use Rattle.tool_input.specs.declared.status.Answer.{Answer}
use Rattle.tool_input.specs.declared.status.Status.{Status}
use Rattle.tool_input.specs.declared.status.Status.TheVariants as status
use Rattle.tool_words.specs.declared.words.End.{End}
use Rattle.tool_words.specs.declared.words.End.TheVariants.{Sending, Receiving}
use Rattle.tool_words.specs.declared.words.Order.{Order}
use Rattle.tool_report.specs.Accepting.{AcceptsProfile, RefusesProfile, origin_of}
use Rattle.tool_names.specs.Names.{method_name}
use Rattle.tool_names.specs.CheckFaults.{format_words}
use Rattle.tool_input.specs.Octets.{AreOctets}
use Rattle.tool_input.specs.Inputs.{HasLines, IsBadLine}
use Rattle.tool_input.specs.ItemTexts.{IsItemText}
use Rattle.tool_input.specs.OneLine.{IsLine}
use Rattle.tool_run.specs.Events.{IsEvent}
use Rattle.tool_run.specs.Line.{AreItemLines, IsEventFault, bad_event_text, bad_hex_text, line_part, line_part_name}

-- ---- what is given

abbrev pub blamed_words : List Method → Blamed → List ℕ
blamed_words methods at = codes "refused U2 Refused " ++ method_name methods at.method ++ format_words methods at.method at.format

-- why a packet is refused
abbrev pub refusal_words : List Method → PacketRefusal → List ℕ
refusal_words methods refusal.Truncated = codes "refused U1 Truncated"
refusal_words methods (refusal.Refused at) = blamed_words methods at
refusal_words methods refusal.Padding = codes "refused padding"
refusal_words methods refusal.Length = codes "refused length"

-- the words of what is given: an item's text, or why it is refused
abbrev pub AreGivenWords : List Method → Given → List ℕ → Type 0
AreGivenWords methods (given.Item it) words = IsItemText it words
AreGivenWords methods (given.Refused why) words = words ≡ refusal_words methods why

-- a line for each of these: its flow, a blank and its words
abbrev pub AreGivenLines : List Method → Found → List ℕ → Type 0
AreGivenLines methods [] text = text ≡ []
AreGivenLines methods (x ∷ xs) text = (words : List ℕ) × (rest : List ℕ) × AreGivenWords methods x.1 words × AreGivenLines methods xs rest × (text ≡ decimal x.0 ++ codes " " ++ words ++ 10 ∷ rest)

-- ---- what is sent

-- the line of a refused event, by its number from 1
abbrev pub IsFrameFault : RobustFault → ℕ → List ℕ → Type 0
IsFrameFault (robust.Pack e) n text = IsEventFault e n text
IsFrameFault robust.NoReach n text = text ≡ codes "event " ++ decimal n ++ codes ": F5 NoReach"
IsFrameFault robust.Contexts n text = text ≡ codes "event " ++ decimal n ++ codes ": F6 Contexts"

-- What is printed for events that new senders send, of which so many frames of a flow in a row may be lost.
pub data PrintsSent (lost : ℕ) (a : Accepting) (events : List Event) : Status → List ℕ → Type 0 where
  -- the octets of their frames in hex, then the items that are sent, which a receiver gives that loses none
  all_sent : (octets items : List ℕ) → IsRun a lost (map event_of events) octets → AreItemLines (items_sent (map event_of events)) items
      → PrintsSent lost a events status.Done (encode_lower octets ++ 10 ∷ items)
  -- the line of the first event that is refused, which is one line
  one_refused : (n : ℕ) (e : RobustFault) (text : List ℕ) → IsStopped (record { accepted = a; senders = new_senders lost }) (map event_of events) n e → IsFrameFault e (n + 1) text → IsLine text
      → PrintsSent lost a events status.Refused (text ++ 10 ∷ [])

-- ---- what is received

-- the line of a fault
abbrev pub IsLineFault : FrameFault → List ℕ → Type 0
IsLineFault fault.FlowOctet text = text ≡ codes "line: L1 bad flow octet"
IsLineFault fault.Ended text = text ≡ codes "line: L4 ended inside a packet"
IsLineFault fault.OutOfMemory text = ⊥

-- What is printed for octets, received from a new line: what each packet gives, and then the line of the fault, if one comes.
pub data PrintsReceived (a : Accepting) (octets : List ℕ) : Status → List ℕ → Type 0 where
  all_received : (found : Found) (lines : List ℕ) → IsReceived a octets found None → AreGivenLines a.profile.methods found lines → PrintsReceived a octets status.Done lines
  up_to_fault : (found : Found) (lines : List ℕ) (e : FrameFault) (text : List ℕ) → IsReceived a octets found (Some e) → AreGivenLines a.profile.methods found lines → IsLineFault e text
      → PrintsReceived a octets status.Refused (lines ++ text ++ 10 ∷ [])

-- ---- by an accepted profile

-- What is answered at the sending end, by the octets of events.
pub data AnsweredEvents (lost : ℕ) (a : Accepting) (input : List ℕ) : Status → List ℕ → Type 0 where
  -- a line is no event
  bad_event : (n : ℕ) → IsBadLine IsEvent input n → AnsweredEvents lost a input status.Refused (bad_event_text n ++ 10 ∷ [])
  sent_events : {s : Status} {output : List ℕ} (events : List Event) → HasLines IsEvent input events → PrintsSent lost a events s output → AnsweredEvents lost a input s output

-- What is answered at the receiving end, by the octets of hex digits.
pub data AnsweredHex (a : Accepting) (input : List ℕ) : Status → List ℕ → Type 0 where
  -- they are no octets
  bad_hex : ((octets : List ℕ) → AreOctets input octets → ⊥) → AnsweredHex a input status.Refused (bad_hex_text ++ 10 ∷ [])
  received_octets : {s : Status} {output : List ℕ} (octets : List ℕ) → AreOctets input octets → PrintsReceived a octets s output → AnsweredHex a input s output

abbrev pub AnsweredEnd : End → ℕ → Accepting → List ℕ → Status → List ℕ → Type 0
AnsweredEnd Sending lost a input s output = AnsweredEvents lost a input s output
AnsweredEnd Receiving lost a input s output = AnsweredHex a input s output

-- ---- by the octets of a profile

-- What is answered at an end, by the octets of a profile, by where its certificate comes from, and by the octets of the end's part.
pub data FramedBy (end : End) (lost : ℕ) (top profile : List ℕ) (origin : Origin) (input : List ℕ) : Status → List ℕ → Type 0 where
  -- something is wrong with the profile or its certificate
  not_accepted : (text : List ℕ) → RefusesProfile top profile origin text → FramedBy end lost top profile origin input status.Refused (text ++ 10 ∷ [])
  -- by the profile that the octets stand for, with a certificate that is valid for it
  with_profile : {s : Status} {output : List ℕ} (a : Accepting) → AcceptsProfile top profile origin a → AnsweredEnd end lost a input s output → FramedBy end lost top profile origin input s output

-- What is answered to `line --frames`, by the octets of a profile and the parts.
pub data Framed (end : End) (lost : ℕ) (order : Order) (profile : List ℕ) (parts : Parts) : Status → List ℕ → Type 0 where
  no_part : line_part end parts ≡ None → Framed end lost order profile parts status.Refused ((codes "bundle: I4 bad part " ++ line_part_name end) ++ 10 ∷ [])
  by_part : {s : Status} {output : List ℕ} (input : Bor (List ℕ)) → line_part end parts ≡ Some input → FramedBy end lost order.top.now profile (origin_of order.version parts.certificate) input.now s output → Framed end lost order profile parts s output

-- ---- the steps

abbrev pub AnswersFrames : End → ℕ → Order → List ℕ → Parts → Answer → Type 0
AnswersFrames end lost order profile parts answer = Framed end lost order profile parts answer.status (string_bytes answer.output)

abbrev pub AnswersEnd : End → ℕ → Accepting → List ℕ → Answer → Type 0
AnswersEnd end lost a input answer = AnsweredEnd end lost a input answer.status (string_bytes answer.output)

abbrev pub AnswersSent : ℕ → Accepting → List Event → Answer → Type 0
AnswersSent lost a events answer = PrintsSent lost a events answer.status (string_bytes answer.output)

abbrev pub AnswersReceived : Accepting → List ℕ → Answer → Type 0
AnswersReceived a octets answer = PrintsReceived a octets answer.status (string_bytes answer.output)

-- one line more
pub record IsGivenPushed (methods : List Method) (flow : ℕ) (g : Given) (before after : List ℕ) : Type 0 where
  pub words : List ℕ
  pub spelled : AreGivenWords methods g words
  pub after_is : after ≡ before ++ decimal flow ++ codes " " ++ words ++ 10 ∷ []

-- a line more for each
pub record IsPushed (methods : List Method) (found : Found) (before after : List ℕ) : Type 0 where
  pub lines : List ℕ
  pub spelled : AreGivenLines methods found lines
  pub after_is : after ≡ before ++ lines

-- what was received of octets on a new line, and a line more for each packet
pub record IsHeardOut (a : Accepting) (octets before after : List ℕ) (e : Option FrameFault) : Type 0 where
  pub found : Found
  pub received : IsReceived a octets found e
  pub pushed : IsPushed a.profile.methods found before after

-- a piece was heard, and a line more for each packet; or so up to a fault, which is not out of memory
abbrev pub HearsPiece : List Method → states.Receiver → states.Receiver → List ℕ → List ℕ → List ℕ → Option FrameFault → Type 0
HearsPiece methods old new piece before after None = (found : Found) × IsPushed methods found before after × states.Hears old new piece found
HearsPiece methods old new piece before after (Some e) = (found : Found) × IsPushed methods found before after × states.Fails old new piece found e × (e ≡ fault.OutOfMemory → ⊥)

-- these lines, and that of the fault
pub record IsRefusedBy (lines : List ℕ) (e : FrameFault) (answer : Answer) : Type 0 where
  pub status_is : answer.status ≡ status.Refused
  pub line : List ℕ
  pub spelled : IsLineFault e line
  pub output_is : string_bytes answer.output ≡ lines ++ line ++ 10 ∷ []
