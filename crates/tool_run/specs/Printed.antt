-- What is printed for a profile with a context and items or packets, and what is answered to an order (docs/FORMATS.md).
use Rattle.std.specs.Prelude.{◌≡◌, ℕ, ◌+◌, ◌*◌, Bool, true, false, not, ◌&&◌, ◌||◌, if◌then◌else◌, nat_lt, List, [], ◌∷◌, ◌++◌, length, map, ◌==◌, codes, decimal, Option, Some, None, string_bytes}
use Rattle.std.specs.Borrow.{Bor}
use Rattle.sem_bits.specs.Text.{IsText}
use Rattle.sem_context.specs.Entries.{Entries, bits_at}
use Rattle.sem_context.specs.Text.{IsContextText}
use Rattle.sem_profile.specs.declared.profile.Method.{Method}
use Rattle.sem_filling.specs.declared.filling.Filling.{Filling, out-Filling}
use Rattle.sem_filling.specs.declared.filling.Item.{Item}
use Rattle.sem_filling.specs.Fillings.{packed, item}
use Rattle.sem_filling.specs.Entries.{next}
use Rattle.tool_items.specs.declared.counts.Tally.{Tally}
use Rattle.tool_items.specs.declared.sums.Sums.{Sums, out-Sums}
use Rattle.tool_items.specs.Counts.{tally}
use Rattle.tool_items.specs.Adding.{Adds}
use Rattle.tool_items.specs.Sums.{AreSums}
use Rattle.cert_candidates.specs.Best.{Best}
use Rattle.walk_read.specs.declared.fault.Blamed.{Blamed}
use Rattle.cert_accepted.specs.Accepted.{Accepting}
use Rattle.walk_engine.specs.Reading as reading
use Rattle.walk_engine.specs.Writing as writing
use Rattle.walk_engine.specs.declared.reader.UnpackFault.{UnpackFault}
use Rattle.walk_engine.specs.declared.reader.UnpackFault.TheVariants.{Truncated, Refused, OutOfMemory}
use Rattle.walk_engine.specs.declared.search.Packed.{Packed}
use Rattle.walk_engine.specs.declared.writer.PackFault.{PackFault}
use Rattle.walk_loss.specs.declared.unserved.Lack.{Lack}
use Rattle.walk_robust.specs.declared.sender.RobustFault.{RobustFault}
use Rattle.walk_robust.specs.declared.sender.RobustFault.TheVariants.{NoReach, Contexts}
use Rattle.walk_engine.specs.declared.writer.PackFault.TheVariants as writer
use Rattle.tool_input.specs.declared.bundle.Parts.{Parts}
use Rattle.tool_input.specs.declared.status.Answer.{Answer}
use Rattle.tool_input.specs.declared.status.Status.{Status}
use Rattle.tool_input.specs.declared.status.Status.TheVariants as status
use Rattle.tool_words.specs.declared.words.Command.{Command}
use Rattle.tool_words.specs.declared.words.Command.TheVariants as command
use Rattle.tool_words.specs.declared.words.Command.TheVariants.{Show, Lint, Draw, Check, Prove, ExplainCheck, ExplainProve, Run, Fields}
use Rattle.tool_words.specs.declared.words.Counting.{Counting}
use Rattle.tool_words.specs.declared.words.Direction.{Direction}
use Rattle.tool_words.specs.declared.words.Direction.TheVariants.{Pack, Unpack}
use Rattle.tool_words.specs.declared.words.End.{End}
use Rattle.tool_words.specs.declared.words.End.TheVariants.{Sending, Receiving}
use Rattle.tool_words.specs.declared.words.Form.{Form}
use Rattle.tool_words.specs.declared.words.Form.TheVariants as form
use Rattle.tool_words.specs.declared.words.Order.{Order}
use Rattle.tool_report.specs.Accepting.{AcceptsProfile, RefusesProfile, origin_of}
use Rattle.tool_input.specs.Inputs.{HasLines, IsBadContext, IsBadLine, IsBits, IsItem, StartsAt}
use Rattle.tool_input.specs.OneLine.{IsLine}
use Rattle.tool_input.specs.ItemTexts.{IsItemText}
use Rattle.tool_run.specs.Asked.{asked_words}
use Rattle.tool_run.specs.Line.{Lined}
use Rattle.tool_run.specs.Frames.{Framed}
use Rattle.tool_run.specs.declared.packets.Shape.{Shape}
use Rattle.tool_run.specs.declared.packets.Shape.TheVariants.{Line, Tree, Why}
use Rattle.sem_expr.specs.declared.expr.Side.TheVariants.{Compressed}
use Rattle.sem_reasons.specs.Reasons.{Verdicts}
use Rattle.sem_reasons.specs.Settings.{Setting}
use Rattle.sem_filling.specs.declared.reason.Line as reasons
use Rattle.tool_items.specs.Fields.{fields_text, head_text}
use Rattle.tool_loss.specs.Reach.{lacks_text}
use Rattle.tool_items.specs.Why.{reasons_text}
use Rattle.tool_items.specs.Stats.{stats_text}
use Rattle.tool_items.specs.FieldObjects.{fields_object}
use Rattle.tool_json.specs.Lines.{as_objects}
use Rattle.tool_items.specs.StatsObjects.{item_line, stats_objects}
use Rattle.tool_run.specs.declared.stats.Survey.{Survey}
use Rattle.tool_run.specs.declared.stats.Statistics.{Statistics}
use Rattle.tool_run.specs.declared.stats.Survey.TheVariants as survey
use Rattle.tool_run.specs.Loss.{LossBy}
use Rattle.tool_run.specs.Senders.{AreLacks, Blames, IsSenderFault, RefusesSent, Sends, own_of, surviving}
use Rattle.tool_run.specs.declared.sender.Sender.{Sender}
use Rattle.tool_run.specs.declared.sender.Sender.TheVariants.{Plain}
pub use Rattle.tool_run.specs.Refused.{IsItemFault, RefusesItem}
pub use Rattle.tool_run.specs.Avoidance.{AvoidedBy, item_setting}
use Rattle.tool_run.specs.Advise.{AdvisedBy}
use Rattle.tool_names.specs.Names.{format_name, method_name}
use Rattle.tool_names.specs.CheckFaults.{format_words}
use Rattle.tool_report.specs.Explained.{Explained}
use Rattle.tool_report.specs.Surveys.{DrawnBy, DrawnObjects}
use Rattle.tool_report.specs.Surveys.{LintedBy}
use Rattle.tool_report.specs.Reports.{ShownBy, CheckedOctets, ProvedOctets}
use Rattle.tool_input.specs.Refusals.{Holds, context_line}

-- ---- the line of an item or a packet

-- an item, and how many bits its packet took
abbrev pub IsTaken : Item → ℕ → List ℕ → Type 0
IsTaken it count text = (front : List ℕ) × IsItemText it front × (text ≡ front ++ codes " took " ++ decimal count)

-- for an item: the packed bits of the best filling that fits in the context and has the item
pub record IsItemLine (a : Accepting) (ctx : Entries) (it : Item) (f : Filling) (text : List ℕ) : Type 0 where
  pub best : Best a.profile.methods a.certificate.methods a.profile.top (bits_at ctx) it f
  pub spelled : IsText text (packed f)

-- for a packet: the item of a filling that fits in the context and whose packed bits are at its front, and how many these are
pub record IsPacketLine (a : Accepting) (ctx : Entries) (packet : List Bool) (f : Filling) (text : List ℕ) : Type 0 where
  pub fits : reading.Fronts a ctx packet f
  pub taken : IsTaken (item f) (length (packed f)) text

-- ---- the fields of an item or a packet

-- the fields of a filling of the top: in a line each after the head line, of what it is, its number and how many bits the packet has; or in one object
abbrev pub tree_text : Form → Accepting → List ℕ → ℕ → ℕ → Filling → List ℕ
tree_text form.Text a what n bits f = fields_text a.profile.methods a.profile.top what n bits f
tree_text form.Json a what n bits f = fields_object a.profile.methods a.profile.top what n bits f

-- for the item of that number: the fields of the best filling that fits in the context and has the item
pub record IsItemTree (form : Form) (a : Accepting) (ctx : Entries) (n : ℕ) (it : Item) (f : Filling) (text : List ℕ) : Type 0 where
  pub best : Best a.profile.methods a.certificate.methods a.profile.top (bits_at ctx) it f
  pub listed : text ≡ tree_text form a (codes "item") n (length (packed f)) f

-- for the packet of that number: the fields of a filling that fits in the context and whose packed bits are at its front
pub record IsPacketTree (form : Form) (a : Accepting) (ctx : Entries) (n : ℕ) (packet : List Bool) (f : Filling) (text : List ℕ) : Type 0 where
  pub fits : reading.Fronts a ctx packet f
  pub listed : text ≡ tree_text form a (codes "packet") n (length (packed f)) f

-- ---- the head line of an item or a packet

-- what it is, its number, the format of the filling and how many bits the packet has
abbrev pub head_of : Accepting → List ℕ → ℕ → ℕ → Filling → List ℕ
head_of a what n bits f = head_text what n (format_name a.profile.methods a.profile.top (out-Filling f).format) bits

-- for the item of that number, of the best filling that fits in the context and has the item
pub record IsItemHead (a : Accepting) (ctx : Entries) (n : ℕ) (it : Item) (f : Filling) (text : List ℕ) : Type 0 where
  pub best : Best a.profile.methods a.certificate.methods a.profile.top (bits_at ctx) it f
  pub said : text ≡ head_of a (codes "item") n (length (packed f)) f

-- for the packet of that number, of a filling that fits in the context and whose packed bits are at its front
pub record IsPacketHead (a : Accepting) (ctx : Entries) (n : ℕ) (packet : List Bool) (f : Filling) (text : List ℕ) : Type 0 where
  pub fits : reading.Fronts a ctx packet f
  pub said : text ≡ head_of a (codes "packet") n (length (packed f)) f

-- what is said of the item or the packet of a number by its filling: a line, the fields, or the head line
abbrev pub SaysItem : Shape → Accepting → Entries → ℕ → Item → Filling → List ℕ → Type 0
SaysItem Line a ctx n it f text = IsItemLine a ctx it f text
SaysItem (Tree form) a ctx n it f text = IsItemTree form a ctx n it f text
SaysItem (Why profile) a ctx n it f text = IsItemHead a ctx n it f text

abbrev pub SaysPacket : Shape → Accepting → Entries → ℕ → List Bool → Filling → List ℕ → Type 0
SaysPacket Line a ctx n packet f text = IsPacketLine a ctx packet f text
SaysPacket (Tree form) a ctx n packet f text = IsPacketTree form a ctx n packet f text
SaysPacket (Why profile) a ctx n packet f text = IsPacketHead a ctx n packet f text

-- ---- the line of a refusal

-- a refused packet, by its number from 1; the refusal names the method at work, and its format
abbrev pub refused_packet : List Method → ℕ → Blamed → List ℕ
refused_packet methods n at = codes "packet " ++ decimal n ++ codes ": U2 Refused " ++ method_name methods at.method ++ format_words methods at.method at.format

abbrev pub IsPacketFault : UnpackFault → List Method → ℕ → List ℕ → Type 0
IsPacketFault Truncated methods n text = text ≡ codes "packet " ++ decimal n ++ codes ": U1 Truncated"
IsPacketFault (Refused at) methods n text = text ≡ refused_packet methods n at
IsPacketFault OutOfMemory methods n text = ⊥

-- a fault that is there, with its line, which is one
abbrev pub RefusesPacket : Accepting → Entries → ℕ → List Bool → List ℕ → Type 0
RefusesPacket a ctx n packet text = (e : UnpackFault) × reading.Blames e a ctx packet × IsPacketFault e a.profile.methods n text × IsLine text

-- ---- why an item or a packet is refused

-- the fillings of the top whose packed bits are at the front of the packet
abbrev pub packet_setting : Accepting → Entries → List Bool → Setting
packet_setting a ctx packet = record { profile = a.profile; context = ctx; method = a.profile.top; parameters = []; path = []; side = Compressed; bits = packet; is_whole = false; asked = [] }

-- a line for each reason that stands against a format, by the text of the profile, after a line feed
abbrev pub ReasonsFollow : List ℕ → Accepting → Entries → Item → List ℕ → Type 0
ReasonsFollow profile a ctx it more = (lines : List reasons.Line) × Verdicts (item_setting a ctx it) 0 lines × (more ≡ reasons_text profile a.profile it.asked lines)

-- what follows the line of an item's fault: what is wrong with the asked values, if it blames them, else the reasons
abbrev pub Follows : PackFault → List ℕ → Accepting → Entries → Item → List ℕ → Type 0
Follows writer.HeaderLength profile a ctx it more = ReasonsFollow profile a ctx it more
Follows (writer.Asked name) profile a ctx it more = more ≡ codes "\n" ++ asked_words a.profile.asked it.asked name
Follows writer.NoFormat profile a ctx it more = ReasonsFollow profile a ctx it more
Follows writer.Flow profile a ctx it more = ReasonsFollow profile a ctx it more
Follows writer.OutOfMemory profile a ctx it more = ReasonsFollow profile a ctx it more

-- the line of a fault that is there, and then what follows it
pub record ExplainsItem (profile : List ℕ) (a : Accepting) (ctx : Entries) (n : ℕ) (it : Item) (text : List ℕ) : Type 0 where
  pub fault : PackFault
  pub blames : writing.Blames fault a ctx it
  pub plain : List ℕ
  pub plain_is : IsItemFault fault n plain
  pub one_line : IsLine plain
  pub more : List ℕ
  pub follows : Follows fault profile a ctx it more
  pub text_is : text ≡ plain ++ more

-- the line of a fault that is there, and then a line for each reason
pub record ExplainsPacket (profile : List ℕ) (a : Accepting) (ctx : Entries) (n : ℕ) (packet : List Bool) (text : List ℕ) : Type 0 where
  pub fault : UnpackFault
  pub blames : reading.Blames fault a ctx packet
  pub plain : List ℕ
  pub plain_is : IsPacketFault fault a.profile.methods n plain
  pub one_line : IsLine plain
  pub lines : List reasons.Line
  pub reasons_are : Verdicts (packet_setting a ctx packet) 0 lines
  pub text_is : text ≡ plain ++ reasons_text profile a.profile [] lines

-- what is said of one that is refused: the line of its fault; for `why` the reasons, too
abbrev pub FaultsItem : Shape → Accepting → Entries → ℕ → Item → List ℕ → Type 0
FaultsItem Line a ctx n it text = RefusesItem a ctx n it text
FaultsItem (Tree form) a ctx n it text = RefusesItem a ctx n it text
FaultsItem (Why profile) a ctx n it text = ExplainsItem profile.now a ctx n it text

abbrev pub FaultsPacket : Shape → Accepting → Entries → ℕ → List Bool → List ℕ → Type 0
FaultsPacket Line a ctx n packet text = RefusesPacket a ctx n packet text
FaultsPacket (Tree form) a ctx n packet text = RefusesPacket a ctx n packet text
FaultsPacket (Why profile) a ctx n packet text = ExplainsPacket profile.now a ctx n packet text

-- the status after one that is refused: to say why is an answer
abbrev pub stop_of : Shape → Status
stop_of Line = status.Refused
stop_of (Tree form) = status.Refused
stop_of (Why profile) = status.Done

-- ---- line by line

-- what follows the last line: the context, where it is wanted
abbrev pub IsEnd : Bool → Entries → List ℕ → Type 0
IsEnd false ctx text = text ≡ []
IsEnd true ctx text = (rest : List ℕ) × IsContextText ctx rest × (text ≡ codes "=== context\n" ++ rest)

-- What is printed for inputs, counted from n, in a context. Each has a text, which is that of a filling whose entries go over the context; the first that is
-- refused has that of its fault, which is the last and leaves that status.
pub data Prints {X : Type 0} (says : Entries → ℕ → X → Filling → List ℕ → Type 0) (faults : Entries → ℕ → X → List ℕ → Type 0) (stop : Status) (shows : Bool) : Entries → ℕ → List X → Status → List ℕ → Type 0 where
  done : {ctx : Entries} {n : ℕ} {text : List ℕ} → IsEnd shows ctx text → Prints says faults stop shows ctx n [] status.Done text
  line : {ctx : Entries} {n : ℕ} {x : X} {xs : List X} {s : Status} (f : Filling) (text rest : List ℕ) → says ctx n x f text → Prints says faults stop shows (next ctx f) (n + 1) xs s rest
      → Prints says faults stop shows ctx n (x ∷ xs) s (text ++ 10 ∷ rest)
  fault : {ctx : Entries} {n : ℕ} {x : X} {xs : List X} (text : List ℕ) → faults ctx n x text → Prints says faults stop shows ctx n (x ∷ xs) stop (text ++ 10 ∷ [])

abbrev pub PrintsItems : Shape → Accepting → Bool → Entries → ℕ → List Item → Status → List ℕ → Type 0
PrintsItems shape a shows = Prints (SaysItem shape a) (FaultsItem shape a) (stop_of shape) shows

abbrev pub PrintsPackets : Shape → Accepting → Bool → Entries → ℕ → List (List Bool) → Status → List ℕ → Type 0
PrintsPackets shape a shows = Prints (SaysPacket shape a) (FaultsPacket shape a) (stop_of shape) shows

-- ---- by an accepted profile

-- the part that is read in a direction, with its name and with what a bad line of it is called
abbrev pub input_of : Direction → Parts → Option (Bor (List ℕ))
input_of Pack parts = parts.items
input_of Unpack parts = parts.packets

abbrev pub input_name : Direction → List ℕ
input_name Pack = codes "items"
input_name Unpack = codes "packets"

abbrev pub bad_line_words : Direction → List ℕ
bad_line_words Pack = codes ": I1 bad item"
bad_line_words Unpack = codes ": I2 bad packet"

abbrev pub bad_line_text : Direction → ℕ → List ℕ
bad_line_text direction n = input_name direction ++ codes ":" ++ decimal n ++ bad_line_words direction

abbrev pub IsBadInput : Direction → List ℕ → ℕ → Type 0
IsBadInput Pack octets n = IsBadLine IsItem octets n
IsBadInput Unpack octets n = IsBadLine IsBits octets n

-- the octets are those of items or packets, for which this is printed
abbrev pub PrintsInput : Direction → Shape → Bool → Accepting → Entries → List ℕ → Status → List ℕ → Type 0
PrintsInput Pack shape shows a ctx octets s output = (items : List Item) × HasLines IsItem octets items × PrintsItems shape a shows ctx 1 items s output
PrintsInput Unpack shape shows a ctx octets s output = (packets : List (List Bool)) × HasLines IsBits octets packets × PrintsPackets shape a shows ctx 1 packets s output

-- What is answered in a direction, from a context on.
pub data AnsweredIn (direction : Direction) (shape : Shape) (shows : Bool) (a : Accepting) (ctx : Entries) (input : List ℕ) : Status → List ℕ → Type 0 where
  -- a line can't be read
  bad_line : (n : ℕ) → IsBadInput direction input n → AnsweredIn direction shape shows a ctx input status.Refused (bad_line_text direction n ++ 10 ∷ [])
  -- a line for each item or packet
  answered : {s : Status} {output : List ℕ} → PrintsInput direction shape shows a ctx input s output → AnsweredIn direction shape shows a ctx input s output

-- What is answered in a direction, by the part of the context and the octets of items or packets.
pub data AnsweredFor (direction : Direction) (shape : Shape) (shows : Bool) (a : Accepting) (context : Option (Bor (List ℕ))) (input : List ℕ) : Status → List ℕ → Type 0 where
  -- a line of the context can't be read
  bad_context : (octets : Bor (List ℕ)) (n : ℕ) → context ≡ Some octets → IsBadContext octets.now n → AnsweredFor direction shape shows a context input status.Refused (context_line n ++ 10 ∷ [])
  -- from the context on
  from_context : {s : Status} {output : List ℕ} (ctx : Entries) → StartsAt context ctx → AnsweredIn direction shape shows a ctx input s output → AnsweredFor direction shape shows a context input s output

-- ---- by the octets of a profile

-- What is answered in a direction, by the octets of a profile, of its certificate and of a context, if there are such, and of items or packets.
pub data AnsweredBy (direction : Direction) (shape : Shape) (order : Order) (profile : List ℕ) (parts : Parts) (input : List ℕ) : Status → List ℕ → Type 0 where
  -- something is wrong with the profile or its certificate
  unaccepted : (text : List ℕ) → RefusesProfile order.top.now profile (origin_of order.version parts.certificate) text → AnsweredBy direction shape order profile parts input status.Refused (text ++ 10 ∷ [])
  -- by the profile that the octets stand for, with a certificate that is valid for it
  by_profile : {s : Status} {output : List ℕ} (a : Accepting) → AcceptsProfile order.top.now profile (origin_of order.version parts.certificate) a → AnsweredFor direction shape order.shows_context a parts.context input s output → AnsweredBy direction shape order profile parts input s output

-- What is answered in a direction, by the octets of a profile and the parts.
pub data AnsweredRun (direction : Direction) (shape : Shape) (order : Order) (profile : List ℕ) (parts : Parts) : Status → List ℕ → Type 0 where
  no_input : input_of direction parts ≡ None → AnsweredRun direction shape order profile parts status.Refused ((codes "bundle: I4 bad part " ++ input_name direction) ++ 10 ∷ [])
  both : {s : Status} {output : List ℕ} (input : Bor (List ℕ)) → input_of direction parts ≡ Some input → AnsweredBy direction shape order profile parts input.now s output → AnsweredRun direction shape order profile parts s output

-- ---- what is counted of items

-- Items that a sender packs one after the other, counted from n: the fillings of those that are packed, each with the number of its item, by which it goes on; and the
-- line of each that is refused, after a line feed. That one leaves the sender as it was.
pub data Packs (a : Accepting) : Sender → ℕ → List Item → List (ℕ × Filling) → List ℕ → Type 0 where
  packs_none : {s : Sender} {n : ℕ} → Packs a s n [] [] []
  packs_one : {s : Sender} {n : ℕ} {it : Item} {items : List Item} {fs : List (ℕ × Filling)} {refused : List ℕ} (p : Packed) (after : Sender)
      → Sends a s it p after → Packs a after (n + 1) items fs refused → Packs a s n (it ∷ items) ((n, p.filling) ∷ fs) refused
  refuses_one : {s : Sender} {n : ℕ} {it : Item} {items : List Item} {fs : List (ℕ × Filling)} {refused : List ℕ} (text : List ℕ)
      → RefusesSent a s n it text → Packs a s (n + 1) items fs refused → Packs a s n (it ∷ items) fs ((10 ∷ text) ++ refused)

abbrev pub fillings_in : List (ℕ × Filling) → List Filling
fillings_in = map (λ x. x.1)

-- the row of an item, after a line feed: its number, its format and how many bits its packet has, with tabs between them; and those of some
abbrev pub row_text : ℕ → List ℕ → ℕ → List ℕ
row_text n name bits = codes "\n" ++ decimal n ++ codes "\t" ++ name ++ codes "\t" ++ decimal bits

-- or its object
abbrev pub row_in : Form → ℕ → List ℕ → ℕ → List ℕ
row_in form.Text n name bits = row_text n name bits
row_in form.Json n name bits = item_line n name bits

abbrev pub row_of : Form → Accepting → ℕ × Filling → List ℕ
row_of form a x = row_in form x.0 (format_name a.profile.methods a.profile.top (out-Filling x.1).format) (length (packed x.1))

-- the same by what was packed
abbrev pub item_row : Form → Accepting → ℕ → Packed → List ℕ
item_row form a n p = row_in form n (format_name a.profile.methods a.profile.top (out-Filling p.filling).format) (length p.packed)

abbrev pub rows_of : Form → Accepting → List (ℕ × Filling) → List ℕ
rows_of form a [] = []
rows_of form a (x ∷ xs) = row_of form a x ++ rows_of form a xs

abbrev pub row_heads : List ℕ
row_heads = codes "item\tformat\tbits"

abbrev pub heads_of : Form → List ℕ
heads_of form.Text = row_heads
heads_of form.Json = []

-- what is counted of fillings, as text or as objects
abbrev pub counted_in : Form → List Method → ℕ → List Filling → List ℕ
counted_in form.Text methods top fs = stats_text methods top fs
counted_in form.Json methods top fs = stats_objects methods top fs

-- what `stats` prints of these: what is counted, or a row for each item
abbrev pub counts_text : Accepting → Counting → List (ℕ × Filling) → List ℕ
counts_text a how fs = if how.lists_items then heads_of how.form ++ rows_of how.form a fs else counted_in how.form a.profile.methods a.profile.top (fillings_in fs)

-- the mean is above so many bits
abbrev pub is_above : Option ℕ → Tally → Bool
is_above None all = false
is_above (Some most) all = nat_lt (most * all.items) all.bits

-- the status: that of a refusal where the mean is above what it may be, or where an item is refused and all have to be packed
abbrev pub counted_status : Counting → Tally → List ℕ → Status
counted_status how all refused = if is_above how.most all || (how.needs_all && not (length refused == 0)) then status.Refused else status.Done

-- What `stats` prints for items: what is counted of the fillings of those that are packed, and the lines of the refused.
pub data StatsBy (a : Accepting) (how : Counting) (s : Sender) (items : List Item) : Status → List ℕ → Type 0 where
  counted_by : (fs : List (ℕ × Filling)) (refused : List ℕ) → Packs a s 1 items fs refused
      → StatsBy a how s items (counted_status how (tally (fillings_in fs)) refused) (counts_text a how fs ++ refused ++ 10 ∷ [])

-- the line of an item that can't be packed for all that a receiver may hold, and then a line for each format
pub record LacksReach (profile : List ℕ) (a : Accepting) (s : Sender) (n : ℕ) (it : Item) (text : List ℕ) : Type 0 where
  pub blames : Blames NoReach a s it
  pub lacks : List Lack
  pub lacks_are : AreLacks a s it lacks
  pub text_is : text ≡ (codes "item " ++ decimal n ++ codes ": F5 NoReach") ++ lacks_text profile a.profile.methods a.profile.top lacks

-- What `why` says of an item that a sender refuses: as it does in the own context; or what stands against it in all contexts; or the line alone.
pub data ExplainsSent (profile : List ℕ) (a : Accepting) (s : Sender) (n : ℕ) (it : Item) : List ℕ → Type 0 where
  not_packed : {text : List ℕ} → ExplainsItem profile a (own_of s) n it text → ExplainsSent profile a s n it text
  no_reach : {text : List ℕ} → LacksReach profile a s n it text → ExplainsSent profile a s n it text
  no_room : {text : List ℕ} → Blames Contexts a s it → text ≡ codes "item " ++ decimal n ++ codes ": F6 Contexts" → ExplainsSent profile a s n it text

-- what is said of an item that a sender refuses: the line of its fault; for `why` the reasons, too
abbrev pub FaultsSent : Shape → Accepting → Sender → ℕ → Item → List ℕ → Type 0
FaultsSent Line a s n it text = RefusesSent a s n it text
FaultsSent (Tree form) a s n it text = RefusesSent a s n it text
FaultsSent (Why profile) a s n it text = ExplainsSent profile.now a s n it text

-- what is printed of a filling that was written
abbrev pub WrittenAs : Shape → Accepting → ℕ → List Bool → Filling → List ℕ → Type 0
WrittenAs Line a n bits f text = IsText text bits
WrittenAs (Tree form) a n bits f text = text ≡ tree_text form a (codes "item") n (length bits) f
WrittenAs (Why profile) a n bits f text = text ≡ head_of a (codes "item") n (length bits) f

-- What `pack --robust` and `why --robust` print for items, counted from n: what is printed of each, and after the last the sender's own context, where it is wanted;
-- what is said of the first that is refused is the last.
pub data SentBy (shape : Shape) (shows : Bool) (a : Accepting) : Sender → ℕ → List Item → Status → List ℕ → Type 0 where
  all_sent : {s : Sender} {n : ℕ} {text : List ℕ} → IsEnd shows (own_of s) text → SentBy shape shows a s n [] status.Done text
  one_sent : {s : Sender} {n : ℕ} {it : Item} {items : List Item} {st : Status} (p : Packed) (after : Sender) (text rest : List ℕ) → Sends a s it p after → WrittenAs shape a n p.packed p.filling text
      → SentBy shape shows a after (n + 1) items st rest → SentBy shape shows a s n (it ∷ items) st (text ++ 10 ∷ rest)
  one_refused : {s : Sender} {n : ℕ} {it : Item} {items : List Item} (text : List ℕ) → FaultsSent shape a s n it text → SentBy shape shows a s n (it ∷ items) (stop_of shape) (text ++ 10 ∷ [])

-- what `stats`, `loss`, `pack --robust` or `why --robust` prints for items
abbrev pub SurveyBy : Survey → Accepting → Entries → List Item → Status → List ℕ → Type 0
SurveyBy (survey.Stats how) a ctx items = StatsBy a how (Plain ctx) items
SurveyBy (survey.Loss form most) a ctx items = LossBy form most a (Plain ctx) items
SurveyBy (survey.RobustPack shape shows lost) a ctx items = SentBy shape shows a (surviving ctx lost) 1 items
SurveyBy (survey.RobustStats lost how) a ctx items = StatsBy a how (surviving ctx lost) items
SurveyBy (survey.RobustLoss form most lost) a ctx items = LossBy form most a (surviving ctx lost) items
SurveyBy (survey.Advise form lost) a ctx items = AdvisedBy form lost a (Plain ctx) items
SurveyBy (survey.Avoid octets name) a ctx items = AvoidedBy octets.now name.now a ctx items

-- What is answered to one of these from a context on, by the octets of items.
pub data StatsIn (what : Survey) (a : Accepting) (ctx : Entries) (input : List ℕ) : Status → List ℕ → Type 0 where
  bad_item : (n : ℕ) → IsBadLine IsItem input n → StatsIn what a ctx input status.Refused (bad_line_text Pack n ++ 10 ∷ [])
  items_counted : {s : Status} {output : List ℕ} (items : List Item) → HasLines IsItem input items → SurveyBy what a ctx items s output → StatsIn what a ctx input s output

-- The same by the part of the context,
pub data StatsFor (what : Survey) (a : Accepting) (context : Option (Bor (List ℕ))) (input : List ℕ) : Status → List ℕ → Type 0 where
  bad_entry : (octets : Bor (List ℕ)) (n : ℕ) → context ≡ Some octets → IsBadContext octets.now n → StatsFor what a context input status.Refused (context_line n ++ 10 ∷ [])
  from_entries : {s : Status} {output : List ℕ} (ctx : Entries) → StartsAt context ctx → StatsIn what a ctx input s output → StatsFor what a context input s output

-- by the octets of a profile,
pub data StatsWith (what : Survey) (order : Order) (profile : List ℕ) (parts : Parts) (input : List ℕ) : Status → List ℕ → Type 0 where
  stats_refused : (text : List ℕ) → RefusesProfile order.top.now profile (origin_of order.version parts.certificate) text → StatsWith what order profile parts input status.Refused (text ++ 10 ∷ [])
  stats_accepted : {s : Status} {output : List ℕ} (a : Accepting) → AcceptsProfile order.top.now profile (origin_of order.version parts.certificate) a → StatsFor what a parts.context input s output → StatsWith what order profile parts input s output

-- and by the parts.
pub data Stated (what : Survey) (order : Order) (profile : List ℕ) (parts : Parts) : Status → List ℕ → Type 0 where
  no_items : parts.items ≡ None → Stated what order profile parts status.Refused (codes "bundle: I4 bad part items" ++ 10 ∷ [])
  with_items : {s : Status} {output : List ℕ} (input : Bor (List ℕ)) → parts.items ≡ Some input → StatsWith what order profile parts input.now s output → Stated what order profile parts s output

-- the status of `lint`: with `--strict` that of a refusal where anything is printed
abbrev pub strict_status : Bool → Status → List ℕ → Status
strict_status strict s output = if strict && not (length output == 0) then status.Refused else s

-- What is answered to `lint`.
pub data LintedWith (order : Order) (profile : List ℕ) (parts : Parts) : Status → List ℕ → Type 0 where
  linted_by : {s : Status} {output : List ℕ} → LintedBy order.top.now profile parts.context s output → LintedWith order profile parts (strict_status order.is_strict s output) output

-- What is answered to `draw`.
abbrev pub DrawnAs : Form → List ℕ → List ℕ → Status → List ℕ → Type 0
DrawnAs form.Text top octets s output = DrawnBy top octets s output
DrawnAs form.Json top octets s output = DrawnObjects top octets s output

abbrev pub DrawnWith : Order → List ℕ → Status → List ℕ → Type 0
DrawnWith order profile s output = DrawnAs order.form order.top.now profile s output

-- What is answered to an order with these parts: lines, of which those of counts and fields have the form that is asked for.
pub data Answered (order : Order) (parts : Parts) : Status → List ℕ → Type 0 where
  no_profile : parts.profile ≡ None → Answered order parts status.Refused (codes "bundle: I4 bad part profile" ++ 10 ∷ [])
  shown : {s : Status} {output : List ℕ} (profile : Bor (List ℕ)) → parts.profile ≡ Some profile → order.command ≡ Show
      → ShownBy order.top.now profile.now s output → Answered order parts s output
  linted : {s : Status} {output : List ℕ} (profile : Bor (List ℕ)) → parts.profile ≡ Some profile → order.command ≡ Lint
      → LintedWith order profile.now parts s output → Answered order parts s output
  drawn : {s : Status} {output : List ℕ} (profile : Bor (List ℕ)) → parts.profile ≡ Some profile → order.command ≡ Draw
      → DrawnWith order profile.now s output → Answered order parts s output
  checked : {s : Status} {output : List ℕ} (profile : Bor (List ℕ)) → parts.profile ≡ Some profile → order.command ≡ Check
      → CheckedOctets order.top.now profile.now (origin_of order.version parts.certificate) s output → Answered order parts s output
  proved : {s : Status} {output : List ℕ} (profile : Bor (List ℕ)) → parts.profile ≡ Some profile → order.command ≡ Prove
      → ProvedOctets order.version order.top.now profile.now s output → Answered order parts s output
  check_explained : {s : Status} {output : List ℕ} (profile : Bor (List ℕ)) → parts.profile ≡ Some profile → order.command ≡ ExplainCheck
      → Explained (CheckedOctets order.top.now profile.now (origin_of order.version parts.certificate)) s output → Answered order parts s output
  prove_explained : {s : Status} {output : List ℕ} (profile : Bor (List ℕ)) → parts.profile ≡ Some profile → order.command ≡ ExplainProve
      → Explained (ProvedOctets order.version order.top.now profile.now) s output → Answered order parts s output
  ran : {s : Status} {output : List ℕ} (profile : Bor (List ℕ)) (direction : Direction) → parts.profile ≡ Some profile → order.command ≡ Run direction
      → AnsweredRun direction Line order profile.now parts s output → Answered order parts s output
  told : {s : Status} {output : List ℕ} (profile : Bor (List ℕ)) (direction : Direction) → parts.profile ≡ Some profile → order.command ≡ Fields direction
      → AnsweredRun direction (Tree order.form) order profile.now parts s output → Answered order parts s output
  explained : {s : Status} {output : List ℕ} (profile : Bor (List ℕ)) (direction : Direction) → parts.profile ≡ Some profile → order.command ≡ command.Why direction
      → AnsweredRun direction (Why profile) order profile.now parts s output → Answered order parts s output
  lined : {s : Status} {output : List ℕ} (profile : Bor (List ℕ)) (end : End) → parts.profile ≡ Some profile → order.command ≡ command.Line end
      → Lined end order profile.now parts s output → Answered order parts s output
  frames_sent : {s : Status} {output : List ℕ} (profile : Bor (List ℕ)) (lost : ℕ) → parts.profile ≡ Some profile → order.command ≡ command.SendFrames lost
      → Framed Sending lost order profile.now parts s output → Answered order parts s output
  frames_received : {s : Status} {output : List ℕ} (profile : Bor (List ℕ)) → parts.profile ≡ Some profile → order.command ≡ command.ReceiveFrames
      → Framed Receiving 0 order profile.now parts s output → Answered order parts s output
  stated : {s : Status} {output : List ℕ} (profile : Bor (List ℕ)) (how : Counting) → parts.profile ≡ Some profile → order.command ≡ command.Stats how
      → Stated (survey.Stats how) order profile.now parts s output → Answered order parts s output
  lost_told : {s : Status} {output : List ℕ} (profile : Bor (List ℕ)) (most : ℕ) → parts.profile ≡ Some profile → order.command ≡ command.Loss most
      → Stated (survey.Loss order.form most) order profile.now parts s output → Answered order parts s output
  robust_packed : {s : Status} {output : List ℕ} (profile : Bor (List ℕ)) (lost : ℕ) → parts.profile ≡ Some profile → order.command ≡ command.RobustPack lost
      → Stated (survey.RobustPack Line order.shows_context lost) order profile.now parts s output → Answered order parts s output
  robust_explained : {s : Status} {output : List ℕ} (profile : Bor (List ℕ)) (lost : ℕ) → parts.profile ≡ Some profile → order.command ≡ command.RobustWhy lost
      → Stated (survey.RobustPack (Why profile) order.shows_context lost) order profile.now parts s output → Answered order parts s output
  robust_stated : {s : Status} {output : List ℕ} (profile : Bor (List ℕ)) (lost : ℕ) (how : Counting) → parts.profile ≡ Some profile → order.command ≡ command.RobustStats lost how
      → Stated (survey.RobustStats lost how) order profile.now parts s output → Answered order parts s output
  advice_told : {s : Status} {output : List ℕ} (profile : Bor (List ℕ)) (lost : ℕ) → parts.profile ≡ Some profile → order.command ≡ command.Advise lost
      → Stated (survey.Advise order.form lost) order profile.now parts s output → Answered order parts s output
  avoided_told : {s : Status} {output : List ℕ} (profile : Bor (List ℕ)) → parts.profile ≡ Some profile → order.command ≡ command.WhyNot
      → Stated (survey.Avoid profile order.avoided) order profile.now parts s output → Answered order parts s output
  robust_told : {s : Status} {output : List ℕ} (profile : Bor (List ℕ)) (most lost : ℕ) → parts.profile ≡ Some profile → order.command ≡ command.RobustLoss most lost
      → Stated (survey.RobustLoss order.form most lost) order profile.now parts s output → Answered order parts s output

-- ---- the steps

abbrev pub AnswersLines : Order → Parts → Answer → Type 0
AnswersLines order parts = Holds (Answered order parts)

-- what is printed of the lines of an answer: themselves; or where objects are asked for each as an object
abbrev pub shown_in : Form → Command → Status → List ℕ → List ℕ
shown_in form.Text command s lines = lines
shown_in form.Json command s lines = as_objects command s lines

-- What is printed for an order with these parts.
pub data Shown (order : Order) (parts : Parts) : Status → List ℕ → Type 0 where
  shown_as : {s : Status} (lines : List ℕ) → Answered order parts s lines → Shown order parts s (shown_in order.form order.command s lines)

abbrev pub Answers : Order → Parts → Answer → Type 0
Answers order parts = Holds (Shown order parts)

abbrev pub AnswersDraw : Order → List ℕ → Answer → Type 0
AnswersDraw order profile = Holds (DrawnWith order profile)

abbrev pub AnswersLint : Order → List ℕ → Parts → Answer → Type 0
AnswersLint order profile parts = Holds (LintedWith order profile parts)

abbrev pub AnswersRun : Direction → Shape → Order → List ℕ → Parts → Answer → Type 0
AnswersRun direction shape order profile parts = Holds (AnsweredRun direction shape order profile parts)

abbrev pub AnswersIn : Direction → Shape → Bool → Accepting → Entries → List ℕ → Answer → Type 0
AnswersIn direction shape shows a ctx input = Holds (AnsweredIn direction shape shows a ctx input)

-- what is answered to `stats`
abbrev pub AnswersStats : Survey → Order → List ℕ → Parts → Answer → Type 0
AnswersStats what order profile parts = Holds (Stated what order profile parts)

abbrev pub AnswersStatsIn : Survey → Accepting → Entries → List ℕ → Answer → Type 0
AnswersStatsIn what a ctx input = Holds (StatsIn what a ctx input)

abbrev pub CountsItems : Accepting → Counting → Sender → List Item → Answer → Type 0
CountsItems a how s items = Holds (StatsBy a how s items)

abbrev pub SendsItems : Shape → Bool → Accepting → Sender → List Item → Answer → Type 0
SendsItems shape shows a s items = Holds (SentBy shape shows a s 1 items)

abbrev pub Surveys : Survey → Accepting → Entries → List Item → Answer → Type 0
Surveys what a ctx items = Holds (SurveyBy what a ctx items)

-- what is told so far is of these fillings: the sums are over them, and the rows are theirs, where such are wanted
pub record TellsOf (a : Accepting) (how : Counting) (fs : List (ℕ × Filling)) (t : Statistics) : Type 0 where
  pub sums_are : AreSums (fillings_in fs) t.sums
  pub rows_are : how.lists_items ≡ true → string_bytes t.rows ≡ rows_of how.form a fs

-- the text of what is told, where it is of these fillings
abbrev pub IsCountsText : Accepting → Counting → Statistics → List ℕ → Type 0
IsCountsText a how t text = (fs : List (ℕ × Filling)) → TellsOf a how fs t → text ≡ counts_text a how fs

-- that text, and below it the lines of the refused
pub record IsPrintedStats (a : Accepting) (how : Counting) (t : Statistics) (answer : Answer) : Type 0 where
  pub status_is : answer.status ≡ counted_status how (out-Sums t.sums).all (string_bytes t.refused)
  pub text : List ℕ
  pub text_is : IsCountsText a how t text
  pub output_is : string_bytes answer.output ≡ text ++ string_bytes t.refused ++ 10 ∷ []

-- the line of a refused item below those before it, which is one line
abbrev pub IsRefusedBelow : RobustFault → ℕ → List ℕ → List ℕ → Type 0
IsRefusedBelow e n before after = (text : List ℕ) × IsSenderFault e n text × IsLine text × (after ≡ before ++ 10 ∷ text)

-- a filling more is told of, by a row where such are wanted
pub record AddsPacked (a : Accepting) (how : Counting) (n : ℕ) (p : Packed) (old new : Statistics) : Type 0 where
  pub adds : Adds p.filling old.sums new.sums
  pub row : how.lists_items ≡ true → string_bytes new.rows ≡ string_bytes old.rows ++ item_row how.form a n p
  pub refused_stays : string_bytes new.refused ≡ string_bytes old.refused

-- One item more: it is packed, and told of, and the sender goes on; or it is refused, and its line comes below the others.
pub data CountsItem (a : Accepting) (how : Counting) (old new : Sender) (before after : Statistics) (n : ℕ) (it : Item) : Type 0 where
  counts_packed : (p : Packed) → Sends a old it p new → AddsPacked a how n p before after
      → CountsItem a how old new before after n it
  counts_refused : (text : List ℕ) → RefusesSent a old n it text → new ≡ old → after.sums ≡ before.sums → string_bytes after.rows ≡ string_bytes before.rows → string_bytes after.refused ≡ string_bytes before.refused ++ 10 ∷ text
      → CountsItem a how old new before after n it

-- these lines, and what follows the last
pub record IsFinished (shows : Bool) (ctx : Entries) (lines : List ℕ) (a : Answer) : Type 0 where
  pub status_is : a.status ≡ status.Done
  pub text : List ℕ
  pub ends : IsEnd shows ctx text
  pub output_is : string_bytes a.output ≡ lines ++ text

-- the output goes on by a line of which this is so
abbrev pub HasLine : (List ℕ → Type 0) → List ℕ → List ℕ → Type 0
HasLine P before after = (text : List ℕ) × P text × (after ≡ before ++ text ++ 10 ∷ [])

-- the line of a refusal, which is one line
abbrev pub IsRefusedItem : PackFault → ℕ → List ℕ → List ℕ → Type 0
IsRefusedItem e n = HasLine (λ text. IsItemFault e n text × IsLine text)

abbrev pub IsRefusedPacket : Accepting → UnpackFault → ℕ → List ℕ → List ℕ → Type 0
IsRefusedPacket a e n = HasLine (λ text. IsPacketFault e a.profile.methods n text × IsLine text)

-- the line of packed bits
abbrev pub IsBitsLine : List Bool → List ℕ → List ℕ → Type 0
IsBitsLine bits = HasLine (λ text. IsText text bits)

-- the line of an item that was read
abbrev pub IsReadLine : Item → ℕ → List ℕ → List ℕ → Type 0
IsReadLine it count = HasLine (IsTaken it count)

-- the fields of a filling
abbrev pub IsTreeText : Form → Accepting → List ℕ → ℕ → ℕ → Filling → List ℕ → List ℕ → Type 0
IsTreeText form a what n bits f = HasLine (λ text. text ≡ tree_text form a what n bits f)

-- the head line of a filling
abbrev pub IsHeadText : Accepting → List ℕ → ℕ → ℕ → Filling → List ℕ → List ℕ → Type 0
IsHeadText a what n bits f = HasLine (λ text. text ≡ head_of a what n bits f)

-- what is printed of a filling that was written, and of one that was read
abbrev pub IsWrittenText : Shape → Accepting → ℕ → List Bool → Filling → List ℕ → List ℕ → Type 0
IsWrittenText shape a n bits f = HasLine (WrittenAs shape a n bits f)

abbrev pub IsFoundText : Shape → Accepting → List ℕ → ℕ → ℕ → Filling → List ℕ → List ℕ → Type 0
IsFoundText Line a what n bits f = IsReadLine (item f) bits
IsFoundText (Tree form) a what n bits f = IsTreeText form a what n bits f
IsFoundText (Why profile) a what n bits f = IsHeadText a what n bits f

-- The output goes on by what is said of an input, after which the context is the next; or, where it was refused, by what is said of that.
abbrev pub IsStep : {X : Type 0} → (Entries → ℕ → X → Filling → List ℕ → Type 0) → (Entries → ℕ → X → List ℕ → Type 0) → Entries → Entries → List ℕ → List ℕ → ℕ → X → Bool → Type 0
IsStep says faults old new before after n x false = (f : Filling) × HasLine (says old n x f) before after × (new ≡ next old f)
IsStep says faults old new before after n x true = HasLine (faults old n x) before after

abbrev pub IsItemStep : Shape → Accepting → Entries → Entries → List ℕ → List ℕ → ℕ → Item → Bool → Type 0
IsItemStep shape a old new before after n it = IsStep (SaysItem shape a) (FaultsItem shape a) old new before after n it

abbrev pub IsPacketStep : Shape → Accepting → Entries → Entries → List ℕ → List ℕ → ℕ → List Bool → Bool → Type 0
IsPacketStep shape a old new before after n packet = IsStep (SaysPacket shape a) (FaultsPacket shape a) old new before after n packet

-- The output goes on by what is printed of an item that the sender packed, and it goes on; or by what is said of its fault.
abbrev pub IsSendStep : Shape → Accepting → Sender → Sender → List ℕ → List ℕ → ℕ → Item → Bool → Type 0
IsSendStep shape a old new before after n it false = (p : Packed) × Sends a old it p new × HasLine (WrittenAs shape a n p.packed p.filling) before after
IsSendStep shape a old new before after n it true = HasLine (FaultsSent shape a old n it) before after
