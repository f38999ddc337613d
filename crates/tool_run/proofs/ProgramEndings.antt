-- What is printed goes with a run that is done or refused; and what a run does to the known bytes of its writer.
use Rattle.std.proofs.Common.{◌≡◌, if◌then◌else◌, ◌==◌, ◌||◌, ◌&&◌, not, false, true, ◌∙◌, ℕ, zero, suc, ◌+◌, ◌<◌, Bool, List, [], ◌∷◌, ◌++◌, Option, None, Some, refl, sym, subst, inr, length, string_bytes, Bor, arith}
use Rattle.std.specs.Prelude.{Result, Ok, IfOk, IfSome, String}
use Rattle.std.specs.Global.{Global}
use Rattle.std.specs.Io.KnownBytes.{Appends, Keeps}
use Rattle.sem_context.specs.Entries.{Entries}
use Rattle.sem_filling.specs.declared.filling.Filling.{Filling}
use Rattle.sem_filling.specs.declared.filling.Item.{Item}
use Rattle.sem_filling.specs.Entries.{next}
use Rattle.cert_accepted.specs.Accepted.{Accepting}
use Rattle.walk_line.specs.declared.runs.Event.{Event}
use Rattle.sem_profile.specs.Resolved.{Resolved}
use Rattle.tool_input.specs.Counted.{Account, most_octets}
use Rattle.tool_input.specs.Input.{IsInput}
use Rattle.tool_input.specs.declared.bundle.Parts.{Parts}
use Rattle.tool_input.specs.declared.input.Input.{Input}
use Rattle.tool_input.specs.declared.input.Input.TheVariants.{Large}
use Rattle.tool_input.specs.declared.status.Failure.{Failure}
use Rattle.tool_input.specs.declared.status.Failure.TheVariants.{Writing}
use Rattle.tool_input.specs.declared.status.Status.{Status}
use Rattle.tool_input.specs.declared.status.Status.TheVariants.{Done, Refused, Usage, Failed}
use Rattle.tool_report.specs.Accepting.{origin_of}
use Rattle.tool_report.specs.declared.profile_and_certificate.Origin.{Origin}
use Rattle.tool_report.specs.Prove.{ProvedBy}
use Rattle.tool_report.specs.Prove.ProvedBy.{printed as proved_by_printed, unproved as proved_by_unproved}
use Rattle.tool_report.specs.Explained.{Explained}
use Rattle.tool_report.specs.Explained.Explained.{explained as explained_plain}
use Rattle.tool_report.specs.Surveys.{DrawnBy, DrawnObjects}
use Rattle.tool_report.specs.Surveys.DrawnObjects.{no_objects as drawn_objects_no_objects, objects_by as drawn_objects_objects_by}
use Rattle.tool_words.specs.declared.words.Form.{Form}
use Rattle.tool_words.specs.declared.words.Form.TheVariants.{Text, Json}
use Rattle.tool_run.specs.Printed.{DrawnAs, Shown}
use Rattle.tool_run.specs.Printed.Shown.{shown_as as answers_shown_as}
use Rattle.tool_report.specs.Surveys.DrawnBy.{drawn_by as drawn_by_drawn, no_drawing as drawn_by_no_drawing}
use Rattle.tool_report.specs.Surveys.{LintedBy, LintedIn}
use Rattle.tool_report.specs.Surveys.LintedBy.{by_form as linted_by_by_form, no_lint as linted_by_no_lint}
use Rattle.tool_report.specs.Surveys.LintedIn.{linted as linted_in_linted, no_context as linted_in_no_context}
use Rattle.tool_report.specs.Reports.{ShownBy, CheckedOctets, ProvedOctets}
use Rattle.tool_report.specs.Reports.ShownBy.{listed as shown_by_listed, no_listing as shown_by_no_listing}
use Rattle.tool_report.specs.Reports.CheckedOctets.{accepted as checked_octets_accepted, refused as checked_octets_refused}
use Rattle.tool_report.specs.Reports.ProvedOctets.{none_proved as proved_octets_none_proved, proved_by as proved_octets_proved_by}
use Rattle.tool_words.specs.declared.words.Direction.{Direction}
use Rattle.tool_words.specs.declared.words.Direction.TheVariants.{Pack, Unpack}
use Rattle.tool_words.specs.declared.words.End.{End}
use Rattle.tool_words.specs.declared.words.End.TheVariants.{Sending, Receiving}
use Rattle.tool_words.specs.declared.words.Order.{Order}
use Rattle.tool_run.specs.Printed.{LintedWith, fillings_in, is_above, Prints, PrintsInput, AnsweredIn, AnsweredFor, AnsweredBy, AnsweredRun, Answered, SentBy, StatsBy, SurveyBy, StatsIn, StatsFor, StatsWith, Stated, SaysItem, FaultsItem, stop_of, SaysPacket, FaultsPacket}
use Rattle.tool_run.specs.Printed.Prints.{done as prints_done, fault as prints_fault, line as prints_line}
use Rattle.tool_run.specs.Printed.AnsweredIn.{answered as answered_in_answered, bad_line as answered_in_bad_line}
use Rattle.tool_run.specs.Printed.AnsweredFor.{bad_context as answered_for_bad_context, from_context as answered_for_from_context}
use Rattle.tool_run.specs.Printed.AnsweredBy.{by_profile as answered_by_by_profile, unaccepted as answered_by_unaccepted}
use Rattle.tool_run.specs.Printed.AnsweredRun.{both as answered_run_both, no_input as answered_run_no_input}
use Rattle.tool_run.specs.Printed.Answered.{check_explained as answers_check_explained, checked as answers_checked, drawn as answers_drawn, lined as answers_lined, linted as answers_linted, no_profile as answers_no_profile, prove_explained as answers_prove_explained, proved as answers_proved, ran as answers_ran, shown as answers_shown, told as answers_told, explained as answers_explained, stated as answers_stated, lost_told as answers_lost_told, advice_told as answers_advice_told, avoided_told as answers_avoided_told, robust_packed as answers_robust_packed, robust_explained as answers_robust_explained, robust_stated as answers_robust_stated, robust_told as answers_robust_told}
use Rattle.tool_run.specs.declared.stats.Survey.{Survey}
use Rattle.tool_run.specs.declared.stats.Survey.TheVariants as survey
use Rattle.tool_run.specs.Loss.{LossBy}
use Rattle.tool_run.specs.Loss.LossBy.{losses_told as loss_by_told, item_refused as loss_by_refused}
use Rattle.tool_run.specs.Printed.SentBy.{all_sent as sent_by_all, one_refused as sent_by_refused, one_sent as sent_by_one}
use Rattle.tool_run.specs.Printed.StatsBy.{counted_by as stats_by_counted}
use Rattle.tool_run.specs.Printed.LintedWith.{linted_by as linted_with_by}
use Rattle.tool_items.specs.Counts.{tally}
use Rattle.tool_words.specs.declared.words.Counting.{Counting}
use Rattle.tool_run.specs.Advise.{AdvisedBy}
use Rattle.tool_run.specs.Advise.AdvisedBy.{advised_by as advised_by_fillings}
use Rattle.tool_run.specs.Avoidance.{AvoidedBy}
use Rattle.tool_run.specs.Avoidance.AvoidedBy.{no_format as avoided_by_no_format, avoided as avoided_by_format}
use Rattle.tool_run.specs.Senders.{surviving}
use Rattle.tool_run.specs.declared.sender.Sender.{Sender}
use Rattle.tool_run.specs.declared.sender.Sender.TheVariants.{Plain}
use Rattle.tool_run.specs.Printed.StatsIn.{bad_item as stats_in_bad_item, items_counted as stats_in_counted}
use Rattle.tool_run.specs.Printed.StatsFor.{bad_entry as stats_for_bad_entry, from_entries as stats_for_from_entries}
use Rattle.tool_run.specs.Printed.StatsWith.{stats_accepted as stats_with_accepted, stats_refused as stats_with_refused}
use Rattle.tool_run.specs.Printed.Stated.{no_items as stated_no_items, with_items as stated_with_items}
use Rattle.walk_line.specs.declared.flow.LineVersion.{LineVersion}
use Rattle.tool_run.specs.Line.{PrintsSent, PrintsReceived, AnsweredEvents, AnsweredHex, AnsweredEnd, LinedBy, Lined, line_version}
use Rattle.tool_run.specs.Line.PrintsSent.{all_sent as prints_sent_all_sent, one_refused as prints_sent_one_refused}
use Rattle.tool_run.specs.Line.PrintsReceived.{all_received as prints_received_all_received, up_to_fault as prints_received_up_to_fault}
use Rattle.tool_run.specs.Line.AnsweredEvents.{bad_event as answered_events_bad_event, sent_events as answered_events_sent_events}
use Rattle.tool_run.specs.Line.AnsweredHex.{bad_hex as answered_hex_bad_hex, received_octets as answered_hex_received_octets}
use Rattle.tool_run.specs.Line.LinedBy.{not_accepted as lined_by_not_accepted, with_profile as lined_by_with_profile}
use Rattle.tool_run.specs.Line.Lined.{by_part as lined_by_part, no_part as lined_no_part}
use Rattle.tool_run.specs.Frames as frames
use Rattle.tool_run.specs.Frames.PrintsSent.{all_sent as frames_all_sent, one_refused as frames_one_refused}
use Rattle.tool_run.specs.Frames.PrintsReceived.{all_received as frames_all_received, up_to_fault as frames_up_to_fault}
use Rattle.tool_run.specs.Frames.AnsweredEvents.{bad_event as frames_bad_event, sent_events as frames_sent_events}
use Rattle.tool_run.specs.Frames.AnsweredHex.{bad_hex as frames_bad_hex, received_octets as frames_received_octets}
use Rattle.tool_run.specs.Frames.FramedBy.{not_accepted as frames_not_accepted, with_profile as frames_with_profile}
use Rattle.tool_run.specs.Frames.Framed.{no_part as frames_no_part, by_part as frames_by_part}
use Rattle.tool_run.specs.Printed.Answered.{frames_received as answers_frames_received, frames_sent as answers_frames_sent}
use Rattle.tool_run.specs.Program.{Fails, ForInput, Gives, RefusesBy, Replies, RunPrints, large_line}
use Rattle.tool_run.specs.Program.RunPrints.{answered as run_prints_answered, bad_part as run_prints_bad_part, large as run_prints_large, no_words as run_prints_no_words}
use Rattle.tool_run.specs.declared.packets.Shape.{Shape}
use Rattle.tool_run.specs.declared.packets.Shape.TheVariants.{Line, Tree, Why}
use Rattle.tool_run.specs.declared.program.Reply.{Reply}
use Rattle.tool_run.specs.declared.program.Reply.TheVariants.{Print, Tell}
use Rattle.tool_run.proofs.ProgramReplies.{large_refused}

-- ---- the status of what is printed

abbrev MayPrint : Status → Type 0
MayPrint Done = Unit {0}
MayPrint Refused = Unit {0}
MayPrint Usage = ⊥
MayPrint (Failed why) = ⊥

prints_end : (X : Type 0) (says : Entries → ℕ → X → Filling → List ℕ → Type 0) (faults : Entries → ℕ → X → List ℕ → Type 0) (stop : Status) → MayPrint stop → (shows : Bool) (ctx : Entries) (n : ℕ) (xs : List X) (s : Status) (text : List ℕ) → Prints says faults stop shows ctx n xs s text → MayPrint s
prints_end X says faults stop may shows ctx n _ _ _ (prints_done h) = tt
prints_end X says faults stop may shows ctx n _ s _ (prints_line {xs = xs} f text rest said more) = prints_end X says faults stop may shows (next ctx f) (n + 1) xs s rest more
prints_end X says faults stop may shows ctx n _ _ _ (prints_fault text h) = may

may_stop : (shape : Shape) → MayPrint (stop_of shape)
may_stop Line = tt
may_stop (Tree form) = tt
may_stop (Why profile) = tt

input_ends : (direction : Direction) (shape : Shape) (shows : Bool) (a : Accepting) (ctx : Entries) (octets : List ℕ) (s : Status) (output : List ℕ) → PrintsInput direction shape shows a ctx octets s output → MayPrint s
input_ends Pack shape shows a ctx octets s output h = prints_end Item (SaysItem shape a) (FaultsItem shape a) (stop_of shape) (may_stop shape) shows ctx 1 h.0 s output h.2
input_ends Unpack shape shows a ctx octets s output h = prints_end (List Bool) (SaysPacket shape a) (FaultsPacket shape a) (stop_of shape) (may_stop shape) shows ctx 1 h.0 s output h.2

in_ends : (direction : Direction) (shape : Shape) (shows : Bool) (a : Accepting) (ctx : Entries) (octets : List ℕ) (s : Status) (output : List ℕ) → AnsweredIn direction shape shows a ctx octets s output → MayPrint s
in_ends direction shape shows a ctx octets _ _ (answered_in_bad_line n h) = tt
in_ends direction shape shows a ctx octets s output (answered_in_answered h) = input_ends direction shape shows a ctx octets s output h

for_ends : (direction : Direction) (shape : Shape) (shows : Bool) (a : Accepting) (context : Option (Bor (List ℕ))) (octets : List ℕ) (s : Status) (output : List ℕ) → AnsweredFor direction shape shows a context octets s output → MayPrint s
for_ends direction shape shows a context octets _ _ (answered_for_bad_context given n is bad) = tt
for_ends direction shape shows a context octets s output (answered_for_from_context ctx starts h) = in_ends direction shape shows a ctx octets s output h

by_ends : (direction : Direction) (shape : Shape) (order : Order) (profile : List ℕ) (parts : Parts) (octets : List ℕ) (s : Status) (output : List ℕ) → AnsweredBy direction shape order profile parts octets s output → MayPrint s
by_ends direction shape order profile parts octets _ _ (answered_by_unaccepted text h) = tt
by_ends direction shape order profile parts octets s output (answered_by_by_profile a accepts h) = for_ends direction shape order.shows_context a parts.context octets s output h

run_ends : (direction : Direction) (shape : Shape) (order : Order) (profile : List ℕ) (parts : Parts) (s : Status) (output : List ℕ) → AnsweredRun direction shape order profile parts s output → MayPrint s
run_ends direction shape order profile parts _ _ (answered_run_no_input is) = tt
run_ends direction shape order profile parts s output (answered_run_both given is h) = by_ends direction shape order profile parts given.now s output h

sent_ends : (v : LineVersion) (a : Accepting) (events : List Event) (s : Status) (output : List ℕ) → PrintsSent v a events s output → MayPrint s
sent_ends v a events _ _ (prints_sent_all_sent octets found items ran are) = tt
sent_ends v a events _ _ (prints_sent_one_refused n e text stopped is single) = tt

events_ends : (v : LineVersion) (a : Accepting) (octets : List ℕ) (s : Status) (output : List ℕ) → AnsweredEvents v a octets s output → MayPrint s
events_ends v a octets _ _ (answered_events_bad_event n h) = tt
events_ends v a octets s output (answered_events_sent_events events has h) = sent_ends v a events s output h

received_ends : (v : LineVersion) (a : Accepting) (octets : List ℕ) (s : Status) (output : List ℕ) → PrintsReceived v a octets s output → MayPrint s
received_ends v a octets _ _ (prints_received_all_received found items got are) = tt
received_ends v a octets _ _ (prints_received_up_to_fault found items e text got are is) = tt

hex_ends : (v : LineVersion) (a : Accepting) (octets : List ℕ) (s : Status) (output : List ℕ) → AnsweredHex v a octets s output → MayPrint s
hex_ends v a octets _ _ (answered_hex_bad_hex h) = tt
hex_ends v a octets s output (answered_hex_received_octets read are h) = received_ends v a read s output h

end_ends : (end : End) (v : LineVersion) (a : Accepting) (octets : List ℕ) (s : Status) (output : List ℕ) → AnsweredEnd end v a octets s output → MayPrint s
end_ends Sending v a octets s output h = events_ends v a octets s output h
end_ends Receiving v a octets s output h = hex_ends v a octets s output h

lined_by_ends : (end : End) (v : LineVersion) (top profile : List ℕ) (origin : Origin) (octets : List ℕ) (s : Status) (output : List ℕ) → LinedBy end v top profile origin octets s output → MayPrint s
lined_by_ends end v top profile origin octets _ _ (lined_by_not_accepted text h) = tt
lined_by_ends end v top profile origin octets s output (lined_by_with_profile a accepts h) = end_ends end v a octets s output h

lined_ends : (end : End) (order : Order) (profile : List ℕ) (parts : Parts) (s : Status) (output : List ℕ) → Lined end order profile parts s output → MayPrint s
lined_ends end order profile parts _ _ (lined_no_part is) = tt
lined_ends end order profile parts s output (lined_by_part given is h) = lined_by_ends end (line_version order.is_wide) order.top.now profile (origin_of order.version parts.certificate) given.now s output h

refused_or : (b : Bool) (s : Status) → MayPrint s → MayPrint (if b then Refused else s)
refused_or true s ends = tt
refused_or false s ends = ends

frames_sent_end : (lost : ℕ) (a : Accepting) (events : List Event) (s : Status) (output : List ℕ) → frames.PrintsSent lost a events s output → MayPrint s
frames_sent_end lost a events _ _ (frames_all_sent octets items ran are) = tt
frames_sent_end lost a events _ _ (frames_one_refused n e text stopped is single) = tt

frames_heard_end : (a : Accepting) (octets : List ℕ) (s : Status) (output : List ℕ) → frames.PrintsReceived a octets s output → MayPrint s
frames_heard_end a octets _ _ (frames_all_received found lines received are) = tt
frames_heard_end a octets _ _ (frames_up_to_fault found lines e text received are is) = tt

frames_events_end : (lost : ℕ) (a : Accepting) (input : List ℕ) (s : Status) (output : List ℕ) → frames.AnsweredEvents lost a input s output → MayPrint s
frames_events_end lost a input _ _ (frames_bad_event n is) = tt
frames_events_end lost a input s output (frames_sent_events events are h) = frames_sent_end lost a events s output h

frames_hex_end : (a : Accepting) (input : List ℕ) (s : Status) (output : List ℕ) → frames.AnsweredHex a input s output → MayPrint s
frames_hex_end a input _ _ (frames_bad_hex none) = tt
frames_hex_end a input s output (frames_received_octets octets are h) = frames_heard_end a octets s output h

frames_end_ends : (end : End) (lost : ℕ) (a : Accepting) (input : List ℕ) (s : Status) (output : List ℕ) → frames.AnsweredEnd end lost a input s output → MayPrint s
frames_end_ends Sending lost a input s output h = frames_events_end lost a input s output h
frames_end_ends Receiving lost a input s output h = frames_hex_end a input s output h

framed_by_ends : (end : End) (lost : ℕ) (top profile : List ℕ) (origin : Origin) (input : List ℕ) (s : Status) (output : List ℕ) → frames.FramedBy end lost top profile origin input s output → MayPrint s
framed_by_ends end lost top profile origin input _ _ (frames_not_accepted text h) = tt
framed_by_ends end lost top profile origin input s output (frames_with_profile a accepts h) = frames_end_ends end lost a input s output h

framed_ends : (end : End) (lost : ℕ) (order : Order) (profile : List ℕ) (parts : Parts) (s : Status) (output : List ℕ) → frames.Framed end lost order profile parts s output → MayPrint s
framed_ends end lost order profile parts _ _ (frames_no_part is) = tt
framed_ends end lost order profile parts s output (frames_by_part given is h) = framed_by_ends end lost order.top.now profile (origin_of order.version parts.certificate) given.now s output h

stats_by_ends : (a : Accepting) (how : Counting) (who : Sender) (items : List Item) (s : Status) (output : List ℕ) → StatsBy a how who items s output → MayPrint s
stats_by_ends a how who items _ _ (stats_by_counted fs refused packs) = refused_or (is_above how.most (tally (fillings_in fs)) || (how.needs_all && not (length refused == 0))) Done tt

loss_by_ends : (form : Form) (most : ℕ) (a : Accepting) (who : Sender) (items : List Item) (s : Status) (output : List ℕ) → LossBy form most a who items s output → MayPrint s
loss_by_ends form most a who items _ _ (loss_by_told fs es j sent journal) = tt
loss_by_ends form most a who items _ _ (loss_by_refused text h) = tt

advised_by_ends : (form : Form) (lost : ℕ) (a : Accepting) (who : Sender) (items : List Item) (s : Status) (output : List ℕ) → AdvisedBy form lost a who items s output → MayPrint s
advised_by_ends form lost a who items _ _ (advised_by_fillings fs refused trends text traces are is) = tt

avoided_by_ends : (octets name : List ℕ) (a : Accepting) (ctx : Entries) (items : List Item) (s : Status) (output : List ℕ) → AvoidedBy octets name a ctx items s output → MayPrint s
avoided_by_ends octets name a ctx items _ _ (avoided_by_no_format near none) = tt
avoided_by_ends octets name a ctx items _ _ (avoided_by_format n vs text is judged told) = tt

sent_by_ends : (shape : Shape) (shows : Bool) (a : Accepting) {who : Sender} {n : ℕ} {items : List Item} {s : Status} {output : List ℕ} → SentBy shape shows a who n items s output → MayPrint s
sent_by_ends shape shows a (sent_by_all is) = tt
sent_by_ends shape shows a (sent_by_one p after text rest sent is more) = sent_by_ends shape shows a more
sent_by_ends shape shows a (sent_by_refused text h) = may_stop shape

survey_ends : (what : Survey) (a : Accepting) (ctx : Entries) (items : List Item) (s : Status) (output : List ℕ) → SurveyBy what a ctx items s output → MayPrint s
survey_ends (survey.Stats how) a ctx items s output h = stats_by_ends a how (Plain ctx) items s output h
survey_ends (survey.Loss form most) a ctx items s output h = loss_by_ends form most a (Plain ctx) items s output h
survey_ends (survey.Advise form lost) a ctx items s output h = advised_by_ends form lost a (Plain ctx) items s output h
survey_ends (survey.Avoid octets name) a ctx items s output h = avoided_by_ends octets.now name.now a ctx items s output h
survey_ends (survey.RobustPack shape shows lost) a ctx items s output h = sent_by_ends shape shows a h
survey_ends (survey.RobustStats lost how) a ctx items s output h = stats_by_ends a how (surviving ctx lost) items s output h
survey_ends (survey.RobustLoss form most lost) a ctx items s output h = loss_by_ends form most a (surviving ctx lost) items s output h

stats_in_ends : (what : Survey) (a : Accepting) (ctx : Entries) (octets : List ℕ) (s : Status) (output : List ℕ) → StatsIn what a ctx octets s output → MayPrint s
stats_in_ends what a ctx octets _ _ (stats_in_bad_item n h) = tt
stats_in_ends what a ctx octets s output (stats_in_counted items has h) = survey_ends what a ctx items s output h

stats_for_ends : (what : Survey) (a : Accepting) (context : Option (Bor (List ℕ))) (octets : List ℕ) (s : Status) (output : List ℕ) → StatsFor what a context octets s output → MayPrint s
stats_for_ends what a context octets _ _ (stats_for_bad_entry given n is bad) = tt
stats_for_ends what a context octets s output (stats_for_from_entries ctx starts h) = stats_in_ends what a ctx octets s output h

stats_with_ends : (what : Survey) (order : Order) (profile : List ℕ) (parts : Parts) (octets : List ℕ) (s : Status) (output : List ℕ) → StatsWith what order profile parts octets s output → MayPrint s
stats_with_ends what order profile parts octets _ _ (stats_with_refused text h) = tt
stats_with_ends what order profile parts octets s output (stats_with_accepted a accepts h) = stats_for_ends what a parts.context octets s output h

stated_ends : (what : Survey) (order : Order) (profile : List ℕ) (parts : Parts) (s : Status) (output : List ℕ) → Stated what order profile parts s output → MayPrint s
stated_ends what order profile parts _ _ (stated_no_items is) = tt
stated_ends what order profile parts s output (stated_with_items given is h) = stats_with_ends what order profile parts given.now s output h

linted_in_ends : (octets : List ℕ) (p : Resolved) (context : Option (Bor (List ℕ))) (s : Status) (output : List ℕ) → LintedIn octets p context s output → MayPrint s
linted_in_ends octets p context _ _ (linted_in_no_context given n is h) = tt
linted_in_ends octets p context _ _ (linted_in_linted ctx found warnings starts dead warned) = tt

linted_ends : (top octets : List ℕ) (context : Option (Bor (List ℕ))) (s : Status) (output : List ℕ) → LintedBy top octets context s output → MayPrint s
linted_ends top octets context _ _ (linted_by_no_lint text h) = tt
linted_ends top octets context s output (linted_by_by_form p reads h) = linted_in_ends octets p context s output h

linted_with_ends : (order : Order) (profile : List ℕ) (parts : Parts) (s : Status) (output : List ℕ) → LintedWith order profile parts s output → MayPrint s
linted_with_ends order profile parts _ output (linted_with_by {s = s} h) = refused_or (order.is_strict && not (length output == 0)) s (linted_ends order.top.now profile parts.context s output h)

drawn_ends : (top octets : List ℕ) (s : Status) (output : List ℕ) → DrawnBy top octets s output → MayPrint s
drawn_ends top octets _ _ (drawn_by_no_drawing text h) = tt
drawn_ends top octets _ _ (drawn_by_drawn p reads) = tt

objects_end : (top octets : List ℕ) (s : Status) (output : List ℕ) → DrawnObjects top octets s output → MayPrint s
objects_end top octets _ _ (drawn_objects_no_objects text h) = tt
objects_end top octets _ _ (drawn_objects_objects_by p reads) = tt

drawn_as_ends : (form : Form) (top octets : List ℕ) (s : Status) (output : List ℕ) → DrawnAs form top octets s output → MayPrint s
drawn_as_ends Text top octets s output h = drawn_ends top octets s output h
drawn_as_ends Json top octets s output h = objects_end top octets s output h

shown_ends : (top octets : List ℕ) (s : Status) (output : List ℕ) → ShownBy top octets s output → MayPrint s
shown_ends top octets _ _ (shown_by_no_listing text h) = tt
shown_ends top octets _ _ (shown_by_listed p reads) = tt

checked_ends : (top profile : List ℕ) (origin : Origin) (s : Status) (output : List ℕ) → CheckedOctets top profile origin s output → MayPrint s
checked_ends top profile origin _ _ (checked_octets_refused text h) = tt
checked_ends top profile origin _ _ (checked_octets_accepted a accepts) = tt

proved_by_ends : (order : Order) (p : Resolved) (s : Status) (output : List ℕ) → ProvedBy order.version p s output → MayPrint s
proved_by_ends order p _ _ (proved_by_unproved why text is says single) = tt
proved_by_ends order p _ _ (proved_by_printed cert is kept) = tt

proved_ends : (order : Order) (octets : List ℕ) (s : Status) (output : List ℕ) → ProvedOctets order.version order.top.now octets s output → MayPrint s
proved_ends order octets _ _ (proved_octets_none_proved text h) = tt
proved_ends order octets s output (proved_octets_proved_by p reads h) = proved_by_ends order p s output h

explained_ends : (Bare : Status → List ℕ → Type 0) → ((s : Status) (output : List ℕ) → Bare s output → MayPrint s) → (s : Status) (output : List ℕ) → Explained Bare s output → MayPrint s
explained_ends Bare ends s _ (explained_plain {output = plain} notes h) = ends s plain h

answer_ends : (order : Order) (parts : Parts) (s : Status) (output : List ℕ) → Answered order parts s output → MayPrint s
answer_ends order parts _ _ (answers_no_profile is) = tt
answer_ends order parts s output (answers_shown profile is asks h) = shown_ends order.top.now profile.now s output h
answer_ends order parts s output (answers_linted profile is asks h) = linted_with_ends order profile.now parts s output h
answer_ends order parts s output (answers_drawn profile is asks h) = drawn_as_ends order.form order.top.now profile.now s output h
answer_ends order parts s output (answers_checked profile is asks h) = checked_ends order.top.now profile.now (origin_of order.version parts.certificate) s output h
answer_ends order parts s output (answers_proved profile is asks h) = proved_ends order profile.now s output h
answer_ends order parts s output (answers_check_explained profile is asks h) =
    explained_ends (CheckedOctets order.top.now profile.now (origin_of order.version parts.certificate)) (λ t out g. checked_ends order.top.now profile.now (origin_of order.version parts.certificate) t out g) s output h
answer_ends order parts s output (answers_prove_explained profile is asks h) = explained_ends (ProvedOctets order.version order.top.now profile.now) (λ t out g. proved_ends order profile.now t out g) s output h
answer_ends order parts s output (answers_ran profile direction is asks h) = run_ends direction Line order profile.now parts s output h
answer_ends order parts s output (answers_told profile direction is asks h) = run_ends direction (Tree order.form) order profile.now parts s output h
answer_ends order parts s output (answers_explained profile direction is asks h) = run_ends direction (Why profile) order profile.now parts s output h
answer_ends order parts s output (answers_lined profile end is asks h) = lined_ends end order profile.now parts s output h
answer_ends order parts s output (answers_frames_sent profile lost is asks h) = framed_ends Sending lost order profile.now parts s output h
answer_ends order parts s output (answers_frames_received profile is asks h) = framed_ends Receiving 0 order profile.now parts s output h
answer_ends order parts s output (answers_stated profile how is asks h) = stated_ends (survey.Stats how) order profile.now parts s output h
answer_ends order parts s output (answers_advice_told profile lost is asks h) = stated_ends (survey.Advise order.form lost) order profile.now parts s output h
answer_ends order parts s output (answers_avoided_told profile is asks h) = stated_ends (survey.Avoid profile order.avoided) order profile.now parts s output h
answer_ends order parts s output (answers_lost_told profile most is asks h) = stated_ends (survey.Loss order.form most) order profile.now parts s output h
answer_ends order parts s output (answers_robust_packed profile lost is asks h) = stated_ends (survey.RobustPack Line order.shows_context lost) order profile.now parts s output h
answer_ends order parts s output (answers_robust_explained profile lost is asks h) = stated_ends (survey.RobustPack (Why profile) order.shows_context lost) order profile.now parts s output h
answer_ends order parts s output (answers_robust_stated profile lost how is asks h) = stated_ends (survey.RobustStats lost how) order profile.now parts s output h
answer_ends order parts s output (answers_robust_told profile most lost is asks h) = stated_ends (survey.RobustLoss order.form most lost) order profile.now parts s output h

shown_in_ends : (order : Order) (parts : Parts) (s : Status) (output : List ℕ) → Shown order parts s output → MayPrint s
shown_in_ends order parts s _ (answers_shown_as lines h) = answer_ends order parts s lines h

print_ends : (given : List (List ℕ)) (input : List ℕ) (s : Status) (output : List ℕ) → RunPrints given input s output → MayPrint s
print_ends given input _ _ (run_prints_large h) = tt
print_ends given input _ _ (run_prints_bad_part bad short blames) = tt
print_ends given input _ _ (run_prints_no_words short bundle none) = tt
print_ends given input s output (run_prints_answered words order parts short bundle is asks holds h) = shown_in_ends order parts s output h

-- ---- some input

for_input : (known : Option (List ℕ)) (P Q : List ℕ → Type 0) → ((input : List ℕ) → P input → Q input) → ForInput known P → ForInput known Q
for_input None P Q f h = (h.0, f h.0 h.1)
for_input (Some input) P Q f h = f input h

-- the reply to it
pub replied_as : (known : Option (List ℕ)) (given : List (List ℕ)) (r : Result Reply Failure) (reply : Reply) → ForInput known (λ i. IfOk r (Replies given i)) → r ≡ Ok reply → ForInput known (λ i. Replies given i reply)
replied_as known given r reply h is = for_input known (λ i. IfOk r (Replies given i)) (λ i. Replies given i reply) (λ i p. subst (λ q. IfOk q (Replies given i)) is p) h

longer : (n : ℕ) → (xs : List ℕ) × (n < length xs)
longer zero = (0 ∷ [], omega arith)
longer (suc n) = let h = longer n in (0 ∷ h.0, omega (arith, h.1))

-- the reply to an input that is too long
pub large_replied : (known : Option (List ℕ)) (given : List (List ℕ)) (r : Result Input Failure) (input : Input) (reply : Reply) → IfSome known (λ all. IfOk r (λ i. IsInput all i)) → r ≡ Ok input → input ≡ Large → RefusesBy large_line reply → ForInput known (λ i. Replies given i reply)
large_replied None given r input reply all is large says = let h = longer most_octets in (h.0, large_refused given h.0 reply h.1 says)
large_replied (Some i) given r input reply all is large says =
    let got : IsInput i input = subst (λ q. IfOk q (λ z. IsInput i z)) is all in
    large_refused given i reply (subst (λ z. IsInput i z) large got) says

-- ---- what a run does to its writer

gives_print : (Statistics : Type 0) (given : List (List ℕ)) (input : List ℕ) (s : Status) (output : List ℕ) (old new : Option (List ℕ)) → RunPrints given input s output → Appends old new output → Gives {Statistics = Statistics} given input s None old new
gives_print Statistics given input Done output old new p a = (output, p, a)
gives_print Statistics given input Refused output old new p a = (output, p, a)
gives_print Statistics given input Usage output old new p a = absurd (print_ends given input Usage output p)
gives_print Statistics given input (Failed why) output old new p a = absurd (print_ends given input (Failed why) output p)

-- all of a print is written
pub printed : (Statistics : Type 0) (known : Option (List ℕ)) (given : List (List ℕ)) (s : Status) (output : String Global) (bytes : List ℕ) (old new : Option (List ℕ)) → ForInput known (λ i. Replies given i (Print s output)) → bytes ≡ string_bytes output → Appends old new bytes →
    ForInput known (λ i. Gives {Statistics = Statistics} given i s None old new)
printed Statistics known given s output bytes old new h same sent =
    for_input known (λ i. Replies given i (Print s output)) (λ i. Gives {Statistics = Statistics} given i s None old new) (λ i p. gives_print Statistics given i s (string_bytes output) old new p (subst (Appends old new) same sent)) h

-- the front of a print is written
pub unwritten : (Statistics : Type 0) (known : Option (List ℕ)) (given : List (List ℕ)) (s : Status) (output : String Global) (bytes : List ℕ) (old new : Option (List ℕ)) → ForInput known (λ i. Replies given i (Print s output)) → bytes ≡ string_bytes output →
    (sent : List ℕ) × (rest : List ℕ) × (bytes ≡ sent ++ rest) × Appends old new sent → ForInput known (λ i. Gives {Statistics = Statistics} given i (Failed Writing) None old new)
unwritten Statistics known given s output bytes old new h same front =
    for_input known (λ i. Replies given i (Print s output)) (λ i. Gives {Statistics = Statistics} given i (Failed Writing) None old new)
    (λ i p. (front.0, inr (s, front.1, subst (RunPrints given i s) (sym same ∙ front.2) p), front.3)) h

keeps_all : (known : Option (List ℕ)) → Keeps known known
keeps_all None = tt
keeps_all (Some xs) = refl

-- nothing is written
pub told_alone : (Statistics : Type 0) (known : Option (List ℕ)) (given : List (List ℕ)) (s : Status) (text : String Global) (told : Statistics) (old : Option (List ℕ)) → ForInput known (λ i. Replies given i (Tell s text)) → ForInput known (λ i. Gives {Statistics = Statistics} given i s (Some told) old old)
told_alone Statistics known given s text told old h =
    for_input known (λ i. Replies given i (Tell s text)) (λ i. Gives {Statistics = Statistics} given i s (Some told) old old) (λ i t. (t, keeps_all old)) h

never_fails : (given : List (List ℕ)) (input : List ℕ) (s : Status) (output : List ℕ) (account : Option Account) (is_over : Option Bool) → RunPrints given input s output → Fails s account is_over
never_fails given input Done output account is_over p = tt
never_fails given input Refused output account is_over p = tt
never_fails given input Usage output account is_over p = tt
never_fails given input (Failed why) output account is_over p = absurd (print_ends given input (Failed why) output p)

-- a print doesn't fail
pub print_never_fails : (known : Option (List ℕ)) (given : List (List ℕ)) (s : Status) (output : String Global) (account : Option Account) (is_over : Option Bool) → ForInput known (λ i. Replies given i (Print s output)) → Fails s account is_over
print_never_fails None given s output account is_over h = never_fails given h.0 s (string_bytes output) account is_over h.1
print_never_fails (Some i) given s output account is_over h = never_fails given i s (string_bytes output) account is_over h
