-- What the words of a call ask for, by what clap's contracts say of a command and words.
use Rattle.std.specs.Prelude.{◌≡◌, ◌≢◌, ◌↔◌, ◌<◌, ◌&&◌, ℕ, Bool, true, false, List, [], ◌∷◌, Option, None, Some, if◌then◌else◌, codes, decimal, nat_lt, option_map, option_and_then, IfOk, Result}
use Rattle.std.specs.Str.{bytes_eq}
use Rattle.std.specs.declared.alloc.AllocError.{AllocError}
use Rattle.std.specs.Str.Parse.{digits_value}
use Rattle.clap.specs.Words.{App, IsAmong, Kinds, Row, Rule, app_of, fault_of, first_of, new_app, new_rule, subcommand_of, with_rule, with_subcommand}
use Rattle.clap.specs.Simple.{on_top}
use Rattle.clap.specs.declared.builder.command.Command.{Command as ClapCommand}
use Rattle.clap.specs.declared.builder.command.Command.TheViews.{out-Command as fields_of}
use Rattle.clap.specs.declared.builder.action.ArgAction.TheVariants.{SetTrue}
use Rattle.clap.specs.declared.error.kind.ErrorKind.{ErrorKind}
use Rattle.clap.specs.declared.error.kind.ErrorKind.TheVariants.{DisplayHelp, OutOfMemory}
use Rattle.cert_types.specs.declared.certificate.Version.{Version}
use Rattle.cert_types.specs.declared.certificate.Version.TheVariants.{One, Two}
use Rattle.tool_words.specs.declared.words.Command.{Command}
use Rattle.tool_words.specs.declared.words.Command.TheVariants.{Show, Lint, Draw, Check, Prove, ExplainCheck, ExplainProve, Run, Fields, Why, WhyNot, Stats, Loss, Advise, RobustPack, RobustStats, RobustLoss, RobustWhy, Line, SendFrames, ReceiveFrames}
use Rattle.tool_words.specs.declared.words.Counting.{Counting}
use Rattle.tool_words.specs.declared.words.Direction.{Direction}
use Rattle.tool_words.specs.declared.words.Direction.TheVariants.{Pack, Unpack}
use Rattle.tool_words.specs.declared.words.End.{End}
use Rattle.tool_words.specs.declared.words.End.TheVariants.{Sending, Receiving}
use Rattle.tool_words.specs.declared.words.Form.{Form}
use Rattle.tool_words.specs.declared.words.Form.TheVariants.{Text, Json}
use Rattle.tool_words.specs.declared.words.Order.{Order}
use Rattle.tool_words.specs.declared.words.WordsError.{WordsError}
use Rattle.tool_words.specs.declared.words.WordsError.TheVariants as error

-- a flag of that name, which takes no value
abbrev pub flag_rule : List ℕ → Rule
flag_rule name = record (new_rule name) { long = Some name; action = Some SetTrue }

-- an option of that name, which takes a value
abbrev pub option_rule : List ℕ → Rule
option_rule name = record (new_rule name) { long = Some name; value_names = 1 }

-- `--top NAME`, which has to be there
abbrev pub top_flag : Rule
top_flag = record (option_rule (codes "top")) { required = true }

-- `--context`, which takes no value
abbrev pub context_flag : Rule
context_flag = flag_rule (codes "context")

-- `--items`, `--v2`, `--explain`, `--receive`, `--wide`, `--frames` and `--json`, likewise
abbrev pub items_flag : Rule
items_flag = flag_rule (codes "items")

abbrev pub version_flag : Rule
version_flag = flag_rule (codes "v2")

abbrev pub explain_flag : Rule
explain_flag = flag_rule (codes "explain")

abbrev pub receive_flag : Rule
receive_flag = flag_rule (codes "receive")

abbrev pub wide_flag : Rule
wide_flag = flag_rule (codes "wide")

abbrev pub json_flag : Rule
json_flag = flag_rule (codes "json")

abbrev pub frames_flag : Rule
frames_flag = flag_rule (codes "frames")

-- `--strict`, `--by-item` and `--all`, likewise
abbrev pub strict_flag : Rule
strict_flag = flag_rule (codes "strict")

abbrev pub list_flag : Rule
list_flag = flag_rule (codes "by-item")

abbrev pub all_flag : Rule
all_flag = flag_rule (codes "all")

-- `--not FORMAT` and `--at-most BITS`, which need not be there
abbrev pub avoided_option : Rule
avoided_option = option_rule (codes "not")

abbrev pub most_option : Rule
most_option = option_rule (codes "at-most")

-- `--lost N`, whose value is 8 where it is not given
abbrev pub lost_option : Rule
lost_option = record (option_rule (codes "lost")) { defaults = codes "8" ∷ [] }

-- `--robust N`, which need not be there
abbrev pub robust_option : Rule
robust_option = option_rule (codes "robust")

-- a command of that name with the first flag
abbrev pub with_top : List ℕ → App
with_top name = with_rule (new_app name) top_flag

-- one that may make a certificate, with the second flag too; and with one or two more
abbrev pub with_version : List ℕ → App
with_version name = with_rule (with_top name) version_flag

-- those whose answers may be objects, with `--json`
abbrev pub with_json : List ℕ → App
with_json name = with_rule (with_version name) json_flag

abbrev pub with_drawing : List ℕ → App
with_drawing name = with_rule (with_top name) json_flag

abbrev pub with_lost : List ℕ → App
with_lost name = with_rule (with_json name) lost_option

abbrev pub with_robust : List ℕ → App
with_robust name = with_rule (with_json name) robust_option

abbrev pub with_strict : List ℕ → App
with_strict name = with_rule (with_drawing name) strict_flag

abbrev pub with_list : List ℕ → App
with_list name = with_rule (with_robust name) list_flag

abbrev pub with_all : List ℕ → App
with_all name = with_rule (with_list name) all_flag

abbrev pub with_checks : List ℕ → App
with_checks name = with_rule (with_all name) most_option

abbrev pub with_losses : List ℕ → App
with_losses name = with_rule (with_lost name) robust_option

abbrev pub with_explain : List ℕ → App
with_explain name = with_rule (with_json name) explain_flag

abbrev pub with_flags : List ℕ → App
with_flags name = with_rule (with_version name) context_flag

abbrev pub with_sending : List ℕ → App
with_sending name = with_rule (with_flags name) robust_option

abbrev pub with_listed : List ℕ → App
with_listed name = with_rule (with_flags name) json_flag

abbrev pub with_items : List ℕ → App
with_items name = with_rule (with_listed name) items_flag

abbrev pub with_avoided : List ℕ → App
with_avoided name = with_rule (with_items name) avoided_option

abbrev pub with_reasons : List ℕ → App
with_reasons name = with_rule (with_avoided name) robust_option

abbrev pub with_receive : List ℕ → App
with_receive name = with_rule (with_version name) receive_flag

abbrev pub with_wide : List ℕ → App
with_wide name = with_rule (with_receive name) wide_flag

abbrev pub with_frames : List ℕ → App
with_frames name = with_rule (with_wide name) frames_flag

abbrev pub with_line : List ℕ → App
with_line name = with_rule (with_frames name) robust_option

-- the program's own command line: no name before the words, and one of the commands has to be there
abbrev pub bare_program : App
bare_program = on_top (λ top. record top { no_binary_name = true; subcommand_required = true })
    (new_app (codes "rohcfn"))

-- where there is a command it is this one, and has no flags for those below it
abbrev pub IsCommand : App → Result ClapCommand AllocError → Type 0
IsCommand app result = IfOk result (λ c. (app_of c ≡ app) × ((fields_of c).has_globals ≡ false))

-- where there is a command, and one that has no flags for those below it, the second stands below the first
abbrev pub IsAdded : Result ClapCommand AllocError → Result ClapCommand AllocError → Result ClapCommand AllocError → Type 0
IsAdded command below result = (a s : App) → IfOk command (λ c. app_of c ≡ a) → IsCommand s below →
    IfOk result (λ c. app_of c ≡ with_subcommand a s.top)

-- with the commands that take items or packets
abbrev pub header_program : App
header_program = with_subcommand (with_subcommand (with_subcommand (with_subcommand (with_subcommand (with_subcommand (with_subcommand bare_program (with_sending (codes "pack")).top)
    (with_flags (codes "unpack")).top) (with_items (codes "fields")).top) (with_reasons (codes "why")).top) (with_checks (codes "stats")).top) (with_losses (codes "loss")).top) (with_lost (codes "advise")).top

-- with all commands
unfoldable pub program : App
program = with_subcommand (with_subcommand (with_subcommand (with_subcommand (with_subcommand (with_subcommand header_program (with_top (codes "show")).top)
    (with_strict (codes "lint")).top) (with_drawing (codes "draw")).top) (with_explain (codes "check")).top) (with_explain (codes "prove")).top) (with_line (codes "line")).top

-- a command, the name of a method, whether the last context is printed, the version of a certificate that is made, whether the line is the wide one and whether a
-- warning ends with status 1, the form of the answer, and the format of `--not`, which is empty where none is given
pub record Asked : Type 0 where
  pub command : Command
  pub top : List ℕ
  pub shows_context : Bool
  pub version : Version
  pub is_wide : Bool
  pub is_strict : Bool
  pub form : Form
  pub avoided : List ℕ

abbrev pub asked : Order → Asked
asked order = record { command = order.command; top = order.top.now; shows_context = order.shows_context; version = order.version; is_wide = order.is_wide; is_strict = order.is_strict; form = order.form; avoided = order.avoided.now }

-- the flag was given
abbrev pub is_set : Option (List ℕ) → Bool
is_set None = false
is_set (Some text) = bytes_eq text (codes "true")

-- the text of an option, or no characters
abbrev pub text_or_empty : Option (List ℕ) → List ℕ
text_or_empty None = []
text_or_empty (Some text) = text

-- the end of a line: the receiving one, where that is asked for
abbrev pub end_at : Bool → End
end_at receives = if receives then Receiving else Sending

-- the direction of `fields` and of `why`: of items, where these are asked for, else of packets
abbrev pub direction_at : Bool → Direction
direction_at packs = if packs then Pack else Unpack

-- `check` and `prove`, where explanations are asked for or not
abbrev pub check_at : Bool → Command
check_at explains = if explains then ExplainCheck else Check

abbrev pub prove_at : Bool → Command
prove_at explains = if explains then ExplainProve else Prove

-- the number of lost packets that a text spells: one below 64, whose decimal digits the text is
abbrev pub lost_spelled : List ℕ → Option ℕ
lost_spelled text = if bytes_eq (decimal (digits_value 10 text)) text && nat_lt (digits_value 10 text) 64 then Some (digits_value 10 text) else None

-- the same of what an option has
abbrev pub lost_in : Option (List ℕ) → Option ℕ
lost_in = option_and_then lost_spelled

-- a command that packs items, of the robust sender, whose packets survive so many lost in a row
abbrev pub robust_run : Direction → ℕ → Option Command
robust_run Pack n = Some (RobustPack n)
robust_run Unpack n = None

-- why one is refused, likewise
abbrev pub robust_why : Direction → ℕ → Option Command
robust_why Pack n = Some (RobustWhy n)
robust_why Unpack n = None

abbrev pub robust_command : Command → ℕ → Option Command
robust_command (Run direction) n = robust_run direction n
robust_command (Why direction) n = robust_why direction n
robust_command (Stats counting) n = Some (RobustStats n counting)
robust_command (Loss most) n = Some (RobustLoss most n)
robust_command (SendFrames none) n = Some (SendFrames n)
robust_command _ n = None

-- that where the option is there, else the command as it stands
abbrev pub robust_by : Option (List ℕ) → Command → Option Command
robust_by None command = Some command
robust_by (Some text) command = option_and_then (robust_command command) (lost_spelled text)

-- the number of bits that a text spells: one up to 65536, likewise
abbrev pub bits_spelled : List ℕ → Option ℕ
bits_spelled text = if bytes_eq (decimal (digits_value 10 text)) text && nat_lt (digits_value 10 text) 65537 then Some (digits_value 10 text) else None

-- the form of the answer: objects of JSON where they are asked for, else text
abbrev pub form_asked : Bool → Form
form_asked objects = if objects then Json else Text

-- what `stats` lists and wants: the mean may be anything, where `--at-most` is not given
abbrev pub counting_of : Form → Bool → Bool → Option (List ℕ) → Option Counting
counting_of form list all None = Some (record { lists_items = list; needs_all = all; most = None; form = form })
counting_of form list all (Some text) = option_map (λ bits. record { lists_items = list; needs_all = all; most = Some bits; form = form }) (bits_spelled text)

abbrev pub counting_in : List Row → Option Counting
counting_in rows = counting_of (form_asked (is_set (first_of (codes "json") rows))) (is_set (first_of (codes "by-item") rows)) (is_set (first_of (codes "all") rows)) (first_of (codes "at-most") rows)

-- `why`, by whether items are asked for, and the format of `--not`, which goes with items
abbrev pub why_named : Bool → Option (List ℕ) → Option Command
why_named packs None = Some (Why (direction_at packs))
why_named packs (Some format) = if packs then Some WhyNot else None

-- `line`, by whether the receiving end, frames and the wide line are asked for; frames have 64 flows as they are
abbrev pub frames_at : Bool → Command
frames_at receives = if receives then ReceiveFrames else SendFrames 0

abbrev pub line_named : Bool → Bool → Bool → Option Command
line_named receives frames wide = if frames then (if wide then None else Some (frames_at receives)) else Some (Line (end_at receives))

-- a command by its name and the values of its flags, but `--robust`
abbrev pub command_named : List ℕ → List Row → Option Command
command_named name rows = if bytes_eq name (codes "pack") then Some (Run Pack)
    else (if bytes_eq name (codes "unpack") then Some (Run Unpack)
    else (if bytes_eq name (codes "fields") then Some (Fields (direction_at (is_set (first_of (codes "items") rows))))
    else (if bytes_eq name (codes "why") then why_named (is_set (first_of (codes "items") rows)) (first_of (codes "not") rows)
    else (if bytes_eq name (codes "stats") then option_map Stats (counting_in rows)
    else (if bytes_eq name (codes "loss") then option_map Loss (lost_in (first_of (codes "lost") rows))
    else (if bytes_eq name (codes "advise") then option_map Advise (lost_in (first_of (codes "lost") rows))
    else (if bytes_eq name (codes "show") then Some Show
    else (if bytes_eq name (codes "lint") then Some Lint
    else (if bytes_eq name (codes "draw") then Some Draw
    else (if bytes_eq name (codes "check") then Some (check_at (is_set (first_of (codes "explain") rows)))
    else (if bytes_eq name (codes "prove") then Some (prove_at (is_set (first_of (codes "explain") rows)))
    else (if bytes_eq name (codes "line") then line_named (is_set (first_of (codes "receive") rows)) (is_set (first_of (codes "frames") rows)) (is_set (first_of (codes "wide") rows)) else None))))))))))))

-- a command by its name and the values of its flags
abbrev pub command_in : List ℕ → List Row → Option Command
command_in name rows = option_and_then (robust_by (first_of (codes "robust") rows)) (command_named name rows)

-- the version of a certificate that is made: the first, where the second is not asked for
abbrev pub version_asked : Bool → Version
version_asked second = if second then Two else One

abbrev pub asked_by : Option Command → Option (List ℕ) → List Row → Option Asked
asked_by None top rows = None
asked_by (Some command) None rows = None
asked_by (Some command) (Some top) rows = Some (record {
  command = command;
  top = top;
  shows_context = is_set (first_of (codes "context") rows);
  version = version_asked (is_set (first_of (codes "v2") rows));
  is_wide = is_set (first_of (codes "wide") rows);
  is_strict = is_set (first_of (codes "strict") rows);
  form = form_asked (is_set (first_of (codes "json") rows));
  avoided = text_or_empty (first_of (codes "not") rows);
})

-- a command's name, and the values of its flags
abbrev pub asked_in : Option (List ℕ × List Row) → Option Asked
asked_in None = None
asked_in (Some met) = asked_by (command_in met.0 met.1) (first_of (codes "top") met.1) met.1

-- the command that is asked for by a command's name and the values of its flags
abbrev pub command_asked : List ℕ → List Row → Option Command
command_asked name rows = option_map (λ (a : Asked). a.command) (asked_in (Some (name, rows)))

-- What `loss` makes of the text that `--lost` has: with the decimal digits of a number below 64 that number is asked for, with any other text nothing is.
pub record ReadsLost : Type 0 where
  pub spelled : (text : List ℕ) (n : ℕ) → (lost_spelled text ≡ Some n) ↔ ((text ≡ decimal n) × (n < 64))
  pub asks : (rows : List Row) (n : ℕ) (top : List ℕ) → n < 64 → first_of (codes "lost") rows ≡ Some (decimal n) → first_of (codes "robust") rows ≡ None → first_of (codes "top") rows ≡ Some top
      → command_asked (codes "loss") rows ≡ Some (Loss n)
  pub refuses : (rows : List Row) (text : List ℕ) → first_of (codes "lost") rows ≡ Some text → ((n : ℕ) → n < 64 → text ≢ decimal n)
      → asked_in (Some (codes "loss", rows)) ≡ None

-- What `pack`, `stats`, `loss`, `why` and `line` make of the text that `--robust` has, likewise.
pub record ReadsRobust : Type 0 where
  pub packs : (rows : List Row) (n : ℕ) (top : List ℕ) → n < 64 → first_of (codes "robust") rows ≡ Some (decimal n) → first_of (codes "top") rows ≡ Some top
      → command_asked (codes "pack") rows ≡ Some (RobustPack n)
  pub counts : (rows : List Row) (n : ℕ) (top : List ℕ) (counting : Counting) → n < 64 → first_of (codes "robust") rows ≡ Some (decimal n) → counting_in rows ≡ Some counting → first_of (codes "top") rows ≡ Some top
      → command_asked (codes "stats") rows ≡ Some (RobustStats n counting)
  pub loses : (rows : List Row) (most n : ℕ) (top : List ℕ) → most < 64 → n < 64 → first_of (codes "lost") rows ≡ Some (decimal most) → first_of (codes "robust") rows ≡ Some (decimal n) → first_of (codes "top") rows ≡ Some top
      → command_asked (codes "loss") rows ≡ Some (RobustLoss most n)
  pub tells : (rows : List Row) (n : ℕ) (top : List ℕ) → n < 64 → first_of (codes "robust") rows ≡ Some (decimal n) → first_of (codes "items") rows ≡ Some (codes "true") → first_of (codes "not") rows ≡ None → first_of (codes "top") rows ≡ Some top
      → command_asked (codes "why") rows ≡ Some (RobustWhy n)
  pub frames : (rows : List Row) (n : ℕ) (top : List ℕ) → n < 64 → first_of (codes "robust") rows ≡ Some (decimal n) → first_of (codes "frames") rows ≡ Some (codes "true") → first_of (codes "receive") rows ≡ None → first_of (codes "wide") rows ≡ None → first_of (codes "top") rows ≡ Some top
      → command_asked (codes "line") rows ≡ Some (SendFrames n)
  pub refuses : (name text : List ℕ) (rows : List Row) → first_of (codes "robust") rows ≡ Some text → ((n : ℕ) → n < 64 → text ≢ decimal n)
      → asked_in (Some (name, rows)) ≡ None

-- What `stats` makes of the text that `--at-most` has: with the decimal digits of a number up to 65536 that is wanted, with any other text nothing is asked for.
pub record ReadsMost : Type 0 where
  pub spelled : (text : List ℕ) (n : ℕ) → (bits_spelled text ≡ Some n) ↔ ((text ≡ decimal n) × (n < 65537))
  pub asks : (rows : List Row) (n : ℕ) (top : List ℕ) → n < 65537 → first_of (codes "at-most") rows ≡ Some (decimal n) → first_of (codes "robust") rows ≡ None → first_of (codes "top") rows ≡ Some top
      → command_asked (codes "stats") rows ≡ Some (Stats (record { lists_items = is_set (first_of (codes "by-item") rows); needs_all = is_set (first_of (codes "all") rows); most = Some n; form = form_asked (is_set (first_of (codes "json") rows)) }))
  pub refuses : (rows : List Row) (text : List ℕ) → first_of (codes "at-most") rows ≡ Some text → ((n : ℕ) → n < 65537 → text ≢ decimal n)
      → asked_in (Some (codes "stats", rows)) ≡ None

-- words with a fault ask for nothing
abbrev pub asked_unless : Kinds → Option (List ℕ × List Row) → Option Asked
asked_unless [] met = asked_in met
asked_unless (kind ∷ kinds) met = None

-- what the words ask for
unfoldable pub asked_of : List (List ℕ) → Option Asked
asked_of words = asked_unless (fault_of program words) (subcommand_of program words)

-- the words ask for help
unfoldable pub AskHelp : List (List ℕ) → Type 0
AskHelp words = IsAmong DisplayHelp (fault_of program words)

-- they ask for help, and no other fault may be told of them
unfoldable pub AskJustHelp : List (List ℕ) → Type 0
AskJustHelp words = fault_of program words ≡ DisplayHelp ∷ []

-- why words are refused: they ask for help, or for nothing
abbrev pub RefusesWords : List (List ℕ) → WordsError → Type 0
RefusesWords words (error.Help text) = (asked_of words ≡ None) × AskHelp words
RefusesWords words (error.Usage text) = (asked_of words ≡ None) × ¬ (AskJustHelp words)
RefusesWords words error.OutOfMemory = Unit {0}

-- what clap's kind of refusal is to the caller
abbrev pub RefusesError : ErrorKind → WordsError → Type 0
RefusesError kind (error.Help text) = kind ≡ DisplayHelp
RefusesError kind (error.Usage text) = (kind ≢ OutOfMemory) × (kind ≢ DisplayHelp)
RefusesError kind error.OutOfMemory = Unit {0}

-- `stats` that lists no items and wants nothing
abbrev pub plain_counting : Counting
plain_counting = record { lists_items = false; needs_all = false; most = None; form = Text }

-- what some words ask for, written out
pub record ReadsWords : Type 0 where
  pub pack : asked_of (codes "pack" ∷ codes "--top" ∷ codes "plain" ∷ []) ≡ Some (record { command = Run Pack; top = codes "plain"; shows_context = false; version = One; is_wide = false; is_strict = false; form = Text; avoided = [] })
  pub unpack : asked_of (codes "unpack" ∷ codes "--top=plain" ∷ []) ≡ Some (record { command = Run Unpack; top = codes "plain"; shows_context = false; version = One; is_wide = false; is_strict = false; form = Text; avoided = [] })
  pub show : asked_of (codes "show" ∷ codes "--top" ∷ codes "plain" ∷ []) ≡ Some (record { command = Show; top = codes "plain"; shows_context = false; version = One; is_wide = false; is_strict = false; form = Text; avoided = [] })
  pub check : asked_of (codes "check" ∷ codes "--top" ∷ codes "plain" ∷ []) ≡ Some (record { command = Check; top = codes "plain"; shows_context = false; version = One; is_wide = false; is_strict = false; form = Text; avoided = [] })
  pub prove : asked_of (codes "prove" ∷ codes "--top" ∷ codes "plain" ∷ []) ≡ Some (record { command = Prove; top = codes "plain"; shows_context = false; version = One; is_wide = false; is_strict = false; form = Text; avoided = [] })
  pub pack_context : asked_of (codes "pack" ∷ codes "--top" ∷ codes "plain" ∷ codes "--context" ∷ []) ≡ Some (record { command = Run Pack; top = codes "plain"; shows_context = true; version = One; is_wide = false; is_strict = false; form = Text; avoided = [] })
  pub pack_second : asked_of (codes "pack" ∷ codes "--top" ∷ codes "plain" ∷ codes "--v2" ∷ []) ≡ Some (record { command = Run Pack; top = codes "plain"; shows_context = false; version = Two; is_wide = false; is_strict = false; form = Text; avoided = [] })
  pub prove_second : asked_of (codes "prove" ∷ codes "--v2" ∷ codes "--top" ∷ codes "plain" ∷ []) ≡ Some (record { command = Prove; top = codes "plain"; shows_context = false; version = Two; is_wide = false; is_strict = false; form = Text; avoided = [] })
  pub line_second : asked_of (codes "line" ∷ codes "--top" ∷ codes "plain" ∷ codes "--receive" ∷ codes "--v2" ∷ []) ≡ Some (record { command = Line Receiving; top = codes "plain"; shows_context = false; version = Two; is_wide = false; is_strict = false; form = Text; avoided = [] })
  pub show_second : asked_of (codes "show" ∷ codes "--top" ∷ codes "plain" ∷ codes "--v2" ∷ []) ≡ None
  pub show_context : asked_of (codes "show" ∷ codes "--top" ∷ codes "plain" ∷ codes "--context" ∷ []) ≡ None
  pub line : asked_of (codes "line" ∷ codes "--top" ∷ codes "plain" ∷ []) ≡ Some (record { command = Line Sending; top = codes "plain"; shows_context = false; version = One; is_wide = false; is_strict = false; form = Text; avoided = [] })
  pub line_receive : asked_of (codes "line" ∷ codes "--top" ∷ codes "plain" ∷ codes "--receive" ∷ []) ≡ Some (record { command = Line Receiving; top = codes "plain"; shows_context = false; version = One; is_wide = false; is_strict = false; form = Text; avoided = [] })
  pub line_wide : asked_of (codes "line" ∷ codes "--top" ∷ codes "plain" ∷ codes "--wide" ∷ []) ≡ Some (record { command = Line Sending; top = codes "plain"; shows_context = false; version = One; is_wide = true; is_strict = false; form = Text; avoided = [] })
  pub line_wide_receive : asked_of (codes "line" ∷ codes "--wide" ∷ codes "--receive" ∷ codes "--top" ∷ codes "plain" ∷ []) ≡ Some (record { command = Line Receiving; top = codes "plain"; shows_context = false; version = One; is_wide = true; is_strict = false; form = Text; avoided = [] })
  pub line_frames : asked_of (codes "line" ∷ codes "--top" ∷ codes "plain" ∷ codes "--frames" ∷ []) ≡ Some (record { command = SendFrames 0; top = codes "plain"; shows_context = false; version = One; is_wide = false; is_strict = false; form = Text; avoided = [] })
  pub line_frames_receive : asked_of (codes "line" ∷ codes "--receive" ∷ codes "--frames" ∷ codes "--top" ∷ codes "plain" ∷ codes "--v2" ∷ []) ≡ Some (record { command = ReceiveFrames; top = codes "plain"; shows_context = false; version = Two; is_wide = false; is_strict = false; form = Text; avoided = [] })
  pub line_frames_robust : asked_of (codes "line" ∷ codes "--top" ∷ codes "plain" ∷ codes "--frames" ∷ codes "--robust" ∷ codes "3" ∷ []) ≡ Some (record { command = SendFrames 3; top = codes "plain"; shows_context = false; version = One; is_wide = false; is_strict = false; form = Text; avoided = [] })
  pub line_frames_wide : asked_of (codes "line" ∷ codes "--top" ∷ codes "plain" ∷ codes "--frames" ∷ codes "--wide" ∷ []) ≡ None
  pub line_robust : asked_of (codes "line" ∷ codes "--top" ∷ codes "plain" ∷ codes "--robust" ∷ codes "3" ∷ []) ≡ None
  pub line_robust_receive : asked_of (codes "line" ∷ codes "--top" ∷ codes "plain" ∷ codes "--frames" ∷ codes "--receive" ∷ codes "--robust" ∷ codes "3" ∷ []) ≡ None
  pub line_frames_above : asked_of (codes "line" ∷ codes "--top" ∷ codes "plain" ∷ codes "--frames" ∷ codes "--robust" ∷ codes "64" ∷ []) ≡ None
  pub fields : asked_of (codes "fields" ∷ codes "--top" ∷ codes "plain" ∷ []) ≡ Some (record { command = Fields Unpack; top = codes "plain"; shows_context = false; version = One; is_wide = false; is_strict = false; form = Text; avoided = [] })
  pub fields_items : asked_of (codes "fields" ∷ codes "--top" ∷ codes "plain" ∷ codes "--items" ∷ codes "--context" ∷ []) ≡ Some (record { command = Fields Pack; top = codes "plain"; shows_context = true; version = One; is_wide = false; is_strict = false; form = Text; avoided = [] })
  pub why : asked_of (codes "why" ∷ codes "--top" ∷ codes "plain" ∷ []) ≡ Some (record { command = Why Unpack; top = codes "plain"; shows_context = false; version = One; is_wide = false; is_strict = false; form = Text; avoided = [] })
  pub why_items : asked_of (codes "why" ∷ codes "--top" ∷ codes "plain" ∷ codes "--items" ∷ []) ≡ Some (record { command = Why Pack; top = codes "plain"; shows_context = false; version = One; is_wide = false; is_strict = false; form = Text; avoided = [] })
  pub stats : asked_of (codes "stats" ∷ codes "--top" ∷ codes "plain" ∷ []) ≡ Some (record { command = Stats plain_counting; top = codes "plain"; shows_context = false; version = One; is_wide = false; is_strict = false; form = Text; avoided = [] })
  pub stats_context : asked_of (codes "stats" ∷ codes "--top" ∷ codes "plain" ∷ codes "--context" ∷ []) ≡ None
  pub loss : asked_of (codes "loss" ∷ codes "--top" ∷ codes "plain" ∷ []) ≡ Some (record { command = Loss 8; top = codes "plain"; shows_context = false; version = One; is_wide = false; is_strict = false; form = Text; avoided = [] })
  pub loss_none : asked_of (codes "loss" ∷ codes "--top" ∷ codes "plain" ∷ codes "--lost" ∷ codes "0" ∷ []) ≡ Some (record { command = Loss 0; top = codes "plain"; shows_context = false; version = One; is_wide = false; is_strict = false; form = Text; avoided = [] })
  pub loss_most : asked_of (codes "loss" ∷ codes "--lost=63" ∷ codes "--top" ∷ codes "plain" ∷ codes "--v2" ∷ []) ≡ Some (record { command = Loss 63; top = codes "plain"; shows_context = false; version = Two; is_wide = false; is_strict = false; form = Text; avoided = [] })
  pub loss_above : asked_of (codes "loss" ∷ codes "--top" ∷ codes "plain" ∷ codes "--lost" ∷ codes "64" ∷ []) ≡ None
  pub loss_plus : asked_of (codes "loss" ∷ codes "--top" ∷ codes "plain" ∷ codes "--lost" ∷ codes "+1" ∷ []) ≡ None
  pub loss_minus : asked_of (codes "loss" ∷ codes "--top" ∷ codes "plain" ∷ codes "--lost=-1" ∷ []) ≡ None
  pub loss_zero_first : asked_of (codes "loss" ∷ codes "--top" ∷ codes "plain" ∷ codes "--lost" ∷ codes "01" ∷ []) ≡ None
  pub loss_empty : asked_of (codes "loss" ∷ codes "--top" ∷ codes "plain" ∷ codes "--lost=" ∷ []) ≡ None
  pub loss_letter : asked_of (codes "loss" ∷ codes "--top" ∷ codes "plain" ∷ codes "--lost" ∷ codes "1x" ∷ []) ≡ None
  pub loss_twice : asked_of (codes "loss" ∷ codes "--top" ∷ codes "plain" ∷ codes "--lost" ∷ codes "1" ∷ codes "--lost" ∷ codes "1" ∷ []) ≡ None
  pub loss_context : asked_of (codes "loss" ∷ codes "--top" ∷ codes "plain" ∷ codes "--context" ∷ []) ≡ None
  pub stats_lost : asked_of (codes "stats" ∷ codes "--top" ∷ codes "plain" ∷ codes "--lost" ∷ codes "1" ∷ []) ≡ None
  pub pack_robust : asked_of (codes "pack" ∷ codes "--top" ∷ codes "plain" ∷ codes "--robust" ∷ codes "0" ∷ []) ≡ Some (record { command = RobustPack 0; top = codes "plain"; shows_context = false; version = One; is_wide = false; is_strict = false; form = Text; avoided = [] })
  pub pack_robust_context : asked_of (codes "pack" ∷ codes "--robust=63" ∷ codes "--top" ∷ codes "plain" ∷ codes "--context" ∷ codes "--v2" ∷ []) ≡ Some (record { command = RobustPack 63; top = codes "plain"; shows_context = true; version = Two; is_wide = false; is_strict = false; form = Text; avoided = [] })
  pub pack_robust_above : asked_of (codes "pack" ∷ codes "--top" ∷ codes "plain" ∷ codes "--robust" ∷ codes "64" ∷ []) ≡ None
  pub pack_robust_zero_first : asked_of (codes "pack" ∷ codes "--top" ∷ codes "plain" ∷ codes "--robust" ∷ codes "01" ∷ []) ≡ None
  pub pack_robust_twice : asked_of (codes "pack" ∷ codes "--top" ∷ codes "plain" ∷ codes "--robust" ∷ codes "1" ∷ codes "--robust" ∷ codes "1" ∷ []) ≡ None
  pub stats_robust : asked_of (codes "stats" ∷ codes "--top" ∷ codes "plain" ∷ codes "--robust" ∷ codes "3" ∷ []) ≡ Some (record { command = RobustStats 3 plain_counting; top = codes "plain"; shows_context = false; version = One; is_wide = false; is_strict = false; form = Text; avoided = [] })
  pub stats_robust_plus : asked_of (codes "stats" ∷ codes "--top" ∷ codes "plain" ∷ codes "--robust" ∷ codes "+1" ∷ []) ≡ None
  pub loss_robust : asked_of (codes "loss" ∷ codes "--top" ∷ codes "plain" ∷ codes "--robust" ∷ codes "3" ∷ []) ≡ Some (record { command = RobustLoss 8 3; top = codes "plain"; shows_context = false; version = One; is_wide = false; is_strict = false; form = Text; avoided = [] })
  pub loss_both : asked_of (codes "loss" ∷ codes "--top" ∷ codes "plain" ∷ codes "--robust" ∷ codes "15" ∷ codes "--lost" ∷ codes "2" ∷ []) ≡ Some (record { command = RobustLoss 2 15; top = codes "plain"; shows_context = false; version = One; is_wide = false; is_strict = false; form = Text; avoided = [] })
  pub loss_robust_empty : asked_of (codes "loss" ∷ codes "--top" ∷ codes "plain" ∷ codes "--robust=" ∷ []) ≡ None
  pub why_robust : asked_of (codes "why" ∷ codes "--top" ∷ codes "plain" ∷ codes "--items" ∷ codes "--robust" ∷ codes "2" ∷ []) ≡ Some (record { command = RobustWhy 2; top = codes "plain"; shows_context = false; version = One; is_wide = false; is_strict = false; form = Text; avoided = [] })
  pub why_robust_packets : asked_of (codes "why" ∷ codes "--top" ∷ codes "plain" ∷ codes "--robust" ∷ codes "2" ∷ []) ≡ None
  pub unpack_robust : asked_of (codes "unpack" ∷ codes "--top" ∷ codes "plain" ∷ codes "--robust" ∷ codes "1" ∷ []) ≡ None
  pub fields_robust : asked_of (codes "fields" ∷ codes "--top" ∷ codes "plain" ∷ codes "--items" ∷ codes "--robust" ∷ codes "1" ∷ []) ≡ None
  pub stats_by_item : asked_of (codes "stats" ∷ codes "--top" ∷ codes "plain" ∷ codes "--by-item" ∷ []) ≡ Some (record { command = Stats (record { lists_items = true; needs_all = false; most = None; form = Text }); top = codes "plain"; shows_context = false; version = One; is_wide = false; is_strict = false; form = Text; avoided = [] })
  pub stats_checks : asked_of (codes "stats" ∷ codes "--top" ∷ codes "plain" ∷ codes "--all" ∷ codes "--at-most" ∷ codes "40" ∷ []) ≡ Some (record { command = Stats (record { lists_items = false; needs_all = true; most = Some 40; form = Text }); top = codes "plain"; shows_context = false; version = One; is_wide = false; is_strict = false; form = Text; avoided = [] })
  pub stats_checks_robust : asked_of (codes "stats" ∷ codes "--top" ∷ codes "plain" ∷ codes "--robust" ∷ codes "2" ∷ codes "--at-most=65536" ∷ codes "--by-item" ∷ []) ≡ Some (record { command = RobustStats 2 (record { lists_items = true; needs_all = false; most = Some 65536; form = Text }); top = codes "plain"; shows_context = false; version = One; is_wide = false; is_strict = false; form = Text; avoided = [] })
  pub stats_most_above : asked_of (codes "stats" ∷ codes "--top" ∷ codes "plain" ∷ codes "--at-most" ∷ codes "65537" ∷ []) ≡ None
  pub stats_most_letter : asked_of (codes "stats" ∷ codes "--top" ∷ codes "plain" ∷ codes "--at-most" ∷ codes "4x" ∷ []) ≡ None
  pub loss_checks : asked_of (codes "loss" ∷ codes "--top" ∷ codes "plain" ∷ codes "--all" ∷ []) ≡ None
  pub why_not : asked_of (codes "why" ∷ codes "--top" ∷ codes "plain" ∷ codes "--items" ∷ codes "--not" ∷ codes "short" ∷ []) ≡ Some (record { command = WhyNot; top = codes "plain"; shows_context = false; version = One; is_wide = false; is_strict = false; form = Text; avoided = codes "short" })
  pub why_not_second : asked_of (codes "why" ∷ codes "--not=a.b" ∷ codes "--v2" ∷ codes "--items" ∷ codes "--top" ∷ codes "plain" ∷ []) ≡ Some (record { command = WhyNot; top = codes "plain"; shows_context = false; version = Two; is_wide = false; is_strict = false; form = Text; avoided = codes "a.b" })
  pub why_not_packets : asked_of (codes "why" ∷ codes "--top" ∷ codes "plain" ∷ codes "--not" ∷ codes "short" ∷ []) ≡ None
  pub why_not_robust : asked_of (codes "why" ∷ codes "--top" ∷ codes "plain" ∷ codes "--items" ∷ codes "--not" ∷ codes "short" ∷ codes "--robust" ∷ codes "2" ∷ []) ≡ None
  pub fields_not : asked_of (codes "fields" ∷ codes "--top" ∷ codes "plain" ∷ codes "--items" ∷ codes "--not" ∷ codes "short" ∷ []) ≡ None
  pub advise : asked_of (codes "advise" ∷ codes "--top" ∷ codes "plain" ∷ []) ≡ Some (record { command = Advise 8; top = codes "plain"; shows_context = false; version = One; is_wide = false; is_strict = false; form = Text; avoided = [] })
  pub advise_lost : asked_of (codes "advise" ∷ codes "--top" ∷ codes "plain" ∷ codes "--lost" ∷ codes "3" ∷ []) ≡ Some (record { command = Advise 3; top = codes "plain"; shows_context = false; version = One; is_wide = false; is_strict = false; form = Text; avoided = [] })
  pub advise_robust : asked_of (codes "advise" ∷ codes "--top" ∷ codes "plain" ∷ codes "--robust" ∷ codes "3" ∷ []) ≡ None
  pub lint_strict : asked_of (codes "lint" ∷ codes "--top" ∷ codes "plain" ∷ codes "--strict" ∷ []) ≡ Some (record { command = Lint; top = codes "plain"; shows_context = false; version = One; is_wide = false; is_strict = true; form = Text; avoided = [] })
  pub draw_strict : asked_of (codes "draw" ∷ codes "--top" ∷ codes "plain" ∷ codes "--strict" ∷ []) ≡ None
  pub lint : asked_of (codes "lint" ∷ codes "--top" ∷ codes "plain" ∷ []) ≡ Some (record { command = Lint; top = codes "plain"; shows_context = false; version = One; is_wide = false; is_strict = false; form = Text; avoided = [] })
  pub lint_second : asked_of (codes "lint" ∷ codes "--top" ∷ codes "plain" ∷ codes "--v2" ∷ []) ≡ None
  pub draw : asked_of (codes "draw" ∷ codes "--top" ∷ codes "plain" ∷ []) ≡ Some (record { command = Draw; top = codes "plain"; shows_context = false; version = One; is_wide = false; is_strict = false; form = Text; avoided = [] })
  pub check_explain : asked_of (codes "check" ∷ codes "--top" ∷ codes "plain" ∷ codes "--explain" ∷ []) ≡ Some (record { command = ExplainCheck; top = codes "plain"; shows_context = false; version = One; is_wide = false; is_strict = false; form = Text; avoided = [] })
  pub prove_explain : asked_of (codes "prove" ∷ codes "--explain" ∷ codes "--top" ∷ codes "plain" ∷ []) ≡ Some (record { command = ExplainProve; top = codes "plain"; shows_context = false; version = One; is_wide = false; is_strict = false; form = Text; avoided = [] })
  pub lint_json : asked_of (codes "lint" ∷ codes "--top" ∷ codes "plain" ∷ codes "--json" ∷ []) ≡ Some (record { command = Lint; top = codes "plain"; shows_context = false; version = One; is_wide = false; is_strict = false; form = Json; avoided = [] })
  pub stats_json : asked_of (codes "stats" ∷ codes "--json" ∷ codes "--top" ∷ codes "plain" ∷ []) ≡ Some (record { command = Stats (record { lists_items = false; needs_all = false; most = None; form = Json }); top = codes "plain"; shows_context = false; version = One; is_wide = false; is_strict = false; form = Json; avoided = [] })
  pub pack_json : asked_of (codes "pack" ∷ codes "--top" ∷ codes "plain" ∷ codes "--json" ∷ []) ≡ None
  pub pack_explain : asked_of (codes "pack" ∷ codes "--top" ∷ codes "plain" ∷ codes "--explain" ∷ []) ≡ None
  pub pack_items : asked_of (codes "pack" ∷ codes "--top" ∷ codes "plain" ∷ codes "--items" ∷ []) ≡ None
  pub pack_wide : asked_of (codes "pack" ∷ codes "--top" ∷ codes "plain" ∷ codes "--wide" ∷ []) ≡ None
  pub pack_receive : asked_of (codes "pack" ∷ codes "--top" ∷ codes "plain" ∷ codes "--receive" ∷ []) ≡ None
  pub line_context : asked_of (codes "line" ∷ codes "--top" ∷ codes "plain" ∷ codes "--context" ∷ []) ≡ None
  pub no_top : asked_of (codes "pack" ∷ []) ≡ None
  pub no_command : asked_of [] ≡ None
  pub other_flag : asked_of (codes "pack" ∷ codes "--top" ∷ codes "plain" ∷ codes "--fly" ∷ []) ≡ None
  pub help : AskJustHelp (codes "--help" ∷ [])
  pub command_help : AskJustHelp (codes "pack" ∷ codes "--help" ∷ [])
  pub help_command : AskHelp (codes "help" ∷ [])
