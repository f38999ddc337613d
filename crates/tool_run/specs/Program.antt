-- What the program prints.
use Rattle.std.specs.Prelude.{◌≡◌, ◌<◌, ◌≤◌, ◌⊎◌, ℕ, Bool, List, [], ◌∷◌, ◌++◌, Option, None, Some, length, codes, option_and_then, string_bytes}
use Rattle.std.specs.Io.KnownBytes.{Appends, Keeps}
pub use Rattle.tool_input.specs.Counted.{most_octets}
use Rattle.tool_input.specs.Counted.{Account, HasFailed, HasStopped}
use Rattle.tool_input.specs.declared.status.Failure.TheVariants.{Reading, Writing}
use Rattle.tool_input.specs.Bundle.{BlamesPart, HoldsParts, IsBundle, parts_of, text_named, shown_name}
use Rattle.tool_run.specs.Printed.{Shown}
use Rattle.tool_words.specs.Words.{AskHelp, AskJustHelp, asked, asked_of}
use Rattle.tool_input.specs.declared.bundle.BadPart.{BadPart}
use Rattle.tool_input.specs.declared.bundle.Parts.{Parts}
use Rattle.tool_run.specs.declared.program.Outcome.{Outcome}
use Rattle.tool_run.specs.declared.program.Reply.{Reply}
use Rattle.tool_run.specs.declared.program.Reply.TheVariants.{Print, Tell}
use Rattle.tool_input.specs.declared.status.Status.{Status}
use Rattle.tool_input.specs.declared.status.Status.TheVariants.{Done, Refused, Usage, Failed}
use Rattle.tool_words.specs.declared.words.Order.{Order}
use Rattle.tool_input.specs.PartWords.{words_in}

abbrev pub large_line : List ℕ
large_line = codes "bundle: I6 above 4 MiB" ++ 10 ∷ []

abbrev pub bad_part_line : List ℕ → List ℕ
bad_part_line name = codes "bundle: I4 bad part " ++ name ++ 10 ∷ []

-- the words of a call: those that are given, and with none those of the input
abbrev pub words_of : List (List ℕ) → List ℕ → Option (List (List ℕ))
words_of [] input = option_and_then words_in (text_named (codes "words") (parts_of input))
words_of (word ∷ words) input = Some (word ∷ words)

-- what is printed at an input, where words are given, and the status that goes with it
pub data RunPrints (given : List (List ℕ)) (input : List ℕ) : Status → List ℕ → Type 0 where
  -- the input is too long
  large : most_octets < length input → RunPrints given input Refused large_line
  -- it is no bundle
  bad_part : (bad : BadPart) → length input ≤ most_octets → BlamesPart input bad
      → RunPrints given input Refused (bad_part_line (shown_name bad))
  -- it has no words, and none are given
  no_words : length input ≤ most_octets → IsBundle input → words_of given input ≡ None
      → RunPrints given input Refused (bad_part_line (codes "words"))
  -- the answer to the words' order and the input's parts
  answered : {status : Status} {output : List ℕ} (words : List (List ℕ)) (order : Order) (parts : Parts)
      → length input ≤ most_octets → IsBundle input → words_of given input ≡ Some words
      → asked_of words ≡ Some (asked order) → HoldsParts parts (parts_of input)
      → Shown order parts status output → RunPrints given input status output

-- the words of the call ask for nothing
pub record AsksNothing (given : List (List ℕ)) (input : List ℕ) (asking : List (List ℕ)) : Type 0 where
  pub short : length input ≤ most_octets
  pub bundle : IsBundle input
  pub words : words_of given input ≡ Some asking
  pub nothing : asked_of asking ≡ None

-- sent stands at the front of what may be printed
abbrev pub BeginsPrint : List (List ℕ) → List ℕ → List ℕ → Type 0
BeginsPrint given input sent = (sent ≡ [])
    ⊎ ((status : Status) × (rest : List ℕ) × RunPrints given input status (sent ++ rest))

-- the call is refused, and nothing is written: help is asked for where the status is that of a run that is done, and not for help alone where it is that of a
-- usage fault
abbrev pub Tells : List (List ℕ) → List ℕ → Status → Type 0
Tells given input Done = (words : List (List ℕ)) × AsksNothing given input words × AskHelp words
Tells given input Usage = (words : List (List ℕ)) × AsksNothing given input words × ¬ (AskJustHelp words)
Tells given input Refused = ⊥
Tells given input (Failed why) = ⊥

-- what a run does to the known bytes of its writer: it prints, or tells the person who called and
-- writes nothing, or fails and has then written the front of what may be printed
abbrev pub Gives : {Statistics : Type 0} → List (List ℕ) → List ℕ → Status → Option Statistics → Option (List ℕ) → Option (List ℕ) → Type 0
Gives given input status (Some text) old new = Tells given input status × Keeps old new
Gives given input (Failed why) None old new = (sent : List ℕ) × BeginsPrint given input sent × Appends old new sent
Gives given input status None old new = (output : List ℕ) × RunPrints given input status output × Appends old new output

abbrev pub RunGives : List (List ℕ) → List ℕ → Outcome → Option (List ℕ) → Option (List ℕ) → Type 0
RunGives given input outcome old new = Gives given input outcome.status outcome.usage old new

-- so of an input: that of the reader, where it is known what that gives, else of some one
abbrev pub ForInput : Option (List ℕ) → (List ℕ → Type 0) → Type 0
ForInput (Some known) P = P known
ForInput None P = (input : List ℕ) × P input

-- a status of failure is that of a read only where one has failed, that of a write only where one has failed or taken nothing
abbrev pub Fails : Status → Option Account → Option Bool → Type 0
Fails (Failed Reading) account is_over = HasFailed account
Fails (Failed Writing) account is_over = HasStopped is_over
Fails _ account is_over = Unit {0}

-- what the reply to an input is
abbrev pub Replies : List (List ℕ) → List ℕ → Reply → Type 0
Replies given input (Print status output) = RunPrints given input status (string_bytes output)
Replies given input (Tell status text) = Tells given input status

-- the words ask for nothing, or for help
abbrev pub TellsBy : List (List ℕ) → Status → Type 0
TellsBy words Done = (asked_of words ≡ None) × AskHelp words
TellsBy words Usage = (asked_of words ≡ None) × ¬ (AskJustHelp words)
TellsBy words Refused = ⊥
TellsBy words (Failed why) = ⊥

-- what the reply to words and parts is
abbrev pub RepliesBy : List (List ℕ) → Parts → Reply → Type 0
RepliesBy words parts (Print status output) = (order : Order) × (asked_of words ≡ Some (asked order))
    × Shown order parts status (string_bytes output)
RepliesBy words parts (Tell status text) = TellsBy words status

-- the reply is that fault line
abbrev pub RefusesBy : List ℕ → Reply → Type 0
RefusesBy line (Print status output) = (status ≡ Refused) × (string_bytes output ≡ line)
RefusesBy line (Tell status text) = ⊥
