-- The lines of an answer, each as an object of JSON (docs/FORMATS.md, JSON lines).
use Rattle.std.specs.Prelude.{ℕ, ◌==◌, ◌&&◌, Bool, true, false, List, [], ◌∷◌, ◌++◌, flat_map, length, if◌then◌else◌}
use Rattle.tool_input.specs.declared.status.Status.{Status}
use Rattle.tool_input.specs.declared.status.Status.TheVariants as status
use Rattle.tool_words.specs.declared.words.Command.{Command}
use Rattle.tool_words.specs.declared.words.Command.TheVariants as command
use Rattle.tool_json.specs.Entries.{after_heading, before_heading, context, has_heading}
use Rattle.tool_json.specs.MessageObjects.{certificate_json, lines_of, object}
use Rattle.tool_json.specs.Messages.{told_of}
use Rattle.tool_names.specs.Objects as json
use Rattle.tool_json.specs.declared.message.Telling.{Telling}
use Rattle.tool_json.specs.declared.message.Telling.TheVariants as telling

-- which commands answer with a certificate, where they don't refuse
abbrev pub makes_certificate : Command → Bool
makes_certificate command.Prove = true
makes_certificate command.ExplainProve = true
makes_certificate _ = false

abbrev pub is_done : Status → Bool
is_done status.Done = true
is_done _ = false

-- which lines there may be in the answer to a command
abbrev pub telling_of : Command → Telling
telling_of command.Check = telling.Judging
telling_of command.Prove = telling.Judging
telling_of command.ExplainCheck = telling.Judging
telling_of command.ExplainProve = telling.Judging
telling_of command.Lint = telling.Warning
telling_of (command.Why direction) = telling.Reasons
telling_of command.WhyNot = telling.Reasons
telling_of (command.RobustWhy lost) = telling.Reasons
telling_of _ = telling.Faults

abbrev pub end : List ℕ
end = 10 ∷ []

-- it begins with a bracket
abbrev pub is_object : List ℕ → Bool
is_object [] = false
is_object (octet ∷ more) = octet == 123

-- nothing of an empty line; an object as it stands; else the object of what the line says
abbrev pub line_object : Telling → List ℕ → List ℕ
line_object which line = if length line == 0 then [] else (if is_object line then line ++ end else json.line (object (told_of which line)))

-- an object of the context behind these lines, where there is one
abbrev pub context_object : List (List ℕ) → List ℕ
context_object lines = if has_heading lines then json.line (context (after_heading lines)) else []

abbrev pub lines_json : Telling → List ℕ → List ℕ
lines_json which text = flat_map (line_object which) (before_heading (lines_of text)) ++ context_object (lines_of text)

-- The objects of an answer: one of a certificate, else those of its lines, and behind them one of the last context.
abbrev pub as_objects : Command → Status → List ℕ → List ℕ
as_objects c s text = if makes_certificate c && is_done s then certificate_json text else lines_json (telling_of c) text
