-- The way from the octets of a profile, of its certificate and of a context to the lines of an answer (docs/FORMATS.md).
use Rattle.std.specs.Prelude.{ℕ, Bool, List, Option}
use Rattle.std.specs.Borrow.{Bor}
use Rattle.sem_context.specs.Entries.{Entries}
use Rattle.cert_accepted.specs.Accepted.{Accepting}
use Rattle.tool_input.specs.declared.bundle.Parts.{Parts}
use Rattle.tool_input.specs.declared.status.Answer.{Answer}
use Rattle.tool_input.specs.declared.status.Status.{Status}
use Rattle.tool_input.specs.Refusals.{Holds}
use Rattle.tool_words.specs.declared.words.Order.{Order}
use Rattle.tool_report.specs.Accepting.{origin_of}
use Rattle.tool_run.specs.Line as flows
use Rattle.tool_run.specs.Frames as frames
use Rattle.tool_run.specs.Printed as printed
use Rattle.tool_run.specs.declared.way.InputTask.{InputTask}
use Rattle.tool_run.specs.declared.way.InputTask.TheVariants.{Run, Survey}
use Rattle.tool_run.specs.declared.way.Task.{Task}
use Rattle.tool_run.specs.declared.way.Task.TheVariants.{Inputs, Line, Frames}

-- what is answered from a context on
abbrev pub InContext : InputTask → Bool → Accepting → Entries → List ℕ → Status → List ℕ → Type 0
InContext (Run direction shape) shows a ctx input = printed.AnsweredIn direction shape shows a ctx input
InContext (Survey what) shows a ctx input = printed.StatsIn what a ctx input

-- what is answered by the part of a context
abbrev pub ByContext : InputTask → Bool → Accepting → Option (Bor (List ℕ)) → List ℕ → Status → List ℕ → Type 0
ByContext (Run direction shape) shows a context input = printed.AnsweredFor direction shape shows a context input
ByContext (Survey what) shows a context input = printed.StatsFor what a context input

-- what is answered by an accepted profile
abbrev pub ByAccepted : Task → Order → Accepting → Option (Bor (List ℕ)) → List ℕ → Status → List ℕ → Type 0
ByAccepted (Inputs asked) order a context input = ByContext asked order.shows_context a context input
ByAccepted (Line end) order a context input = flows.AnsweredEnd end (flows.line_version order.is_wide) a input
ByAccepted (Frames end lost) order a context input = frames.AnsweredEnd end lost a input

-- what is answered by the octets of a profile
abbrev pub ByProfile : Task → Order → List ℕ → Parts → List ℕ → Status → List ℕ → Type 0
ByProfile (Inputs (Run direction shape)) order profile parts input = printed.AnsweredBy direction shape order profile parts input
ByProfile (Inputs (Survey what)) order profile parts input = printed.StatsWith what order profile parts input
ByProfile (Line end) order profile parts input = flows.LinedBy end (flows.line_version order.is_wide) order.top.now profile (origin_of order.version parts.certificate) input
ByProfile (Frames end lost) order profile parts input = frames.FramedBy end lost order.top.now profile (origin_of order.version parts.certificate) input

-- ---- the steps

abbrev pub AnswersIn : InputTask → Bool → Accepting → Entries → List ℕ → Answer → Type 0
AnswersIn asked shows a ctx input = Holds (InContext asked shows a ctx input)

abbrev pub AnswersFrom : InputTask → Order → Accepting → Option (Bor (List ℕ)) → List ℕ → Answer → Type 0
AnswersFrom asked order a context input = Holds (ByContext asked order.shows_context a context input)

abbrev pub AnswersFor : Task → Order → Accepting → Option (Bor (List ℕ)) → List ℕ → Answer → Type 0
AnswersFor task order a context input = Holds (ByAccepted task order a context input)

abbrev pub AnswersBy : Task → Order → List ℕ → Parts → List ℕ → Answer → Type 0
AnswersBy task order profile parts input = Holds (ByProfile task order profile parts input)
