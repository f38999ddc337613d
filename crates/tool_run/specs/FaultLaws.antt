-- A fault is one line, without a line feed.
use Rattle.std.specs.Prelude.{ℕ, List}
use Rattle.walk_line.specs.declared.fault.LineFault.{LineFault}
use Rattle.tool_input.specs.declared.bundle.BadPart.{BadPart}
use Rattle.tool_words.specs.declared.words.Direction.{Direction}
use Rattle.tool_words.specs.declared.words.End.{End}
use Rattle.tool_report.specs.declared.profile_and_certificate.Origin.{Origin}
use Rattle.tool_report.specs.Accepting.{RefusesProfile}
use Rattle.tool_input.specs.Bundle.{BlamesPart, shown_name}
use Rattle.tool_run.specs.Line.{IsLineFault, bad_event_text, bad_hex_text, line_part_name}
use Rattle.tool_input.specs.OneLine.{IsLine}
use Rattle.tool_run.specs.Printed.{bad_line_text, input_name}
use Rattle.tool_input.specs.Refusals.{context_line}
use Rattle.tool_report.specs.ProfileLines.{IsFaultLine}

-- Each fault line is one line: those of items, packets, events and `prove` are so where they are printed (`Prints`, `Packs`, `PrintsSent`, `ProvedBy`); these are the
-- others.
pub record AreOneLine : Type 0 where
  pub profile : (top octets text : List ℕ) → IsFaultLine top octets text → IsLine text
  pub certificate : (top octets text : List ℕ) (origin : Origin) → RefusesProfile top octets origin text → IsLine text
  pub context : (n : ℕ) → IsLine (context_line n)
  pub input : (direction : Direction) (n : ℕ) → IsLine (bad_line_text direction n)
  pub missing : (direction : Direction) → IsLine (input_name direction)
  -- of `line` and `line --receive`: a missing part, a bad event, bad hex, and what is received
  pub end : (at : End) → IsLine (line_part_name at)
  pub event : (n : ℕ) → IsLine (bad_event_text n)
  pub hex : IsLine bad_hex_text
  pub received : (fault : LineFault) (text : List ℕ) → IsLineFault fault text → IsLine text
  -- the name of a bad part, as it is shown
  pub part : (input : List ℕ) (bad : BadPart) → BlamesPart input bad → IsLine (shown_name bad)
