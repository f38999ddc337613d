-- The other fault lines are one line each.
use Rattle.std.proofs.Common.{ℕ, List, refl, codes}
use Rattle.tool_words.specs.declared.words.Direction.{Direction}
use Rattle.tool_words.specs.declared.words.Direction.TheVariants.{Pack, Unpack}
use Rattle.tool_report.specs.Accepting.{RefusesProfile, at_fault, unaccepted}
use Rattle.tool_run.specs.FaultLaws.{AreOneLine}
use Rattle.tool_input.specs.OneLine.{IsLine}
use Rattle.tool_run.specs.Printed.{bad_line_text, input_name}
use Rattle.tool_input.specs.Refusals.{context_line}
use Rattle.tool_input.proofs.OneLineLemmas.{joined, number}
use Rattle.tool_run.proofs.PacketLines.{bad_events, end_names, line_faults}
use Rattle.tool_report.proofs.CheckFaultLines.{profile_faults}
use Rattle.tool_input.proofs.OneLineNames.{shown_line}

context_is : (n : ℕ) → IsLine (context_line n)
context_is n =
    let context : IsLine (codes "context:") = record { no_feed = refl } in
    let words : IsLine (codes ": C1 bad line") = record { no_feed = refl } in
    joined (joined context (number n)) words

input_is : (direction : Direction) (n : ℕ) → IsLine (bad_line_text direction n)
input_is Pack n =
    let items : IsLine (codes "items") = record { no_feed = refl } in
    let colon : IsLine (codes ":") = record { no_feed = refl } in
    let words : IsLine (codes ": I1 bad item") = record { no_feed = refl } in
    joined (joined (joined items colon) (number n)) words
input_is Unpack n =
    let packets : IsLine (codes "packets") = record { no_feed = refl } in
    let colon : IsLine (codes ":") = record { no_feed = refl } in
    let words : IsLine (codes ": I2 bad packet") = record { no_feed = refl } in
    joined (joined (joined packets colon) (number n)) words

missing_is : (direction : Direction) → IsLine (input_name direction)
missing_is Pack = record { no_feed = refl }
missing_is Unpack = record { no_feed = refl }

certificate_is : (top octets text : List ℕ) (origin : _) → RefusesProfile top octets origin text → IsLine text
certificate_is top octets text origin (at_fault is) = profile_faults top octets text is
certificate_is top octets text origin (unaccepted p reads is one) = one

pub are_one_line : AreOneLine
are_one_line = record {
  profile = profile_faults;
  certificate = certificate_is;
  context = context_is;
  input = input_is;
  missing = missing_is;
  end = end_names;
  event = bad_events;
  hex = record { no_feed = refl };
  received = line_faults;
  part = shown_line;
}
