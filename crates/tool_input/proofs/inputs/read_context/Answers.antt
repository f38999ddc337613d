use Rattle.tool_input.proofs.InputLines.{broken_at, starts_absent, starts_given, unread_at}
use Rattle.tool_input.proofs.inputs.read_context.Goals as goal

pub returns-in_default-clause-found : goal.returns-in_default-clause-found
returns-in_default-clause-found c = starts_absent _ _ c.in_default.is c.new.ensures

pub returns-in-Ok-read_text-clause-found : goal.returns-in-Ok-read_text-clause-found
returns-in-Ok-read_text-clause-found c = starts_given _ c.in-Some.octets c.in-Ok.text.now c.in-Ok-read_text.context c.in-Some.is c.in-Ok.ensures.cases.0 c.in-Ok.ensures.cases.1 c.in-Ok-read_text.ensures.found

pub returns-in-Err-BadLine-clause-bad : goal.returns-in-Err-BadLine-clause-bad
returns-in-Err-BadLine-clause-bad c =
    unread_at _ c.in-Some.octets c.in-Ok.text.now c.in-Err-BadLine.field-0 c.in-Err-BadLine.line c.in-Some.is c.in-Ok.ensures.cases.0 c.in-Ok.ensures.cases.1 c.in-Err-BadLine.field-0-is c.in-Err-BadLine.ensures.fault

pub returns-in-Err-clause-bad : goal.returns-in-Err-clause-bad
returns-in-Err-clause-bad c = broken_at _ c.in-Some.octets c.broken_line.result c.in-Some.is c.broken_line.ensures
