use Rattle.std.proofs.Common.{refl}
use Rattle.std.specs.Prelude.{string_bytes}
use Rattle.tool_run.proofs.LineFlowing.{fault_lines, received_lines}
use Rattle.tool_run.proofs.line.receive_all.Goals as goal

pub returns-in-Some : goal.returns-in-Some
returns-in-Some c =
    let heard = rw c.in-Some.is at c.in_ok-fault.ensures in
    fault_lines c.args.version c.args.accepted.now c.args.octets.now _ (string_bytes c.push_heard.new.output) heard.found heard.found _ c.in-Some.fault c.refused_by.result heard.received refl refl c.new-output.ensures.bytes heard.pushed c.refused_by.ensures

pub returns-in-None : goal.returns-in-None
returns-in-None c =
    let heard = rw c.in-None.is at c.in_ok-fault.ensures in
    received_lines c.args.version c.args.accepted.now c.args.octets.now _ heard.found heard.found _ c.push_heard.new.output heard.received refl refl c.new-output.ensures.bytes heard.pushed
