use Rattle.std.proofs.Common.{refl, rules, map}
use Rattle.walk_line.specs.Laws.{items_sent}
use Rattle.walk_line.specs.Runs.{event_of}
use Rattle.tool_run.proofs.LineFlowing.{sent_lines}
use Rattle.tool_run.proofs.line.print_sent.Goals as goal

pub returns : goal.returns
returns c = sent_lines c.args.octets.now (items_sent (map event_of c.args.events.now)) (items_sent (map event_of c.args.events.now)) _ c.push_sent.new.output refl (search rules) c.in_ok-push_sent.ensures
