use Rattle.std.proofs.Common.{refl}
use Rattle.tool_words.specs.declared.words.End.TheVariants.{Sending, Receiving}
use Rattle.tool_report.specs.Accepting.{origin_of}
use Rattle.tool_run.specs.Line.{Lined, LinedBy, by_part, line_version, no_part}
use Rattle.tool_input.proofs.RefusalsHeld.{passed_on, refusal_is}
use Rattle.tool_run.proofs.line.answer_line.Goals as goal

pub returns-in-Some : goal.returns-in-Some
returns-in-Some c = rw c.in-Sending.is
    (passed_on (LinedBy Sending (line_version c.args.order.now.is_wide) c.args.order.now.top.now c.args.profile.now (origin_of c.args.order.now.version c.args.parts.now.certificate) c.in-Some.events.now) (Lined Sending c.args.order.now c.args.profile.now c.args.parts.now) c.answer_by.result (λ s out h. by_part c.in-Some.events c.in-Some.is h) c.answer_by.ensures)

pub returns-in-None : goal.returns-in-None
returns-in-None c = rw c.in-Sending.is (refusal_is (Lined Sending c.args.order.now c.args.profile.now c.args.parts.now) _ _ c.refusal.result (no_part c.in-None.is) refl c.refusal.ensures)

pub returns-in-Some-octets : goal.returns-in-Some-octets
returns-in-Some-octets c = rw c.in-Receiving.is
    (passed_on (LinedBy Receiving (line_version c.args.order.now.is_wide) c.args.order.now.top.now c.args.profile.now (origin_of c.args.order.now.version c.args.parts.now.certificate) c.in-Some-octets.octets.now) (Lined Receiving c.args.order.now c.args.profile.now c.args.parts.now) c.answer_by-in-Some-octets.result (λ s out h. by_part c.in-Some-octets.octets c.in-Some-octets.is h) c.answer_by-in-Some-octets.ensures)

pub returns-in-None-octets : goal.returns-in-None-octets
returns-in-None-octets c = rw c.in-Receiving.is (refusal_is (Lined Receiving c.args.order.now c.args.profile.now c.args.parts.now) _ _ c.refusal-in-None-octets.result (no_part c.in-None-octets.is) refl c.refusal-in-None-octets.ensures)
