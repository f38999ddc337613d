use Rattle.std.proofs.Common.{◌+◌, map, subst, sym}
use Rattle.std.specs.Prelude.{string_bytes}
use Rattle.std.proofs.lemmas.List.{get_or_read}
use Rattle.walk_line.specs.declared.runs.Event.{Event}
use Rattle.walk_line.specs.declared.runs.Event.TheVariants as event
use Rattle.walk_line.specs.Laws.{items_sent}
use Rattle.walk_line.specs.Runs.{event_of}
use Rattle.tool_run.proofs.LineFlowing.{PushedSoFar, all_sent_pushed, none_pushed, reset_passed, send_pushed, sent_from}
use Rattle.tool_run.proofs.line.push_sent.Goals as goal
use Rattle.tool_run.proofs.line.push_sent.Goals.{in-Send+in_ok-push_item-in-Send, in-Reset}

pub loop-event-init : goal.loop-event-init
loop-event-init c = none_pushed (items_sent (map event_of c.args.events.now)) _

pub loop-event-preserved : goal.loop-event-preserved
loop-event-preserved c =
    let d : Event = event.Reset 0 in
    let events = c.args.events.now in
    let before = string_bytes c.args.output.now in
    let i = c.loop-event.event-index in
    let e = c.event-item.result in
    let x = get_or_read events i e c.loop-event-test.true c.event-item.is d in
    elim c.match-event.branch [
      | in-Send+in_ok-push_item-in-Send w ↦
          subst (λ o. PushedSoFar (items_sent (map event_of events)) (sent_from events (i + 1)) before (string_bytes o)) (sym w.output-is)
          (send_pushed events i d e _ _ before _ _ c.loop-event-test.true x w.in-Send.is c.loop-event.invariant w.in_ok-push_item-in-Send.ensures)
      | in-Reset w ↦
          subst (λ o. PushedSoFar (items_sent (map event_of events)) (sent_from events (i + 1)) before (string_bytes o)) (sym w.output-is)
          (reset_passed events i d e _ before _ c.loop-event-test.true x w.in-Reset.is c.loop-event.invariant)
    ]

pub returns : goal.returns
returns c = all_sent_pushed c.args.events.now c.loop-event.event-index _ _ c.loop-event-test.false c.loop-event.invariant
