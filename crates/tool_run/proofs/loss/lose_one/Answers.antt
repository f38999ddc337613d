use Rattle.std.proofs.Common.{◌∙◌, ap, subst}
use Rattle.walk_loss.specs.Journal.{AddsAll}
use Rattle.tool_run.specs.Loss.{held_after}
use Rattle.tool_run.proofs.SenderLemmas.{sent_anywhere}
use Rattle.tool_run.proofs.loss.lose_one.Goals as goal

pub judge-requires : goal.judge-requires
judge-requires c = record { sent = sent_anywhere c.args.accepted.now c.args.run.now.sender _ c.args.item.now c.in-Ok.sent c.in-Ok.ensures.sent }

pub returns-in_ok-hold-in-Ok : goal.returns-in_ok-hold-in-Ok
returns-in_ok-hold-in-Ok c = record {
  packed = c.in-Ok.sent;
  sent = c.in-Ok.ensures.sent;
  adds = subst (λ hs. AddsAll c.args.accepted.now hs c.args.number c.args.item.now c.in-Ok.sent c.args.run.now.journal c.judge.new.journal) c.as_slice.ensures c.in_ok-judge-in-Ok.ensures;
  tally_is = c.in_ok-run-in-Ok.ensures;
  new_is = c.in_ok-hold-in-Ok.ensures ∙ ap (held_after c.args.most c.args.number c.args.run.now.held) c.context.ensures;
}
