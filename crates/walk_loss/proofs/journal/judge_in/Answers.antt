use Rattle.walk_loss.proofs.Journals.{adds_case, adds_known}
use Rattle.walk_loss.proofs.journal.judge_in.Goals as goal

pub returns-then-is_known : goal.returns-then-is_known
returns-then-is_known c =
    adds_known c.args.accepted.now c.args.context.now c.args.lost c.args.sending.now.number c.args.sending.now.item.now c.args.sending.now.sent.now c.args.journal.now c.in_ok-heard.heard c.in_ok-heard.ensures c.kind-kind.result c.kind-kind.ensures
    c.push.new.self c.in_ok-push.ensures.ok c.is_known.result _ c.is_known.ensures c.if-is_known.true c.as_slice.ensures

pub returns : goal.returns
returns c =
    adds_case c.args.accepted.now c.args.context.now c.args.lost c.args.sending.now.number c.args.sending.now.item.now c.args.sending.now.sent.now c.args.journal.now c.in_ok-heard.heard c.in_ok-heard.ensures c.kind-kind.result c.kind-kind.ensures
    c.push.new.self c.in_ok-push.ensures.ok c.push-2.result _ c.in_ok-unserved.unserved c.push-2.ensures.ok (record { uses = c.args.sending.now.uses.now; uses_are = c.requires.uses; unserved = c.in_ok-unserved.ensures })
