use Rattle.walk_loss.proofs.Unserving.{read_where_all_serve}
use Rattle.walk_loss.proofs.journal.hear_sent.Goals as goal

pub returns-then-is_read : goal.returns-then-is_read
returns-then-is_read c =
    read_where_all_serve c.args.accepted.now c.args.context.now c.args.sending.now.item.now c.args.sending.now.sent.now c.requires.sent (c.requires.own c.if-sending.true) c.args.sending.now.uses.now c.requires.uses (c.in_ok-is_read.ensures.0 c.if-is_read.true)
