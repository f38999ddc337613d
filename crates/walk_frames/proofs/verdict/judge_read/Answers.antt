use Rattle.std.proofs.Common.{refl}
use Rattle.walk_frames.proofs.Judgements.{refused_is}
use Rattle.walk_frames.proofs.verdict.judge_read.Goals as goal

pub returns-in-Refused : goal.returns-in-Refused
returns-in-Refused c =
    (refl, refused_is c.args.accepted.now c.args.context.now c.args.body.now c.args.bits.now c.new-cursor.result c.requires.1 c.new-cursor.ensures (rw c.in-Refused.is at c.in-Err.ensures.fault))
