use Rattle.walk_pages.proofs.Drafting.{goes_trans, half_up, put_half}
use Rattle.walk_pages.proofs.draft.Draft.sum.Goals as goal

pub returns : goal.returns
returns c = λ frame _. goes_trans frame c.args.self.now c.put.new.self c.pass.new.self (put_half frame c.args.field _ c.args.self.now c.put.new.self (half_up _ _) (c.put.ensures c.if-not-put.false)) (c.pass.ensures frame)
