use Rattle.walk_pages.proofs.Drafting.{goes_trans}
use Rattle.walk_pages.proofs.writing.take_field.Goals as goal

pub returns : goal.returns
returns c = λ _. goes_trans c.args.frame.now c.args.draft.now c.write.new.self c.pass.new.self (c.in_ok-write.ensures.goes c.if-not-branch.false) (c.pass.ensures c.args.frame.now)
