use Rattle.std.specs.Prelude.{IsTrue}
use Rattle.sem_filling.proofs.Coded.{ok_weaker}
use Rattle.walk_pages.specs.Drafts.{GoesOn}
use Rattle.walk_pages.proofs.Drafting.{goes_trans}
use Rattle.walk_pages.proofs.writing.choose_field.Goals as goal

pub returns : goal.returns
returns c =
    ok_weaker (λ b. IsTrue b → GoesOn c.args.frame.now c.choose.new.self c.write.new.self) (λ b. IsTrue b → GoesOn c.args.frame.now c.args.draft.now c.write.new.self) c.write.result
    (λ b goes is. goes_trans c.args.frame.now c.args.draft.now c.choose.new.self c.write.new.self (c.choose.ensures c.args.frame.now) (goes is)) c.write.ensures.goes
