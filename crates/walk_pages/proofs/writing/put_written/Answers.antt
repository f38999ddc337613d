use Rattle.walk_pages.proofs.Drafting.{goes_trans}
use Rattle.walk_pages.proofs.writing.put_written.Goals as goal

pub returns : goal.returns
returns c = λ frame _ called. goes_trans frame c.args.draft.now c.put_page.new.self c.pass.new.self (c.put_page.ensures frame c.if-not-put_page.false called) (c.pass.ensures frame)
