use Rattle.walk_pages.proofs.Drafting.{goes_trans, put_called, whole_shown}
use Rattle.walk_pages.proofs.draft.Draft.put_page.Goals as goal

pub returns : goal.returns
returns c = λ frame _ called.
    let shown = whole_shown c.in-Some.uncompressed c.in-Some-of.compressed c.args.found.page in
    goes_trans frame c.args.self.now c.put.new.self c.pass.new.self
    (put_called frame c.args.inside.field c.args.found _ c.in-Some.uncompressed c.in-Some-of.compressed c.args.self.now c.put.new.self (c.put.ensures c.if-not-put.false) shown.0 shown.1 shown.2 c.in-Some.ensures c.in-Some-of.ensures called)
    (c.pass.ensures frame)
