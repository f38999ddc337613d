use Rattle.std.proofs.Common.{rules}
use Rattle.walk_pages.proofs.Drafting.{goes_trans, put_plain}
use Rattle.walk_pages.proofs.draft.Draft.code.Goals as goal

pub returns : goal.returns
returns c = λ _.
    let reads = rw c.in-Some-2.is at c.in_ok-both.ensures in
    goes_trans c.args.frame.now c.args.self.now c.put.new.self c.pass-2.new.self
    (put_plain c.args.frame.now c.args.field c.plain.result c.in-Some-2.both.uncompressed c.in-Some-2.both.compressed c.in-Some-get.declared.now c.args.self.now c.put.new.self (c.put.ensures c.if-not-put.false) c.plain.ensures (search rules)
    (λ prepared. reads prepared (search rules)))
    (c.pass-2.ensures c.args.frame.now)

pub returns-in-Some : goal.returns-in-Some
returns-in-Some c = λ _. c.pass.ensures c.args.frame.now
