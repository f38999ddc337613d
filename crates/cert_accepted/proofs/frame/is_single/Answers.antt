use Rattle.cert_accepted.proofs.frame.is_single.Goals as goal

pub returns : goal.returns
returns c = λ is format plans there has. c.compiled.ensures.singles c.args.method c.args.index format plans (c.is_single.ensures is) there has
