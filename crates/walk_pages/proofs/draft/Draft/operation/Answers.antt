use Rattle.walk_pages.proofs.draft.Draft.operation.Goals as goal

pub returns-in-Sum : goal.returns-in-Sum
returns-in-Sum c = λ is. c.sum.ensures c.args.frame.now is

pub returns-in-Skip : goal.returns-in-Skip
returns-in-Skip c = λ is. c.skip.ensures c.args.frame.now is
