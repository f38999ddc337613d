use Rattle.walk_pages.proofs.draft.Draft.skip.Goals as goal

pub returns : goal.returns
returns c = λ frame _. c.pass.ensures frame
