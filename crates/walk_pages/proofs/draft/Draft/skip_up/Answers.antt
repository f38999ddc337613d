use Rattle.walk_pages.proofs.draft.Draft.skip_up.Goals as goal

pub returns : goal.returns
returns c = λ frame _. c.pass.ensures frame
