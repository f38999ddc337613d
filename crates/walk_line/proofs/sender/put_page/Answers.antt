use Rattle.walk_line.proofs.sender.put_page.Goals as goal

pub returns-clause-kept : goal.returns-clause-kept
returns-clause-kept c = λ _ f fits shows. c.in_ok-goes_on_after.ensures.kept c.if-not-branch.false f fits shows.shown
