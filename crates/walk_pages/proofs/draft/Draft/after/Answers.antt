use Rattle.walk_pages.proofs.draft.Draft.after.Goals as goal

pub again-requires-clause-kept : goal.again-requires-clause-kept
again-requires-clause-kept c =
    let found = rw c.in-Some.is at c.fields_of.ensures in
    found.1 c.args.frame.now c.requires.kept c.requires.format
