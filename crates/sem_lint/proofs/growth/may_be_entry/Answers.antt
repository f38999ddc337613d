use Rattle.std.proofs.Common.{sym, ◌∙◌}
use Rattle.sem_lint.proofs.EntriesListed.{given_found, given_not}
use Rattle.sem_lint.proofs.growth.may_be_entry.Goals as goal

pub returns-then-contains : goal.returns-then-contains
returns-then-contains c = given_found c.args.ground.now c.args.known.now c.args.path.now c.args.name.now c.args.entry.now c.requires.listed c.requires.entry (sym c.contains.ensures ∙ c.if-contains.true)

pub returns : goal.returns
returns c = given_not c.args.ground.now c.args.known.now c.args.path.now c.args.name.now c.args.entry.now _ c.requires.listed c.requires.entry (sym c.contains.ensures ∙ c.if-contains.false) c.is_left.ensures
