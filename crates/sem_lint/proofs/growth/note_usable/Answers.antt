use Rattle.sem_lint.proofs.EntriesListed.{but_usable, listed_usable}
use Rattle.sem_lint.proofs.growth.note_usable.Goals as goal

pub returns-then-not-set_usable-clause-listed : goal.returns-then-not-set_usable-clause-listed
returns-then-not-set_usable-clause-listed c = listed_usable c.args.ground.now c.args.known.now c.args.place c.set_usable.new.flags c.set_usable.result c.set_usable.ensures c.if-not-set_usable.true c.requires

pub list_site-requires : goal.list_site-requires
list_site-requires c = but_usable c.args.ground.now c.args.known.now c.args.place c.set_usable.new.flags c.set_usable.result c.set_usable.ensures c.requires
