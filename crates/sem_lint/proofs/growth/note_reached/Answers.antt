use Rattle.sem_lint.proofs.EntriesListed.{but_reached, listed_reached}
use Rattle.sem_lint.proofs.growth.note_reached.Goals as goal

pub returns-then-not-set_reached-clause-listed : goal.returns-then-not-set_reached-clause-listed
returns-then-not-set_reached-clause-listed c = listed_reached c.args.ground.now c.args.known.now c.args.place c.set_reached.new.flags c.set_reached.result c.set_reached.ensures c.if-not-set_reached.true c.requires

pub list_site-requires : goal.list_site-requires
list_site-requires c = but_reached c.args.ground.now c.args.known.now c.args.place c.set_reached.new.flags c.set_reached.result c.set_reached.ensures c.requires
