use Rattle.sem_lint.specs.Paths as paths
use Rattle.sem_lint.proofs.EntriesListed.{each_on, format_own}
use Rattle.sem_lint.proofs.entries.list_formats.Goals as goal

pub loop-number-preserved : goal.loop-number-preserved
loop-number-preserved c =
    let lists = rw c.as_slice.ensures at c.in_ok-list_fields.ensures in
    each_on c.args.path.now paths.keeps_in c.args.formats.now c.loop-number.number c.index-formats-number.result c.args.left.now c.loop-number.left c.list_fields.new.left c.index-formats-number.is c.loop-number.invariant lists.stay
    (format_own c.args.path.now c.index-formats-number.result c.loop-number.left c.list_fields.new.left lists)
