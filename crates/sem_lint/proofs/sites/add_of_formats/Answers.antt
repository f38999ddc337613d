use Rattle.sem_lint.proofs.SitesGrowing.{formats_on}
use Rattle.sem_lint.proofs.sites.add_of_formats.Goals as goal

pub loop-format-preserved : goal.loop-format-preserved
loop-format-preserved c =
    formats_on c.args.path.now c.args.formats.now c.loop-format.format-index c.format-item.result c.args.sites.now c.loop-format.sites _ c.loop-format-test.true c.format-item.is c.loop-format.invariant (rw c.as_slice.ensures at c.in_ok-add_of_fields.ensures)
