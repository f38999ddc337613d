use Rattle.sem_lint.proofs.SitesGrowing.{fields_on}
use Rattle.sem_lint.proofs.sites.add_of_fields.Goals as goal

pub loop-field-preserved : goal.loop-field-preserved
loop-field-preserved c =
    fields_on c.args.path.now c.args.fields.now c.loop-field.field-index c.field-item.result c.args.sites.now c.loop-field.sites _ c.loop-field-test.true c.field-item.is c.loop-field.invariant c.in_ok-add_of_field.ensures
