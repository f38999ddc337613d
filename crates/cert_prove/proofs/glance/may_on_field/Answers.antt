use Rattle.cert_prove.proofs.GlanceNone.{none_where}
use Rattle.cert_prove.proofs.glance.may_on_field.Goals as goal

pub returns : goal.returns
returns c = none_where c.args.format.now c.args.field.now c.args.step c.requires c.may_be_on.result c.may_be_on.ensures
