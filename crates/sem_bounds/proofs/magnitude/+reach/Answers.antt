use Rattle.sem_bounds.proofs.MagnitudeLemmas.{attribute-reaches}
use Rattle.sem_bounds.proofs.magnitude.+reach.Goals as goal

pub returns-in-Attribute : goal.returns-in-Attribute
returns-in-Attribute t c =
    rw c.in-Attribute.is (attribute-reaches c.attribute_reach.result c.args.sizes.now c.args.parameters.now c.in-Attribute.field-0 c.in-Attribute.attribute c.attribute_reach.ensures)
