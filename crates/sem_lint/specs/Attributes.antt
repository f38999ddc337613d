-- The range of the length and of the number of a side of a field.
use Rattle.sem_expr.specs.declared.expr.Measure.TheVariants.{Value, Length}
use Rattle.sem_expr.specs.declared.expr.Side.{Side}
use Rattle.sem_expr.specs.declared.expr.Subject.{Subject}
use Rattle.sem_expr.specs.declared.interval.Interval.{Interval}
use Rattle.sem_expr.specs.Ranged.{Bounding}

abbrev pub length_range : Bounding → Subject → Side → Interval
length_range r s side = r.attribute (record { subject = s; side = side; measure = Length })

abbrev pub value_range : Bounding → Subject → Side → Interval
value_range r s side = r.attribute (record { subject = s; side = side; measure = Value })
