use Rattle.sem_expr.specs.Bounds.{bounding_of}
use Rattle.sem_expr.proofs.RangedLie.{accepted_at}
use Rattle.rows_calls.proofs.expressions.value_of.Goals as goal

pub value-requires : goal.value-requires
value-requires c = record {
  ready = tt;
  ranged = record {
    ranges = bounding_of c.args.ranges.now;
    lie = c.requires;
    accepted = accepted_at (bounding_of c.args.ranges.now) c.args.expr.now c.range.result c.in_ok-range.field-0 c.range.ensures.outcome (c.in_ok-range.was {u = tt});
  };
}
