use Rattle.sem_expr.specs.Bounds.{bounding_of}
use Rattle.rows_calls.proofs.expressions.truth_of.Goals as goal

pub decide-requires : goal.decide-requires
decide-requires c = record {
  ready = tt;
  ranged = record {
    ranges = bounding_of c.args.ranges.now;
    lie = c.requires;
    accepted = (c.in-None.ensures {u = tt}).accepted;
  };
}
