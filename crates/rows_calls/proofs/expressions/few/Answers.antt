use Rattle.std.proofs.Common.{refl}
use Rattle.rows_calls.proofs.ExpressionsFew.{few_lie}
use Rattle.rows_calls.proofs.expressions.few.Goals as goal

pub returns : goal.returns
returns c = few_lie _ _ c.new.ensures refl refl (c.in_ok-from_slice.ensures {u = tt}) refl (c.in_ok-from_slice-3.ensures {u = tt})
