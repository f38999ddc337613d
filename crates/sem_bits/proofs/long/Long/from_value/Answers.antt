use Rattle.std.proofs.Common.{arith}
use Rattle.sem_bits.proofs.Numbers.{length-enc}
use Rattle.sem_bits.proofs.OctetsKept.{kept_held, view_held}
use Rattle.sem_bits.proofs.long.Long.from_value.Goals as goal

pub invariant_of-result : goal.invariant_of-result
invariant_of-result c = kept_held _ _ c.args.len c.spell.ensures (length-enc c.args.len c.args.value) (omega arith)

pub returns : goal.returns
returns c = view_held _ _ c.args.len c.spell.ensures (length-enc c.args.len c.args.value)
