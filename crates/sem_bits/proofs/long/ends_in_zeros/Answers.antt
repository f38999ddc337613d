use Rattle.std.proofs.Common.{arith}
use Rattle.std.specs.Cmp.{unsigned_Decides}
use Rattle.sem_bits.proofs.OctetsKept.{ends_over}
use Rattle.sem_bits.proofs.long.ends_in_zeros.Goals as goal

pub returns : goal.returns
returns c = ends_over c.args.octets.now c.args.count c.front_of.result _ (λ i. omega (arith, c.type_inv.octets i)) c.requires (omega arith) (omega arith) c.front_of.ensures (unsigned_Decides _ _)
