use Rattle.std.proofs.Common.{nat_eq}
use Rattle.std.specs.HashMap.{get}
use Rattle.cert_trees.specs.Tables as spec
use Rattle.cert_trees.proofs.tables.note_bits.Given as goal

abbrev pub invariant-loop-index : goal.invariant-loop-index
invariant-loop-index l = spec.HasBits (get nat_eq l.fn.known) (get nat_eq l.known) l.offset l.bits l.index
