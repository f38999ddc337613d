use Rattle.std.proofs.Common.{nat_eq, drop}
use Rattle.std.specs.HashMap.{get}
use Rattle.cert_rules.specs.Trees as rules
use Rattle.cert_trees.specs.Tables as spec
use Rattle.cert_trees.proofs.tables.known_bits.Given as goal

abbrev pub invariant-loop-index : goal.invariant-loop-index
invariant-loop-index l = spec.TellsTo (get nat_eq l.known) l.offset (rules.known_bit l.fields l.sizes (drop l.index-index l.listing)) (rules.known_bit l.fields l.sizes l.listing)
