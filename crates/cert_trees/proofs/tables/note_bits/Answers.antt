use Rattle.std.proofs.Common.{nat_eq, length, ◌<◌, arith}
use Rattle.std.specs.HashMap.{get}
use Rattle.cert_trees.proofs.TablesNoting.{bits_end}
use Rattle.cert_trees.proofs.tables.note_bits.Goals as goal

pub returns-in_default : goal.returns-in_default
returns-in_default c =
    let inside : c.loop-index.index < length c.args.bits.now = omega (arith, c.loop-index-test.true, c.len-index-end.ensures.value) in
    bits_end (get nat_eq c.args.known.now) (get nat_eq c.loop-index.known) c.args.offset c.args.bits.now c.loop-index.index inside c.in_default.ensures c.loop-index.invariant
