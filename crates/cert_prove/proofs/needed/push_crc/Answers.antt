use Rattle.std.proofs.Common.{◌++◌}
use Rattle.cert_rules.specs.Facts.{inputs, side_facts}
use Rattle.sem_expr.specs.declared.expr.Measure.TheVariants.{Value}
use Rattle.cert_prove.proofs.NeededWritten.{adds_both, joined}
use Rattle.cert_prove.proofs.needed.push_crc.Goals as goal

pub returns : goal.returns
returns c =
    let format = c.args.format.now in
    let crc = c.args.crc.now in
    let one = c.push_side.new in
    let two = c.push_inputs.new in
    let three = c.push_inputs-2.new in
    let four = c.push_inputs-3.new in
    let five = c.push_inputs-4.new in
    let r = c.push_inputs-4.result in
    let bits = inputs format crc.bits in
    let polynomial = inputs format crc.polynomial in
    let initial = inputs format crc.initial in
    let size = inputs format crc.length in
    let covered = side_facts format crc.subject crc.side Value in
    let first = adds_both format covered bits c.args.facts.now one.facts two.facts c.args.wholes.now one.wholes two.wholes c.in_ok-push_side.ensures c.in_ok-push_inputs.ensures in
    let next = adds_both format (covered ++ bits) polynomial c.args.facts.now two.facts three.facts c.args.wholes.now two.wholes three.wholes first c.in_ok-push_inputs-2.ensures in
    let last = adds_both format ((covered ++ bits) ++ polynomial) initial c.args.facts.now three.facts four.facts c.args.wholes.now three.wholes four.wholes next c.in_ok-push_inputs-3.ensures in
    joined format (((covered ++ bits) ++ polynomial) ++ initial) size c.args.facts.now four.facts five.facts c.args.wholes.now four.wholes five.wholes r last c.push_inputs-4.ensures
