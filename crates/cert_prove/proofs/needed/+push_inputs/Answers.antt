use Rattle.cert_rules.specs.Facts.{inputs}
use Rattle.cert_prove.proofs.NeededWritten.{joined}
use Rattle.cert_prove.proofs.needed.+push_inputs.Goals as goal

pub returns-in-Attribute : goal.returns-in-Attribute
returns-in-Attribute t c = rw c.in-Attribute.is c.push_side.ensures

pub returns-in_ok-push_inputs-in-Binary : goal.returns-in_ok-push_inputs-in-Binary
returns-in_ok-push_inputs-in-Binary t c =
    let format = c.args.format.now in
    let first = c.push_inputs.new in
    let second = c.push_inputs-in-Binary.new in
    rw c.in-Binary.is
    (joined format (inputs format c.in-Binary.left.value) (inputs format c.in-Binary.right.value) c.args.facts.now first.facts second.facts c.args.wholes.now first.wholes second.wholes c.push_inputs-in-Binary.result
    (rw c.deref.ensures at c.in_ok-push_inputs-in-Binary.ensures) (rw c.deref-in-Binary.ensures at c.push_inputs-in-Binary.ensures))
