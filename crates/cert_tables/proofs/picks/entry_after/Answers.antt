use Rattle.std.proofs.Common.{arith, drop}
use Rattle.std.proofs.lemmas.Option.{IfSome_then, slice_get_within}
use Rattle.cert_types.specs.declared.certificate.Node.TheVariants as node
use Rattle.cert_tables.proofs.WalkingLed.{entry_within, led, test_at}
use Rattle.cert_tables.proofs.picks.entry_after.Goals as goal

pub overflow_add-start : goal.overflow_add-start
overflow_add-start c =
    let starts = c.requires.started c.args.place c.in_ok-start.start c.in_ok-start.ensures in
    let test = test_at c.args.nodes.now c.args.place c.in_ok-offset.offset c.in_ok-offset.ensures in
    omega (arith, entry_within c.args.entries.now c.args.nodes.now c.args.place c.in_ok-offset.offset c.in_ok-start.start c.in_ok-number.number (drop c.args.from c.args.cursor.now.left) starts test c.in_ok-number.ensures.few)

pub returns-clause-on : goal.returns-clause-on
returns-clause-on c =
    let starts = c.requires.started c.args.place c.in_ok-start.start c.in_ok-start.ensures in
    let test = test_at c.args.nodes.now c.args.place c.in_ok-offset.offset c.in_ok-offset.ensures in
    IfSome_then c.entry_of.result c.entry_of.ensures
    (led c.args.entries.now c.args.nodes.now c.args.place c.in_ok-offset.offset c.in_ok-start.start c.in_ok-number.number (drop c.args.from c.args.cursor.now.left) starts test
    c.in_ok-number.ensures.few c.in_ok-number.ensures.shows)

pub returns-clause-within : goal.returns-clause-within
returns-clause-within c = IfSome_then c.entry_of.result c.entry_of.ensures (λ next e. slice_get_within c.args.nodes.now c.args.place (node.Bit c.in_ok-offset.offset) c.in_ok-offset.ensures)
