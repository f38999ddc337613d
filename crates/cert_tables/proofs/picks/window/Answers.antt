use Rattle.std.proofs.Common.{◌^◌, ◌<◌, drop, subst}
use Rattle.sem_bits.specs.Number.{enc}
use Rattle.cert_tables.specs.Walking.{Shows}
use Rattle.cert_tables.proofs.WalkingLed.{number_few, number_shows}
use Rattle.cert_tables.proofs.picks.window.Goals as goal

pub returns-clause-few : goal.returns-clause-few
returns-clause-few c =
    let h = c.in_ok-number.ensures in
    subst (λ k. c.in_ok-number.number < 2 ^ k) c.from-count.ensures (number_few c.args.cursor.now.left c.args.from c.args.offset c.from-count.result c.in_ok-number.number h.0 h.1)

pub returns-clause-shows : goal.returns-clause-shows
returns-clause-shows c =
    let h = c.in_ok-number.ensures in
    subst (λ k. Shows (drop c.args.from c.args.cursor.now.left) (enc k c.in_ok-number.number) c.args.offset) c.from-count.ensures
    (number_shows c.args.cursor.now.left c.args.from c.args.offset c.from-count.result c.in_ok-number.number h.0 h.1)
