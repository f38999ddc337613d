use Rattle.std.proofs.Common.{◌≡◌, refl, ap, true, false, drop}
use Rattle.sem_filling.specs.Entries.{entries}
use Rattle.walk_line.proofs.StepsTrying.{taken, badly_filled, awaited, refused}
use Rattle.walk_line.proofs.packet.try_packet.Goals as goal

pub returns-then-not-is_zero-clause-err : goal.returns-then-not-is_zero-clause-err
returns-then-not-is_zero-clause-err c =
    badly_filled c.args.accepted.now c.args.context.now (drop 1 c.args.begun.now) c.bits.result.now c.in-Ok.read.filling c.new-cursor.result c.unpack.new.cursor c.bits.ensures.value c.requires c.in-Ok.ensures.read.fits
    c.new-cursor.ensures c.in-Ok.ensures.read.advances (λ z. let never : false ≡ true = c.if-not-is_zero.ensures.1 z in cc)

pub returns-in_ok-advance-in-Ok-clause-ok : goal.returns-in_ok-advance-in-Ok-clause-ok
returns-in_ok-advance-in-Ok-clause-ok c =
    taken c.args.accepted.now c.args.context.now c.advance.new.context (drop 1 c.args.begun.now) c.bits.result.now c.in-Ok.read.filling c.new-cursor.result c.unpack.new.cursor
    (entries c.in-Ok.read.filling) c.in_ok-item-in-Ok.item c.bits.ensures.fit c.bits.ensures.value c.requires c.in-Ok.ensures.read.fits
    c.new-cursor.ensures c.in-Ok.ensures.read.advances (c.if-not-is_zero.ensures.0 refl) refl c.in_ok-advance-in-Ok.ensures.ok c.in_ok-item-in-Ok.ensures

pub returns-in-Truncated-clause-ok : goal.returns-in-Truncated-clause-ok
returns-in-Truncated-clause-ok c =
    awaited c.args.accepted.now c.args.context.now c.args.context.now (drop 1 c.args.begun.now) c.bits.result.now c.new-cursor.result.left c.bits.ensures.value (ap (λ k. k.left) c.new-cursor.ensures)
    (rw c.in-Truncated.is at c.in-Err.ensures.fault) refl

pub returns-in-Refused-clause-err : goal.returns-in-Refused-clause-err
returns-in-Refused-clause-err c =
    refused c.args.accepted.now c.args.context.now (drop 1 c.args.begun.now) c.bits.result.now c.new-cursor.result.left c.bits.ensures.value (ap (λ k. k.left) c.new-cursor.ensures)
    (rw c.in-Refused.is at c.in-Err.ensures.fault)
