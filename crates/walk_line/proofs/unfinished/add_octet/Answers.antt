use Rattle.std.proofs.Common.{◌≡◌, ◌∙◌, ap, ◌+◌, ◌<◌, ◌≤◌, ◌^◌, length, Err, arith}
use Rattle.sem_bits.proofs.Numbers.{length-enc}
use Rattle.walk_line.proofs.unfinished.add_octet.Goals as goal

pub unreachable-requires-in-Err-Full : goal.unreachable-requires-in-Err-Full
unreachable-requires-in-Err-Full c =
    let found = rw c.in-Some.is at c.in_ok-added.ensures in
    let eight : length c.in-Some.added ≡ 8 = ap length found.1 ∙ length-enc 8 c.from.result in
    let full : 2 ^ 31 ≤ length c.args.bits.now + length c.in-Some.added = c.in-Err-Full.ensures.full.0 (ap Err c.in-Err-Full.field-0-is) in
    let short : length c.args.bits.now + 8 < 2 ^ 31 = c.requires in
    omega arith
