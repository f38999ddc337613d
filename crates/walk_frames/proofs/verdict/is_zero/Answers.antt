use Rattle.std.proofs.Common.{◌≡◌, ◌≤◌, refl, length, arith}
use Rattle.walk_line.proofs.PacketBitwise.{zero_bits}
use Rattle.walk_frames.proofs.verdict.is_zero.Goals as goal

pub returns : goal.returns
returns c =
    let end : c.rest-i-end.result ≡ length c.args.cursor.now.left = c.rest-i-end.ensures.value in
    let past : c.rest-i-end.result ≤ c.loop-i.i = c.loop-i-test.false in
    ((λ _. zero_bits c.args.cursor.now.left (λ k l. c.loop-i.invariant k (omega arith))), (λ _. refl))
