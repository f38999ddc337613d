use Rattle.std.proofs.Common.{sym, subst, ◌+◌, ◌^◌, ◌<◌, ◌≤◌, length, arith}
use Rattle.std.proofs.lemmas.Nat.{one_shl}
use Rattle.sem_bits.proofs.Numbers.{num-below}
use Rattle.walk_steps.proofs.JoinedSpelling.{room}
use Rattle.walk_steps.proofs.side_lists.appended.Goals as goal

pub overflow_mul-result : goal.overflow_mul-result
overflow_mul-result c =
    let n = c.len-2.result in
    let small : c.args.count + n ≤ 64 = omega (arith, c.if-count-len-gt64.false, c.len.ensures.value, c.len-2.ensures.value) in
    let short : n < 64 = omega (arith, small, c.if-count-eq0.false) in
    let below : c.in-Some.more < 2 ^ n = subst (λ z. c.in-Some.more < 2 ^ z) (sym c.len-2.ensures.value) (subst (λ z. z < 2 ^ length c.args.bits.now) (sym c.in-Some.ensures.1) (num-below c.args.bits.now)) in
    let fits = room c.args.number c.args.count n c.in-Some.more c.requires.below below small in
    rw (one_shl n 64 short) (omega (arith, fits))

pub overflow_add-result : goal.overflow_add-result
overflow_add-result c =
    let n = c.len-2.result in
    let small : c.args.count + n ≤ 64 = omega (arith, c.if-count-len-gt64.false, c.len.ensures.value, c.len-2.ensures.value) in
    let short : n < 64 = omega (arith, small, c.if-count-eq0.false) in
    let below : c.in-Some.more < 2 ^ n = subst (λ z. c.in-Some.more < 2 ^ z) (sym c.len-2.ensures.value) (subst (λ z. z < 2 ^ length c.args.bits.now) (sym c.in-Some.ensures.1) (num-below c.args.bits.now)) in
    rw (one_shl n 64 short) (omega (arith, room c.args.number c.args.count n c.in-Some.more c.requires.below below small))
