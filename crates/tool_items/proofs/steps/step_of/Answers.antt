use Rattle.std.proofs.Common.{◌≡◌, sym, subst, ◌<◌, ◌^◌, length, arith}
use Rattle.sem_bits.proofs.Numbers.{num-below}
use Rattle.tool_items.proofs.steps.step_of.Goals as goal

pub step_between-requires-clause-from : goal.step_between-requires-clause-from
step_between-requires-clause-from c =
    let same : length c.args.earlier.now ≡ c.len-3.result = omega (arith, c.if-len.false, c.len.ensures.value, c.len-2.ensures.value, c.len-3.ensures.value) in
    subst (λ n. c.in_ok-from.from < 2 ^ n) same (subst (λ n. n < 2 ^ length c.args.earlier.now) (sym c.in_ok-from.ensures.1) (num-below c.args.earlier.now))

pub step_between-requires-clause-to : goal.step_between-requires-clause-to
step_between-requires-clause-to c =
    subst (λ n. c.in_ok-to.to < 2 ^ n) (sym c.len-3.ensures.value) (subst (λ n. n < 2 ^ length c.args.later.now) (sym c.in_ok-to.ensures.1) (num-below c.args.later.now))
