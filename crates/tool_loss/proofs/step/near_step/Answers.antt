use Rattle.std.proofs.Common.{rules, to_z, of_z, ◌≡◌, ◌∙◌, sym, ap, subst, ◌<◌, ◌≤◌, ◌^◌, length, arith}
use mir.Syntax.{w128}
use Rattle.std.specs.Prelude.{Some, pos}
use Rattle.std.specs.Int.RustNames.{unsigned_abs}
use Rattle.sem_bits.specs.Number.{num}
use Rattle.sem_bits.proofs.Numbers.{num-below}
use Rattle.tool_loss.specs.Step.{step_between, steps}
use Rattle.tool_loss.proofs.LossNumbers.{is_pos, near_is}
use Rattle.tool_loss.proofs.step.near_step.Goals as goal

pub step_between-step-requires-clause-from : goal.step_between-step-requires-clause-from
step_between-step-requires-clause-from c =
    let same : length c.args.reference.now ≡ c.len-3.result = omega (arith, c.if-len.false, c.len.ensures.value, c.len-2.ensures.value, c.len-3.ensures.value) in
    subst (λ n. c.in_ok-from.from < 2 ^ n) same (subst (λ n. n < 2 ^ length c.args.reference.now) (sym c.in_ok-from.ensures.1) (num-below c.args.reference.now))

pub step_between-step-requires-clause-to : goal.step_between-step-requires-clause-to
step_between-step-requires-clause-to c =
    subst (λ n. c.in_ok-to.to < 2 ^ n) (sym c.len-3.ensures.value) (subst (λ n. n < 2 ^ length c.args.needed.now) (sym c.in_ok-to.ensures.1) (num-below c.args.needed.now))

pub returns : goal.returns
returns c =
    let same : length c.args.reference.now ≡ length c.args.needed.now = omega (arith, c.if-len.false, c.len.ensures.value, c.len-2.ensures.value) in
    let off = to_z w128 (of_z w128 c.args.offset) in
    let kept : off ≡ c.args.offset = (search rules) in
    let kept_bits : to_z w128 (of_z w128 c.args.bits) ≡ c.args.bits = (search rules) in
    let count : c.args.bits ≡ pos c.in-Ok.count = sym kept_bits ∙ is_pos _ _ c.in-Ok.ensures.0.0 c.in-Ok.ensures.1 in
    let made = to_z w128 (of_z w128 c.step_between-step.result) in
    let kept_step : made ≡ c.step_between-step.result = (search rules) in
    let near : unsigned_abs off ≤ 2 ^ 64 = omega (arith, c.if-unsigned_abs.false, c.unsigned_abs.ensures.value) in
    let small : unsigned_abs c.args.offset ≤ 2 ^ 64 = subst (λ x. unsigned_abs x ≤ 2 ^ 64) kept near in
    let few : c.in-Ok.count ≤ 64 = omega (arith, c.if-count-gt64.false) in
    let step : c.step_between-step.result ≡ step_between (length c.args.needed.now) (num c.args.reference.now) (num c.args.needed.now) =
    c.step_between-step.ensures ∙ (λ i. step_between (c.len-3.ensures.value i) (c.in_ok-from.ensures.1 i) (c.in_ok-to.ensures.1 i)) in
    ap Some (c.steps.ensures ∙ (λ i. steps c.in-Ok.count (kept i) ((kept_step ∙ step) i)))
    ∙ near_is c.in-Ok.count c.args.bits c.args.offset c.args.reference.now c.args.needed.now count same c.in_ok-to.ensures.0 few small
