use Rattle.std.proofs.Common.{◌∙◌, ap, sym}
use Rattle.std.specs.Option.{option_copied}
use Rattle.cert_candidates.specs.Numbered.{numbers_inside}
use Rattle.cert_candidates.proofs.NumbersCounted.{next_digits, whole_number}
use Rattle.cert_candidates.proofs.numbers.+numbers.Goals as goal

pub digits_of-loop-step-preserved : goal.digits_of-loop-step-preserved
digits_of-loop-step-preserved t c =
    next_digits c.args.candidates.now.counts.now c.args.format.now (numbers_inside c.args.candidates.now c.args.filling.now) c.args.steps.now c.loop-step.step-index _ c.loop-step.number c.in-Some.next _
    c.loop-step-test.true c.loop-step.invariant c.in-Some.ensures

pub number_of-returns : goal.number_of-returns
number_of-returns t c =
    whole_number c.args.candidates.now c.requires.spans c.args.method c.args.filling.now c.in_ok-format.format.now c.in_ok-plans.plans.now c.as_slice.result.now
    c.in_ok-before.before c.in_ok-digits.digits _ c.checked_add.result
    (sym c.format_of.ensures ∙ ap option_copied c.in_ok-format.was) (sym c.plans_of.ensures ∙ ap option_copied c.in_ok-plans.was) c.in_ok-before.ensures c.as_slice.ensures c.in_ok-digits.ensures c.checked_add.ensures
