use Rattle.std.proofs.Common.{rules, ◌∙◌, refl, sym, ap, ◌*◌, arith}
use Rattle.std.specs.Prelude.{slice_get}
use Rattle.std.proofs.lemmas.Option.{slice_get_read}
use Rattle.cert_types.specs.declared.certificate.Step.TheVariants.{Call}
use Rattle.std.specs.Option.{option_copied}
use Rattle.cert_candidates.specs.Numbered.{numbers_inside}
use Rattle.cert_candidates.proofs.NumbersCounted.{next_digits}
use Rattle.walk_pages.proofs.NumbersShown.{call_digit, call_ways, last_digit, step_numbered, whole_shown}
use Rattle.walk_pages.proofs.numbers.+numbers.Goals as goal

pub digits_of-loop-step-init : goal.digits_of-loop-step-init
digits_of-loop-step-init t c = λ f shown. omega arith

pub digits_of-loop-step-preserved : goal.digits_of-loop-step-preserved
digits_of-loop-step-preserved t c = λ f shown.
    next_digits c.args.candidates.now.counts.now c.args.format.now (numbers_inside c.args.candidates.now f) c.args.steps.now c.loop-step.step-index _ c.loop-step.number c.in-Some.next _
    c.loop-step-test.true (c.loop-step.invariant f shown) (c.in-Some.ensures f shown)

pub digits_of-returns : goal.digits_of-returns
digits_of-returns t c = λ f shown.
    last_digit c.args.candidates.now c.args.format.now f c.args.steps.now c.loop-step.step-index c.loop-step.number _ c.loop-step-test.false (c.loop-step.invariant f shown)

pub page_number-returns : goal.page_number-returns
page_number-returns t c =
    whole_shown c.args.candidates.now c.requires.spans c.args.method c.args.page.now c.in_ok-format.format.now c.in_ok-plans.plans.now c.as_slice.result.now
    c.in_ok-before.before c.in_ok-digits.digits _ c.checked_add.result
    (sym c.format_of.ensures ∙ ap option_copied c.in_ok-format.was) (sym c.plans_of.ensures ∙ ap option_copied c.in_ok-plans.was) c.in_ok-before.ensures c.as_slice.ensures c.in_ok-digits.ensures c.checked_add.ensures

pub called-returns : goal.called-returns
called-returns t c =
    let there = ap (λ xs. slice_get xs c.args.field) (sym c.as_slice-shown.ensures) ∙ slice_get_read c.as_slice-shown.result.now _ c.args.field c.index-shown-field.result refl (search rules) c.index-shown-field.is in
    let many = call_ways c.args.candidates.now.counts.now c.args.format.now c.args.field c.in_ok-inner.inner c.in_ok-ways.field-0.now c.in_ok-inner.ensures (search rules) in
    step_numbered c.args.candidates.now c.args.format.now (Call c.args.field) c.args.number c.in_ok-checked_mul.field-0 c.in_ok-digit.digit _ c.checked_add.result
    (c.in_ok-checked_mul.ensures.1 ∙ ap (λ n. c.args.number * n) (sym many))
    (call_digit c.args.candidates.now c.args.format.now c.args.field c.in_ok-inner.inner c.in_ok-digit.digit c.index-shown-field.result c.requires.format c.requires.count there c.in_ok-inner.ensures c.in_ok-digit.ensures)
    c.checked_add.ensures
