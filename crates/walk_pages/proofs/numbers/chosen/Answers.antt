use Rattle.std.proofs.Common.{rules, ◌∙◌, sym}
use Rattle.cert_types.specs.declared.certificate.Step.TheVariants.{Choose}
use Rattle.walk_pages.proofs.NumbersShown.{choice_digit, step_numbered}
use Rattle.walk_pages.proofs.numbers.chosen.Goals as goal

pub returns : goal.returns
returns c =
    step_numbered c.args.candidates.now c.args.format.now (Choose c.args.field) c.args.number c.in_ok-scaled.scaled _ _ c.checked_add.result c.in_ok-scaled.ensures
    (λ f shown. choice_digit c.args.candidates.now c.args.format.now c.args.field c.in_ok-shown.shown.now c.in_ok-word.word.now c.requires.format c.requires.count (search rules) (search rules) f shown ∙ sym c.value.ensures)
    c.checked_add.ensures
