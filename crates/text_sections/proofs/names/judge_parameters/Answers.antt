use Rattle.text_sections.proofs.Naming.{parameters_judged}
use Rattle.text_sections.proofs.names.judge_parameters.Goals as goal

pub returns : goal.returns
returns c = λ names is.
    parameters_judged c.args.text.now names c.args.parameters.now c.args.constants.now is (rw (c.as_slice.ensures, c.in_ok-parameters.ensures) at c.in_ok-repeated.ensures)
    (rw (c.as_slice-2.ensures, c.in_ok-parameters.ensures) at c.all_defined_before-shared.ensures) c.earlier.ensures
