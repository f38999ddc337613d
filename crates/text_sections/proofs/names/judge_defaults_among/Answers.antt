use Rattle.text_sections.proofs.Naming.{defaults_among, defaults_judged}
use Rattle.text_sections.proofs.names.judge_defaults_among.Goals as goal

pub returns-then-defaults-le-FEW : goal.returns-then-defaults-le-FEW
returns-then-defaults-le-FEW c = λ is. defaults_among c.args.text.now c.args.lists.now c.args.base.now is (rw (c.as_slice-defaults.ensures, c.as_slice-formats.ensures) at c.all_not_among.ensures)

pub returns : goal.returns
returns c = λ is. defaults_judged c.args.text.now c.args.lists.now c.args.base.now c.in_ok-formats.formats is (rw c.as_slice.ensures at c.in_ok-formats.ensures) (rw c.as_slice-defaults.ensures at c.all_not_found.ensures)
