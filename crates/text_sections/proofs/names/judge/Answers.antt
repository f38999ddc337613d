use Rattle.text_sections.proofs.NamesWhole.{names_judged}
use Rattle.text_sections.proofs.names.judge.Goals as goal

pub returns : goal.returns
returns c = λ names is. names_judged c.args.text.now names c.args.method.now (c.in_ok-head.ensures names is) (rw c.as_slice.ensures at c.in_ok-fields.ensures) c.earlier.ensures
