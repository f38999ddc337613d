use Rattle.text_sections.proofs.Naming.{contexts_judged}
use Rattle.text_sections.proofs.names.judge_contexts.Goals as goal

pub returns : goal.returns
returns c = λ is.
    contexts_judged c.args.text.now c.args.lists.now c.args.base.now is (rw c.as_slice.ensures at c.all_not_kept-formats.ensures) (rw c.as_slice-2.ensures at c.all_not_kept-defaults.ensures) c.earlier.ensures
