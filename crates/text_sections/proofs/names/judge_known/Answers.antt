use Rattle.text_sections.proofs.Naming.{known_judged}
use Rattle.text_sections.proofs.names.judge_known.Goals as goal

pub returns : goal.returns
returns c = λ is.
    known_judged c.args.text.now c.args.lists.now c.args.base.now c.new-none.result is (c.new-none.ensures c.args.text.now) (rw c.as_slice.ensures at c.all_not_found-initial.ensures) (c.in_ok-defaults.ensures is) c.earlier.ensures
