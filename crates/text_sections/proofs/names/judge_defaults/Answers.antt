use Rattle.text_sections.proofs.Naming.{none_unknown}
use Rattle.text_sections.proofs.names.judge_defaults.Goals as goal

pub returns-in-None : goal.returns-in-None
returns-in-None c = λ is. none_unknown c.args.text.now c.args.lists.now c.args.base.now c.new-none.result is (c.new-none.ensures c.args.text.now) (rw c.as_slice.ensures at c.all_not_found.ensures) c.in-None.is
