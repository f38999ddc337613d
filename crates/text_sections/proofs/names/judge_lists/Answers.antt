use Rattle.text_sections.proofs.NamesWhole.{lists_judged}
use Rattle.text_sections.proofs.names.judge_lists.Goals as goal

pub returns : goal.returns
returns c =
    let fields = rw c.as_slice-2.ensures at c.in_ok-fields.ensures in
    lists_judged c.args.text.now c.args.lists.now (rw c.as_slice.ensures at c.in_ok-base.ensures) c.in_ok-encodings.ensures
    (c.in_ok-known.ensures fields) (c.judge_contexts-contexts.ensures fields) c.earlier.ensures c.earlier-2.ensures c.earlier-3.ensures
